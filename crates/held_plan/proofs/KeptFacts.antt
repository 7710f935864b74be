-- Parts that are kept of families, and those that are put to their places or taken away.
use Rattle.std.proofs.Common.{◌≡◌, ℕ, zero, suc, ◌<◌, List, [], ◌∷◌, ◌++◌, length, get_or, set, replicate, slice_index, inl, inr, Option, Some, None, IfSome, IsSome, refl, sym, ap, ◌∙◌, subst, arith, append_assoc, get_or-set_other, get_or-set_same, length-set}
use Rattle.std.proofs.lemmas.List.{append-nil, get_or_default, length-replicate}
use Rattle.list_laws.proofs.Public.{same_or_not}
use Rattle.hull.specs.declared.point.Point.{Point}
use Rattle.step_walk.specs.Prefix.{curve_at}
use Rattle.curve_parts.specs.Beyond.{IsKnownPart}
use Rattle.part_filling.specs.declared.window.Window.{Window}
use Rattle.part_filling.specs.Known.{AreKnown, IsPriceWindow, no_window, window_at}
use Rattle.held_plan.specs.Kept.{AreKeptIn, IsPartIn}

no_part : (n f : ℕ) → (let parts : List (Option (List Point × ℕ)) = replicate n None in get_or parts f None ≡ None)
no_part zero f = refl
no_part (suc n) zero = refl
no_part (suc n) (suc f) = no_part n f

-- where no part is kept, those that are kept are the families'
pub none_kept : (w : Window) (families : List (List Point)) (parts : List (Option (List Point × ℕ))) (n : ℕ) → IsPriceWindow w.low w.high → parts ≡ replicate n None → length families ≡ n
    → AreKeptIn w families parts
none_kept w families parts n prices e long = rw e (record {
  prices = prices;
  count = length-replicate n None ∙ sym long;
  each = λ f. subst (λ (o : Option (List Point × ℕ)). IfSome o (IsPartIn w (curve_at families f))) (sym (no_part n f)) tt;
})

-- the part of a family may stand at its place, and so may none
pub kept_with : (w : Window) (families : List (List Point)) (parts : List (Option (List Point × ℕ))) (f : ℕ) (part : Option (List Point × ℕ)) → f < length parts
    → IfSome part (IsPartIn w (curve_at families f)) → AreKeptIn w families parts → AreKeptIn w families (set parts f part)
kept_with w families parts f part b is h = record {
  prices = h.prices;
  count = length-set parts f part ∙ h.count;
  each = λ k. (elim (same_or_not k f) [
    | inl here ↦
        subst (λ i. IfSome (get_or (set parts f part) i None) (IsPartIn w (curve_at families i))) (sym here)
        (subst (λ (o : Option (List Point × ℕ)). IfSome o (IsPartIn w (curve_at families f))) (sym (get_or-set_same parts f part None b)) is)
    | inr away ↦
        subst (λ (o : Option (List Point × ℕ)). IfSome o (IsPartIn w (curve_at families k))) (sym (get_or-set_other parts f k part None away)) (h.each k)
  ]);
}

some_same : {X : Type 0} (o : Option X) (P Q : X → Type 0) → (IsSome o → (v : X) → P v → Q v) → IfSome o P → IfSome o Q
some_same None P Q h is = tt
some_same (Some v) P Q h is = h refl v is

-- parts of families are parts of others that have the same points where a part is kept
pub kept_elsewhere : (w : Window) (families others : List (List Point)) (parts : List (Option (List Point × ℕ))) → length others ≡ length families
    → ((f : ℕ) → IsSome (get_or parts f None) → curve_at families f ≡ curve_at others f) → AreKeptIn w families parts → AreKeptIn w others parts
kept_elsewhere w families others parts long same h = record {
  prices = h.prices;
  count = h.count ∙ sym long;
  each = λ f.
      some_same (get_or parts f None) (IsPartIn w (curve_at families f)) (IsPartIn w (curve_at others f))
      (λ on part is. subst (λ (points : List Point). IsPartIn w points part) (same f on) is) (h.each f);
}

-- a part that was not widened is one between the prices of the window
pub known_in : (w : Window) (families known : List (List Point)) (windows : List Window) (beyond : List ℕ) (f : ℕ) → f < length known → window_at windows f ≡ w
    → AreKnown families known windows beyond → IsPartIn w (curve_at families f) (curve_at known f, slice_index beyond f)
known_in w families known windows beyond f b e h =
    subst (λ (z : Window). IsKnownPart z.low z.high (curve_at families f) (curve_at known f) (slice_index beyond f)) e (record { is = h.parts f b; behind = h.behind f b })

-- ---- one curve after another, from the last on

at_middle : (left rest : List (List Point)) (curve : List Point) → curve_at (left ++ curve ∷ rest) (length left) ≡ curve
at_middle [] rest curve = refl
at_middle (x ∷ left) rest curve = at_middle left rest curve

shorter : (left rest : List (List Point)) (curve : List Point) → length left < length (left ++ curve ∷ rest)
shorter [] rest curve = omega arith
shorter (x ∷ left) rest curve = (let h = shorter left rest curve in omega (arith, h))

-- The curves behind those that are left are put to their places, which leaves all that are kept the families'.
pub record ArePutBack (w : Window) (curves : List (List Point)) (windows : List Window) (beyond : List ℕ) (before kept : List (Option (List Point × ℕ))) (left : List (List Point)) : Type 0 where
  pub places : length kept ≡ length curves
  pub rest : List (List Point)
  pub all : curves ≡ left ++ rest
  pub are : (families : List (List Point)) → AreKnown families curves windows beyond → AreKeptIn w families before → AreKeptIn w families kept

module _ (w : Window) (curves : List (List Point)) (windows : List Window) (beyond : List ℕ) (before kept : List (Option (List Point × ℕ))) (left more : List (List Point)) (curve : List Point)
    (h : ArePutBack w curves windows beyond before kept left) (popped : left ≡ more ++ curve ∷ []) where
  all_left : curves ≡ more ++ curve ∷ h.rest
  all_left = h.all ∙ ap (λ (xs : List (List Point)). xs ++ h.rest) popped ∙ append_assoc more (curve ∷ []) h.rest

  -- the last curve may be passed over
  pub put_none : ArePutBack w curves windows beyond before kept more
  put_none = record { places = h.places; rest = curve ∷ h.rest; all = all_left; are = h.are }

  -- its place is among those of all
  pub place_inside : (f : ℕ) → f ≡ length more → f < length curves
  place_inside f at =
      let last : length more < length curves = subst (λ (xs : List (List Point)). length more < length xs) (sym all_left) (shorter more h.rest curve) in
      omega (arith, at, last)

  -- and if its window is the one, its part may be put to its place
  pub put_last : (f number : ℕ) (own : Window) → f ≡ length more → length windows ≡ length curves → length beyond ≡ length curves
      → own ≡ get_or windows f own → own ≡ w → number ≡ get_or beyond f number
      → ArePutBack w curves windows beyond before (set kept f (Some (curve, number))) more
  put_last f number own at windows_count beyond_count own_is same number_is =
      let below : f < length curves = place_inside f at in
      let places = h.places in
      let here : curve_at curves f ≡ curve =
      subst (λ k. curve_at curves k ≡ curve) (sym at) (subst (λ (xs : List (List Point)). curve_at xs (length more) ≡ curve) (sym all_left) (at_middle more h.rest curve)) in
      let window : window_at windows f ≡ w = sym (own_is ∙ get_or_default windows f own no_window (omega (arith, below, windows_count))) ∙ same in
      let behind : slice_index beyond f ≡ number = sym (number_is ∙ get_or_default beyond f number 0 (omega (arith, below, beyond_count))) in
      record {
        places = length-set kept f (Some (curve, number)) ∙ h.places;
        rest = curve ∷ h.rest;
        all = all_left;
        are = λ families known was.
            kept_with w families kept f (Some (curve, number)) (omega (arith, below, places))
            (subst (λ (points : List Point). IsPartIn w (curve_at families f) (points, number)) here
            (subst (λ k. IsPartIn w (curve_at families f) (curve_at curves f, k)) behind (known_in w families curves windows beyond f below window known)))
            (h.are families known was);
      }

-- before the last curve nothing is put to its place
pub not_put : (w : Window) (curves : List (List Point)) (windows : List Window) (beyond : List ℕ) (kept : List (Option (List Point × ℕ))) → length kept ≡ length curves
    → ArePutBack w curves windows beyond kept kept curves
not_put w curves windows beyond kept places = record { places = places; rest = []; all = sym (append-nil curves); are = λ families known h. h }
