-- A wider part of a family comes in the place of its part.
use Rattle.std.proofs.Common.{◌≡◌, ℕ, zero, suc, ◌<◌, inl, inr, List, [], ◌∷◌, length, set, slice_index, sym, ap, ◌∙◌, subst, arith, get_or-set_other, get_or-set_same, length-set}
use Rattle.std.proofs.lemmas.Bool.{cases_eq}
use Rattle.hull.specs.declared.point.Point.{Point}
use Rattle.hull.specs.declared.price.Price.{Price}
use Rattle.hull.specs.Curves.{Among, nowhere, point_at}
use Rattle.hull.specs.Laws.{StocksTell}
use Rattle.hull.proofs.Public.{among_at}
use Rattle.step_walk.specs.Prefix.{AreVertices, curve_at, picked, vertex_at}
use Rattle.curve_parts.specs.Parts.{IsPartOf}
use Rattle.curve_parts.specs.Cuts.{IsWindow, IsWithin}
use Rattle.curve_parts.specs.Beyond.{LieBeyond}
use Rattle.curve_parts.proofs.Public.{between_within, has_curve, part_convex, part_has_those}
use Rattle.choice_parts.specs.Parts.{AreFamilies}
use Rattle.part_filling.specs.declared.window.Window.{Window}
use Rattle.part_filling.specs.Known.{AreKnown, HasCost, IsPriceWindow, no_window, window_at}
use Rattle.part_filling.proofs.Beside.{one_place}

-- a member of a list has a place in it
record HasPlace (xs : List Point) (v : Point) : Type 0 where
  place : ℕ
  below : place < length xs
  is : point_at xs place ≡ v

member_at : (xs : List Point) (v : Point) → Among v xs → HasPlace xs v
member_at [] v m = absurd m
member_at (x ∷ xs) v m = elim m [
  | inl e ↦ record { place = 0; below = omega arith; is = sym e }
  | inr n ↦ (let r : HasPlace xs v = member_at xs v n in record { place = suc r.place; below = (let b = r.below in omega (arith, b)); is = r.is })
]

-- a wider part has the vertices of a part
in_wider : (low high least most : Price) (points known part : List Point) → StocksTell points → IsWindow low high → IsWithin low high least most → IsPartOf low high points known → IsPartOf least most points part
    → (v : Point) → Among v known → Among v part
in_wider low high least most points known part tell window within is wide v m =
    let c = has_curve points in
    let h = (part_has_those low high points c.0 known tell c.1 is v).0 m in
    (part_has_those least most points c.0 part tell c.1 wide v).1 (h.0, between_within low high least most points v window within h.1)

-- the same pick after what is known of its family has changed
pub picked_set : (known : List (List Point)) (picks : List ℕ) (f : ℕ) (curve : List Point) (place : ℕ) → f < length known → length picks ≡ length known
    → point_at curve place ≡ vertex_at known f (slice_index picks f) → picked (set known f curve) (set picks f place) ≡ picked known picks
picked_set [] picks f curve place b n e = absurd (omega (arith, b))
picked_set (c ∷ cs) [] f curve place b n e = absurd (omega (arith, n))
picked_set (c ∷ cs) (k ∷ ks) zero curve place b n e = (let here : point_at curve place ≡ point_at c k = e in ap (λ (v : Point). v ∷ picked cs ks) here)
picked_set (c ∷ cs) (k ∷ ks) (suc f) curve place b n e = ap (λ (vs : List Point). point_at c k ∷ vs) (picked_set cs ks f curve place (omega (arith, b)) (omega (arith, n)) e)

module _ (families known : List (List Point)) (windows : List Window) (beyond picks : List ℕ) (are : AreFamilies families) (is : AreKnown families known windows beyond) (vertices : AreVertices known picks)
    (f : ℕ) (fam : f < length known) (window : Window) (prices : IsPriceWindow window.low window.high) (within : IsWithin (window_at windows f).low (window_at windows f).high window.low window.high)
    (part : List Point) (made : IsPartOf window.low window.high (curve_at families f) part)
    (number : ℕ) (behind : LieBeyond window.low (curve_at families f) part number) where
  there : Among (vertex_at known f (slice_index picks f)) part
  there =
      let old = window_at windows f in
      in_wider old.low old.high window.low window.high (curve_at families f) (curve_at known f) part (are.tell f (let n = is.count in omega (arith, n, fam))) (is.prices f fam).window within (is.parts f fam) made
      (vertex_at known f (slice_index picks f)) (among_at (curve_at known f) (slice_index picks f) nowhere (vertices.below f fam))

  -- the wider part has a vertex that costs as much as the pick
  pub has_cost : HasCost part (vertex_at known f (slice_index picks f)).cost
  has_cost = (let p = member_at part (vertex_at known f (slice_index picks f)) there in record { place = p.place; below = p.below; is = ap (λ (v : Point). v.cost) p.is })

  -- and it is the pick
  pub pick_found : (place : ℕ) → place < length part → (point_at part place).cost ≡ (vertex_at known f (slice_index picks f)).cost → point_at part place ≡ vertex_at known f (slice_index picks f)
  pick_found place b e =
      let p = member_at part (vertex_at known f (slice_index picks f)) there in
      ap (point_at part) (one_place part (part_convex window.low window.high (curve_at families f) part made) place p.place b p.below (e ∙ sym (ap (λ (v : Point). v.cost) p.is))) ∙ p.is

  -- all is known as before, and the wider part of this family
  pub known_set : AreKnown families (set known f part) (set windows f window) (set beyond f number)
  known_set = record {
    count = is.count ∙ sym (length-set known f part);
    windows_count = length-set windows f window ∙ is.windows_count ∙ sym (length-set known f part);
    beyond_count = length-set beyond f number ∙ is.beyond_count ∙ sym (length-set known f part);
    prices = λ g b. elim (cases_eq g f) [
      | inl e ↦ subst (λ (w : Window). IsPriceWindow w.low w.high) (sym (ap (window_at (set windows f window)) e ∙ own)) prices
      | inr d ↦ subst (λ (w : Window). IsPriceWindow w.low w.high) (sym (get_or-set_other windows f g window no_window d)) (is.prices g (subst (λ n. g < n) (length-set known f part) b))
    ];
    parts = λ g b. elim (cases_eq g f) [
      | inl e ↦ subst (λ z. IsPartOf (window_at (set windows f window) z).low (window_at (set windows f window) z).high (curve_at families z) (curve_at (set known f part) z)) (sym e)
          (subst (λ (w : Window). IsPartOf w.low w.high (curve_at families f) (curve_at (set known f part) f)) (sym own)
          (subst (IsPartOf window.low window.high (curve_at families f)) (sym (get_or-set_same known f part [] fam)) made))
      | inr d ↦ subst (λ (w : Window). IsPartOf w.low w.high (curve_at families g) (curve_at (set known f part) g)) (sym (get_or-set_other windows f g window no_window d))
          (subst (IsPartOf (window_at windows g).low (window_at windows g).high (curve_at families g)) (sym (get_or-set_other known f g part [] d))
          (is.parts g (subst (λ n. g < n) (length-set known f part) b)))
    ];
    behind = λ g b. elim (cases_eq g f) [
      | inl e ↦ subst (λ z. LieBeyond (window_at (set windows f window) z).low (curve_at families z) (curve_at (set known f part) z) (slice_index (set beyond f number) z)) (sym e)
          (subst (λ (w : Window). LieBeyond w.low (curve_at families f) (curve_at (set known f part) f) (slice_index (set beyond f number) f)) (sym own)
          (subst (λ (p : List Point). LieBeyond window.low (curve_at families f) p (slice_index (set beyond f number) f)) (sym (get_or-set_same known f part [] fam))
          (subst (LieBeyond window.low (curve_at families f) part) (sym (get_or-set_same beyond f number 0 (let m = is.beyond_count in omega (arith, m, fam)))) behind)))
      | inr d ↦ subst (λ (w : Window). LieBeyond w.low (curve_at families g) (curve_at (set known f part) g) (slice_index (set beyond f number) g)) (sym (get_or-set_other windows f g window no_window d))
          (subst (λ (p : List Point). LieBeyond (window_at windows g).low (curve_at families g) p (slice_index (set beyond f number) g)) (sym (get_or-set_other known f g part [] d))
          (subst (LieBeyond (window_at windows g).low (curve_at families g) (curve_at known g)) (sym (get_or-set_other beyond f g number 0 d))
          (is.behind g (subst (λ n. g < n) (length-set known f part) b))))
    ];
  }
    where
      own : window_at (set windows f window) f ≡ window
      own = get_or-set_same windows f window no_window (let m = is.windows_count in omega (arith, m, fam))
