-- The scan of points in order of cost.
use Rattle.std.proofs.Common.{◌≡◌, ℕ, zero, suc, ◌+◌, ◌^◌, ◌<◌, ◌≤◌, ◌⊎◌, inl, inr, List, [], ◌∷◌, ◌++◌, length, get_or, refl, sym, ap, ◌∙◌, subst, arith, append_assoc}
use Rattle.std.specs.List.Sorted.{IsNonDecreasingBy, IsPermutation}
use Rattle.std.proofs.lemmas.List.Sorted.{All-permutation, IsPermutation-sym}
use Rattle.hull.specs.declared.point.Point.{Point}
use Rattle.hull.specs.Curves.{lagrangian, Among, IsCurve, IsLeastAt, StandFor, Steps, IsChain, InRange, IsShape, nowhere, point_at}
use Rattle.hull.proofs.Stand.{among_left, among_right, among_either, stand_for_both, stand_for}
use Rattle.hull.proofs.StepsOf.{stand_self, stand_trans, stand_same}
use Rattle.hull.proofs.Chains.{chain_is_curve}

-- the head costs no more than any other, and so on
abbrev pub CostsRise : List Point → Type 0
CostsRise [] = Unit {0}
CostsRise (x ∷ xs) = ((w : Point) → Among w xs → x.cost ≤ w.cost) × CostsRise xs

-- a scan has made a stack of some points, and the rest are to come
pub record Scanned (points stack rest : List Point) : Type 0 where
  pub chain : IsChain stack
  pub stands : StandFor points (stack ++ rest)
  pub order : (v w : Point) → Among v stack → Among w rest → v.cost ≤ w.cost
  pub rises : CostsRise rest
  pub ranges : (v : Point) → Among v (stack ++ rest) → InRange v

record Place (points : List Point) (w : Point) : Type 0 where
  at : ℕ
  below : at < length points
  is : get_or points at w ≡ w

place_of : (xs : List Point) (w : Point) → Among w xs → Place xs w
place_of [] w m = absurd m
place_of (x ∷ xs) w m = elim m [
  | inl e ↦ record { at = zero; below = omega arith; is = sym e }
  | inr n ↦ (let r : Place xs w = place_of xs w n in record { at = suc r.at; below = (let b = r.below in omega arith); is = r.is })
]

head_first : (x : Point) (xs : List Point) → IsNonDecreasingBy (λ v. v.cost) (x ∷ xs) → (w : Point) → Among w xs → x.cost ≤ w.cost
head_first x xs h w m =
    let r : Place xs w = place_of xs w m in
    subst (λ y. x.cost ≤ y.cost) r.is (h zero (suc r.at) w (omega arith) (let b = r.below in omega arith))

-- in order of cost the costs rise
pub costs_rise : (xs : List Point) → IsNonDecreasingBy (λ v. v.cost) xs → CostsRise xs
costs_rise [] h = tt
costs_rise (x ∷ xs) h = (head_first x xs h, costs_rise xs (λ i j d a b. h (suc i) (suc j) d (omega arith) (omega arith)))

-- before the scan of points by cost, nothing is on the stack and all points are to come
pub begins_rising : (points : List Point) → CostsRise points → ((v : Point) → Among v points → InRange v) → Scanned points [] points
begins_rising points s r = record {
  chain = tt;
  stands = stand_self points;
  order = λ v w m n. absurd m;
  rises = s;
  ranges = r;
}

module _ (points stack : List Point) (x : Point) (rest : List Point) (s : Scanned points stack (x ∷ rest)) where
  -- the points on the stack cost no more than the next one
  pub next_order : (v : Point) → Among v stack → v.cost ≤ x.cost
  next_order v m = s.order v x m (inl refl)

  -- the numbers of the points on the stack are within their limits
  pub next_ranges : (v : Point) → Among v stack → InRange v
  next_ranges v m = s.ranges v (among_left v stack (x ∷ rest) m)

  -- the numbers of the next point are within their limits
  pub next_range : InRange x
  next_range = s.ranges x (among_right x stack (x ∷ rest) (inl refl))

  module _ (made : List Point) (chain : IsChain made) (made_of : StandFor (stack ++ x ∷ []) made) where
    regroup : (stack ++ x ∷ []) ++ rest ≡ stack ++ (x ∷ rest)
    regroup = append_assoc stack (x ∷ []) rest

    made_in : (v : Point) → Among v made → Among v stack ⊎ (v ≡ x)
    made_in v m = elim (among_either v stack (x ∷ []) (made_of.among v m)) [ inl a ↦ inl a | inr b ↦ elim b [ inl e ↦ inr e | inr n ↦ absurd n ] ]

    whole_stands : StandFor points (made ++ rest)
    whole_stands = stand_trans points (stack ++ (x ∷ rest)) (made ++ rest) s.stands
        (subst (λ l. StandFor l (made ++ rest)) regroup (stand_for_both (stack ++ x ∷ []) rest made rest made_of (stand_self rest)))

    -- with a chain that stands for the stack and the next point, the points behind it are to come
    pub scan_goes : Scanned points made rest
    scan_goes = record {
      chain = chain;
      stands = whole_stands;
      order = λ v w m n. elim (made_in v m) [ inl a ↦ s.order v w a (inr n) | inr e ↦ subst (λ y. y.cost ≤ w.cost) (sym e) (s.rises.0 w n) ];
      rises = s.rises.1;
      ranges = λ v m. elim (among_either v made rest m) [
        | inl a ↦ elim (made_in v a) [ inl b ↦ next_ranges v b | inr e ↦ subst InRange (sym e) next_range ]
        | inr b ↦ s.ranges v (among_right v stack (x ∷ rest) (inr b))
      ];
    }

-- a chain that stands for some points is their curve
pub curve_made : (points made : List Point) → StandFor points made → IsChain made → IsCurve points made
curve_made points made s c = stand_for points made made s (chain_is_curve made c)

-- a list that isn't empty has a member
place_at_head : (xs : List Point) → 0 < length xs → (u : Point) × Among u xs
place_at_head [] h = absurd (let l : 0 < 0 = h in omega arith)
place_at_head (x ∷ xs) h = (x, inl refl)

-- what stands at a place of a list is in it
pub among_at : {X : Type 0} (xs : List X) (k : ℕ) (d : X) → k < length xs → Among (get_or xs k d) xs
among_at [] k d h = absurd (let l : k < 0 = h in omega arith)
among_at (x ∷ xs) zero d h = inl refl
among_at (x ∷ xs) (suc k) d h = inr (among_at xs k d (omega arith))

-- a permutation has the same members
pub among_permuted : (xs ys : List Point) → IsPermutation xs ys → (w : Point) → Among w ys → Among w xs
among_permuted xs ys h w m =
    let r : Place ys w = place_of ys w m in
    let all : (k : ℕ) (d : Point) → k < length ys → Among (get_or ys k d) xs = All-permutation (λ y. Among y xs) xs ys h (among_at xs) in
    subst (λ y. Among y xs) r.is (all r.at w r.below)

-- points that are made of a shape and further points
module _ (a b made : List Point) (sa : IsShape a) (ranges : (v : Point) → Among v b → InRange v) (chain : IsChain made) (stands : StandFor (a ++ b) made) where
  pub added_ranges : (v : Point) → Among v (a ++ b) → InRange v
  added_ranges v m = elim (among_either v a b m) [ inl x ↦ sa.ranges v x | inr y ↦ ranges v y ]

  -- the chain that was made is the curve of the shape's points and the further ones
  pub added_curve : IsCurve (a ++ b) made
  added_curve = curve_made (a ++ b) made stands chain

  of_either : (v : Point) → Among v made → Among v a ⊎ Among v b
  of_either v m = among_either v a b (stands.among v m)

  -- the chain that was made has the shape of a curve, where it is not empty or too long and stocks have one length
  pub added_shape : ((v w : Point) → Among v a → Among w b → length v.stocks ≡ length w.stocks) → 0 < length made → length made ≤ 2 ^ 31 → IsShape made
  added_shape widths some few = record {
    some = some;
    few = few;
    chain = chain;
    ranges = λ v m. added_ranges v (stands.among v m);
    widths = λ v w m n. same_width v w (of_either v m) (of_either w n) (place_at_head a sa.some);
  }
    where
      same_width : (v w : Point) → Among v a ⊎ Among v b → Among w a ⊎ Among w b → (u : Point) × Among u a → length v.stocks ≡ length w.stocks
      same_width v w x y u = to_head v x ∙ sym (to_head w y)
        where
          to_head : (z : Point) → Among z a ⊎ Among z b → length z.stocks ≡ length u.0.stocks
          to_head z k = elim k [ inl i ↦ sa.widths z u.0 i u.1 | inr j ↦ sym (widths u.0 z u.1 j) ]

-- a point that stands at a place of a list is in it
pub among_read : (xs : List Point) (k : ℕ) (w : Point) → k < length xs → w ≡ get_or xs k w → Among w xs
among_read xs k w h e = subst (λ y. Among y xs) (sym e) (among_at xs k w h)

pub steps_at : (xs : List Point) → IsChain xs → (k : ℕ) → k + 1 < length xs → (d e : Point) → Steps (get_or xs k d) (get_or xs (k + 1) e)
steps_at [] c k h d e = absurd (let l : k + 1 < 0 = h in omega arith)
steps_at (x ∷ []) c k h d e = absurd (let l : k + 1 < 1 = h in omega arith)
steps_at (x ∷ y ∷ xs) c zero h d e = c.0
steps_at (x ∷ y ∷ xs) c (suc k) h d e =
    let r : Steps (get_or (y ∷ xs) k d) (get_or (y ∷ xs) (k + 1) e) = steps_at (y ∷ xs) c.2 k (omega arith) d e in
    let n : suc k + 1 ≡ suc (k + 1) = omega arith in
    subst (λ m. Steps (get_or (y ∷ xs) k d) (get_or (x ∷ y ∷ xs) m e)) (sym n) r

-- within a list the value for what is not there doesn't matter
pub same_default : (xs : List Point) (k : ℕ) (d e : Point) → k < length xs → get_or xs k d ≡ get_or xs k e
same_default [] k d e h = absurd (let l : k < 0 = h in omega arith)
same_default (x ∷ xs) zero d e h = refl
same_default (x ∷ xs) (suc k) d e h = same_default xs k d e (omega arith)

-- what is least of the points at all places is least among all members
pub least_at_places : (p q : ℕ) (points : List Point) (v : Point) → ((k : ℕ) → k < length points → lagrangian p q v ≤ lagrangian p q (point_at points k)) → IsLeastAt p q points v
least_at_places p q points v least w m =
    let r : Place points w = place_of points w m in
    let is : point_at points r.at ≡ w = same_default points r.at nowhere w r.below ∙ r.is in
    subst (λ y. lagrangian p q v ≤ lagrangian p q y) is (least r.at r.below)

-- what two reads say of a step
pub record StepRead (points : List Point) (k : ℕ) (start end : Point) : Type 0 where
  pub steps : Steps start end
  pub starts : point_at points k ≡ start
  pub ends : point_at points (k + 1) ≡ end

-- what stands at two places of a chain next to each other is a step of it
pub step_read : (vs now : List Point) (k : ℕ) (s e : Point) → IsChain vs → vs ≡ now → k + 1 < length now → s ≡ get_or vs k s → e ≡ get_or vs (k + 1) e → StepRead now k s e
step_read vs now k s e chain view below s_is e_is =
    let inside : k + 1 < length vs = subst (λ l. k + 1 < length l) (sym view) below in
    record {
      steps = subst (λ y. Steps y e) (sym s_is) (subst (λ y. Steps (get_or vs k s) y) (sym e_is) (steps_at vs chain k inside s e));
      starts = ap (λ l. get_or l k nowhere) (sym view) ∙ same_default vs k nowhere s (omega arith) ∙ sym s_is;
      ends = ap (λ l. get_or l (k + 1) nowhere) (sym view) ∙ same_default vs (k + 1) nowhere e inside ∙ sym e_is;
    }

-- points in another order stand for the same
pub permuted_stands : (points other made : List Point) → IsPermutation points other → StandFor other made → StandFor points made
permuted_stands points other made perm s =
    stand_trans points other made (stand_same points other (λ v m. among_permuted other points (IsPermutation-sym points other perm) v m) (λ v m. among_permuted points other perm v m)) s
