-- The best change, family by family.
use Rattle.std.proofs.Common.{◌≡◌, ℕ, zero, suc, ◌+◌, ◌-◌, ◌<◌, ◌≤◌, inl, inr, List, [], ◌∷◌, ◌++◌, Option, Some, None, MatchOption, length, set, slice_index, refl, sym, ap, subst, arith}
use Rattle.list_laws.proofs.Public.{below_or}
use Rattle.hull.specs.declared.point.Point.{Point}
use Rattle.hull.specs.Curves.{IsShape}
use Rattle.marginal_alloc.specs.declared.change.Change.{Change}
use Rattle.price_bounds.specs.Sums.{cost_of}
use Rattle.step_walk.specs.Prefix.{curve_at, vertex_at, picked}
use Rattle.marginal_alloc.specs.Filling.{HasChange, gain}
use Rattle.marginal_alloc.specs.Changes.{IsLower, IsLowest, IsBestAmong, IsBestBefore}
use Rattle.price_bounds.proofs.Public.{swapped}
use Rattle.marginal_alloc.proofs.Bounds.{Around, around}
use Rattle.marginal_alloc.proofs.Along.{lo_below}
use Rattle.marginal_alloc.proofs.Lowest.{less_or}

-- the cost after a change
pub changed_cost : (curves : List (List Point)) (picks : List ℕ) (f k : ℕ) → f < length curves → length picks ≡ length curves
    → cost_of (picked curves (set picks f k)) + (vertex_at curves f (slice_index picks f)).cost ≡ cost_of (picked curves picks) + (vertex_at curves f k).cost
changed_cost curves picks f k b n =
    let r : Around curves picks f = around curves picks f b n in
    let s = swapped (λ v. v.cost) r.front (vertex_at curves f (slice_index picks f)) (vertex_at curves f k) r.back in
    let x : cost_of (picked curves (set picks f k)) ≡ cost_of (r.front ++ vertex_at curves f k ∷ r.back) = ap cost_of (r.moved k) in
    let y : cost_of (picked curves picks) ≡ cost_of (r.front ++ vertex_at curves f (slice_index picks f) ∷ r.back) = ap cost_of r.here in
    omega (arith, s, x, y)

-- the cost of one vertex is within that of all
pub part_of_cost : (curves : List (List Point)) (picks : List ℕ) (f : ℕ) → f < length curves → length picks ≡ length curves → (vertex_at curves f (slice_index picks f)).cost ≤ cost_of (picked curves picks)
part_of_cost [] picks f b n = absurd (let l : f < 0 = b in omega arith)
part_of_cost (c ∷ cs) [] f b n = absurd (let l : 0 ≡ suc (length cs) = n in omega arith)
part_of_cost (c ∷ cs) (k ∷ ks) zero b n = omega arith
part_of_cost (c ∷ cs) (k ∷ ks) (suc f) b n = (let r = part_of_cost cs ks f (omega arith) (let l : suc (length ks) ≡ suc (length cs) = n in omega arith) in omega (arith, r))

module _ (curves : List (List Point)) (picks : List ℕ) (left f : ℕ) (fam : f < length curves) (count : length picks ≡ length curves) where
  -- a change of the family is a lower vertex that fits the money left and that of the pick
  lower_of : (k : ℕ) → HasChange curves (cost_of (picked curves picks) + left) picks f k → IsLower (curve_at curves f) (slice_index picks f) (left + (vertex_at curves f (slice_index picks f)).cost) k
  lower_of k change = record {
    vertex = change.vertex;
    fits = (let e = changed_cost curves picks f k fam count in let l = change.fits in omega (arith, e, l));
    lower = change.lower;
  }

  change_of : (k : ℕ) → IsLower (curve_at curves f) (slice_index picks f) (left + (vertex_at curves f (slice_index picks f)).cost) k → HasChange curves (cost_of (picked curves picks) + left) picks f k
  change_of k lower = record {
    family = fam;
    vertex = lower.vertex;
    fits = (let e = changed_cost curves picks f k fam count in let l = lower.fits in omega (arith, e, l));
    lower = lower.lower;
  }

  -- where no change of the family gains more, the best stays
  stays : (best : Option Change) (least : ℕ) → MatchOption best (least ≡ 0) (λ c. least ≡ c.gain) → ((k : ℕ) → HasChange curves (cost_of (picked curves picks) + left) picks f k → gain curves picks f k ≤ least)
      → IsBestBefore curves (cost_of (picked curves picks) + left) picks f best → IsBestBefore curves (cost_of (picked curves picks) + left) picks (f + 1) best
  stays None least is no_more old = λ g j l change. elim (below_or g f l) [
    | inl m ↦ old g j m change
    | inr e ↦ absurd (
        let own = subst (λ z. HasChange curves (cost_of (picked curves picks) + left) picks z j) e change in
        let low = own.lower in let small = no_more j own in omega (arith, low, small, is))
  ]
  stays (Some c) least is no_more old = record {
    change = old.change;
    place = (let l = old.place in omega (arith, l));
    gain_is = old.gain_is;
    best = λ g j l change. elim (below_or g f l) [
      | inl m ↦ old.best g j m change
      | inr e ↦ (
          let own = subst (λ z. HasChange curves (cost_of (picked curves picks) + left) picks z j) e change in
          let small = no_more j own in
          let same : gain curves picks g j ≡ gain curves picks f j = ap (λ z. gain curves picks z j) e in
          elim (less_or (gain curves picks g j) c.gain (omega (arith, small, same, is))) [
            | inl s ↦ inl s
            | inr s ↦ inr (s, inl (let p = old.place in omega (arith, p, e)))
          ])
    ];
  }

  -- no change gains more than the pick's upper end is above the last lower end
  pub bounded : IsShape (curve_at curves f) → (top end least : ℕ) → top ≡ (vertex_at curves f (slice_index picks f)).hi → end ≡ (vertex_at curves f (length (curve_at curves f) - 1)).lo → top - end ≤ least
      → (best : Option Change) → MatchOption best (least ≡ 0) (λ c. least ≡ c.gain)
      → IsBestBefore curves (cost_of (picked curves picks) + left) picks f best → IsBestBefore curves (cost_of (picked curves picks) + left) picks (f + 1) best
  bounded shape top end least is at small best known = stays best least known (λ k change.
      let b = change.vertex in
      let low = lo_below (curve_at curves f) shape k (length (curve_at curves f) - 1) (omega (arith, b)) (omega (arith, b)) in
      omega (arith, low, is, at, small))

  module _ (v : ℕ) (lowest : IsLowest (curve_at curves f) (slice_index picks f) (left + (vertex_at curves f (slice_index picks f)).cost) (length (curve_at curves f)) v) where
    -- the lowest vertex gains most of the family
    at_most : (k : ℕ) → HasChange curves (cost_of (picked curves picks) + left) picks f k → gain curves picks f k ≤ gain curves picks f v
    at_most k change = elim (lowest.least k change.vertex (lower_of k change)) [
      | inl l ↦ omega (arith, l)
      | inr e ↦ (let s = e.0 in omega (arith, s))
    ]

    -- where the lowest vertex of family f gains no more, the best change so far is that of one family more
    pub no_better : (least : ℕ) → gain curves picks f v ≤ least → (best : Option Change) → MatchOption best (least ≡ 0) (λ c. least ≡ c.gain)
        → IsBestBefore curves (cost_of (picked curves picks) + left) picks f best → IsBestBefore curves (cost_of (picked curves picks) + left) picks (f + 1) best
    no_better least small best known = stays best least known (λ k change. let m = at_most k change in omega (arith, m, small))

    -- where the lowest vertex of family f gains more than the best so far, it is the best of one family more
    pub better : (least : ℕ) → least < gain curves picks f v → (best : Option Change) → MatchOption best (least ≡ 0) (λ c. least ≡ c.gain)
        → IsBestBefore curves (cost_of (picked curves picks) + left) picks f best → IsBestAmong curves (cost_of (picked curves picks) + left) picks (f + 1) (record { family = f; vertex = v; gain = gain curves picks f v })
    better least more best known old = record {
      change = change_of v (elim lowest.own [
        | inl e ↦ absurd (let s : (vertex_at curves f v).hi ≡ (vertex_at curves f (slice_index picks f)).hi = ap (λ i. (vertex_at curves f i).hi) e in omega (arith, s, more))
        | inr o ↦ o.0
      ]);
      place = omega arith;
      gain_is = refl;
      best = λ g j l change. elim (below_or g f l) [
        | inl m ↦ inl (earlier best known old g j m change)
        | inr e ↦ (
            let own = subst (λ z. HasChange curves (cost_of (picked curves picks) + left) picks z j) e change in
            let low = own.lower in
            let same : gain curves picks g j ≡ gain curves picks f j = ap (λ z. gain curves picks z j) e in
            elim (lowest.least j own.vertex (lower_of j own)) [
              | inl s ↦ inl (omega (arith, s, same, low))
              | inr s ↦ inr ((let i = s.0 in omega (arith, i, same)), inr (sym e, s.1))
            ])
      ];
    }
      where
        earlier : (best : Option Change) → MatchOption best (least ≡ 0) (λ c. least ≡ c.gain) → IsBestBefore curves (cost_of (picked curves picks) + left) picks f best
            → (g j : ℕ) → g < f → HasChange curves (cost_of (picked curves picks) + left) picks g j → gain curves picks g j < gain curves picks f v
        earlier None known old g j m change = absurd (old g j m change)
        earlier (Some c) known old g j m change = elim (old.best g j m change) [
          | inl s ↦ omega (arith, s, known, more)
          | inr s ↦ (let i = s.0 in omega (arith, i, known, more))
        ]

-- the lowest vertex of a curve as it is read
pub lowest_is : (r c : List Point) (pick room_read room v : ℕ) → r ≡ c → room_read ≡ room → IsLowest r pick room_read (length r) v → IsLowest c pick room (length c) v
lowest_is r c pick room_read room v e a h = subst (λ x. IsLowest x pick room (length x) v) e (subst (λ x. IsLowest r pick x (length r) v) a h)
