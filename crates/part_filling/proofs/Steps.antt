-- A best change of what is known is one of the whole curves.
use Rattle.std.proofs.Common.{◌≡◌, ℕ, ◌+◌, ◌-◌, ◌<◌, ◌≤◌, ◌⊎◌, inl, inr, List, length, slice_index, sym, ap, ap₂, ◌∙◌, arith}
use Rattle.std.proofs.lemmas.Bool.{cases_lt}
use Rattle.hull.specs.declared.point.Point.{Point}
use Rattle.price_bounds.specs.Sums.{cost_of}
use Rattle.step_walk.specs.Prefix.{AreVertices, curve_at, picked, vertex_at}
use Rattle.marginal_alloc.specs.Filling.{HasChange, IsBestChange, IsFull, gain}
use Rattle.marginal_alloc.proofs.Public.{changed_cost}
use Rattle.part_filling.specs.Known.{ArePlaces}
use Rattle.part_filling.proofs.Beside.{HasNothingBeside}
use Rattle.part_filling.proofs.Picked.{same_at}

-- the place in the curve of the known vertex k of family f
abbrev pub place_of : List ℕ → List ℕ → ℕ → ℕ → ℕ
place_of places picks f k = (slice_index places f - slice_index picks f) + k

module _ (curves known : List (List Point)) (places picks : List ℕ) (left most : ℕ) (are : ArePlaces curves places known picks) (vertices : AreVertices known picks) (count : length known ≡ length curves)
    (settled : (f : ℕ) → f < length curves → HasNothingBeside (curve_at curves f) (curve_at known f) (vertex_at known f (slice_index picks f))
    ((vertex_at known f (slice_index picks f)).cost + left) most (slice_index places f - slice_index picks f)) where
  abbrev money : ℕ
  money = cost_of (picked known picks) + left

  cost_same : cost_of (picked curves places) ≡ cost_of (picked known picks)
  cost_same = ap cost_of are.same

  pick_same : (f : ℕ) → f < length curves → vertex_at curves f (slice_index places f) ≡ vertex_at known f (slice_index picks f)
  pick_same f b = same_at curves known places picks are.vertices.count vertices.count count are.same f b

  -- a known vertex is one of the curve
  pub vertex_same : (f k : ℕ) → f < length curves → k < length (curve_at known f) → vertex_at known f k ≡ vertex_at curves f (place_of places picks f k)
  vertex_same f k b h = (settled f b).same k h

  gain_same : (f k : ℕ) → f < length curves → k < length (curve_at known f) → gain curves places f (place_of places picks f k) ≡ gain known picks f k
  gain_same f k b h = ap₂ (λ (v w : Point). v.hi - w.hi) (pick_same f b) (sym (vertex_same f k b h))

  change_up : (f k : ℕ) → HasChange known money picks f k → HasChange curves money places f (place_of places picks f k)
  change_up f k h =
      let b : f < length curves = (let l = h.family in omega (arith, l, count)) in
      let v = h.vertex in
      let w = (settled f b).within in
      let same = vertex_same f k b v in
      let pick = pick_same f b in
      let here = ap (λ (v : Point). v.cost) same in
      let old = ap (λ (v : Point). v.cost) pick in
      let x = changed_cost curves places f (place_of places picks f k) b are.vertices.count in
      let y = changed_cost known picks f k h.family vertices.count in
      let fits = h.fits in
      let lower = h.lower in
      let hi = ap (λ (v : Point). v.hi) same in
      let top = ap (λ (v : Point). v.hi) pick in
      record {
        family = b;
        vertex = omega (arith, v, w);
        fits = omega (arith, x, y, fits, here, old, cost_same);
        lower = omega (arith, lower, hi, top);
      }

  -- a change of the curves is one of what is known, or its gain is below the most
  change_down : (g j : ℕ) → HasChange curves money places g j → ((k : ℕ) × (j ≡ place_of places picks g k) × HasChange known money picks g k) ⊎ (gain curves places g j < most)
  change_down g j h =
      let s = settled g h.family in
      let from = slice_index places g - slice_index picks g in
      let x = changed_cost curves places g j h.family are.vertices.count in
      let fits = h.fits in
      let lower = h.lower in
      let pick = pick_same g h.family in
      let old = ap (λ (v : Point). v.cost) pick in
      let top = ap (λ (v : Point). v.hi) pick in
      let beside : (j < slice_index places g - slice_index picks g) ⊎ ((slice_index places g - slice_index picks g) + length (curve_at known g) ≤ j) → gain curves places g j < most =
      (λ where_is. (let r = s.beside j h.vertex where_is (omega (arith, x, fits, old, cost_same)) (omega (arith, lower, top)) in omega (arith, r, top))) in
      elim (cases_lt j (slice_index places g - slice_index picks g)) [
        | inl early ↦ inr (beside (inl early))
        | inr a ↦ elim (cases_lt j ((slice_index places g - slice_index picks g) + length (curve_at known g))) [
          | inr late ↦ inr (beside (inr late))
          | inl inside ↦ (
              let k = j - (slice_index places g - slice_index picks g) in
              let e : j ≡ place_of places picks g (j - (slice_index places g - slice_index picks g)) = omega (arith, a) in
              let b : j - (slice_index places g - slice_index picks g) < length (curve_at known g) = omega (arith, a, inside) in
              let fam : g < length known = (let l = h.family in omega (arith, l, count)) in
              let same : vertex_at known g (j - (slice_index places g - slice_index picks g)) ≡ vertex_at curves g j =
              vertex_same g (j - (slice_index places g - slice_index picks g)) h.family b ∙ ap (vertex_at curves g) (sym e) in
              let here = ap (λ (v : Point). v.cost) same in
              let hi = ap (λ (v : Point). v.hi) same in
              let y = changed_cost known picks g (j - (slice_index places g - slice_index picks g)) fam vertices.count in
              inl (
                j - (slice_index places g - slice_index picks g),
                e,
                record {
                  family = fam;
                  vertex = b;
                  fits = omega (arith, x, y, fits, here, old, cost_same);
                  lower = omega (arith, lower, hi, top);
                },
              ))
        ]
      ]

  -- the best change of what is known is that of the curves, where none beside is as good
  pub best_of_known : (f k : ℕ) → IsBestChange known money picks f k → most ≡ gain known picks f k → IsBestChange curves money places f (place_of places picks f k)
  best_of_known f k is e =
      let b : f < length curves = (let l = is.change.family in omega (arith, l, count)) in
      let own = gain_same f k b is.change.vertex in
      record {
        change = change_up f k is.change;
        best = λ g j h. elim (change_down g j h) [
          | inr less ↦ inl (omega (arith, less, own, e))
          | inl t ↦ (
              let other : gain curves places g j ≡ gain known picks g t.0 = ap (gain curves places g) t.1 ∙ gain_same g t.0 h.family t.2.vertex in
              elim (is.best g t.0 t.2) [
                | inl l ↦ inl (omega (arith, l, own, other))
                | inr s ↦ inr (
                  (let i = s.0 in omega (arith, i, own, other)),
                  elim s.1 [
                    | inl l ↦ inl l
                    | inr o ↦ inr (
                      o.0,
                      (
                          let at : slice_index places f - slice_index picks f ≡ slice_index places g - slice_index picks g = ap (λ x. slice_index places x - slice_index picks x) o.0 in
                          let l = o.1 in let p = t.1 in omega (arith, at, l, p)),
                    )
                  ],
                )
              ])
        ];
      }

  -- where what is known has no change, and none beside gains 1, the curves have none
  pub full_of_known : IsFull known money picks → most ≡ 1 → IsFull curves money places
  full_of_known none e f k h = elim (change_down f k h) [
    | inl t ↦ none f t.0 t.2
    | inr less ↦ (let lower = h.lower in omega (arith, less, lower, e))
  ]
