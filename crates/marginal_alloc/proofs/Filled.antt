-- What a filling keeps.
use Rattle.std.proofs.Common.{◌≡◌, ℕ, zero, suc, ◌<◌, ◌≤◌, inl, inr, List, [], ◌∷◌, length, set, slice_index, ap, ◌∙◌, arith, get_or-set_other, get_or-set_same, length-set}
use Rattle.std.proofs.lemmas.Bool.{cases_eq}
use Rattle.hull.specs.declared.point.Point.{Point}
use Rattle.price_bounds.specs.Sums.{cost_of, hi_of}
use Rattle.step_walk.specs.Prefix.{curve_at, vertex_at, AreVertices, picked}
use Rattle.marginal_alloc.specs.Filling.{IsFull, Fills, full, change}

-- each pick is still a vertex
pub changed_vertices : (curves : List (List Point)) (picks : List ℕ) (f k : ℕ) → f < length curves → k < length (curve_at curves f) → AreVertices curves picks → AreVertices curves (set picks f k)
changed_vertices curves picks f k fam v is = record {
  count = length-set picks f k ∙ is.count;
  below = λ g l. elim (cases_eq g f) [
    | inl e ↦ (
        let n = is.count in
        let at : slice_index (set picks f k) g ≡ k = ap (λ x. slice_index (set picks f k) x) e ∙ get_or-set_same picks f k 0 (omega (arith, fam, n)) in
        let same : length (curve_at curves g) ≡ length (curve_at curves f) = ap (λ z. length (curve_at curves z)) e in
        omega (arith, at, same, v))
    | inr d ↦ (
        let at : slice_index (set picks f k) g ≡ slice_index picks g = get_or-set_other picks f g k 0 d in
        let w = is.below g l in
        omega (arith, at, w))
  ];
}

-- a filling of one vertex of each curve ends at one vertex of each
pub fills_vertices : {curves : List (List Point)} {budget : ℕ} {picks end : List ℕ} → Fills curves budget picks end → AreVertices curves picks → AreVertices curves end
fills_vertices (full h) is = is
fills_vertices {curves = curves} {picks = picks} (change f k b more) is = fills_vertices more (changed_vertices curves picks f k b.change.family b.change.vertex is)

-- it ends where there is no change
pub fills_full : {curves : List (List Point)} {budget : ℕ} {picks end : List ℕ} → Fills curves budget picks end → IsFull curves budget end
fills_full (full h) = h
fills_full (change f k b more) = fills_full more

-- the cost stays within the budget
pub fills_cost : {curves : List (List Point)} {budget : ℕ} {picks end : List ℕ} → Fills curves budget picks end → cost_of (picked curves picks) ≤ budget → cost_of (picked curves end) ≤ budget
fills_cost (full h) c = c
fills_cost (change f k b more) c = fills_cost more b.change.fits

-- no family's upper end rises
pub fills_hi : {curves : List (List Point)} {budget : ℕ} {picks end : List ℕ} → Fills curves budget picks end → length picks ≡ length curves → (g : ℕ) → (vertex_at curves g (slice_index end g)).hi ≤ (vertex_at curves g (slice_index picks g)).hi
fills_hi (full h) n g = omega arith
fills_hi {curves = curves} {picks = picks} {end = end} (change f k b more) n g =
    let r : (vertex_at curves g (slice_index end g)).hi ≤ (vertex_at curves g (slice_index (set picks f k) g)).hi = fills_hi more (length-set picks f k ∙ n) g in
    elim (cases_eq g f) [
      | inl e ↦ (
          let at : slice_index (set picks f k) g ≡ k = ap (λ x. slice_index (set picks f k) x) e ∙ get_or-set_same picks f k 0 (let l = b.change.family in omega (arith, l, n)) in
          let x : (vertex_at curves g (slice_index (set picks f k) g)).hi ≡ (vertex_at curves f k).hi = ap (λ z. (vertex_at curves g z).hi) at ∙ ap (λ z. (vertex_at curves z k).hi) e in
          let y : (vertex_at curves g (slice_index picks g)).hi ≡ (vertex_at curves f (slice_index picks f)).hi = ap (λ z. (vertex_at curves z (slice_index picks z)).hi) e in
          let l = b.change.lower in
          omega (arith, r, x, y, l))
      | inr d ↦ (
          let x : (vertex_at curves g (slice_index (set picks f k) g)).hi ≡ (vertex_at curves g (slice_index picks g)).hi = ap (λ z. (vertex_at curves g z).hi) (get_or-set_other picks f g k 0 d) in
          omega (arith, r, x))
    ]

-- the measure of the loop: the upper ends together
pub hi_falls : (curves : List (List Point)) (picks : List ℕ) (f k : ℕ) → f < length curves → length picks ≡ length curves → (vertex_at curves f k).hi < (vertex_at curves f (slice_index picks f)).hi → hi_of (picked curves (set picks f k)) < hi_of (picked curves picks)
hi_falls [] picks f k b n h = absurd (let l : f < 0 = b in omega arith)
hi_falls (c ∷ cs) [] f k b n h = absurd (let l : 0 ≡ suc (length cs) = n in omega arith)
hi_falls (c ∷ cs) (j ∷ picks) zero k b n h = omega (arith, h)
hi_falls (c ∷ cs) (j ∷ picks) (suc f) k b n h = (let r = hi_falls cs picks f k (omega arith) (let l : suc (length picks) ≡ suc (length cs) = n in omega arith) h in omega (arith, r))
