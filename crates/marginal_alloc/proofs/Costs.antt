-- What the picks cost together, from a family on.
use Rattle.std.proofs.Common.{◌≡◌, ℕ, zero, suc, ◌+◌, ◌-◌, ◌<◌, ◌≤◌, List, [], ◌∷◌, length, set, slice_index, refl, ap, ◌∙◌, arith}
use Rattle.hull.specs.declared.point.Point.{Point}
use Rattle.price_bounds.specs.Sums.{cost_of}
use Rattle.step_walk.specs.Prefix.{vertex_at, picked}
use Rattle.marginal_alloc.specs.Filling.{IsBestChange}
use Rattle.marginal_alloc.proofs.Best.{changed_cost, part_of_cost}

-- what the picks of the families from the f-th on cost together
abbrev pub cost_from : ℕ → List (List Point) → List ℕ → ℕ
cost_from zero curves picks = cost_of (picked curves picks)
cost_from (suc f) [] picks = 0
cost_from (suc f) (c ∷ curves) [] = 0
cost_from (suc f) (c ∷ curves) (k ∷ picks) = cost_from f curves picks

by_suc : (f : ℕ) (curves : List (List Point)) (picks : List ℕ) → f < length curves → length picks ≡ length curves → cost_from f curves picks ≡ (vertex_at curves f (slice_index picks f)).cost + cost_from (suc f) curves picks
by_suc f [] picks b n = absurd (let l : f < 0 = b in omega arith)
by_suc f (c ∷ curves) [] b n = absurd (let l : 0 ≡ suc (length curves) = n in omega arith)
by_suc zero (c ∷ curves) (k ∷ picks) b n = refl
by_suc (suc f) (c ∷ curves) (k ∷ picks) b n = by_suc f curves picks (omega arith) (let l : suc (length picks) ≡ suc (length curves) = n in omega arith)

-- what the picks from the f-th on cost is what the f-th costs, and what those after it do
pub from_next : (curves : List (List Point)) (picks : List ℕ) (f : ℕ) → f < length curves → length picks ≡ length curves → cost_from f curves picks ≡ (vertex_at curves f (slice_index picks f)).cost + cost_from (f + 1) curves picks
from_next curves picks f b n = by_suc f curves picks b n ∙ ap (λ i. (vertex_at curves f (slice_index picks f)).cost + cost_from i curves picks) (let e : suc f ≡ f + 1 = omega arith in e)

at_length : (curves : List (List Point)) (picks : List ℕ) → cost_from (length curves) curves picks ≡ 0
at_length [] picks = refl
at_length (c ∷ curves) [] = refl
at_length (c ∷ curves) (k ∷ picks) = at_length curves picks

-- past the last family the picks cost nothing
pub from_end : (curves : List (List Point)) (picks : List ℕ) (f : ℕ) → f ≡ length curves → cost_from f curves picks ≡ 0
from_end curves picks f e = ap (λ i. cost_from i curves picks) e ∙ at_length curves picks

-- the money left before and after a change
pub left_on : (curves : List (List Point)) (picks : List ℕ) (left f k : ℕ) (here there : Point) → IsBestChange curves (cost_of (picked curves picks) + left) picks f k → length picks ≡ length curves
    → here ≡ vertex_at curves f (slice_index picks f) → there ≡ vertex_at curves f k
    → (there.cost ≤ left + here.cost) × (cost_of (picked curves (set picks f k)) + (left + here.cost - there.cost) ≡ cost_of (picked curves picks) + left) × (here.cost ≤ cost_of (picked curves picks))
left_on curves picks left f k here there b n a t =
    let fam = b.change.family in
    let fits = b.change.fits in
    let x = ap (λ v. v.cost) a in
    let y = ap (λ v. v.cost) t in
    let c = changed_cost curves picks f k fam n in
    let p = part_of_cost curves picks f fam n in
    (omega (arith, x, y, c, fits), omega (arith, x, y, c, fits), omega (arith, x, p))
