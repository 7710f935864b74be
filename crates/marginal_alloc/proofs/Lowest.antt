-- The lowest vertex of a curve that fits.
use Rattle.std.proofs.Common.{◌≡◌, ℕ, ◌+◌, ◌<◌, ◌≤◌, ◌⊎◌, inl, inr, List, length, ap, arith}
use Rattle.std.proofs.lemmas.Bool.{cases_lt}
use Rattle.hull.specs.declared.point.Point.{Point}
use Rattle.hull.specs.Curves.{IsShape, point_at}
use Rattle.marginal_alloc.specs.Changes.{hi_at, IsLowest}
use Rattle.marginal_alloc.proofs.Along.{costs_up, lo_below}

-- what is at most a number is less than it or is it
pub less_or : (a b : ℕ) → a ≤ b → (a < b) ⊎ (a ≡ b)
less_or a b l = grind arith

module _ (curve : List Point) (shape : IsShape curve) (pick : ℕ) (here : Point) (is : here ≡ point_at curve pick) (within : pick < length curve) where
  -- where the lower end at a place isn't below, no upper end up to it is
  pub none_below : (k : ℕ) (there : Point) → there ≡ point_at curve k → k < length curve → here.hi ≤ there.lo → (j : ℕ) → j < k + 1 → hi_at curve pick ≤ hi_at curve j
  none_below k there at b high j l =
      let low = lo_below curve shape j k (omega (arith, l)) b in
      let x : here.hi ≡ hi_at curve pick = ap (λ v. v.hi) is in
      let y : there.lo ≡ (point_at curve k).lo = ap (λ v. v.lo) at in
      omega (arith, low, x, y, high)

module _ (curve : List Point) (pick room n v : ℕ) where
  -- from the next one on all are too dear
  pub ends : IsShape curve → (there : Point) → there ≡ point_at curve n → n < length curve → room < there.cost → IsLowest curve pick room n v → IsLowest curve pick room (length curve) v
  ends shape there at b dear old = record {
    vertex = old.vertex;
    own = elim old.own [ inl e ↦ inl e | inr o ↦ inr (o.0, (let l = o.1 in omega (arith, l, b))) ];
    least = λ k l low. elim (cases_lt k n) [
      | inl m ↦ old.least k m low
      | inr m ↦ absurd (
          let up = costs_up curve shape.chain n k m l in
          let z : there.cost ≡ (point_at curve n).cost = ap (λ u. u.cost) at in
          let fits = low.fits in
          omega (arith, up, z, fits, dear))
    ];
  }
