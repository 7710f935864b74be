-- The best change of what is known, where nothing beside is as good.
use Rattle.std.proofs.Common.{◌≡◌, ℕ, ◌+◌, ◌-◌, ◌^◌, ◌<◌, ◌≤◌, List, Option, Some, None, MatchOption, length, slice_index, sym, ap, ◌∙◌, subst, arith}
use Rattle.hull.specs.declared.point.Point.{Point}
use Rattle.hull.specs.Curves.{Among, InRange, nowhere}
use Rattle.hull.proofs.Public.{among_at, convex}
use Rattle.price_bounds.specs.Sums.{cost_of}
use Rattle.step_walk.specs.Prefix.{AreVertices, curve_at, picked, vertex_at}
use Rattle.marginal_alloc.specs.declared.change.Change.{Change}
use Rattle.marginal_alloc.specs.Choice.{AreCurves}
use Rattle.marginal_alloc.specs.Filling.{IsBestChange, IsFull, gain}
use Rattle.choice_parts.specs.Parts.{AreFamilies}
use Rattle.part_filling.specs.declared.window.Window.{Window}
use Rattle.part_filling.specs.Known.{AreKnown, ArePlaces, IsFound, IsSettled, window_at}
use Rattle.part_filling.proofs.Beside.{HasNothingBeside, one_place, part_settled}
use Rattle.part_filling.proofs.Picked.{same_at}
use Rattle.part_filling.proofs.Steps.{best_of_known, full_of_known, place_of, vertex_same}

-- the best change of what is known with its gain, or none
abbrev pub IsBestKnown : List (List Point) → ℕ → List ℕ → Option Change → Type 0
IsBestKnown known money picks None = IsFull known money picks
IsBestKnown known money picks (Some c) = IsBestChange known money picks c.family c.vertex × (c.gain ≡ gain known picks c.family c.vertex)

module _ (families known : List (List Point)) (windows : List Window) (beyond : List ℕ) (are : AreFamilies families) (is : AreKnown families known windows beyond) where
  -- known vertices are in range
  pub known_range : (f k : ℕ) → f < length known → k < length (curve_at known f) → InRange (vertex_at known f k)
  known_range f k b h =
      let m : Among (vertex_at known f k) (curve_at known f) = among_at (curve_at known f) k nowhere h in
      are.ranges f (vertex_at known f k) ((is.parts f b).among (vertex_at known f k) m)

  -- so a gain is
  pub most_small : (picks : List ℕ) (money : ℕ) (change : Option Change) (most : ℕ) → AreVertices known picks → IsBestKnown known money picks change → MatchOption change (most ≡ 1) (λ c. most ≡ c.gain) → most ≤ 2 ^ 74
  most_small picks money None most vertices best e = omega (arith, e)
  most_small picks money (Some c) most vertices best e =
      let fam = best.0.change.family in
      let h = (known_range c.family (slice_index picks c.family) fam (vertices.below c.family fam)).hi in
      let g = best.1 in
      omega (arith, e, g, h)

  module _ (picks : List ℕ) (left most : ℕ) (vertices : AreVertices known picks)
      (none : (f : ℕ) → f < length known → IsSettled windows beyond known picks left most f)
      (curves : List (List Point)) (places : List ℕ) (areas : AreCurves families curves) (at : ArePlaces curves places known picks) where
    count : length known ≡ length curves
    count = sym is.count ∙ areas.count

    placed : (f : ℕ) (b : f < length curves) (from : ℕ) → HasNothingBeside (curve_at curves f) (curve_at known f) (vertex_at known f (slice_index picks f)) ((vertex_at known f (slice_index picks f)).cost + left) most from
        → from ≡ slice_index places f - slice_index picks f
    placed f b from s =
        let fam : f < length known = omega (arith, b, count) in
        let here = vertices.below f fam in
        let within = s.within in
        let there = at.vertices.below f b in
        let one = same_at curves known places picks at.vertices.count vertices.count count at.same f b in
        let two = s.same (slice_index picks f) here in
        let e = one_place (curve_at curves f) (convex (curve_at families f) (curve_at curves f) (areas.each f b)) (from + slice_index picks f) (slice_index places f)
        (omega (arith, within, here)) there (ap (λ (v : Point). v.cost) (sym two ∙ sym one)) in
        omega (arith, e)

    pub settled : (f : ℕ) → f < length curves → HasNothingBeside (curve_at curves f) (curve_at known f) (vertex_at known f (slice_index picks f))
        ((vertex_at known f (slice_index picks f)).cost + left) most (slice_index places f - slice_index picks f)
    settled f b =
        let fam : f < length known = omega (arith, b, count) in
        let inside : f < length families = (let n = is.count in omega (arith, fam, n)) in
        let w = window_at windows f in
        let s = part_settled w.low w.high (curve_at families f) (curve_at curves f) (curve_at known f) (is.prices f fam) (are.tell f inside) (are.some f inside) (are.ranges f) (areas.each f b) (is.parts f fam) (slice_index beyond f) (is.behind f fam)
        (slice_index picks f) left most (vertices.below f fam) (none f fam) in
        subst (HasNothingBeside (curve_at curves f) (curve_at known f) (vertex_at known f (slice_index picks f)) ((vertex_at known f (slice_index picks f)).cost + left) most) (placed f b s.0 s.1) s.1

  -- the best change of what is known is that of the curves
  pub found_known : (picks : List ℕ) (left most : ℕ) (change : Option Change) → AreVertices known picks
      → ((f : ℕ) → f < length known → IsSettled windows beyond known picks left most f)
      → IsBestKnown known (cost_of (picked known picks) + left) picks change → MatchOption change (most ≡ 1) (λ c. most ≡ c.gain) → IsFound families (cost_of (picked known picks) + left) known picks change
  found_known picks left most None vertices none best e = λ curves places areas at.
      full_of_known curves known places picks left most at vertices (sym is.count ∙ areas.count) (settled picks left most vertices none curves places areas at) best e
  found_known picks left most (Some c) vertices none best e = λ curves places areas at.
      let n : length known ≡ length curves = sym is.count ∙ areas.count in
      let s = settled picks left most vertices none curves places areas at in (
        place_of places picks c.family c.vertex,
        best_of_known curves known places picks left most at vertices n s c.family c.vertex best.0 (e ∙ best.1),
        sym (vertex_same curves known places picks left most at vertices n s c.family c.vertex (let b = best.0.change.family in omega (arith, b, n)) best.0.change.vertex),
      )
