use Rattle.std.proofs.Common.{ap, arith}
use Rattle.hull.specs.declared.point.Point.{Point}
use Rattle.hull.specs.Curves.{nowhere, point_at}
use Rattle.hull.proofs.Public.{among_at}
use Rattle.curve_parts.proofs.window.ChainVertices.value.Goals as goal

pub lagrangian_of-requires-clause-cost : goal.lagrangian_of-requires-clause-cost
lagrangian_of-requires-clause-cost g c =
    let is = c.cost.ensures in
    let at = ap (λ (v : Point). v.cost) c.at-point.ensures in
    let range = c.invariant.ensures.shape.ranges (point_at c.args.self.now c.args.k) (among_at c.args.self.now c.args.k nowhere c.requires.place) in
    let few = range.cost in
    omega (arith, is, at, few)

pub lagrangian_of-requires-clause-lo : goal.lagrangian_of-requires-clause-lo
lagrangian_of-requires-clause-lo g c =
    let is = c.lo.ensures in
    let at = ap (λ (v : Point). v.lo) c.at-point.ensures in
    let range = c.invariant.ensures.shape.ranges (point_at c.args.self.now c.args.k) (among_at c.args.self.now c.args.k nowhere c.requires.place) in
    let ends = range.ends in
    let few = range.hi in
    omega (arith, is, at, ends, few)
