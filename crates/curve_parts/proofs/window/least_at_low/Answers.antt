use Rattle.std.proofs.Common.{◌+◌, ◌-◌, ◌<◌, List, [], ◌++◌, subst, arith}
use Rattle.hull.specs.declared.point.Point.{Point}
use Rattle.hull.specs.Curves.{point_at}
use Rattle.curve_parts.specs.Parts.{IsPartOf, IsPriceBetween}
use Rattle.curve_parts.proofs.Behind.{split_last}
use Rattle.curve_parts.proofs.Ends.{last_least}
use Rattle.curve_parts.proofs.window.least_at_low.Goals as goal

pub returns : goal.returns
returns g c = λ high points window of w m.
    let l : List Point = g.V.Vertices.list c.args.part.now in
    let low = c.args.low in
    let last = c.count.result - 1 in
    let some = c.count.ensures.shape.some in
    let count = c.count.ensures.count in
    let s = split_last l last (omega (arith, some, count)) in
    let steep : 0 < c.args.low.p = omega (arith, c.if-low-eq0.false) in
    let between : IsPriceBetween low high low.p low.q = record { p_positive = steep; q_positive = window.money; from = omega arith; to = window.order } in
    let least = last_least low high points s.0 (point_at l last) between (subst (IsPartOf low high points) s.1 of) w m in
    let is = c.value.ensures in
    omega (arith, is, least)
