use Rattle.std.proofs.Common.{◌≡◌, ◌-◌, ◌*◌, ◌≤◌, ◌^◌, ◌∙◌, arith, ap, le_trans, mul-le-mul_right, lit<, rules}
use Rattle.fixed_interval.specs.Ends.{InScale}
use Rattle.fixed_interval.proofs.Public.{unit_most}
use Rattle.series_bounds.specs.Profile.{weight_ends}
use Rattle.series_bounds.proofs.Unlisted.{sums_start, sums_next}
use Rattle.series_bounds.proofs.plain.sum_to_pivot.Goals as goal

pub loop-x-init : goal.loop-x-init
loop-x-init g c = sums_start g.row.F c.args.mean c.args.excess c.exact-sum.result c.exact-sum.ensures.ends

pub add-sum-requires : goal.add-sum-requires
add-sum-requires g c =
    let s : InScale g.row.F = search rules in
    let m : c.loop-x.sum.hi ≤ 257 * (8 * 2 ^ g.row.F) =
    le_trans c.loop-x.invariant.most (mul-le-mul_right (8 * 2 ^ g.row.F) (omega (arith, c.loop-x-test.true, c.from-x-end.ensures, c.requires.depth))) in
    (lit< tt, omega (arith, c.in_ok-weight_below.ensures.top, m, unit_most g.row.F s.1))

pub loop-x-preserved : goal.loop-x-preserved
loop-x-preserved g c =
    let i : c.args.pivot - (c.from.result - c.loop-x.x) ≡ c.loop-x.x = omega (arith, c.loop-x-test.true, c.from-x-end.ensures, c.from.ensures) in
    sums_next g.row.F c.args.mean c.args.excess c.loop-x.sum c.in_ok-weight_below.field-0 c.add-sum.result c.loop-x.x c.loop-x.invariant
    (c.in_ok-weight_below.ensures.known ∙ ap (weight_ends g.row.F c.args.mean c.args.excess) i) c.in_ok-weight_below.ensures.top c.add-sum.ensures.ends
