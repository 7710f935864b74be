use Rattle.std.proofs.Common.{◌*◌, ◌≤◌, ◌^◌, ◌∙◌, arith, mul-le-mul_right, lit<, rules}
use Rattle.fixed_interval.specs.Ends.{InScale}
use Rattle.fixed_interval.proofs.Public.{unit_most}
use Rattle.moment_table.proofs.Steps.{falling_next, falling_tail, left_is, small_next, chance_small}
use Rattle.moment_table.proofs.running.Falling.step.Goals as goal

pub add-self-requires : goal.add-self-requires
add-self-requires g c =
    let s : InScale g.row.F = search rules in
    let q : c.share.result.hi ≤ 8 * 2 ^ g.row.F =
    chance_small g.row.F c.args.self.now.shares c.args.weight c.share.result c.requires.top c.requires.small.sum_least c.share.ensures in
    let m : c.args.s * (8 * 2 ^ g.row.F) ≤ 64 * (8 * 2 ^ g.row.F) = mul-le-mul_right (8 * 2 ^ g.row.F) (omega (arith, c.requires.stock)) in
    (lit< tt, omega (arith, q, m, c.requires.small.below, unit_most g.row.F s.1))

pub returns-clause-small : goal.returns-clause-small
returns-clause-small g c =
    small_next g.row.F c.args.s c.args.self.now c.requires.small
    c.args.weight c.share.result c.add-self.result c.left_of_one-tail.result c.less-self.result
    c.requires.top c.share.ensures c.add-self.ensures.ends c.less-self.ensures

pub returns-clause-falling : goal.returns-clause-falling
returns-clause-falling g c m sum list at h =
    falling_next g.row.F m list sum c.args.s c.args.self.now h
    c.args.weight c.share.result c.add-self.result c.left_of_one-tail.result c.less-self.result
    at c.share.ensures c.add-self.ensures.ends (c.left_of_one-tail.ensures ∙ left_is g.row.F c.add-self.result c.up_to_one.result c.up_to_one.ensures.ends) c.less-self.ensures

pub returns-clause-tail : goal.returns-clause-tail
returns-clause-tail g c m sum list at h =
    falling_tail g.row.F m list sum c.args.s c.args.self.now h
    c.args.weight c.share.result c.add-self.result c.left_of_one-tail.result
    at c.share.ensures c.add-self.ensures.ends (c.left_of_one-tail.ensures ∙ left_is g.row.F c.add-self.result c.up_to_one.result c.up_to_one.ensures.ends)
