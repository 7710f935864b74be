use Rattle.std.proofs.Common.{◌∙◌, arith, ap, ap₂, lit<, rules}
use Rattle.fixed_interval.specs.Ends.{Ends, InScale, ends_add, ends_mul}
use Rattle.fixed_interval.proofs.Public.{unit_most}
use Rattle.moment_table.proofs.Steps.{spread_next, tail_known}
use Rattle.moment_table.proofs.running.Running.step.Goals as goal

pub twice-twice-requires : goal.twice-twice-requires
twice-twice-requires g c =
    let s : InScale g.row.F = search rules in
    let e = ap (λ (z : Ends). z.hi) c.expected.ensures in
    (lit< tt, omega (arith, e, c.step-tail.ensures.small.expected, unit_most g.row.F s.1))

pub add-requires : goal.add-requires
add-requires g c =
    let s : InScale g.row.F = search rules in
    let e = ap (λ (z : Ends). z.hi) c.expected.ensures in
    let t = ap (λ (z : Ends). z.hi) c.twice-twice.ensures in
    (lit< tt, omega (arith, e, t, c.step-tail.ensures.small.expected, c.step-tail.ensures.part, unit_most g.row.F s.1))

pub returns-clause-running : goal.returns-clause-running
returns-clause-running g c m v sum list at h =
    let falling = c.step-tail.ensures.falling m sum list at h.falling in
    record {
      falling = falling;
      spread = spread_next g.row.F m v list sum c.args.s c.args.self.now.spread c.less-self.result c.expected.result c.step-tail.result c.times_part-fall.result
          h.spread (c.expected.ensures ∙ falling.expected) (c.step-tail.ensures.tail m sum list at h.falling)
          (c.times_part-fall.ensures ∙ ap₂ (ends_mul g.row.F) (c.add.ensures.ends ∙ ap (λ (z : Ends). ends_add z c.step-tail.result) c.twice-twice.ensures) c.left_of_one.ensures)
          c.less-self.ensures;
    }

pub returns-clause-tail : goal.returns-clause-tail
returns-clause-tail g c m v sum list at h =
    tail_known g.row.F m v list sum c.step-tail.result c.args.s (c.step-tail.ensures.tail m sum list at h.falling)
