use Rattle.std.proofs.Common.{ap, arith}
use Rattle.fleet_model.specs.Rows.{line_units}
use Rattle.gap_rules.specs.Refusals.{chosen_point}
use Rattle.gap_rules.proofs.Public.{line_is, line_read_at, count_lines}
use Rattle.gap_checker.proofs.Uppers.{hi_next}
use Rattle.gap_checker.proofs.upper.upper_kept.Goals as goal

pub family_upper-requires-clause-is_line : goal.family_upper-requires-clause-is_line
family_upper-requires-clause-is_line g c = line_is c.args.cert.now.case c.args.lines.now c.loop-f.f c.requires.lines c.loop-f-test.true

pub loop-f-preserved : goal.loop-f-preserved
loop-f-preserved g c =
    let n = count_lines c.args.cert.now.case c.args.lines.now c.requires.lines in
    let next = hi_next (chosen_point g.S.Score.ends c.args.cert.now c.args.held.now) (line_units c.args.cert.now.case) c.loop-f.f (omega (arith, n, c.loop-f-test.true)) in
    let line = ap (λ l. (chosen_point g.S.Score.ends c.args.cert.now c.args.held.now l).hi) (line_read_at c.args.cert.now.case c.args.lines.now c.loop-f.f c.requires.lines) in
    let own = c.in_ok-upper.ensures.upper in
    let s = c.loop-f.invariant.sum in
    let m = c.loop-f.invariant.most in
    let small = c.in_ok-upper.ensures.most in
    record { sum = omega (arith, next, line, own, s); most = omega (arith, m, small) }
