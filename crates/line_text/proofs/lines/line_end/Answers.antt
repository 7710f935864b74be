use Rattle.std.proofs.Common.{◌≡◌, length, sym, arith}
use Rattle.std.proofs.lemmas.Bool.{eq-eqb}
use Rattle.std.proofs.lemmas.List.Sums.{position_or_len_is}
use Rattle.line_text.specs.Exact.{is_end}
use Rattle.line_text.proofs.lines.line_end.Goals as goal

pub returns-then-b-eq10-clause-place : goal.returns-then-b-eq10-clause-place
returns-then-b-eq10-clause-place c =
    sym (position_or_len_is is_end c.args.bytes.now c.loop-i.i 0 (omega arith) c.loop-i.invariant (λ _. eq-eqb _ 10 c.if-b-eq10.true))

pub returns-clause-place : goal.returns-clause-place
returns-clause-place c =
    let e : c.loop-i.i ≡ length c.args.bytes.now = omega arith in
    sym (position_or_len_is is_end c.args.bytes.now (length c.args.bytes.now) 0 (omega arith) (λ k b. c.loop-i.invariant k (omega (arith, e, b))) (λ b. absurd (omega (arith, b))))
