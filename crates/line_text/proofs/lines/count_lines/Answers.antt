use Rattle.std.proofs.Common.{arith}
use Rattle.std.proofs.lemmas.Bool.{false≢true}
use Rattle.line_text.proofs.Cursors.{few_lines, length_later}
use Rattle.line_text.proofs.lines.count_lines.Goals as goal

pub overflow_add-count : goal.overflow_add-count
overflow_add-count c = omega (arith, few_lines c.args.bytes.now, c.loop-left.invariant, length_later c.loop-left.left (λ e. false≢true (c.loop-left-test.ensures.1 e)), c.type_inv.bytes)
