use Rattle.std.proofs.Common.{Vec, Global}
use Rattle.std.proofs.lemmas.Result.{err_from_is_err_and}
use Rattle.line_text.specs.Formats.{each}
use Rattle.line_text.specs.Texts.{numbers_from}
use Rattle.answers.specs.declared.stop.Stop.TheVariants as stop
use Rattle.line_text.proofs.Public.{step, stops}
use Rattle.price_certificate.specs.declared.certificate.Node.{Node}
use Rattle.price_certificate.specs.Grammar.{node_line}
use Rattle.price_certificate.proofs.many_lines.each_node.Goals as goal

pub returns-in_err-node : goal.returns-in_err-node
returns-in_err-node c =
    let p = err_from_is_err_and c.from_residual.result c.from_residual.ensures.1 in
    rw (p.1, p.2) (stops {V = Vec Node Global} (λ v. v.items) (stop.Fault c.in_err-node.field-0.0) (λ _ _. node_line) c.loop-k.found.items c.args.count c.loop-k.k c.loop-k.lines c.node_line.new.lines ((each (numbers_from 0 c.args.count) (λ _. node_line)).read c.args.lines.now)
    c.loop-k-test.true c.in_err-node.ensures c.loop-k.invariant)

pub loop-k-preserved : goal.loop-k-preserved
loop-k-preserved c =
    rw c.in_ok-push.ensures.items (step (λ _ _. node_line) c.loop-k.found.items c.args.count c.loop-k.k c.loop-k.lines c.node_line.new.lines c.in_ok-node.node ((each (numbers_from 0 c.args.count) (λ _. node_line)).read c.args.lines.now)
    c.loop-k-test.true c.in_ok-node.ensures c.loop-k.invariant)
