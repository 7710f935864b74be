use Rattle.std.proofs.Common.{Vec, Global}
use Rattle.std.proofs.lemmas.Result.{err_from_is_err_and}
use Rattle.line_text.specs.Formats.{each}
use Rattle.line_text.specs.Texts.{numbers_from}
use Rattle.line_text.proofs.Public.{step, stops}
use Rattle.price_certificate.specs.declared.certificate.Node.{Node}
use Rattle.answers.specs.declared.list.List.{List as Kept}
use Rattle.price_certificate.specs.Grammar.{cover}
use Rattle.price_certificate.proofs.many_lines.each_cover.Goals as goal

pub returns-in_err-nodes : goal.returns-in_err-nodes
returns-in_err-nodes c =
    let p = err_from_is_err_and c.from_residual.result c.from_residual.ensures.1 in
    rw (p.1, p.2) (stops {V = Vec (Kept Node) Global} (λ v. v.items) c.in_err-nodes.field-0.0 (λ _ _. cover) c.loop-k.found.items c.args.count c.loop-k.k c.loop-k.lines c.cover.new.lines ((each (numbers_from 0 c.args.count) (λ _. cover)).read c.args.lines.now)
    c.loop-k-test.true c.in_err-nodes.ensures c.loop-k.invariant)

pub loop-k-preserved : goal.loop-k-preserved
loop-k-preserved c =
    rw c.in_ok-push.ensures.items (step (λ _ _. cover) c.loop-k.found.items c.args.count c.loop-k.k c.loop-k.lines c.cover.new.lines c.in_ok-nodes.nodes ((each (numbers_from 0 c.args.count) (λ _. cover)).read c.args.lines.now)
    c.loop-k-test.true c.in_ok-nodes.ensures c.loop-k.invariant)
