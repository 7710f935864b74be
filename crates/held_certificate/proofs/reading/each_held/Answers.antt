use Rattle.std.proofs.Common.{Vec, Global, ℕ}
use Rattle.std.proofs.lemmas.Result.{err_from_is_err_and}
use Rattle.line_text.specs.Formats.{each}
use Rattle.line_text.specs.Texts.{numbers_from}
use Rattle.answers.specs.declared.stop.Stop.TheVariants as stop
use Rattle.line_text.proofs.Public.{step, stops}
use Rattle.held_certificate.specs.Held.{held_line}
use Rattle.held_certificate.proofs.reading.each_held.Goals as goal

pub returns-in_err-stock : goal.returns-in_err-stock
returns-in_err-stock c =
    let p = err_from_is_err_and c.from_residual.result c.from_residual.ensures.1 in
    rw (p.1, p.2) (stops {V = Vec ℕ Global} (λ v. v.items) (stop.Fault c.in_err-stock.field-0.0) (λ _ i. held_line c.args.case.now i) c.loop-i.found.items c.args.count c.loop-i.i c.loop-i.lines c.held_line.new.lines ((each (numbers_from 0 c.args.count) (held_line c.args.case.now)).read c.args.lines.now)
    c.loop-i-test.true c.in_err-stock.ensures c.loop-i.invariant)

pub loop-i-preserved : goal.loop-i-preserved
loop-i-preserved c =
    rw c.in_ok-push.ensures.items (step (λ _ i. held_line c.args.case.now i) c.loop-i.found.items c.args.count c.loop-i.i c.loop-i.lines c.held_line.new.lines c.in_ok-stock.stock ((each (numbers_from 0 c.args.count) (held_line c.args.case.now)).read c.args.lines.now)
    c.loop-i-test.true c.in_ok-stock.ensures c.loop-i.invariant)
