use Rattle.std.proofs.Common.{Vec, Global, ℕ, ◌^◌}
use Rattle.std.proofs.lemmas.Result.{err_from_is_err_and}
use Rattle.line_text.specs.Formats.{each}
use Rattle.line_text.specs.Texts.{numbers_from}
use Rattle.answers.specs.declared.stop.Stop.TheVariants as stop
use Rattle.line_text.proofs.Public.{step, stops}
use Rattle.line_text.specs.Texts.{number_line}
use Rattle.price_certificate.proofs.many_lines.each_floor.Goals as goal

pub returns-in_err-floor : goal.returns-in_err-floor
returns-in_err-floor c =
    let p = err_from_is_err_and c.from_residual.result c.from_residual.ensures.1 in
    rw (p.1, p.2) (stops {V = Vec ℕ Global} (λ v. v.items) (stop.Fault c.in_err-floor.field-0.0) (λ _ _. number_line (2 ^ 115)) c.loop-k.found.items c.args.count c.loop-k.k c.loop-k.lines c.number_line.new.lines ((each (numbers_from 0 c.args.count) (λ _. number_line (2 ^ 115))).read c.args.lines.now)
    c.loop-k-test.true c.in_err-floor.ensures c.loop-k.invariant)

pub loop-k-preserved : goal.loop-k-preserved
loop-k-preserved c =
    rw c.in_ok-push.ensures.items (step (λ _ _. number_line (2 ^ 115)) c.loop-k.found.items c.args.count c.loop-k.k c.loop-k.lines c.number_line.new.lines c.in_ok-floor.floor ((each (numbers_from 0 c.args.count) (λ _. number_line (2 ^ 115))).read c.args.lines.now)
    c.loop-k-test.true c.in_ok-floor.ensures c.loop-k.invariant)
