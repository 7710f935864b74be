use Rattle.std.proofs.Common.{Vec, Global}
use Rattle.std.proofs.lemmas.Result.{err_from_is_err_and}
use Rattle.line_text.specs.Formats.{each}
use Rattle.line_text.specs.Texts.{numbers_from}
use Rattle.answers.specs.declared.stop.Stop.TheVariants as stop
use Rattle.spares_input.specs.declared.rows.SiteRow.{SiteRow}
use Rattle.case_lines.specs.Grammar.{site_line}
use Rattle.line_text.proofs.Public.{step, stops}
use Rattle.case_lines.proofs.read_sites.each_site.Goals as goal

pub returns-in_err-site : goal.returns-in_err-site
returns-in_err-site c =
    let p = err_from_is_err_and c.from_residual.result c.from_residual.ensures.1 in
    rw (p.1, p.2) (stops (λ (v : Vec SiteRow Global). v.items) (stop.Fault c.in_err-site.field-0.0) (λ _ k. site_line k) c.loop-k.found.items c.args.count c.loop-k.k c.loop-k.lines c.site_at.new.lines ((each (numbers_from 0 c.args.count) site_line).read c.args.lines.now)
    c.loop-k-test.true c.in_err-site.ensures c.loop-k.invariant)

pub loop-k-preserved : goal.loop-k-preserved
loop-k-preserved c =
    rw c.in_ok-push.ensures.items (step (λ _ k. site_line k) c.loop-k.found.items c.args.count c.loop-k.k c.loop-k.lines c.site_at.new.lines c.in_ok-site.site ((each (numbers_from 0 c.args.count) site_line).read c.args.lines.now)
    c.loop-k-test.true c.in_ok-site.ensures c.loop-k.invariant)
