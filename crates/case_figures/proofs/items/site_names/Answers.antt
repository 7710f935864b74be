use Rattle.std.proofs.Common.{ap, arith}
use Rattle.list_laws.proofs.Public.{pushed_all, pushed_next}
use Rattle.spares_input.specs.Rows.{no_site}
use Rattle.spares_input.specs.declared.rows.SiteRow.{SiteRow}
use Rattle.case_figures.proofs.items.site_names.Goals as goal

pub site-requires : goal.site-requires
site-requires c = omega (arith, c.loop-k-test.true, c.site_count-k-end.ensures.count)

pub loop-k-preserved : goal.loop-k-preserved
loop-k-preserved c =
    pushed_next (λ (r : SiteRow). r.name) c.args.case.now.sites c.loop-k.k no_site c.loop-k.names.items c.push.new.self.items c.site.result.now.name
    (omega (arith, c.loop-k-test.true, c.site_count-k-end.ensures.count)) c.in_ok-push.ensures.items c.loop-k.invariant
    (ap (λ (r : SiteRow). r.name) c.site.ensures.row)

pub returns : goal.returns
returns c =
    pushed_all (λ (r : SiteRow). r.name) c.args.case.now.sites c.loop-k.k c.loop-k.names.items (omega (arith, c.loop-k-test.false, c.site_count-k-end.ensures.count))
    c.loop-k.invariant
