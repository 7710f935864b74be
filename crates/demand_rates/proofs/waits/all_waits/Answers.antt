use Rattle.std.proofs.Common.{◌+◌, ◌∙◌, ap, sym}
use Rattle.demand_rates.proofs.WaitFacts.{all_waits_done, waits_pushed}
use Rattle.demand_rates.proofs.waits.all_waits.Goals as goal

pub loop-k-preserved : goal.loop-k-preserved
loop-k-preserved c = record {
  count = sym c.push.new.self.ok.0 ∙ c.in_ok-push.ensures.len ∙ ap (λ n. n + 1) (c.loop-k.waits.ok.0 ∙ c.loop-k.invariant.count);
  each = waits_pushed (λ w. w.items) c.args.case.now c.loop-k.k c.loop-k.waits.items c.push.new.self.items c.in_ok-at_site.at_site c.in_ok-push.ensures.items
      c.loop-k.invariant.count c.loop-k.invariant.each c.in_ok-at_site.ensures;
}

pub returns : goal.returns
returns c =
    all_waits_done (λ w. w.items) c.args.case.now c.loop-k.waits.items c.site_count-sites.result c.loop-k.k c.site_count-sites.ensures.count c.loop-k-test.false
    c.loop-k.auto.k-end c.loop-k.invariant.count c.loop-k.invariant.each
