use Rattle.std.proofs.Common.{◌≡◌, length, arith, sym, ap, ap₂, subst}
use Rattle.exact_model.specs.Fraction.{sum_below, ◌+ℚ◌, ◌*ℚ◌}
use Rattle.fixed_interval.specs.Ends.{Ends, In, ends_add}
use Rattle.fixed_interval.proofs.Public.{add_encloses}
use Rattle.depot_pipeline.specs.declared.Moments.{Moments}
use Rattle.depot_pipeline.specs.Profile.{mean_part, variance_part}
use Rattle.exact_model.specs.Shares.{shared}
use Rattle.depot_pipeline.proofs.Public.{mean_part_in, variance_part_in, added_in, summed_next, at_the_end, capped_is}
use Rattle.base_pipeline.specs.Profile.{delay_at}
use Rattle.base_pipeline.specs.declared.Held.{Held}
use Rattle.base_pipeline.proofs.Walk.{delay_is, delay_small, started}
use Rattle.base_pipeline.proofs.base_line.Goals as goal

pub loop-shop-init : goal.loop-shop-init
loop-shop-init g c =
    let own = c.base_own-mean.ensures in
    record {
      mean = started g.row.F (ends_add c.args.direct (mean_part g.row.F c.args.depot)) c.base_own-mean.result.mean (λ k. (delay_at c.args.shops.now k).backorders)
          (ap (λ (m : Moments g.row.F). m.mean) own.ends) own.mean_most;
      variance = started g.row.F (ends_add c.args.direct (variance_part g.row.F c.args.depot)) c.base_own-mean.result.variance (λ k. (delay_at c.args.shops.now k).spread)
          (ap (λ (m : Moments g.row.F). m.variance) own.ends) own.variance_most;
    }

pub loop-shop-preserved : goal.loop-shop-preserved
loop-shop-preserved g c =
    let e = delay_is g.row.F c.args.shops.now c.loop-shop.shop-index c.shop-item.result c.loop-shop-test.true c.shop-item.is in
    let t = delay_small g.row.F c.args.shops.now c.loop-shop.shop-index c.shop-item.result c.loop-shop-test.true c.shop-item.is c.requires.small_delays in
    record {
      mean = summed_next g.row.F 768 (ends_add c.args.direct (mean_part g.row.F c.args.depot)) (λ k. (delay_at c.args.shops.now k).backorders) c.loop-shop.mean
          c.shop-item.result.backorders c.add-mean.result c.loop-shop.shop-index
          c.loop-shop.invariant.mean (ap (λ (z : Held g.row.F). z.backorders) e) (omega (arith, t.backorders)) c.add-mean.ensures.ends;
      variance = summed_next g.row.F 768 (ends_add c.args.direct (variance_part g.row.F c.args.depot)) (λ k. (delay_at c.args.shops.now k).spread) c.loop-shop.variance
          c.shop-item.result.spread c.add-variance.result c.loop-shop.shop-index
          c.loop-shop.invariant.variance (ap (λ (z : Held g.row.F). z.spread) e) (omega (arith, t.spread)) c.add-variance.ensures.ends;
    }

pub returns-clause-ends : goal.returns-clause-ends
returns-clause-ends g c =
    let all : c.loop-shop.shop-index ≡ length c.args.shops.now = omega (arith, c.loop-shop-test.false, c.loop-shop.auto.shop-index-end) in
    let m = at_the_end g.row.F 768 (ends_add c.args.direct (mean_part g.row.F c.args.depot)) (λ k. (delay_at c.args.shops.now k).backorders) c.loop-shop.mean c.loop-shop.shop-index
    (length c.args.shops.now) c.loop-shop.invariant.mean all in
    let v = at_the_end g.row.F 768 (ends_add c.args.direct (variance_part g.row.F c.args.depot)) (λ k. (delay_at c.args.shops.now k).spread) c.loop-shop.variance c.loop-shop.shop-index
    (length c.args.shops.now) c.loop-shop.invariant.variance all in
    ap₂ (λ (x y : Ends). record { mean = x; variance = y })
    (capped_is c.loop-shop.mean _ c.capped.result c.args.cap m c.capped.ensures.ends)
    (capped_is c.loop-shop.variance _ c.capped-2.result c.args.cap v c.capped-2.ensures.ends)

pub returns-clause-mean : goal.returns-clause-mean
returns-clause-mean g c d f e v b s h a r most =
    let all : c.loop-shop.shop-index ≡ length c.args.shops.now = omega (arith, c.loop-shop-test.false, c.loop-shop.auto.shop-index-end) in
    let m = at_the_end g.row.F 768 (ends_add c.args.direct (mean_part g.row.F c.args.depot)) (λ k. (delay_at c.args.shops.now k).backorders) c.loop-shop.mean c.loop-shop.shop-index
    (length c.args.shops.now) c.loop-shop.invariant.mean all in
    c.capped.ensures.encloses (d +ℚ f *ℚ e +ℚ sum_below b (length c.args.shops.now)) most
    (subst (λ (z : Ends). In g.row.F z (d +ℚ f *ℚ e +ℚ sum_below b (length c.args.shops.now))) (sym m)
    (added_in g.row.F (ends_add c.args.direct (mean_part g.row.F c.args.depot)) (λ k. (delay_at c.args.shops.now k).backorders) (d +ℚ f *ℚ e) b (length c.args.shops.now)
    (add_encloses g.row.F c.args.direct (mean_part g.row.F c.args.depot) d (f *ℚ e) h (mean_part_in g.row.F c.args.depot f e v a))
    (λ k l. (r k l).backorders)))

pub returns-clause-variance : goal.returns-clause-variance
returns-clause-variance g c d f e v b s h a r most =
    let all : c.loop-shop.shop-index ≡ length c.args.shops.now = omega (arith, c.loop-shop-test.false, c.loop-shop.auto.shop-index-end) in
    let m = at_the_end g.row.F 768 (ends_add c.args.direct (variance_part g.row.F c.args.depot)) (λ k. (delay_at c.args.shops.now k).spread) c.loop-shop.variance c.loop-shop.shop-index
    (length c.args.shops.now) c.loop-shop.invariant.variance all in
    c.capped-2.ensures.encloses (d +ℚ shared f e v +ℚ sum_below s (length c.args.shops.now)) most
    (subst (λ (z : Ends). In g.row.F z (d +ℚ shared f e v +ℚ sum_below s (length c.args.shops.now))) (sym m)
    (added_in g.row.F (ends_add c.args.direct (variance_part g.row.F c.args.depot)) (λ k. (delay_at c.args.shops.now k).spread) (d +ℚ shared f e v) s (length c.args.shops.now)
    (add_encloses g.row.F c.args.direct (variance_part g.row.F c.args.depot) d (shared f e v) h (variance_part_in g.row.F c.args.depot f e v a))
    (λ k l. (r k l).spread)))
