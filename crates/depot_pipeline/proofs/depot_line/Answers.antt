use Rattle.std.proofs.Common.{◌≡◌, ◌∙◌, length, arith, sym, ap, ap₂, subst}
use Rattle.exact_model.specs.Fraction.{sum_below, ◌+ℚ◌, ◌*ℚ◌}
use Rattle.fixed_interval.specs.Ends.{Ends, In}
use Rattle.depot_pipeline.specs.Profile.{mean_part, variance_part, feed_at}
use Rattle.exact_model.specs.Shares.{shared}
use Rattle.depot_pipeline.proofs.Laws.{mean_part_in, variance_part_in, added_in}
use Rattle.depot_pipeline.proofs.Walk.{summed_start, summed_next, at_the_end, feed_is, capped_is}
use Rattle.depot_pipeline.proofs.depot_line.Goals as goal

pub loop-feed-init : goal.loop-feed-init
loop-feed-init g c = record {
  mean = summed_start g.row.F 512 c.args.direct (λ k. mean_part g.row.F (feed_at c.args.feeds.now k)) (omega (arith, c.requires.direct));
  variance = summed_start g.row.F 512 c.args.direct (λ k. variance_part g.row.F (feed_at c.args.feeds.now k)) (omega (arith, c.requires.direct));
}

pub loop-feed-preserved : goal.loop-feed-preserved
loop-feed-preserved g c =
    let e = feed_is g.row.F c.args.feeds.now c.loop-feed.feed-index c.feed-item.result c.loop-feed-test.true c.feed-item.is in
    record {
      mean = summed_next g.row.F 512 c.args.direct (λ k. mean_part g.row.F (feed_at c.args.feeds.now k)) c.loop-feed.mean c.mean_of.result c.add-mean.result c.loop-feed.feed-index
          c.loop-feed.invariant.mean (c.mean_of.ensures.ends ∙ ap (mean_part g.row.F) e) (omega (arith, c.mean_of.ensures.most)) c.add-mean.ensures.ends;
      variance = summed_next g.row.F 512 c.args.direct (λ k. variance_part g.row.F (feed_at c.args.feeds.now k)) c.loop-feed.variance c.variance_of.result c.add-variance.result c.loop-feed.feed-index
          c.loop-feed.invariant.variance (c.variance_of.ensures.ends ∙ ap (variance_part g.row.F) e) c.variance_of.ensures.most c.add-variance.ensures.ends;
    }

pub returns-clause-ends : goal.returns-clause-ends
returns-clause-ends g c =
    let all : c.loop-feed.feed-index ≡ length c.args.feeds.now = omega (arith, c.loop-feed-test.false, c.loop-feed.auto.feed-index-end) in
    let m = at_the_end g.row.F 512 c.args.direct (λ k. mean_part g.row.F (feed_at c.args.feeds.now k)) c.loop-feed.mean c.loop-feed.feed-index (length c.args.feeds.now) c.loop-feed.invariant.mean all in
    let v = at_the_end g.row.F 512 c.args.direct (λ k. variance_part g.row.F (feed_at c.args.feeds.now k)) c.loop-feed.variance c.loop-feed.feed-index (length c.args.feeds.now) c.loop-feed.invariant.variance all in
    ap₂ (λ (x y : Ends). record { mean = x; variance = y })
    (capped_is c.loop-feed.mean _ c.capped.result c.args.cap m c.capped.ensures.ends)
    (capped_is c.loop-feed.variance _ c.capped-2.result c.args.cap v c.capped-2.ensures.ends)

pub returns-clause-mean : goal.returns-clause-mean
returns-clause-mean g c d f e v h a most =
    let all : c.loop-feed.feed-index ≡ length c.args.feeds.now = omega (arith, c.loop-feed-test.false, c.loop-feed.auto.feed-index-end) in
    let m = at_the_end g.row.F 512 c.args.direct (λ k. mean_part g.row.F (feed_at c.args.feeds.now k)) c.loop-feed.mean c.loop-feed.feed-index (length c.args.feeds.now) c.loop-feed.invariant.mean all in
    c.capped.ensures.encloses (d +ℚ sum_below (λ k. f k *ℚ e k) (length c.args.feeds.now)) most
    (subst (λ (z : Ends). In g.row.F z (d +ℚ sum_below (λ k. f k *ℚ e k) (length c.args.feeds.now))) (sym m)
    (added_in g.row.F c.args.direct (λ k. mean_part g.row.F (feed_at c.args.feeds.now k)) d (λ k. f k *ℚ e k) (length c.args.feeds.now) h
    (λ k l. mean_part_in g.row.F (feed_at c.args.feeds.now k) (f k) (e k) (v k) (a k l))))

pub returns-clause-variance : goal.returns-clause-variance
returns-clause-variance g c d f e v h a most =
    let all : c.loop-feed.feed-index ≡ length c.args.feeds.now = omega (arith, c.loop-feed-test.false, c.loop-feed.auto.feed-index-end) in
    let m = at_the_end g.row.F 512 c.args.direct (λ k. variance_part g.row.F (feed_at c.args.feeds.now k)) c.loop-feed.variance c.loop-feed.feed-index (length c.args.feeds.now) c.loop-feed.invariant.variance all in
    c.capped-2.ensures.encloses (d +ℚ sum_below (λ k. shared (f k) (e k) (v k)) (length c.args.feeds.now)) most
    (subst (λ (z : Ends). In g.row.F z (d +ℚ sum_below (λ k. shared (f k) (e k) (v k)) (length c.args.feeds.now))) (sym m)
    (added_in g.row.F c.args.direct (λ k. variance_part g.row.F (feed_at c.args.feeds.now k)) d (λ k. shared (f k) (e k) (v k)) (length c.args.feeds.now) h
    (λ k l. variance_part_in g.row.F (feed_at c.args.feeds.now k) (f k) (e k) (v k) (a k l))))
