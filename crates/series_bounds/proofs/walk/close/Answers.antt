use Rattle.std.proofs.Common.{◌≡◌, ℕ, ◌+◌, ◌*◌, ◌^◌, ◌<◌, ◌≤◌, ◌∙◌, arith, ap, ap₂, subst, sym, le_trans, lit<}
use Rattle.std.proofs.Math.Nat.{lt_trans}
use Rattle.fixed_interval.specs.Ends.{Ends, ends_add}
use Rattle.series_bounds.specs.Profile.{last_index, least_end, pivot_at, ratio_bound, weight_ends}
use Rattle.series_bounds.specs.Walk.{Begins, EndsAt}
use Rattle.series_bounds.proofs.Bounds.{bound_is}
use Rattle.series_bounds.proofs.Walks.{end_from_63, end_most}
use Rattle.series_bounds.proofs.Unlisted.{Climb, above_8, climb_again, climb_done, climb_last, climb_next, climb_raised, climb_room, climb_top, climb_unended, climb_weight, climb_wide, late_end, late_on, raised_ordered, up_to_last, upto_8}
use Rattle.series_bounds.proofs.walk.close.Goals as goal

start_some : (f : ℕ) (m d : Ends) (x : ℕ) → x ≡ least_end f m d → 0 < x
start_some f m d x e = omega (arith, e, end_from_63 f m d)

start_most : (f : ℕ) (m d : Ends) (x : ℕ) → x ≡ least_end f m d → pivot_at f m d ≤ 256 → x ≤ 1025
start_most f m d x e q = omega (arith, e, end_most f m d 1024 (omega (arith, q)) (omega arith))

pub at-ratios-requires : goal.at-ratios-requires
at-ratios-requires g c =
    let a = start_some g.row.F c.args.mean c.args.excess c.args.start c.requires.start in
    let b = start_most g.row.F c.args.mean c.args.excess c.args.start c.requires.start c.requires.depth in
    (lit< tt, (lit< tt, (c.requires.mean_top, (c.requires.excess_top, (c.requires.near, (a, b))))))

pub take-ratio-requires : goal.take-ratio-requires
take-ratio-requires g c =
    let a = start_some g.row.F c.args.mean c.args.excess c.args.start c.requires.start in
    let b = start_most g.row.F c.args.mean c.args.excess c.args.start c.requires.start c.requires.depth in
    (lit< tt, (lit< tt, (lit< tt, (c.requires.mean_top, (c.requires.excess_top, (c.requires.near, (a, (b, c.at-ratios.ensures))))))))

pub loop-x-init : goal.loop-x-init
loop-x-init g c = record {
  climb = subst (λ z. Climb g.row.F c.args.mean c.args.excess c.args.before c.args.low z) (sym c.requires.start)
      (climb_again g.row.F c.args.mean c.args.excess c.args.low c.args.before c.requires.depth c.requires.begun);
  first = c.requires.first;
  ratio = c.take-ratio.ensures.ends;
  ratio_top = c.take-ratio.ensures.top;
  ratios = c.take-ratio.ensures.next;
}

pub times-last-requires : goal.times-last-requires
times-last-requires g c =
    let t : c.loop-x.last.hi ≤ 8 * 2 ^ g.row.F =
    climb_top g.row.F c.args.mean c.args.excess c.loop-x.last c.loop-x.sum c.loop-x.x c.loop-x.invariant.climb in
    (lit< tt, (t, c.loop-x.invariant.ratio_top))

pub returns-then-top-most-clause-wide : goal.returns-then-top-most-clause-wide
returns-then-top-most-clause-wide g c =
    climb_wide g.row.F c.args.mean c.args.excess c.loop-x.last c.loop-x.sum c.times-last.result c.loop-x.ratio c.loop-x.x c.loop-x.invariant.climb
    c.loop-x.invariant.ratio c.times-last.ensures c.requires.depth (up_to_last c.loop-x.x c.loop-x-test.true)
    (above_8 (2 ^ g.row.F) c.most_weight-most.result c.hi-top.result c.times-last.result.hi c.most_weight-most.ensures c.hi-top.ensures.end c.if-top-most.true)

pub add-sum-requires : goal.add-sum-requires
add-sum-requires g c =
    let t = upto_8 (2 ^ g.row.F) c.most_weight-most.result c.hi-top.result c.times-last.result.hi c.most_weight-most.ensures c.hi-top.ensures.end c.if-top-most.false in
    let m = climb_room g.row.F c.args.mean c.args.excess c.loop-x.last c.loop-x.sum c.times-last.result c.loop-x.ratio c.loop-x.x c.loop-x.invariant.climb c.loop-x.invariant.ratio c.times-last.ensures t c.loop-x-test.true c.hi-top.ensures.valid.most_scale in
    (lit< tt, subst (λ (z : Ends). c.loop-x.sum.hi + z.hi < 2 ^ 127) (sym c.open.ensures) m)

pub overflow_add-hi : goal.overflow_add-hi
overflow_add-hi g c =
    let t = upto_8 (2 ^ g.row.F) c.most_weight-most.result c.hi-top.result c.times-last.result.hi c.most_weight-most.ensures c.hi-top.ensures.end c.if-top-most.false in
    let b : c.max-bound.result ≡ ratio_bound g.row.F c.args.mean c.args.excess c.loop-x.x =
    bound_is g.row.F c.args.mean c.args.excess c.loop-x.x c.max-bound.result c.hi.result c.far-far.result c.take-ratio-in-loop-x.result
    c.hi.ensures.end c.take-ratio-in-loop-x.ensures.ends c.far-far.ensures c.max-bound.ensures in
    let w = climb_weight g.row.F c.args.mean c.args.excess c.loop-x.last c.loop-x.sum c.times-last.result c.loop-x.ratio c.loop-x.x c.loop-x.invariant.climb c.loop-x.invariant.ratio c.times-last.ensures in
    let e : EndsAt g.row.F c.args.mean c.args.excess c.loop-x.x c.in-Some.rest =
    late_end g.row.F c.args.mean c.args.excess c.loop-x.x c.max-bound.result c.hi-top.result c.in-Some.rest b (c.hi-top.ensures.end ∙ ap (λ (z : Ends). z.hi) w)
    (le_trans (subst (λ z. 63 ≤ z) (sym c.requires.start) (end_from_63 g.row.F c.args.mean c.args.excess)) c.loop-x.auto.x) c.in-Some.ensures.bounded c.in-Some.ensures.rest c.in-Some.ensures.small in
    let m =
    climb_raised g.row.F c.args.mean c.args.excess c.loop-x.last c.loop-x.sum c.times-last.result c.loop-x.ratio c.loop-x.x c.loop-x.invariant.climb c.loop-x.invariant.ratio c.times-last.ensures t c.loop-x-test.true c.hi-top.ensures.valid.most_scale
    c.in-Some.rest e c.add-sum.result c.hi-in-Some.result (c.add-sum.ensures.ends ∙ ap (ends_add c.loop-x.sum) c.open.ensures) c.hi-in-Some.ensures.end in
    record { fits = lt_trans m (lit< tt) }

pub of_ends-requires : goal.of_ends-requires
of_ends-requires g c =
    let t = upto_8 (2 ^ g.row.F) c.most_weight-most.result c.hi-top.result c.times-last.result.hi c.most_weight-most.ensures c.hi-top.ensures.end c.if-top-most.false in
    let b : c.max-bound.result ≡ ratio_bound g.row.F c.args.mean c.args.excess c.loop-x.x =
    bound_is g.row.F c.args.mean c.args.excess c.loop-x.x c.max-bound.result c.hi.result c.far-far.result c.take-ratio-in-loop-x.result
    c.hi.ensures.end c.take-ratio-in-loop-x.ensures.ends c.far-far.ensures c.max-bound.ensures in
    let w = climb_weight g.row.F c.args.mean c.args.excess c.loop-x.last c.loop-x.sum c.times-last.result c.loop-x.ratio c.loop-x.x c.loop-x.invariant.climb c.loop-x.invariant.ratio c.times-last.ensures in
    let e : EndsAt g.row.F c.args.mean c.args.excess c.loop-x.x c.in-Some.rest =
    late_end g.row.F c.args.mean c.args.excess c.loop-x.x c.max-bound.result c.hi-top.result c.in-Some.rest b (c.hi-top.ensures.end ∙ ap (λ (z : Ends). z.hi) w)
    (le_trans (subst (λ z. 63 ≤ z) (sym c.requires.start) (end_from_63 g.row.F c.args.mean c.args.excess)) c.loop-x.auto.x) c.in-Some.ensures.bounded c.in-Some.ensures.rest c.in-Some.ensures.small in
    let m =
    climb_raised g.row.F c.args.mean c.args.excess c.loop-x.last c.loop-x.sum c.times-last.result c.loop-x.ratio c.loop-x.x c.loop-x.invariant.climb c.loop-x.invariant.ratio c.times-last.ensures t c.loop-x-test.true c.hi-top.ensures.valid.most_scale
    c.in-Some.rest e c.add-sum.result c.hi-in-Some.result (c.add-sum.ensures.ends ∙ ap (ends_add c.loop-x.sum) c.open.ensures) c.hi-in-Some.ensures.end in
    let v = c.lo.ensures.valid in
    (lit< tt, ((v.least_scale, v.most_scale), (raised_ordered c.lo.result c.hi-in-Some.result c.add-sum.result.lo c.add-sum.result.hi c.in-Some.rest c.lo.ensures.end c.hi-in-Some.ensures.end v.ordered, m)))

pub returns-in-Some-clause-known : goal.returns-in-Some-clause-known
returns-in-Some-clause-known g c =
    let b : c.max-bound.result ≡ ratio_bound g.row.F c.args.mean c.args.excess c.loop-x.x =
    bound_is g.row.F c.args.mean c.args.excess c.loop-x.x c.max-bound.result c.hi.result c.far-far.result c.take-ratio-in-loop-x.result
    c.hi.ensures.end c.take-ratio-in-loop-x.ensures.ends c.far-far.ensures c.max-bound.ensures in
    let w = climb_weight g.row.F c.args.mean c.args.excess c.loop-x.last c.loop-x.sum c.times-last.result c.loop-x.ratio c.loop-x.x c.loop-x.invariant.climb c.loop-x.invariant.ratio c.times-last.ensures in
    let e : EndsAt g.row.F c.args.mean c.args.excess c.loop-x.x c.in-Some.rest =
    late_end g.row.F c.args.mean c.args.excess c.loop-x.x c.max-bound.result c.hi-top.result c.in-Some.rest b (c.hi-top.ensures.end ∙ ap (λ (z : Ends). z.hi) w)
    (le_trans (subst (λ z. 63 ≤ z) (sym c.requires.start) (end_from_63 g.row.F c.args.mean c.args.excess)) c.loop-x.auto.x) c.in-Some.ensures.bounded c.in-Some.ensures.rest c.in-Some.ensures.small in
    let k : c.loop-x.x + 1 ≡ last_index g.row.F c.args.mean c.args.excess + 1 =
    ap (λ z. z + 1) (sym (climb_last g.row.F c.args.mean c.args.excess c.loop-x.last c.loop-x.sum c.times-last.result c.loop-x.ratio c.loop-x.x c.loop-x.invariant.climb
    c.loop-x.invariant.ratio c.times-last.ensures (up_to_last c.loop-x.x c.loop-x-test.true) c.in-Some.rest e)) in
    record {
      first = subst (λ z. Begins (weight_ends g.row.F c.args.mean c.args.excess) c.args.wanted z c.hold.new.list.items) k
          (c.in_ok-hold.ensures (weight_ends g.row.F c.args.mean c.args.excess) c.loop-x.x c.loop-x.invariant.first w);
      sum_is = climb_done g.row.F c.args.mean c.args.excess c.loop-x.last c.loop-x.sum c.times-last.result c.loop-x.ratio c.loop-x.x c.loop-x.invariant.climb
          c.loop-x.invariant.ratio c.times-last.ensures (upto_8 (2 ^ g.row.F) c.most_weight-most.result c.hi-top.result c.times-last.result.hi c.most_weight-most.ensures c.hi-top.ensures.end c.if-top-most.false) (up_to_last c.loop-x.x c.loop-x-test.true)
          c.in-Some.rest e c.add-sum.result c.of_ends.result (c.add-sum.ensures.ends ∙ ap (ends_add c.loop-x.sum) c.open.ensures)
          (c.of_ends.ensures ∙ ap₂ (λ y z. record { lo = y; hi = z + c.in-Some.rest }) c.lo.ensures.end c.hi-in-Some.ensures.end);
    }

pub loop-x-preserved : goal.loop-x-preserved
loop-x-preserved g c =
    let b : c.max-bound.result ≡ ratio_bound g.row.F c.args.mean c.args.excess c.loop-x.x =
    bound_is g.row.F c.args.mean c.args.excess c.loop-x.x c.max-bound.result c.hi.result c.far-far.result c.take-ratio-in-loop-x.result
    c.hi.ensures.end c.take-ratio-in-loop-x.ensures.ends c.far-far.ensures c.max-bound.ensures in
    let w = climb_weight g.row.F c.args.mean c.args.excess c.loop-x.last c.loop-x.sum c.times-last.result c.loop-x.ratio c.loop-x.x c.loop-x.invariant.climb c.loop-x.invariant.ratio c.times-last.ensures in
    record {
      climb = climb_next g.row.F c.args.mean c.args.excess c.loop-x.last c.loop-x.sum c.times-last.result c.loop-x.ratio c.loop-x.x c.loop-x.invariant.climb
          c.loop-x.invariant.ratio c.times-last.ensures (upto_8 (2 ^ g.row.F) c.most_weight-most.result c.hi-top.result c.times-last.result.hi c.most_weight-most.ensures c.hi-top.ensures.end c.if-top-most.false)
          c.add-sum.result (c.add-sum.ensures.ends ∙ ap (ends_add c.loop-x.sum) c.open.ensures)
          (late_on g.row.F c.args.mean c.args.excess c.loop-x.x c.max-bound.result c.hi-top.result b (c.hi-top.ensures.end ∙ ap (λ (z : Ends). z.hi) w)
          (up_to_last c.loop-x.x c.loop-x-test.true) c.in_default.ensures.goes_on);
      first = c.in_ok-hold.ensures (weight_ends g.row.F c.args.mean c.args.excess) c.loop-x.x c.loop-x.invariant.first w;
      ratio = c.take-ratio-in-loop-x.ensures.ends;
      ratio_top = c.take-ratio-in-loop-x.ensures.top;
      ratios = c.take-ratio-in-loop-x.ensures.next;
    }

pub returns-clause-wide : goal.returns-clause-wide
returns-clause-wide g c =
    climb_unended g.row.F c.args.mean c.args.excess c.loop-x.last c.loop-x.sum c.loop-x.x c.loop-x.invariant.climb c.requires.depth c.loop-x-test.false
