use Rattle.std.proofs.Common.{◌≡◌, ◌+◌, ◌≤◌, ◌*◌, ◌^◌, ◌∙◌, ap, ap₂, arith, lit<, subst, sym}
use Rattle.std.proofs.Math.Nat.{lt_trans}
use Rattle.fixed_interval.specs.Ends.{Ends}
use Rattle.fixed_interval.proofs.Public.{unit_most}
use Rattle.series_bounds.specs.Profile.{last_index, listed, weight_ends}
use Rattle.series_bounds.proofs.Walks.{listed_more}
use Rattle.series_bounds.proofs.Unlisted.{above_8, climb_done, climb_last, climb_next, climb_raised, climb_room, climb_start, climb_top, climb_unended, climb_weight, climb_wide, raised_ordered, short_8, up_to_last, upto_8}
use Rattle.series_bounds.proofs.Beginnings.{begins_all}
use Rattle.series_bounds.proofs.plain.risen_plain.Goals as goal

pub loop-x-init : goal.loop-x-init
loop-x-init g c =
    rw c.from-x.ensures (record {
      climb = climb_start g.row.F c.args.mean c.args.excess c.exact-last.result c.args.low c.args.pivot c.requires.place c.requires.depth c.exact-last.ensures.ends c.requires.low;
      list = c.requires.begun;
    })

pub returns-then-hi-most-clause-wide : goal.returns-then-hi-most-clause-wide
returns-then-hi-most-clause-wide g c =
    climb_wide g.row.F c.args.mean c.args.excess c.loop-x.last c.loop-x.sum c.times-last.result c.ratio.result c.loop-x.x c.loop-x.invariant.climb
    c.ratio.ensures.ends c.times-last.ensures (subst (λ z. z ≤ 256) c.requires.place c.requires.depth) (up_to_last c.loop-x.x c.loop-x-test.true)
    (above_8 (2 ^ g.row.F) c.most_weight-most.result c.hi.result c.times-last.result.hi c.most_weight-most.ensures c.hi.ensures.end c.if-hi-most.true)

pub add-sum-requires : goal.add-sum-requires
add-sum-requires g c =
    let t = upto_8 (2 ^ g.row.F) c.most_weight-most.result c.hi.result c.times-last.result.hi c.most_weight-most.ensures c.hi.ensures.end c.if-hi-most.false in
    (lit< tt, climb_room g.row.F c.args.mean c.args.excess c.loop-x.last c.loop-x.sum c.times-last.result c.ratio.result c.loop-x.x c.loop-x.invariant.climb c.ratio.ensures.ends c.times-last.ensures t c.loop-x-test.true c.hi.ensures.valid.most_scale)

pub rest_past-requires : goal.rest_past-requires
rest_past-requires g c =
    let t = upto_8 (2 ^ g.row.F) c.most_weight-most.result c.hi.result c.times-last.result.hi c.most_weight-most.ensures c.hi.ensures.end c.if-hi-most.false in
    let w = climb_weight g.row.F c.args.mean c.args.excess c.loop-x.last c.loop-x.sum c.times-last.result c.ratio.result c.loop-x.x c.loop-x.invariant.climb c.ratio.ensures.ends c.times-last.ensures in (
      lit< tt,
      (
        c.requires.mean_top,
        (
          c.requires.excess_top,
          (
            up_to_last c.loop-x.x c.loop-x-test.true,
            (c.hi-in-loop-x.ensures.end ∙ ap (λ (z : Ends). z.hi) w, subst (λ z. z ≤ 8 * 2 ^ g.row.F) (sym c.hi-in-loop-x.ensures.end) t),
          ),
        ),
      ),
    )

pub overflow_add-hi : goal.overflow_add-hi
overflow_add-hi g c =
    let t = upto_8 (2 ^ g.row.F) c.most_weight-most.result c.hi.result c.times-last.result.hi c.most_weight-most.ensures c.hi.ensures.end c.if-hi-most.false in
    let m =
    climb_raised g.row.F c.args.mean c.args.excess c.loop-x.last c.loop-x.sum c.times-last.result c.ratio.result c.loop-x.x c.loop-x.invariant.climb c.ratio.ensures.ends c.times-last.ensures t c.loop-x-test.true c.hi.ensures.valid.most_scale
    c.in-Some.rest c.in-Some.ensures.ended c.add-sum.result c.hi-in-Some.result c.add-sum.ensures.ends c.hi-in-Some.ensures.end in
    record { fits = lt_trans m (lit< tt) }

pub of_ends-requires : goal.of_ends-requires
of_ends-requires g c =
    let t = upto_8 (2 ^ g.row.F) c.most_weight-most.result c.hi.result c.times-last.result.hi c.most_weight-most.ensures c.hi.ensures.end c.if-hi-most.false in
    let m =
    climb_raised g.row.F c.args.mean c.args.excess c.loop-x.last c.loop-x.sum c.times-last.result c.ratio.result c.loop-x.x c.loop-x.invariant.climb c.ratio.ensures.ends c.times-last.ensures t c.loop-x-test.true c.hi.ensures.valid.most_scale
    c.in-Some.rest c.in-Some.ensures.ended c.add-sum.result c.hi-in-Some.result c.add-sum.ensures.ends c.hi-in-Some.ensures.end in
    let v = c.lo.ensures.valid in
    (lit< tt, ((v.least_scale, v.most_scale), (raised_ordered c.lo.result c.hi-in-Some.result c.add-sum.result.lo c.add-sum.result.hi c.in-Some.rest c.lo.ensures.end c.hi-in-Some.ensures.end v.ordered, m)))

pub returns-in-Some-clause-known : goal.returns-in-Some-clause-known
returns-in-Some-clause-known g c wanted =
    let w = climb_weight g.row.F c.args.mean c.args.excess c.loop-x.last c.loop-x.sum c.times-last.result c.ratio.result c.loop-x.x c.loop-x.invariant.climb c.ratio.ensures.ends c.times-last.ensures in
    let l : c.push.new.self.items ≡ listed (weight_ends g.row.F c.args.mean c.args.excess) (c.loop-x.x + 1) =
    listed_more (weight_ends g.row.F c.args.mean c.args.excess) c.loop-x.x c.loop-x.list.items c.push.new.self.items c.of.result c.loop-x.invariant.list (c.of.ensures ∙ w) c.in_ok-push.ensures.items in
    let k : c.loop-x.x + 1 ≡ last_index g.row.F c.args.mean c.args.excess + 1 =
    ap (λ z. z + 1) (sym (climb_last g.row.F c.args.mean c.args.excess c.loop-x.last c.loop-x.sum c.times-last.result c.ratio.result c.loop-x.x c.loop-x.invariant.climb
    c.ratio.ensures.ends c.times-last.ensures (up_to_last c.loop-x.x c.loop-x-test.true) c.in-Some.rest c.in-Some.ensures.ended)) in
    record {
      first = begins_all (weight_ends g.row.F c.args.mean c.args.excess) wanted (last_index g.row.F c.args.mean c.args.excess + 1) c.push.new.self.items
          (subst (λ z. c.push.new.self.items ≡ listed (weight_ends g.row.F c.args.mean c.args.excess) z) k l);
      sum_is = climb_done g.row.F c.args.mean c.args.excess c.loop-x.last c.loop-x.sum c.times-last.result c.ratio.result c.loop-x.x c.loop-x.invariant.climb
          c.ratio.ensures.ends c.times-last.ensures (upto_8 (2 ^ g.row.F) c.most_weight-most.result c.hi.result c.times-last.result.hi c.most_weight-most.ensures c.hi.ensures.end c.if-hi-most.false) (up_to_last c.loop-x.x c.loop-x-test.true)
          c.in-Some.rest c.in-Some.ensures.ended c.add-sum.result c.of_ends.result c.add-sum.ensures.ends
          (c.of_ends.ensures ∙ ap₂ (λ y z. record { lo = y; hi = z + c.in-Some.rest }) c.lo.ensures.end c.hi-in-Some.ensures.end);
    }

pub loop-x-preserved : goal.loop-x-preserved
loop-x-preserved g c =
    let w = climb_weight g.row.F c.args.mean c.args.excess c.loop-x.last c.loop-x.sum c.times-last.result c.ratio.result c.loop-x.x c.loop-x.invariant.climb c.ratio.ensures.ends c.times-last.ensures in
    let l : c.push.new.self.items ≡ listed (weight_ends g.row.F c.args.mean c.args.excess) (c.loop-x.x + 1) =
    listed_more (weight_ends g.row.F c.args.mean c.args.excess) c.loop-x.x c.loop-x.list.items c.push.new.self.items c.of.result c.loop-x.invariant.list (c.of.ensures ∙ w) c.in_ok-push.ensures.items in
    record {
      climb = climb_next g.row.F c.args.mean c.args.excess c.loop-x.last c.loop-x.sum c.times-last.result c.ratio.result c.loop-x.x c.loop-x.invariant.climb
          c.ratio.ensures.ends c.times-last.ensures (upto_8 (2 ^ g.row.F) c.most_weight-most.result c.hi.result c.times-last.result.hi c.most_weight-most.ensures c.hi.ensures.end c.if-hi-most.false)
          c.add-sum.result c.add-sum.ensures.ends c.in_default.ensures.goes_on;
      list = l;
    }

pub of-requires : goal.of-requires
of-requires g c =
    let t = upto_8 (2 ^ g.row.F) c.most_weight-most.result c.hi.result c.times-last.result.hi c.most_weight-most.ensures c.hi.ensures.end c.if-hi-most.false in
    (lit< tt, (lit< tt, short_8 (2 ^ g.row.F) c.times-last.result.hi (unit_most g.row.F c.hi.ensures.valid.most_scale) t))

pub returns-clause-wide : goal.returns-clause-wide
returns-clause-wide g c =
    climb_unended g.row.F c.args.mean c.args.excess c.loop-x.last c.loop-x.sum c.loop-x.x c.loop-x.invariant.climb (subst (λ z. z ≤ 256) c.requires.place c.requires.depth) c.loop-x-test.false

pub times-last-requires : goal.times-last-requires
times-last-requires g c =
    (lit< tt, (climb_top g.row.F c.args.mean c.args.excess c.loop-x.last c.loop-x.sum c.loop-x.x c.loop-x.invariant.climb, c.ratio.ensures.top))

pub ratio-requires : goal.ratio-requires
ratio-requires g c =
    (lit< tt, (c.requires.mean_top, (c.requires.excess_top, (omega (arith, c.loop-x.auto.x), omega (arith, up_to_last c.loop-x.x c.loop-x-test.true)))))
