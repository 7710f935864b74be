use Rattle.std.proofs.Common.{ℕ, ◌+◌, ◌-◌, ◌^◌, ◌<◌, ◌≤◌, ◌∙◌, arith, ap, lit<}
use Rattle.series_bounds.specs.Profile.{pivot_at, weight_ends}
use Rattle.series_bounds.proofs.Unlisted.{above_8, early_wide, first_top, first_weight, upto_8, weight_over}
use Rattle.series_bounds.proofs.plain.weight_above.Goals as goal

at_most : (y x t : ℕ) → y < x + 1 → x ≤ t → y ≤ t
at_most y x t l h = omega arith

some_past : (a y : ℕ) → a + 1 ≤ y → 0 < y
some_past a y l = omega arith

far_enough : (y x : ℕ) → y < x + 1 → x ≤ 63 → y ≤ 1025
far_enough y x l h = omega arith

pub ratio-requires : goal.ratio-requires
ratio-requires g c =
    (lit< tt, (c.requires.mean_top, (c.requires.excess_top, (some_past c.from-y.result c.loop-y.y c.loop-y.auto.y, far_enough c.loop-y.y c.args.x c.loop-y-test.true c.requires.depth))))

pub times-term-requires : goal.times-term-requires
times-term-requires g c = (lit< tt, (c.loop-y.invariant.top, c.ratio.ensures.top))

pub loop-y-init : goal.loop-y-init
loop-y-init g c = record {
  weight = first_weight g.row.F c.args.mean c.args.excess c.exact-term.result c.args.pivot (c.from-y.result + 1 - 1) c.requires.place (omega (arith, c.from-y.ensures)) c.exact-term.ensures.ends;
  top = first_top g.row.F c.exact-term.result c.exact-term.ensures.ends;
}

pub returns-then-hi-most-clause-wide : goal.returns-then-hi-most-clause-wide
returns-then-hi-most-clause-wide g c =
    let p : pivot_at g.row.F c.args.mean c.args.excess < c.loop-y.y = omega (arith, c.requires.place, c.from-y.ensures, c.loop-y.auto.y) in
    let w = weight_over g.row.F c.args.mean c.args.excess c.loop-y.term c.times-term.result c.ratio.result c.loop-y.y p c.loop-y.invariant.weight c.ratio.ensures.ends c.times-term.ensures in
    early_wide g.row.F c.args.mean c.args.excess c.times-term.result c.loop-y.y (at_most c.loop-y.y c.args.x 63 c.loop-y-test.true c.requires.depth) w
    (above_8 (2 ^ g.row.F) c.most_weight-most.result c.hi.result c.times-term.result.hi c.most_weight-most.ensures c.hi.ensures.end c.if-hi-most.true)

pub loop-y-preserved : goal.loop-y-preserved
loop-y-preserved g c =
    let p : pivot_at g.row.F c.args.mean c.args.excess < c.loop-y.y = omega (arith, c.requires.place, c.from-y.ensures, c.loop-y.auto.y) in
    let w = weight_over g.row.F c.args.mean c.args.excess c.loop-y.term c.times-term.result c.ratio.result c.loop-y.y p c.loop-y.invariant.weight c.ratio.ensures.ends c.times-term.ensures in
    record {
      weight = w ∙ ap (weight_ends g.row.F c.args.mean c.args.excess) (omega arith);
      top = upto_8 (2 ^ g.row.F) c.most_weight-most.result c.hi.result c.times-term.result.hi c.most_weight-most.ensures c.hi.ensures.end c.if-hi-most.false;
    }
