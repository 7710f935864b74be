use Rattle.std.proofs.Common.{◌≡◌, ℕ, ◌+◌, ◌-◌, ◌*◌, ◌^◌, ◌<◌, ◌≤◌, ◌∙◌, arith, ap, lit<}
use Rattle.std.proofs.Math.Nat.{lt_of_lt_of_le}
use Rattle.series_bounds.specs.Profile.{back_ends}
use Rattle.series_bounds.proofs.Unlisted.{above_8, below_wide, first_top, first_weight, upto_8, weight_under}
use Rattle.series_bounds.proofs.plain.weight_below.Goals as goal

pub loop-step-init : goal.loop-step-init
loop-step-init g c = record {
  weight = first_weight g.row.F c.args.mean c.args.excess c.exact-term.result c.args.pivot (c.args.pivot - 0) c.requires.place (omega arith) c.exact-term.ensures.ends;
  top = first_top g.row.F c.exact-term.result c.exact-term.ensures.ends;
}

pub returns-then-hi-most-clause-wide : goal.returns-then-hi-most-clause-wide
returns-then-hi-most-clause-wide g c =
    let w = weight_under g.row.F c.args.mean c.args.excess c.loop-step.term c.times-term.result c.back.result c.args.pivot c.loop-step.step c.requires.place
    (lt_of_lt_of_le c.loop-step-test.true c.requires.places) c.loop-step.invariant.weight
    (c.back.ensures.ends ∙ ap (λ z. back_ends g.row.F c.args.mean c.args.excess (z - c.loop-step.step)) c.from.ensures) c.times-term.ensures in
    below_wide g.row.F c.args.mean c.args.excess c.times-term.result c.args.pivot (c.args.pivot - (c.loop-step.step + 1)) c.requires.place (omega arith) w
    (above_8 (2 ^ g.row.F) c.most_weight-most.result c.hi.result c.times-term.result.hi c.most_weight-most.ensures c.hi.ensures.end c.if-hi-most.true)

pub loop-step-preserved : goal.loop-step-preserved
loop-step-preserved g c = record {
  weight = weight_under g.row.F c.args.mean c.args.excess c.loop-step.term c.times-term.result c.back.result c.args.pivot c.loop-step.step c.requires.place
      (lt_of_lt_of_le c.loop-step-test.true c.requires.places) c.loop-step.invariant.weight
      (c.back.ensures.ends ∙ ap (λ z. back_ends g.row.F c.args.mean c.args.excess (z - c.loop-step.step)) c.from.ensures) c.times-term.ensures;
  top = upto_8 (2 ^ g.row.F) c.most_weight-most.result c.hi.result c.times-term.result.hi c.most_weight-most.ensures c.hi.ensures.end c.if-hi-most.false;
}

some_left : (c s p : ℕ) → c ≡ p → s < p → 0 < c - s
some_left c s p e l = omega arith

left_most : (c s p : ℕ) → c ≡ p → p ≤ 256 → c - s ≤ 256
left_most c s p e l = omega arith

some_below : (s p : ℕ) → s < p → 0 < p
some_below s p l = omega arith

wider : (o a : ℕ) → a ≤ 256 * o → a ≤ 2048 * o
wider o a l = omega arith

pub back-requires : goal.back-requires
back-requires g c =
    let l = lt_of_lt_of_le c.loop-step-test.true c.requires.places in (
      lit< tt,
      (
        c.requires.mean_top,
        (
          c.requires.above (some_below c.loop-step.step c.args.pivot l),
          (some_left c.from.result c.loop-step.step c.args.pivot c.from.ensures l, left_most c.from.result c.loop-step.step c.args.pivot c.from.ensures c.requires.depth),
        ),
      ),
    )

pub times-term-requires : goal.times-term-requires
times-term-requires g c = (lit< tt, (c.loop-step.invariant.top, wider (2 ^ g.row.F) c.back.result.hi c.back.ensures.top))
