use Rattle.std.proofs.Common.{ℕ, max, ◌+◌, ◌≡◌, ◌≤◌, ◌*◌, ◌^◌, ◌∙◌, arith, subst, rules, lit<, le_trans, mul-le-mul_right}
use Rattle.std.proofs.Math.Nat.{le-max_left, le-max_right}
use Rattle.fixed_interval.specs.Ends.{InScale, IsInterval}
use Rattle.fixed_interval.proofs.Public.{unit_most}
use Rattle.series_bounds.specs.Profile.{pivot_at, least_end, weight_ends}
use Rattle.series_bounds.specs.Walk.{AtIndex, Begins}
use Rattle.series_bounds.proofs.Walks.{end_from_63, least_from}
use Rattle.series_bounds.proofs.Unlisted.{Climb, climb_start, climb_top, climb_weight, climb_wide, climb_next, climb_least, climb_stays, climb_at, early_on}
use Rattle.series_bounds.proofs.walk.rise.Goals as goal

pub loop-x-init : goal.loop-x-init
loop-x-init g c =
    let e : c.args.pivot + 1 ≡ c.from-first.result + 1 = omega (arith, c.from-first.ensures) in
    record {
      climb = subst (λ z. Climb g.row.F c.args.mean c.args.excess c.one-last.result c.args.low z) e
          (climb_start g.row.F c.args.mean c.args.excess c.one-last.result c.args.low c.args.pivot c.requires.place c.requires.depth c.one-last.ensures c.requires.low);
      first = subst (λ z. Begins (weight_ends g.row.F c.args.mean c.args.excess) c.args.wanted z c.args.list.now.items) e c.requires.begun;
      ratios = c.at-ratios.ensures;
      most = omega (arith, e, c.requires.place, le-max_left (pivot_at g.row.F c.args.mean c.args.excess + 1) 63);
    }

pub times-last-requires : goal.times-last-requires
times-last-requires g c =
    let t : c.loop-x.last.hi ≤ 8 * 2 ^ g.row.F =
    climb_top g.row.F c.args.mean c.args.excess c.loop-x.last c.loop-x.sum c.loop-x.x c.loop-x.invariant.climb in
    (lit< tt, (t, c.take.ensures.top))

pub returns-then-passes_8-clause-wide : goal.returns-then-passes_8-clause-wide
returns-then-passes_8-clause-wide g c =
    climb_wide g.row.F c.args.mean c.args.excess c.loop-x.last c.loop-x.sum c.times-last.result c.take.result c.loop-x.x c.loop-x.invariant.climb
    c.take.ensures.ends c.times-last.ensures (omega (arith, c.requires.place, c.requires.depth)) (omega (arith, c.loop-x-test.true))
    (c.passes_8.ensures.passes c.if-passes_8.true)

pub add-sum-requires : goal.add-sum-requires
add-sum-requires g c =
    let s : InScale g.row.F = search rules in
    let t : c.times-last.result.hi ≤ 8 * 2 ^ g.row.F = c.passes_8.ensures.below c.if-passes_8.false in
    let m : c.loop-x.sum.hi ≤ 63 * (8 * 2 ^ g.row.F) =
    le_trans c.loop-x.invariant.climb.sums.most (mul-le-mul_right (8 * 2 ^ g.row.F) (omega (arith, c.loop-x-test.true))) in
    (lit< tt, omega (arith, t, m, unit_most g.row.F s.1))

pub returns-then-stays-clause-known : goal.returns-then-stays-clause-known
returns-then-stays-clause-known g c =
    let v : IsInterval g.row.F c.args.mean = search rules in
    let n : Climb g.row.F c.args.mean c.args.excess c.times-last.result c.add-sum.result (c.loop-x.x + 1) =
    climb_next g.row.F c.args.mean c.args.excess c.loop-x.last c.loop-x.sum c.times-last.result c.take.result c.loop-x.x c.loop-x.invariant.climb
    c.take.ensures.ends c.times-last.ensures (c.passes_8.ensures.below c.if-passes_8.false)
    c.add-sum.result c.add-sum.ensures.ends (early_on g.row.F c.args.mean c.args.excess c.loop-x.x (omega (arith, c.loop-x-test.true))) in
    climb_stays g.row.F c.args.mean c.args.excess c.times-last.result c.add-sum.result (c.loop-x.x + 1) n (omega (arith, v.ordered, c.requires.positive))
    (omega (arith, c.loop-x-test.true, end_from_63 g.row.F c.args.mean c.args.excess)) (c.stays.ensures c.if-stays.true)

pub returns-then-stays-clause-first : goal.returns-then-stays-clause-first
returns-then-stays-clause-first g c =
    let w = climb_weight g.row.F c.args.mean c.args.excess c.loop-x.last c.loop-x.sum c.times-last.result c.take.result c.loop-x.x c.loop-x.invariant.climb
    c.take.ensures.ends c.times-last.ensures in
    c.in_ok-hold.ensures (weight_ends g.row.F c.args.mean c.args.excess) c.loop-x.x c.loop-x.invariant.first w

pub loop-x-preserved : goal.loop-x-preserved
loop-x-preserved g c =
    let w = climb_weight g.row.F c.args.mean c.args.excess c.loop-x.last c.loop-x.sum c.times-last.result c.take.result c.loop-x.x c.loop-x.invariant.climb
    c.take.ensures.ends c.times-last.ensures in
    record {
      climb = climb_next g.row.F c.args.mean c.args.excess c.loop-x.last c.loop-x.sum c.times-last.result c.take.result c.loop-x.x c.loop-x.invariant.climb
          c.take.ensures.ends c.times-last.ensures (c.passes_8.ensures.below c.if-passes_8.false)
          c.add-sum.result c.add-sum.ensures.ends (early_on g.row.F c.args.mean c.args.excess c.loop-x.x (omega (arith, c.loop-x-test.true)));
      first = c.in_ok-hold.ensures (weight_ends g.row.F c.args.mean c.args.excess) c.loop-x.x c.loop-x.invariant.first w;
      ratios = c.take.ensures.next;
      most = omega (arith, c.loop-x-test.true, le-max_right (pivot_at g.row.F c.args.mean c.args.excess + 1) 63);
    }

next_is : (c p x n : ℕ) → c ≡ p → c + 1 ≤ x → 63 ≤ x → x ≤ max (p + 1) 63 → n ≡ max (c + 1) 63 → x ≡ n
next_is c p x n e a b d h = grind (arith, e, a, b, d, h)

pub returns-clause-known : goal.returns-clause-known
returns-clause-known g c =
    let p : c.from-first.result ≡ pivot_at g.row.F c.args.mean c.args.excess = c.from-first.ensures ∙ c.requires.place in
    let n : c.max-next.result ≡ least_end g.row.F c.args.mean c.args.excess = least_from g.row.F c.args.mean c.args.excess c.from-first.result c.max-next.result p c.max-next.ensures in
    let x : c.loop-x.x ≡ c.max-next.result = next_is c.from-first.result (pivot_at g.row.F c.args.mean c.args.excess) c.loop-x.x c.max-next.result p c.loop-x.auto.x (omega (arith, c.loop-x-test.false)) c.loop-x.invariant.most c.max-next.ensures in
    rw (← x) (climb_least g.row.F c.args.mean c.args.excess c.loop-x.last c.loop-x.sum c.loop-x.x c.loop-x.invariant.climb (x ∙ n))

pub returns-clause-first : goal.returns-clause-first
returns-clause-first g c =
    let p : c.from-first.result ≡ pivot_at g.row.F c.args.mean c.args.excess = c.from-first.ensures ∙ c.requires.place in
    let x : c.loop-x.x ≡ c.max-next.result = next_is c.from-first.result (pivot_at g.row.F c.args.mean c.args.excess) c.loop-x.x c.max-next.result p c.loop-x.auto.x (omega (arith, c.loop-x-test.false)) c.loop-x.invariant.most c.max-next.ensures in
    rw (← x) c.loop-x.invariant.first

pub rise_on-requires : goal.rise_on-requires
rise_on-requires g c =
    let t = c.loop-x.invariant in
    let at : AtIndex g.row.F c.args.mean c.args.excess c.loop-x.sum c.loop-x.last c.loop-x.x =
    climb_at g.row.F c.args.mean c.args.excess c.loop-x.last c.loop-x.sum c.loop-x.x t.climb (omega (arith, c.loop-x-test.true)) in (
      lit< tt,
      (
        lit< tt,
        (
          lit< tt,
          (
            c.requires.positive,
            (
              c.requires.mean_top,
              (
                c.requires.excess_top,
                (
                  c.requires.near,
                  (omega (arith, c.requires.place, c.requires.depth), (omega (arith, c.loop-x-test.true), (at, t.ratios))),
                ),
              ),
            ),
          ),
        ),
      ),
    )
