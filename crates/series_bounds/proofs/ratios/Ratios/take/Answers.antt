use Rattle.std.proofs.Common.{◌-◌, ◌^◌, ◌*◌, ◌+◌, ◌/◌, ◌≡◌, ◌≤◌, ◌∙◌, ap, arith, lit<, rules, pow_pos, mul-le-mul_right}
use Rattle.std.specs.Int.{div_ceil}
use Rattle.fixed_interval.specs.Ends.{Ends, InScale, IsInterval}
use Rattle.quotients.proofs.Public.{floor_twice}
use Rattle.series_bounds.proofs.Ranges.{ratio_near}
use Rattle.series_bounds.proofs.Carried.{whole_room, step_room, raised_room, raised_step_room, raised_over, wholes_ordered, ends_are, next_parts, next_raised}
use Rattle.series_bounds.proofs.ratios.Ratios.take.Goals as goal

pub over-ratio-requires : goal.over-ratio-requires
over-ratio-requires g c =
    let s : InScale g.row.F = search rules in
    let v : IsInterval g.row.F c.args.mean = search rules in
    let w : IsInterval g.row.F c.args.excess = search rules in
    let a : c.args.excess.lo * (c.args.x - 1) ≤ c.args.excess.hi * (c.args.x - 1) = mul-le-mul_right (c.args.x - 1) w.ordered in
    let b : (c.args.mean.lo + c.args.excess.lo * (c.args.x - 1)) * 2 ^ g.row.F ≤ (c.args.mean.hi + c.args.excess.hi * (c.args.x - 1)) * 2 ^ g.row.F = mul-le-mul_right (2 ^ g.row.F) (omega (arith, a, v.ordered)) in
    let o = wholes_ordered _ _ (1 * 2 ^ g.row.F + c.args.excess.lo) (1 * 2 ^ g.row.F + c.args.excess.hi) c.args.x c.args.self.now.low c.args.self.now.high b c.requires.from (omega (arith, pow_pos g.row.F)) (omega (arith, w.ordered)) c.requires.at.low c.requires.at.high in
    (lit< tt, (s, (o, c.requires.from)))

pub plus-self-requires-clause-whole_room : goal.plus-self-requires-clause-whole_room
plus-self-requires-clause-whole_room g c =
    let s : InScale g.row.F = search rules in
    let v : IsInterval g.row.F c.args.mean = search rules in
    let w : IsInterval g.row.F c.args.excess = search rules in
    whole_room g.row.F c.args.mean.lo c.args.excess.lo c.args.x (1 * 2 ^ g.row.F + c.args.excess.hi) c.args.self.now.low s.1 (omega (arith, v.ordered, c.requires.mean_top)) (omega arith) (omega (arith, w.ordered)) c.requires.depth c.requires.at.low

pub plus-self-requires-clause-step_room : goal.plus-self-requires-clause-step_room
plus-self-requires-clause-step_room g c =
    let s : InScale g.row.F = search rules in
    let w : IsInterval g.row.F c.args.excess = search rules in
    step_room g.row.F c.args.excess.lo (1 * 2 ^ g.row.F + c.args.excess.hi) c.args.self.now.low_step s.1 (omega (arith, pow_pos g.row.F)) (omega (arith, w.ordered)) c.requires.at.low_step

pub plus-self-requires-2-clause-whole_room : goal.plus-self-requires-2-clause-whole_room
plus-self-requires-2-clause-whole_room g c =
    let s : InScale g.row.F = search rules in
    raised_room g.row.F c.args.mean.hi c.args.excess.hi c.args.x (1 * 2 ^ g.row.F + c.args.excess.lo) c.args.self.now.high s.1 c.requires.mean_top (omega arith) (omega (arith, c.requires.near.close)) c.requires.depth c.requires.at.high

pub plus-self-requires-2-clause-step_room : goal.plus-self-requires-2-clause-step_room
plus-self-requires-2-clause-step_room g c =
    let s : InScale g.row.F = search rules in
    raised_step_room g.row.F c.args.excess.hi (1 * 2 ^ g.row.F + c.args.excess.lo) c.args.self.now.high_step s.1 (omega (arith, pow_pos g.row.F)) (omega (arith, c.requires.near.close)) c.requires.at.high_step

pub returns-clause-next : goal.returns-clause-next
returns-clause-next g c =
    let h : c.number.result ≡ 1 * 2 ^ g.row.F + c.args.excess.hi = c.number.ensures.number ∙ c.requires.at.by_low in
    let l : c.number-2.result ≡ 1 * 2 ^ g.row.F + c.args.excess.lo = c.number-2.ensures.number ∙ c.requires.at.by_high in
    record {
      low = next_parts c.args.mean.lo c.args.excess.lo c.args.x (2 ^ g.row.F) c.number.result (1 * 2 ^ g.row.F + c.args.excess.hi) c.plus-self.result c.requires.from h
          (c.plus-self.ensures _ _ (rw h c.requires.at.low) (rw h c.requires.at.low_step));
      high = next_raised c.args.mean.hi c.args.excess.hi c.args.x (2 ^ g.row.F) c.number-2.result (1 * 2 ^ g.row.F + c.args.excess.lo) c.plus-self-2.result c.requires.from (omega (arith, pow_pos g.row.F)) l
          (c.plus-self-2.ensures _ _ (rw l c.requires.at.high) (rw l c.requires.at.high_step));
      low_step = c.requires.at.low_step;
      high_step = c.requires.at.high_step;
      by_low = c.requires.at.by_low;
      by_high = c.requires.at.by_high;
    }

pub returns-clause-ends : goal.returns-clause-ends
returns-clause-ends g c =
    ends_are g.row.F c.args.mean c.args.excess c.args.x (c.args.self.now.low.whole / c.args.x) (c.args.self.now.high.whole / c.args.x) c.over-ratio.result c.over-ratio.ensures
    (floor_twice _ _ c.args.x c.args.self.now.low c.requires.at.low)
    (raised_over _ _ c.args.x c.args.self.now.high c.requires.from (omega (arith, pow_pos g.row.F)) c.requires.at.high)

pub returns-clause-top : goal.returns-clause-top
returns-clause-top g c =
    let e : c.args.self.now.high.whole / c.args.x ≡ div_ceil ((c.args.mean.hi + c.args.excess.hi * (c.args.x - 1)) * 2 ^ g.row.F) ((1 * 2 ^ g.row.F + c.args.excess.lo) * c.args.x) =
    raised_over _ _ c.args.x c.args.self.now.high c.requires.from (omega (arith, pow_pos g.row.F)) c.requires.at.high in
    let hi = ap (λ (z : Ends). z.hi) c.over-ratio.ensures ∙ e in
    rw hi (ratio_near (2 ^ g.row.F) c.args.mean.hi c.args.excess.hi c.args.excess.lo c.args.x (pow_pos g.row.F) c.requires.from c.requires.mean_top (omega (arith, c.requires.near.close)))
