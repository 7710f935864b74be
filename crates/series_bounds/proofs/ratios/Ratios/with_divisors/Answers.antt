use Rattle.std.proofs.Common.{◌-◌, ◌+◌, ◌^◌, subst, ◌*◌, ◌≡◌, ap, ◌∙◌, arith, lit<, rules}
use Rattle.fixed_interval.specs.Ends.{Ends, InScale, IsInterval, ends_add, ends_times}
use Rattle.fixed_interval.proofs.Public.{unit_most}
use Rattle.series_bounds.proofs.Ranges.{product_most, part_most}
use Rattle.quotients.specs.Parts.{AreParts}
use Rattle.series_bounds.proofs.Carried.{same_parts, whole_room}
use Rattle.series_bounds.proofs.ratios.Ratios.with_divisors.Goals as goal

pub times-requires : goal.times-requires
times-requires g c =
    let s : InScale g.row.F = search rules in
    (lit< tt, omega (arith, unit_most g.row.F s.1, product_most (2 ^ g.row.F) c.args.excess.hi (c.args.x - 1) c.requires.excess_top (omega (arith, c.requires.depth))))

pub add-above-requires : goal.add-above-requires
add-above-requires g c =
    let s : InScale g.row.F = search rules in
    let t : c.times.result.hi ≡ c.args.excess.hi * (c.args.x - 1) = ap (λ (z : Ends). z.hi) c.times.ensures.ends in
    (lit< tt, omega (arith, t, c.requires.mean_top, unit_most g.row.F s.1, product_most (2 ^ g.row.F) c.args.excess.hi (c.args.x - 1) c.requires.excess_top (omega (arith, c.requires.depth))))

pub parts_of-requires : goal.parts_of-requires
parts_of-requires g c =
    let s : InScale g.row.F = search rules in
    let v : IsInterval g.row.F c.args.mean = search rules in
    let w : IsInterval g.row.F c.args.excess = search rules in
    let a : c.add-above.result ≡ ends_add c.args.mean (ends_times c.args.excess (c.args.x - 1)) =
    c.add-above.ensures.ends ∙ ap (λ (z : Ends). ends_add c.args.mean z) c.times.ensures.ends in
    let al = ap (λ (z : Ends). z.lo) a in
    (lit< tt, (s, omega (arith, c.lo.ensures.end, al, part_most (2 ^ g.row.F) c.args.mean.lo c.args.excess.lo c.args.x c.args.by_low (omega (arith, v.ordered, c.requires.mean_top)) (omega (arith, c.requires.low)) (omega (arith, c.requires.low, w.ordered)) c.requires.depth)))

pub parts_of-requires-2 : goal.parts_of-requires-2
parts_of-requires-2 g c =
    let s : InScale g.row.F = search rules in
    let a : c.add-above.result ≡ ends_add c.args.mean (ends_times c.args.excess (c.args.x - 1)) =
    c.add-above.ensures.ends ∙ ap (λ (z : Ends). ends_add c.args.mean z) c.times.ensures.ends in
    let ah = ap (λ (z : Ends). z.hi) a in
    (lit< tt, (s, omega (arith, c.hi.ensures.end, ah, part_most (2 ^ g.row.F) c.args.mean.hi c.args.excess.hi c.args.x c.args.by_high c.requires.mean_top (omega (arith, c.requires.high)) (omega (arith, c.requires.high, c.requires.near.close)) c.requires.depth)))

pub raised-requires-clause-room : goal.raised-requires-clause-room
raised-requires-clause-room g c =
    let s : InScale g.row.F = search rules in
    let a : c.add-above.result ≡ ends_add c.args.mean (ends_times c.args.excess (c.args.x - 1)) =
    c.add-above.ensures.ends ∙ ap (λ (z : Ends). ends_add c.args.mean z) c.times.ensures.ends in
    let ah = ap (λ (z : Ends). z.hi) a in
    let p = same_parts _ _ _ _ c.parts_of-2.result (ap (λ z. z * 2 ^ g.row.F) (c.hi.ensures.end ∙ ah)) c.requires.high c.parts_of-2.ensures in
    whole_room g.row.F c.args.mean.hi c.args.excess.hi c.args.x (1 * 2 ^ g.row.F + c.args.excess.lo) c.parts_of-2.result s.1 c.requires.mean_top (omega arith) (omega (arith, c.requires.near.close)) c.requires.depth p

pub returns : goal.returns
returns g c =
    let n : c.number.result ≡ 1 * 2 ^ g.row.F + c.args.excess.lo = c.number.ensures.number ∙ c.requires.high in
    let a : c.add-above.result ≡ ends_add c.args.mean (ends_times c.args.excess (c.args.x - 1)) =
    c.add-above.ensures.ends ∙ ap (λ (z : Ends). ends_add c.args.mean z) c.times.ensures.ends in
    let al = ap (λ (z : Ends). z.lo) a in
    let ah = ap (λ (z : Ends). z.hi) a in
    record {
      low = same_parts _ _ _ _ c.parts_of.result (ap (λ z. z * 2 ^ g.row.F) (c.lo.ensures.end ∙ al)) c.requires.low c.parts_of.ensures;
      high = subst (λ z. AreParts ((c.args.mean.hi + c.args.excess.hi * (c.args.x - 1)) * 2 ^ g.row.F + c.args.x * z - 1) z c.raised.result) n
          (c.raised.ensures _ (rw n (same_parts _ _ _ _ c.parts_of-2.result (ap (λ z. z * 2 ^ g.row.F) (c.hi.ensures.end ∙ ah)) c.requires.high c.parts_of-2.ensures)));
      low_step = same_parts _ _ _ _ c.parts.result (ap (λ z. z * 2 ^ g.row.F) c.lo-2.ensures.end) c.requires.low c.parts.ensures;
      high_step = c.once_more.ensures _ _ (same_parts _ _ _ _ c.parts-2.result (ap (λ z. z * 2 ^ g.row.F) c.hi-2.ensures.end) c.requires.high c.parts-2.ensures);
      by_low = c.requires.low;
      by_high = c.requires.high;
    }
