use Rattle.std.proofs.Common.{ℕ, ◌+◌, ◌*◌, ◌^◌, ◌<◌, ◌≤◌, ◌∙◌, length, sym, ap, subst, arith, le_trans, lit<, rules, mul-le-mul_right}
use Rattle.fixed_interval.specs.Ends.{Ends, InScale}
use Rattle.fixed_interval.proofs.Public.{unit_most}
use Rattle.series_bounds.specs.Profile.{pivot_at, ends_sum}
use Rattle.series_bounds.specs.Walk.{ToPivot, SumsTo}
use Rattle.series_bounds.proofs.Beginnings.{sums_low, low_long, low_tops, one_to_pivot, one_sums}
use Rattle.series_bounds.proofs.walk.lows.Goals as goal

one_more : (p : ℕ) → p ≤ 256 → p + 1 ≤ 257
one_more p l = omega arith

low_short : (o h : ℕ) → h ≤ 257 * (8 * o) → o ≤ 2 ^ 52 → h < 2 ^ 64
low_short o h l q = omega arith

pub sum_of-requires : goal.sum_of-requires
sum_of-requires g c =
    let s : InScale g.row.F = search rules in
    let h : ToPivot g.row.F c.args.mean c.args.excess c.down.new.list.items = c.in_ok-narrow.ensures.known c.if-not-narrow.false in
    let q : pivot_at g.row.F c.args.mean c.args.excess ≤ 256 = subst (λ z. z ≤ 256) c.requires.place c.requires.depth in
    (lit< tt, (lit< tt, (s, rw c.as_slice.ensures.value (low_long g.row.F c.args.mean c.args.excess c.down.new.list.items h q, λ k d l. low_tops g.row.F c.args.mean c.args.excess c.down.new.list.items h k d l))))

pub of-requires : goal.of-requires
of-requires g c =
    let s : InScale g.row.F = search rules in
    let h : ToPivot g.row.F c.args.mean c.args.excess c.down.new.list.items = c.in_ok-narrow.ensures.known c.if-not-narrow.false in
    let t : c.sum_of.result.hi ≤ length c.down.new.list.items * (8 * 2 ^ g.row.F) =
    subst (λ z. c.sum_of.result.hi ≤ length z * (8 * 2 ^ g.row.F)) c.as_slice.ensures.value c.sum_of.ensures.most in
    let sums : SumsTo g.row.F c.args.mean c.args.excess c.sum_of.result (c.args.pivot + 1) =
    sums_low g.row.F c.args.mean c.args.excess c.sum_of.result c.args.pivot c.down.new.list.items c.requires.place h
    (c.sum_of.ensures.ends ∙ ap ends_sum c.as_slice.ensures.value) t in
    let most : (c.args.pivot + 1) * (8 * 2 ^ g.row.F) ≤ 257 * (8 * 2 ^ g.row.F) = mul-le-mul_right (8 * 2 ^ g.row.F) (one_more c.args.pivot c.requires.depth) in
    (lit< tt, (lit< tt, low_short (2 ^ g.row.F) c.sum_of.result.hi (le_trans sums.most most) (unit_most g.row.F s.1)))

pub returns-clause-sums : goal.returns-clause-sums
returns-clause-sums g c =
    let h : ToPivot g.row.F c.args.mean c.args.excess c.down.new.list.items = c.in_ok-narrow.ensures.known c.if-not-narrow.false in
    let t : c.sum_of.result.hi ≤ length c.down.new.list.items * (8 * 2 ^ g.row.F) =
    subst (λ z. c.sum_of.result.hi ≤ length z * (8 * 2 ^ g.row.F)) c.as_slice.ensures.value c.sum_of.ensures.most in
    let sums : SumsTo g.row.F c.args.mean c.args.excess c.sum_of.result (c.args.pivot + 1) =
    sums_low g.row.F c.args.mean c.args.excess c.sum_of.result c.args.pivot c.down.new.list.items c.requires.place h
    (c.sum_of.ensures.ends ∙ ap ends_sum c.as_slice.ensures.value) t in
    subst (λ (z : Ends). SumsTo g.row.F c.args.mean c.args.excess z (c.args.pivot + 1)) (sym c.of.ensures) sums

pub returns-then-pivot-eq0-clause-known : goal.returns-then-pivot-eq0-clause-known
returns-then-pivot-eq0-clause-known g c =
    rw (c.in_ok-push.ensures.items, c.requires.empty)
    (one_to_pivot g.row.F c.args.mean c.args.excess c.one-one.result (omega (arith, c.requires.place, c.if-pivot-eq0.true)) c.one-one.ensures)

pub returns-then-pivot-eq0-clause-sums : goal.returns-then-pivot-eq0-clause-sums
returns-then-pivot-eq0-clause-sums g c =
    one_sums g.row.F c.args.mean c.args.excess c.one-one.result c.args.pivot c.requires.place c.if-pivot-eq0.true c.one-one.ensures
