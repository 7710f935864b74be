use Rattle.std.proofs.Common.{◌+◌, ◌≤◌, sym, subst, lit<}
use Rattle.std.proofs.lemmas.Option.{IfSome_then}
use Rattle.std.proofs.lemmas.Result.{IfOk-weaker}
use Rattle.fixed_interval.specs.Ends.{Ends}
use Rattle.series_bounds.specs.Profile.{weight_ends}
use Rattle.series_bounds.specs.Walk.{ToPivot, SumsTo}
use Rattle.series_bounds.proofs.Unlisted.{sum_least}
use Rattle.series_bounds.proofs.Beginnings.{begins_all, low_listed}
use Rattle.series_bounds.proofs.walk.weigh.Goals as goal

pub risen-requires : goal.risen-requires
risen-requires g c =
    let h : ToPivot g.row.F c.args.mean c.args.excess c.lows.new.list.items = rw c.in-Some.is at c.in_ok-low.ensures.known in
    let low : SumsTo g.row.F c.args.mean c.args.excess c.in-Some.low (c.pivot_of-pivot.result + 1) = rw c.in-Some.is at c.in_ok-low.ensures.sums in
    let first = begins_all (weight_ends g.row.F c.args.mean c.args.excess) c.args.wanted (c.pivot_of-pivot.result + 1) c.lows.new.list.items
    (low_listed g.row.F c.args.mean c.args.excess c.pivot_of-pivot.result c.lows.new.list.items c.pivot_of-pivot.ensures.place h) in
    (lit< tt, (lit< tt, (c.requires.positive, (c.requires.mean_top, (c.requires.excess_top, (c.is_near.ensures c.if-is_near.true, (c.pivot_of-pivot.ensures.most, (c.pivot_of-pivot.ensures.place, (first, low)))))))))

pub risen_plain-requires : goal.risen_plain-requires
risen_plain-requires g c =
    let h : ToPivot g.row.F c.args.mean c.args.excess c.lows.new.list.items = rw c.in-Some.is at c.in_ok-low.ensures.known in
    let sums : SumsTo g.row.F c.args.mean c.args.excess c.in-Some.low (c.pivot_of-pivot.result + 1) = rw c.in-Some.is at c.in_ok-low.ensures.sums in
    let low = subst (λ (z : Ends). SumsTo g.row.F c.args.mean c.args.excess z (c.pivot_of-pivot.result + 1)) (sym c.open.ensures) sums in
    let first = low_listed g.row.F c.args.mean c.args.excess c.pivot_of-pivot.result c.lows.new.list.items c.pivot_of-pivot.ensures.place h in
    (lit< tt, (lit< tt, (c.requires.mean_top, (c.requires.excess_top, (c.pivot_of-pivot.ensures.most, (c.pivot_of-pivot.ensures.place, (first, low)))))))

pub returns-then-is_near-clause-least : goal.returns-then-is_near-clause-least
returns-then-is_near-clause-least g c =
    IfOk-weaker c.risen.result _ _ (λ found h. IfSome_then found h
    (λ sum k. sum_least g.row.F c.args.mean c.args.excess sum (subst (λ z. z ≤ 256) c.pivot_of-pivot.ensures.place c.pivot_of-pivot.ensures.most) k.sum_is)) c.risen.ensures.known

pub returns-else-is_near-clause-known : goal.returns-else-is_near-clause-known
returns-else-is_near-clause-known g c =
    IfOk-weaker c.risen_plain.result _ _ (λ found h. IfSome_then found h (λ sum k. k c.args.wanted)) c.risen_plain.ensures.known

pub returns-else-is_near-clause-least : goal.returns-else-is_near-clause-least
returns-else-is_near-clause-least g c =
    IfOk-weaker c.risen_plain.result _ _ (λ found h. IfSome_then found h
    (λ sum k. sum_least g.row.F c.args.mean c.args.excess sum (subst (λ z. z ≤ 256) c.pivot_of-pivot.ensures.place c.pivot_of-pivot.ensures.most) (k 0).sum_is)) c.risen_plain.ensures.known
