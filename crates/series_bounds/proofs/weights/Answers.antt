use Rattle.std.proofs.Common.{◌≡◌, ◌≤◌, suc, subst, rules}
use Rattle.fixed_interval.specs.Ends.{IsInterval}
use Rattle.series_bounds.specs.Profile.{last_index, listed, pivot_at, weight_ends}
use Rattle.series_bounds.specs.Walk.{AreWeighed}
use Rattle.series_bounds.proofs.Enclosure.{wide_answer, end_answer, end_encloses, end_sized}
use Rattle.series_bounds.proofs.Beginnings.{all_listed}
use Rattle.series_bounds.proofs.weights.Goals as goal

pub returns-in_default-clause-ends : goal.returns-in_default-clause-ends
returns-in_default-clause-ends g c = wide_answer g.row.F c.args.mean c.args.excess (rw c.in_default.is at c.in_ok-sum.ensures.wide)

pub returns-clause-ends : goal.returns-clause-ends
returns-clause-ends g c =
    let h : AreWeighed g.row.F c.args.mean c.args.excess 1025 c.weigh.new.list.items c.in-Some.sum = rw c.in-Some.is at c.in_ok-sum.ensures.known in
    let q : pivot_at g.row.F c.args.mean c.args.excess ≤ 256 = subst (λ z. z ≤ 256) c.pivot_of-pivot.ensures.place c.pivot_of-pivot.ensures.most in
    let l : c.weigh.new.list.items ≡ listed (weight_ends g.row.F c.args.mean c.args.excess) (suc (last_index g.row.F c.args.mean c.args.excess)) =
    all_listed g.row.F c.args.mean c.args.excess c.weigh.new.list.items c.in-Some.sum q h in
    rw c.of.ensures (end_answer g.row.F c.args.mean c.args.excess c.weigh.new.list.items c.pivot_of-pivot.result c.in-Some.sum l c.pivot_of-pivot.ensures.place h.sum_is)

pub returns-clause-encloses : goal.returns-clause-encloses
returns-clause-encloses g c =
    let h : AreWeighed g.row.F c.args.mean c.args.excess 1025 c.weigh.new.list.items c.in-Some.sum = rw c.in-Some.is at c.in_ok-sum.ensures.known in
    let q : pivot_at g.row.F c.args.mean c.args.excess ≤ 256 = subst (λ z. z ≤ 256) c.pivot_of-pivot.ensures.place c.pivot_of-pivot.ensures.most in
    let l : c.weigh.new.list.items ≡ listed (weight_ends g.row.F c.args.mean c.args.excess) (suc (last_index g.row.F c.args.mean c.args.excess)) =
    all_listed g.row.F c.args.mean c.args.excess c.weigh.new.list.items c.in-Some.sum q h in
    let v : IsInterval g.row.F c.args.mean = search rules in
    let w : IsInterval g.row.F c.args.excess = search rules in
    rw c.of.ensures (end_encloses g.row.F c.args.mean c.args.excess c.weigh.new.list.items c.pivot_of-pivot.result c.in-Some.sum l c.pivot_of-pivot.ensures.place h.sum_is
    c.requires.positive v.ordered w.ordered c.pivot_of-pivot.ensures.most)

pub returns-clause-sized : goal.returns-clause-sized
returns-clause-sized g c =
    let h : AreWeighed g.row.F c.args.mean c.args.excess 1025 c.weigh.new.list.items c.in-Some.sum = rw c.in-Some.is at c.in_ok-sum.ensures.known in
    let q : pivot_at g.row.F c.args.mean c.args.excess ≤ 256 = subst (λ z. z ≤ 256) c.pivot_of-pivot.ensures.place c.pivot_of-pivot.ensures.most in
    let l : c.weigh.new.list.items ≡ listed (weight_ends g.row.F c.args.mean c.args.excess) (suc (last_index g.row.F c.args.mean c.args.excess)) =
    all_listed g.row.F c.args.mean c.args.excess c.weigh.new.list.items c.in-Some.sum q h in
    rw c.of.ensures (end_sized g.row.F c.args.mean c.args.excess c.weigh.new.list.items c.pivot_of-pivot.result c.in-Some.sum l c.pivot_of-pivot.ensures.place h.sum_is c.pivot_of-pivot.ensures.most)
