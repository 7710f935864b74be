use Rattle.std.proofs.Common.{◌≡◌, ℕ, ◌+◌, ◌-◌, ◌*◌, ◌^◌, ◌<◌, ◌≤◌, ◌∙◌, sym, subst, arith, lit<}
use Rattle.fixed_interval.specs.Ends.{Ends}
use Rattle.series_bounds.specs.Profile.{pivot_at, least_end, last_index, weight_ends}
use Rattle.series_bounds.specs.Walk.{AtLeastEnd, Begins, Midway, SumsTo}
use Rattle.series_bounds.proofs.Walks.{least_from, end_most, last_start}
use Rattle.series_bounds.proofs.Unlisted.{at_least_end}
use Rattle.series_bounds.proofs.Beginnings.{begins_later}
use Rattle.series_bounds.proofs.walk.risen.Goals as goal

start_most : (f : ℕ) (m d : Ends) (x : ℕ) → x ≡ least_end f m d → pivot_at f m d ≤ 256 → x ≤ 1025
start_most f m d x e q = omega (arith, e, end_most f m d 1024 (omega (arith, q)) (omega arith))

before_is : (p x : ℕ) → p < x → x - 1 < x
before_is p x l = omega arith

from_last : (f : ℕ) (m d : Ends) (x : ℕ) → x ≡ least_end f m d → x ≤ last_index f m d + 1
from_last f m d x e = omega (arith, e, last_start f m d)

pub fill-requires : goal.fill-requires
fill-requires g c =
    let p : c.from.result ≡ pivot_at g.row.F c.args.mean c.args.excess = c.from.ensures ∙ c.requires.place in
    let e : c.max-start.result ≡ least_end g.row.F c.args.mean c.args.excess = least_from g.row.F c.args.mean c.args.excess c.from.result c.max-start.result p c.max-start.ensures in
    let h : Midway g.row.F c.args.mean c.args.excess c.in-Some.walked.sum c.in-Some.walked.last c.in-Some.walked.next = rw c.in-Some.is at c.in_ok-walked.ensures.known in
    let b : Begins (weight_ends g.row.F c.args.mean c.args.excess) c.args.wanted c.in-Some.walked.next c.rise.new.list.items = rw c.in-Some.is at c.in_ok-walked.ensures.first in
    (lit< tt, (lit< tt, (e, (subst (λ z. c.in-Some.walked.next ≤ z) (sym e) h.before_end, (b, λ x a l. h.same x a (subst (λ z. x < z) e l))))))

pub level_sum-low-requires : goal.level_sum-low-requires
level_sum-low-requires g c =
    let p : c.from.result ≡ pivot_at g.row.F c.args.mean c.args.excess = c.from.ensures ∙ c.requires.place in
    let e : c.max-start.result ≡ least_end g.row.F c.args.mean c.args.excess = least_from g.row.F c.args.mean c.args.excess c.from.result c.max-start.result p c.max-start.ensures in
    let h : Midway g.row.F c.args.mean c.args.excess c.in-Some.walked.sum c.in-Some.walked.last c.in-Some.walked.next = rw c.in-Some.is at c.in_ok-walked.ensures.known in
    let t : c.in-Some.walked.last.hi ≤ 8 * 2 ^ g.row.F =
    subst (λ (z : Ends). z.hi ≤ 8 * 2 ^ g.row.F) (sym h.last_is) (h.sums.tops (c.in-Some.walked.next - 1) (before_is (pivot_at g.row.F c.args.mean c.args.excess) c.in-Some.walked.next h.past)) in
    (lit< tt, (lit< tt, (e, (start_most g.row.F c.args.mean c.args.excess c.max-start.result e (subst (λ z. z ≤ 256) c.requires.place c.requires.depth), (subst (λ z. c.in-Some.walked.next ≤ z) (sym e) h.before_end, (t, (h.sums, λ x a l. h.same x a (subst (λ z. x < z) e l))))))))

pub closed_at_once-requires : goal.closed_at_once-requires
closed_at_once-requires g c =
    let p : c.from.result ≡ pivot_at g.row.F c.args.mean c.args.excess = c.from.ensures ∙ c.requires.place in
    let e : c.max-start.result ≡ least_end g.row.F c.args.mean c.args.excess = least_from g.row.F c.args.mean c.args.excess c.from.result c.max-start.result p c.max-start.ensures in
    let h : Midway g.row.F c.args.mean c.args.excess c.in-Some.walked.sum c.in-Some.walked.last c.in-Some.walked.next = rw c.in-Some.is at c.in_ok-walked.ensures.known in
    let a : AtLeastEnd g.row.F c.args.mean c.args.excess c.level_sum-low.result c.in-Some.walked.last =
    at_least_end g.row.F c.args.mean c.args.excess c.in-Some.walked.sum c.level_sum-low.result c.in-Some.walked.last c.in-Some.walked.next h
    (subst (λ z. SumsTo g.row.F c.args.mean c.args.excess c.level_sum-low.result z) e c.level_sum-low.ensures) in
    (lit< tt, (lit< tt, (c.requires.positive, (c.requires.mean_top, (c.requires.excess_top, (subst (λ z. z ≤ 256) c.requires.place c.requires.depth, (e, a)))))))

pub returns-in-Some-closed_at_once-clause-known : goal.returns-in-Some-closed_at_once-clause-known
returns-in-Some-closed_at_once-clause-known g c =
    let p : c.from.result ≡ pivot_at g.row.F c.args.mean c.args.excess = c.from.ensures ∙ c.requires.place in
    let e : c.max-start.result ≡ least_end g.row.F c.args.mean c.args.excess = least_from g.row.F c.args.mean c.args.excess c.from.result c.max-start.result p c.max-start.ensures in
    record {
      first = begins_later (weight_ends g.row.F c.args.mean c.args.excess) c.args.wanted c.max-start.result (last_index g.row.F c.args.mean c.args.excess + 1) c.fill.new.list.items
          c.in_ok-fill.ensures (omega (arith, c.if-len-wanted.true, c.len.ensures)) (from_last g.row.F c.args.mean c.args.excess c.max-start.result e);
      sum_is = c.in-Some-closed_at_once.ensures;
    }

pub close-requires : goal.close-requires
close-requires g c =
    let p : c.from.result ≡ pivot_at g.row.F c.args.mean c.args.excess = c.from.ensures ∙ c.requires.place in
    let e : c.max-start.result ≡ least_end g.row.F c.args.mean c.args.excess = least_from g.row.F c.args.mean c.args.excess c.from.result c.max-start.result p c.max-start.ensures in
    let h : Midway g.row.F c.args.mean c.args.excess c.in-Some.walked.sum c.in-Some.walked.last c.in-Some.walked.next = rw c.in-Some.is at c.in_ok-walked.ensures.known in
    let a : AtLeastEnd g.row.F c.args.mean c.args.excess c.level_sum-low.result c.in-Some.walked.last =
    at_least_end g.row.F c.args.mean c.args.excess c.in-Some.walked.sum c.level_sum-low.result c.in-Some.walked.last c.in-Some.walked.next h
    (subst (λ z. SumsTo g.row.F c.args.mean c.args.excess c.level_sum-low.result z) e c.level_sum-low.ensures) in
    (lit< tt, (lit< tt, (c.requires.mean_top, (c.requires.excess_top, (c.requires.near, (subst (λ z. z ≤ 256) c.requires.place c.requires.depth, (e, (a, c.in_ok-fill.ensures))))))))
