use Rattle.std.proofs.Common.{List, ◌≡◌, ◌∙◌, ◌<◌, ◌^◌, length, take, arith, lit<, sym, ap, ap₂, subst}
use Rattle.std.proofs.Math.Seq.{take-length}
use Rattle.std.proofs.lemmas.List.Elements.{All-get_or}
use Rattle.list_laws.proofs.Public.{ceil_most}
use Rattle.fixed_interval.specs.Ends.{Ends, In, ends_over}
use Rattle.availability.specs.declared.Weighted.{Weighted}
use Rattle.availability.specs.Profile.{weighted_sum, all_systems}
use Rattle.availability.specs.Exact.{weighted_mean, IsWeighted}
use Rattle.availability.proofs.Laws.{fleet_in, sum_room}
use Rattle.availability.proofs.fleet.Goals as goal

pub add-sum-requires : goal.add-sum-requires
add-sum-requires g c =
    let w = subst (IsWeighted g.row.F) (sym c.base-item.is)
    (All-get_or (IsWeighted g.row.F) c.args.bases.now c.loop-base.base-index c.base-item.result c.loop-base-test.true c.requires.weighted) in
    let e = ap (λ (z : Ends). z.hi) c.times.ensures.ends in
    let r = sum_room g.row.F c.loop-base.sum.hi c.loop-base.systems c.loop-base.base-index c.base-item.result.value.hi c.base-item.result.systems c.requires.scale.1
    c.loop-base.invariant.most c.loop-base.invariant.few (omega (arith, c.loop-base-test.true, c.requires.few)) w.value w.few_systems in
    (lit< tt, omega (arith, r, e))

pub returns-clause-encloses : goal.returns-clause-encloses
returns-clause-encloses g c n q a =
    let all : c.loop-base.base-index ≡ length c.args.bases.now = omega (arith, c.loop-base-test.false, c.loop-base.auto.base-index-end) in
    let s =
    subst (λ k. c.loop-base.sum ≡ weighted_sum g.row.F (take k c.args.bases.now)) all c.loop-base.invariant.sum
    ∙ ap (weighted_sum g.row.F) (take-length c.args.bases.now) in
    let t =
    subst (λ k. c.loop-base.systems ≡ all_systems (take k c.args.bases.now)) all c.loop-base.invariant.systems
    ∙ ap (λ (xs : List (Weighted g.row.F)). all_systems xs) (take-length c.args.bases.now) in
    let p : 0 < all_systems c.args.bases.now = omega (arith, sym t, all, c.loop-base.invariant.some, c.requires.some) in
    subst (λ (z : Ends). In g.row.F z (weighted_mean n q (length c.args.bases.now))) (sym (c.over.ensures.ends ∙ ap₂ ends_over s t))
    (fleet_in g.row.F c.args.bases.now n q p a)

pub returns-clause-most : goal.returns-clause-most
returns-clause-most g c =
    let p : 0 < c.loop-base.systems =
    omega (arith, c.loop-base-test.false, c.loop-base.auto.base-index-end, c.loop-base.invariant.some, c.requires.some) in
    let e = ap (λ (z : Ends). z.hi) c.over.ensures.ends in
    omega (arith, e, ceil_most c.loop-base.sum.hi c.loop-base.systems (2 ^ g.row.F) p c.loop-base.invariant.most)
