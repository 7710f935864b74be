use Rattle.family_rows.specs.Tabled.{box_numbers}
use Rattle.std.proofs.Common.{◌≡◌, ℕ, ◌+◌, ◌-◌, ◌<◌, ◌≤◌, ◌∙◌, get_or, List, [], ◌∷◌, ◌++◌, length, set, sum_by, sym, take, ap, subst, arith}
use Rattle.std.specs.List.{range_with_len}
use Rattle.std.proofs.lemmas.List.{take_all, take_more_set}
use Rattle.std.proofs.Math.ListN.{length-set}
use Rattle.hull.specs.declared.point.Point.{Point}
use Rattle.hull.specs.Curves.{IsCurve, StandFor}
use Rattle.hull.proofs.Public.{stand_self}
use Rattle.fleet_model.specs.Laws.{IsBase}
use Rattle.family_points.specs.declared.order.Base.{Base}
use Rattle.family_points.specs.Separation.{base_points, depot_point, points_over}
use Rattle.family_points.specs.Inputs.{FamilyBox, vector_count}
use Rattle.family_points.specs.Choices.{AreBases}
use Rattle.sum_walk.specs.Sums.{sums_of_each}
use Rattle.family_rows.proofs.Public.{tables_at}
use Rattle.family_bases.proofs.Public.{base_more, lengths_one_more}
use Rattle.family_points.proofs.Public.{base_read, bases_long, over_count_more, room_at}
use Rattle.family_curve.proofs.joining.put_curves.Goals as goal

pub loop-j-init : goal.loop-j-init
loop-j-init g c =
    let x = c.args.sources.now.family.now in
    let first : List Point = depot_point x c.args.depot.now ∷ [] in
    record {
      stands = stand_self first;
      few = omega arith;
      count = c.requires.work;
    }

pub index-base-requires : goal.index-base-requires
index-base-requires g c =
    omega (
      arith,
      bases_long c.args.sources.now.family.now c.args.sources.now.bases.items c.requires.sources.bases,
      c.args.sources.now.bases.ok.0,
      c.loop-j.auto.j,
      c.loop-j-test.true,
      c.sites-j-end.ensures.sites,
      c.from-place.ensures,
    )

pub of-here-requires : goal.of-here-requires
of-here-requires g c =
    let x = c.args.sources.now.family.now in
    let bases = c.args.sources.now.bases.items in
    let some : 0 < c.loop-j.j = omega (arith, c.loop-j.auto.j) in
    let most : c.loop-j.j < length x.case.sites = omega (arith, c.loop-j-test.true, c.sites-j-end.ensures.sites) in
    record {
      depot = c.requires.depot;
      site = (some, most);
      base = base_read x c.loop-j.j bases c.index-base.result.now c.requires.sources.bases some most
          (c.index-base.ensures ∙ ap (λ n. get_or bases (n - 1) c.index-base.result.now) c.from-place.ensures);
    }

pub index_mut-requires : goal.index_mut-requires
index_mut-requires g c =
    omega (
      arith,
      bases_long c.args.sources.now.family.now c.args.sources.now.bases.items c.requires.sources.bases,
      c.loop-j.invariant.count,
      c.loop-j.work.chains.ok.0,
      c.loop-j.auto.j,
      c.loop-j-test.true,
      c.sites-j-end.ensures.sites,
      c.from-place.ensures,
    )

pub put_curve-requires-clause-room : goal.put_curve-requires-clause-room
put_curve-requires-clause-room g c =
    let x = c.args.sources.now.family.now in
    let here = c.of-here.result in
    let room : vector_count x c.loop-j.j ≤ 65000000 =
    omega (arith, c.requires.room, room_at x c.loop-j.j (omega (arith, c.loop-j.auto.j)) (omega (arith, c.loop-j-test.true, c.sites-j-end.ensures.sites))) in
    subst (λ (y : FamilyBox). vector_count y here.site.0 ≤ 65000000) (sym c.of-here.ensures.family)
    (subst (λ k. vector_count x k ≤ 65000000) (sym c.of-here.ensures.site) room)

pub loop-j-preserved : goal.loop-j-preserved
loop-j-preserved g c =
    let x = c.args.sources.now.family.now in
    let d = c.args.depot.now in
    let j = c.loop-j.j in
    let ends = g.S.Score.ends in
    let here = c.of-here.result in
    let chain : List Point = c.put_curve.new.chain in
    let chains : List (List Point) = c.loop-j.work.chains.items in
    let on : IsBase x.case j = (omega (arith, c.loop-j.auto.j), omega (arith, c.loop-j-test.true, c.sites-j-end.ensures.sites)) in
    let inside : j - 1 < length chains =
    omega (arith, on.0, on.1, c.loop-j.invariant.count, bases_long x c.args.sources.now.bases.items c.requires.sources.bases) in
    let next : j + 1 - 1 ≡ j - 1 + 1 = omega (arith, on.0) in
    let put : List (List Point) = set chains (c.from-place.result - 1) chain in
    let made : take (j + 1 - 1) put ≡ take (j - 1) chains ++ chain ∷ [] =
    ap (λ n. take n put) next ∙ ap (λ n. take (j - 1 + 1) (set chains (n - 1) chain)) c.from-place.ensures ∙ take_more_set chains (j - 1) chain inside in
    let curve : IsCurve (base_points ends x d j) chain =
    subst (λ k. IsCurve (base_points ends x d k) chain) c.of-here.ensures.site
    (subst (λ (v : List ℕ). IsCurve (base_points ends x v here.site.0) chain) c.of-here.ensures.depot
    (subst (λ (y : FamilyBox). IsCurve (base_points ends y here.depot.now here.site.0) chain) c.of-here.ensures.family c.in_ok-put_curve.ensures.curve)) in
    let few : length chain ≤ vector_count x j =
    subst (λ k. length chain ≤ vector_count x k) c.of-here.ensures.site
    (subst (λ (y : FamilyBox). length chain ≤ vector_count y here.site.0) c.of-here.ensures.family c.in_ok-put_curve.ensures.few) in
    record {
      stands = base_more x c.invariant.ensures.valid ends g.met.S.Score.leaves_room d c.requires.depot (depot_point x d) j (take (j - 1) chains) (take (j + 1 - 1) put) chain on
          c.loop-j.invariant.stands curve made;
      few = omega (arith, few, over_count_more x j c.loop-j.auto.j, c.loop-j.invariant.few, ap (sum_by length) made, lengths_one_more (take (j - 1) chains) chain);
      count = simp length-set c.loop-j.invariant.count;
    }

-- the curves that were made are those of all bases
made_all : (x : FamilyBox) (chains : List (List Point)) (bases : List Base) (j : ℕ) → AreBases x bases → length chains ≡ length bases → j - 1 ≡ length x.case.sites - 1
    → take (j - 1) chains ≡ chains
made_all x chains bases j are same last = take_all (j - 1) chains (omega (arith, same, last, bases_long x bases are))

pub returns-clause-stands : goal.returns-clause-stands
returns-clause-stands g c =
    let x = c.args.sources.now.family.now in
    let d = c.args.depot.now in
    let first : List Point = depot_point x d ∷ [] in
    let over : ℕ → List Point = λ n. points_over g.S.Score.ends x d (range_with_len 1 n) in
    let last : c.loop-j.j - 1 ≡ length x.case.sites - 1 =
    omega (arith, c.loop-j-test.false, c.loop-j.auto.j-end (omega (arith, c.sites-j-end.ensures.fewest)), c.sites-j-end.ensures.sites) in
    subst (λ n. StandFor (over n) (sums_of_each first c.loop-j.work.chains.items)) last
    (subst (λ (ls : List (List Point)). StandFor (over (c.loop-j.j - 1)) (sums_of_each first ls))
    (made_all x c.loop-j.work.chains.items c.args.sources.now.bases.items c.loop-j.j c.requires.sources.bases c.loop-j.invariant.count last) c.loop-j.invariant.stands)

pub returns-clause-few : goal.returns-clause-few
returns-clause-few g c =
    let x = c.args.sources.now.family.now in
    let chains : List (List Point) = c.loop-j.work.chains.items in
    let last : c.loop-j.j - 1 ≡ length x.case.sites - 1 =
    omega (arith, c.loop-j-test.false, c.loop-j.auto.j-end (omega (arith, c.sites-j-end.ensures.fewest)), c.sites-j-end.ensures.sites) in
    subst (λ n. 1 + sum_by length chains ≤ 1 + sum_by (vector_count x) (range_with_len 1 n)) last
    (subst (λ (ls : List (List Point)). 1 + sum_by length ls ≤ 1 + sum_by (vector_count x) (range_with_len 1 (c.loop-j.j - 1)))
    (made_all x chains c.args.sources.now.bases.items c.loop-j.j c.requires.sources.bases c.loop-j.invariant.count last) c.loop-j.invariant.few)

pub put_curve-requires-clause-here : goal.put_curve-requires-clause-here
put_curve-requires-clause-here g c = c.of-here.ensures.is

pub put_curve-requires-clause-numbers : goal.put_curve-requires-clause-numbers
put_curve-requires-clause-numbers g c = c.requires.sources.numbers ∙ sym (ap box_numbers c.of-here.ensures.family)

pub put_curve-requires-clause-tables : goal.put_curve-requires-clause-tables
put_curve-requires-clause-tables g c = tables_at _ _ _ _ _ c.of-here.ensures.family c.of-here.ensures.depot c.requires.tables

pub overflow_sub-place : goal.overflow_sub-place
overflow_sub-place g c = omega (arith, c.from-place.ensures, c.loop-j.auto.j)

pub returns-clause-work : goal.returns-clause-work
returns-clause-work g c = c.loop-j.invariant.count
