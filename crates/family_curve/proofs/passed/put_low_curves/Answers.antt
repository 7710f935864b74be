use Rattle.std.proofs.Common.{◌≡◌, ◌||◌, IsTrue, ℕ, ◌+◌, ◌-◌, ◌<◌, ◌≤◌, ◌∙◌, get_or, List, [], ◌∷◌, ◌++◌, length, set, sym, take, ap, subst, arith}
use Rattle.std.proofs.lemmas.List.{take_all, take_more_set}
use Rattle.std.proofs.Math.ListN.{length-set}
use Rattle.hull.specs.declared.point.Point.{Point}
use Rattle.fleet_model.specs.Laws.{IsBase}
use Rattle.family_points.specs.Separation.{base_points, depot_point}
use Rattle.family_points.specs.Inputs.{FamilyBox, vector_count}
use Rattle.sum_walk.specs.Sums.{sums_of_each}
use Rattle.family_rows.specs.Tabled.{box_numbers}
use Rattle.family_rows.proofs.Public.{tables_at}
use Rattle.family_points.proofs.Public.{base_read, bases_long, room_at}
use Rattle.family_curve.specs.Under.{LieBelow, LieUnder}
use Rattle.family_curve.proofs.Under.{below_more, nothing_shown, over, under_more, under_self}
use Rattle.family_curve.proofs.passed.put_low_curves.Goals as goal
use Rattle.family_curve.proofs.passed.put_low_curves.Goals.{then-strict, else-strict}

pub loop-j-init : goal.loop-j-init
loop-j-init g c =
    let x = c.args.sources.now.family.now in
    let first : List Point = depot_point x c.args.depot.now ∷ [] in
    record {
      under = under_self first;
      below = nothing_shown first first;
      count = c.requires.chains;
    }

pub index-base-requires : goal.index-base-requires
index-base-requires g c =
    omega (
      arith,
      bases_long c.args.sources.now.family.now c.args.sources.now.bases.items c.requires.sources.bases,
      c.args.sources.now.bases.ok.0,
      c.loop-j.auto.j,
      c.loop-j-test.true,
      c.sites-j-end.ensures.sites,
      c.from-place.ensures,
    )

pub of-here-requires : goal.of-here-requires
of-here-requires g c =
    let x = c.args.sources.now.family.now in
    let bases = c.args.sources.now.bases.items in
    let some : 0 < c.loop-j.j = omega (arith, c.loop-j.auto.j) in
    let most : c.loop-j.j < length x.case.sites = omega (arith, c.loop-j-test.true, c.sites-j-end.ensures.sites) in
    record {
      depot = c.requires.depot;
      site = (some, most);
      base = base_read x c.loop-j.j bases c.index-base.result.now c.requires.sources.bases some most
          (c.index-base.ensures ∙ ap (λ n. get_or bases (n - 1) c.index-base.result.now) c.from-place.ensures);
    }

pub index_mut-requires : goal.index_mut-requires
index_mut-requires g c =
    omega (
      arith,
      bases_long c.args.sources.now.family.now c.args.sources.now.bases.items c.requires.sources.bases,
      c.loop-j.invariant.count,
      c.loop-j.lows.chains.ok.0,
      c.loop-j.auto.j,
      c.loop-j-test.true,
      c.sites-j-end.ensures.sites,
      c.from-place.ensures,
    )

pub put_low_curve-requires-clause-room : goal.put_low_curve-requires-clause-room
put_low_curve-requires-clause-room g c =
    let x = c.args.sources.now.family.now in
    let here = c.of-here.result in
    let room : vector_count x c.loop-j.j ≤ 65000000 =
    omega (arith, c.requires.room, room_at x c.loop-j.j (omega (arith, c.loop-j.auto.j)) (omega (arith, c.loop-j-test.true, c.sites-j-end.ensures.sites))) in
    subst (λ (y : FamilyBox). vector_count y here.site.0 ≤ 65000000) (sym c.of-here.ensures.family)
    (subst (λ k. vector_count x k ≤ 65000000) (sym c.of-here.ensures.site) room)

pub put_low_curve-requires-clause-here : goal.put_low_curve-requires-clause-here
put_low_curve-requires-clause-here g c = c.of-here.ensures.is

pub put_low_curve-requires-clause-numbers : goal.put_low_curve-requires-clause-numbers
put_low_curve-requires-clause-numbers g c = c.requires.sources.numbers ∙ sym (ap box_numbers c.of-here.ensures.family)

pub put_low_curve-requires-clause-tables : goal.put_low_curve-requires-clause-tables
put_low_curve-requires-clause-tables g c = tables_at _ _ _ _ _ c.of-here.ensures.family c.of-here.ensures.depot c.requires.tables

pub overflow_sub-place : goal.overflow_sub-place
overflow_sub-place g c = omega (arith, c.from-place.ensures, c.loop-j.auto.j)

pub loop-j-preserved : goal.loop-j-preserved
loop-j-preserved g c =
    let x = c.args.sources.now.family.now in
    let d = c.args.depot.now in
    let j = c.loop-j.j in
    let ends = g.S.Score.ends in
    let here = c.of-here.result in
    let first : List Point = depot_point x d ∷ [] in
    let chain : List Point = c.put_low_curve.new.chain in
    let chains : List (List Point) = c.loop-j.lows.chains.items in
    let more = c.in_ok-strict_here.strict_here in
    let on : IsBase x.case j = (omega (arith, c.loop-j.auto.j), omega (arith, c.loop-j-test.true, c.sites-j-end.ensures.sites)) in
    let inside : j - 1 < length chains =
    omega (arith, on.0, on.1, c.loop-j.invariant.count, bases_long x c.args.sources.now.bases.items c.requires.sources.bases) in
    let next : j + 1 - 1 ≡ j - 1 + 1 = omega (arith, on.0) in
    let put : List (List Point) = set chains (c.from-place.result - 1) chain in
    let made : take (j + 1 - 1) put ≡ take (j - 1) chains ++ chain ∷ [] =
    ap (λ n. take n put) next ∙ ap (λ n. take (j - 1 + 1) (set chains (n - 1) chain)) c.from-place.ensures ∙ take_more_set chains (j - 1) chain inside in
    let points : base_points ends here.family.now here.depot.now here.site.0 ≡ base_points ends x d j =
    ap (λ (y : FamilyBox). base_points ends y here.depot.now here.site.0) c.of-here.ensures.family
    ∙ ap (λ (v : List ℕ). base_points ends x v here.site.0) c.of-here.ensures.depot
    ∙ ap (base_points ends x d) c.of-here.ensures.site in
    let under : LieUnder chain (base_points ends x d j) = subst (LieUnder chain) points c.in_ok-strict_here.ensures.under in
    let below : IsTrue more → LieBelow chain (base_points ends x d j) = λ is. subst (LieBelow chain) points (c.in_ok-strict_here.ensures.below is) in
    let is : c.if-strict.strict ≡ (c.loop-j.strict || more) = elim c.if-strict.branch [
      | then-strict w ↦ (let a = w.strict-is in let b = w.if-strict.true in cc)
      | else-strict w ↦ (let a = w.strict-is in let b = w.if-strict.false in cc)
    ] in
    record {
      under = under_more ends x d first j (take (j - 1) chains) (take (j + 1 - 1) put) chain on.0 c.loop-j.invariant.under under made;
      below = λ known. below_more ends x d first j (take (j - 1) chains) (take (j + 1 - 1) put) chain c.loop-j.strict more on.0 c.loop-j.invariant.under c.loop-j.invariant.below under below made
          (sym is ∙ known);
      count = simp length-set c.loop-j.invariant.count;
    }

pub returns-clause-below : goal.returns-clause-below
returns-clause-below g c =
    let x = c.args.sources.now.family.now in
    let first : List Point = depot_point x c.args.depot.now ∷ [] in
    let points : ℕ → List Point = over g.S.Score.ends x c.args.depot.now in
    let chains : List (List Point) = c.loop-j.lows.chains.items in
    let last : c.loop-j.j - 1 ≡ length x.case.sites - 1 =
    omega (arith, c.loop-j-test.false, c.loop-j.auto.j-end (omega (arith, c.sites-j-end.ensures.fewest)), c.sites-j-end.ensures.sites) in
    let all : take (c.loop-j.j - 1) chains ≡ chains =
    take_all (c.loop-j.j - 1) chains (omega (arith, c.loop-j.invariant.count, last, bases_long x c.args.sources.now.bases.items c.requires.sources.bases)) in
    λ is. subst (λ n. LieBelow (sums_of_each first chains) (points n)) last
    (subst (λ (ls : List (List Point)). LieBelow (sums_of_each first ls) (points (c.loop-j.j - 1))) all (c.loop-j.invariant.below is))

pub returns-clause-chains : goal.returns-clause-chains
returns-clause-chains g c = c.loop-j.invariant.count
