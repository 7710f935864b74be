use Rattle.family_rows.specs.Tabled.{box_numbers}
use Rattle.std.proofs.Common.{◌≡◌, ◌-◌, ◌∙◌, List, length, ap, subst, arith, sym}
use Rattle.std.specs.List.{range_with_len}
use Rattle.family_points.specs.Points.{HasUpper}
use Rattle.family_points.specs.Separation.{base_points, points_over}
use Rattle.hull.specs.declared.point.Point.{Point}
use Rattle.family_rows.proofs.Public.{tables_at}
use Rattle.family_floors.proofs.Uppers.{upper_added, upper_begins}
use Rattle.family_bases.proofs.Public.{moved}
use Rattle.family_floors.proofs.upper.upper_at_depot.Goals as goal

pub loop-j-init : goal.loop-j-init
loop-j-init g c = record { upper = upper_begins c.args.sources.now.family.now c.args.depot.now; most = omega arith }

pub loop-j-preserved : goal.loop-j-preserved
loop-j-preserved g c =
    let x = c.args.sources.now.family.now in
    let d = c.args.depot.now in
    let j = c.loop-j.j in
    let ends = g.S.Score.ends in
    let here = c.base_of-here.result in
    let hi = c.in_ok-upper.field-0 in
    let base : HasUpper (base_points ends x d j) hi =
    moved (λ (ps : List Point). HasUpper ps hi) ends here.family.now x here.depot.now d here.site.0 j c.base_of-here.ensures.family c.base_of-here.ensures.depot c.base_of-here.ensures.site
    c.in_ok-upper.ensures.upper in
    record {
      upper = upper_added x ends d j c.loop-j.upper hi (omega (arith, c.loop-j.auto.j)) c.loop-j.invariant.upper base;
      most = omega (arith, c.loop-j.invariant.most, c.in_ok-upper.ensures.most, c.loop-j.auto.j);
    }

pub returns-clause-upper : goal.returns-clause-upper
returns-clause-upper g c =
    let x = c.args.sources.now.family.now in
    let d = c.args.depot.now in
    let last : c.loop-j.j - 1 ≡ length x.case.sites - 1 =
    omega (arith, c.loop-j-test.false, c.loop-j.auto.j-end (omega (arith, c.sites-j-end.ensures.fewest)), c.sites-j-end.ensures.sites) in
    subst (λ n. HasUpper (points_over g.S.Score.ends x d (range_with_len 1 n)) c.loop-j.upper) last c.loop-j.invariant.upper

pub upper_at_base-requires-clause-here : goal.upper_at_base-requires-clause-here
upper_at_base-requires-clause-here g c = c.base_of-here.ensures.is

pub upper_at_base-requires-clause-numbers : goal.upper_at_base-requires-clause-numbers
upper_at_base-requires-clause-numbers g c = c.requires.sources.numbers ∙ sym (ap box_numbers c.base_of-here.ensures.family)

pub upper_at_base-requires-clause-tables : goal.upper_at_base-requires-clause-tables
upper_at_base-requires-clause-tables g c = tables_at _ _ _ _ _ c.base_of-here.ensures.family c.base_of-here.ensures.depot c.requires.tables

pub overflow_add-upper : goal.overflow_add-upper
overflow_add-upper g c = omega (arith, c.loop-j.invariant.most, c.in_ok-upper.ensures.most, c.loop-j-test.true, c.sites-j-end.ensures.most)

pub base_of-here-requires-clause-sources : goal.base_of-here-requires-clause-sources
base_of-here-requires-clause-sources g c = c.requires.sources

pub base_of-here-requires-clause-depot : goal.base_of-here-requires-clause-depot
base_of-here-requires-clause-depot g c = c.requires.depot

pub base_of-here-requires-clause-base : goal.base_of-here-requires-clause-base
base_of-here-requires-clause-base g c = (omega (arith, c.loop-j.auto.j), omega (arith, c.loop-j-test.true, c.sites-j-end.ensures.sites))
