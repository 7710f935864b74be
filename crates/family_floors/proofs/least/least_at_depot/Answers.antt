use Rattle.family_rows.specs.Tabled.{box_numbers}
use Rattle.std.proofs.Common.{◌≡◌, ◌-◌, ◌*◌, ◌^◌, ◌≤◌, ◌∙◌, List, length, ap, subst, arith, sym}
use Rattle.std.specs.List.{range_with_len}
use Rattle.std.proofs.lemmas.Nat.{mul-le}
use Rattle.family_points.specs.Separation.{base_points, points_over}
use Rattle.hull.specs.declared.point.Point.{Point}
use Rattle.family_points.specs.Least.{IsLeast}
use Rattle.family_points.proofs.Public.{base_added, depot_begins}
use Rattle.family_rows.proofs.Public.{tables_at}
use Rattle.family_bases.proofs.Public.{moved}
use Rattle.family_floors.proofs.least.least_at_depot.Goals as goal

pub loop-j-init : goal.loop-j-init
loop-j-init g c =
    let x = c.args.sources.now.family.now in
    let most = c.cost.ensures.most in
    let few : c.from.result ≤ 1000000000000 = omega (arith, most, c.from.ensures) in
    let p : c.args.price.p * c.from.result ≤ 2 ^ 74 * 1000000000000 = mul-le c.args.price.p c.from.result (2 ^ 74) 1000000000000 c.requires.price few in
    record {
      least = depot_begins x c.args.depot.now c.args.price.p c.args.price.q c.from.result (c.from.ensures ∙ c.cost.ensures.cost);
      most = omega (arith, p);
    }

pub loop-j-preserved : goal.loop-j-preserved
loop-j-preserved g c =
    let x = c.args.sources.now.family.now in
    let d = c.args.depot.now in
    let j = c.loop-j.j in
    let p = c.args.price.p in
    let q = c.args.price.q in
    let ends = g.S.Score.ends in
    let here = c.base_of-here.result in
    let m = c.in_ok-least.field-0 in
    let base : IsLeast p q (base_points ends x d j) m =
    moved (λ (ps : List Point). IsLeast p q ps m) ends here.family.now x here.depot.now d here.site.0 j c.base_of-here.ensures.family c.base_of-here.ensures.depot c.base_of-here.ensures.site
    c.in_ok-least.ensures.least in
    record {
      least = base_added x ends d p q j c.loop-j.least m (omega (arith, c.loop-j.auto.j)) c.loop-j.invariant.least base;
      most = omega (arith, c.loop-j.invariant.most, c.in_ok-least.ensures.most);
    }

pub returns : goal.returns
returns g c =
    let x = c.args.sources.now.family.now in
    let d = c.args.depot.now in
    let ends = g.S.Score.ends in
    let last : c.loop-j.j - 1 ≡ length x.case.sites - 1 =
    omega (arith, c.loop-j-test.false, c.loop-j.auto.j-end (omega (arith, c.sites-j-end.ensures.fewest)), c.sites-j-end.ensures.sites) in
    subst (λ n. IsLeast c.args.price.p c.args.price.q (points_over ends x d (range_with_len 1 n)) c.loop-j.least) last c.loop-j.invariant.least

pub least_at_base-requires-clause-here : goal.least_at_base-requires-clause-here
least_at_base-requires-clause-here g c = c.base_of-here.ensures.is

pub least_at_base-requires-clause-numbers : goal.least_at_base-requires-clause-numbers
least_at_base-requires-clause-numbers g c = c.requires.sources.numbers ∙ sym (ap box_numbers c.base_of-here.ensures.family)

pub least_at_base-requires-clause-tables : goal.least_at_base-requires-clause-tables
least_at_base-requires-clause-tables g c = tables_at _ _ _ _ _ c.base_of-here.ensures.family c.base_of-here.ensures.depot c.requires.tables

pub cost-requires-clause-site : goal.cost-requires-clause-site
cost-requires-clause-site g c = let some = c.invariant.ensures.valid.valid.frame.fewest_sites in omega (arith, some)

pub cost-requires-clause-stocks : goal.cost-requires-clause-stocks
cost-requires-clause-stocks g c = c.requires.depot

pub overflow_mul-least : goal.overflow_mul-least
overflow_mul-least g c =
    let few : c.from.result ≤ 1000000000000 = omega (arith, c.cost.ensures.most, c.from.ensures) in
    omega (arith, mul-le c.args.price.p c.from.result (2 ^ 74) 1000000000000 c.requires.price few)

pub least_at_base-requires-clause-most_money : goal.least_at_base-requires-clause-most_money
least_at_base-requires-clause-most_money g c = c.requires.most_money

pub least_at_base-requires-clause-price : goal.least_at_base-requires-clause-price
least_at_base-requires-clause-price g c = c.requires.price

pub overflow_add-least : goal.overflow_add-least
overflow_add-least g c = omega (arith, c.loop-j.invariant.most, c.in_ok-least.ensures.most, c.loop-j-test.true, c.sites-j-end.ensures.most)

pub base_of-here-requires-clause-sources : goal.base_of-here-requires-clause-sources
base_of-here-requires-clause-sources g c = c.requires.sources

pub base_of-here-requires-clause-depot : goal.base_of-here-requires-clause-depot
base_of-here-requires-clause-depot g c = c.requires.depot

pub base_of-here-requires-clause-base : goal.base_of-here-requires-clause-base
base_of-here-requires-clause-base g c = (omega (arith, c.loop-j.auto.j), omega (arith, c.loop-j-test.true, c.sites-j-end.ensures.sites))
