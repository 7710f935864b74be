use Rattle.std.proofs.Common.{ap, arith, lit<, ◌∙◌}
use Rattle.family_numbers.specs.Numbers.{FamilyNumbers, depot_line_table}
use Rattle.family_rows.proofs.Tabled.{shop_stocks}
use Rattle.family_rows.proofs.depot.depot_tables.Goals as goal

pub depot_line-requires : goal.depot_line-requires
depot_line-requires c =
    let x = c.args.sources.now.family.now in
    let valid = c.invariant.ensures.valid in
    let some = valid.valid.frame.fewest_sites in
    let depot = shop_stocks x valid 0 c.args.depot.now c.args.sources.now.numbers c.requires.sources.numbers (omega (arith, some)) c.requires.depot in
    (lit< tt, (lit< tt, (c.as_slice-at_depot.ensures.value ∙ c.requires.sources.depot_shops, (depot.count, depot.small))))

pub returns : goal.returns
returns c = record {
  line = c.in_ok-line.ensures ∙ ap (λ (n : FamilyNumbers 48). depot_line_table 48 n c.args.depot.now) c.requires.sources.numbers;
  shops = c.requires.shops;
}
