use Rattle.std.proofs.Common.{◌≡◌, ℕ, ◌<◌, List, length, get_or, sym, ap, ap₂, ◌∙◌, subst, arith, lit<}
use Rattle.family_numbers.specs.Numbers.{FamilyNumbers, depot_line_table, own_part}
use Rattle.family_points.proofs.Public.{at_long, stock_small}
use Rattle.family_rows.proofs.depot.own_at.Goals as goal

pub bounds-depot-0 : goal.bounds-depot-0
bounds-depot-0 c =
    let valid = c.requires.here.valid in
    let some : 0 < length c.args.here.now.depot.now = omega (arith, at_long c.args.here.now.family.now valid 0 c.args.here.now.depot.now (omega (arith, c.requires.here.site.1)) c.requires.here.depot) in
    some

pub shops_of-requires : goal.shops_of-requires
shops_of-requires c =
    let valid = c.requires.here.valid in
    omega (arith, at_long c.args.here.now.family.now valid 0 c.args.here.now.depot.now (omega (arith, c.requires.here.site.1)) c.requires.here.depot)

pub own_part-requires : goal.own_part-requires
own_part-requires c =
    let x = c.args.here.now.family.now in
    let n = c.args.numbers.now in
    let j = c.args.here.now.site.0 in
    let valid = c.requires.here.valid in
    let some : 0 < length x.case.sites = omega (arith, c.requires.here.site.1) in
    let inside : j < n.sites = subst (λ (n : FamilyNumbers 48). j < n.sites) (sym c.requires.numbers) c.requires.here.site.1 in
    let line : c.args.tables.now.line ≡ depot_line_table 48 n c.shops_of.result.now =
    c.requires.tables.line ∙ ap₂ (λ (n : FamilyNumbers 48) (d : List ℕ). depot_line_table 48 n d) (sym c.requires.numbers) (sym c.shops_of.ensures) in
    (lit< tt, (lit< tt, (lit< tt, (line, (stock_small x valid 0 0 c.args.here.now.depot.now some c.requires.here.depot (omega arith), inside)))))

pub returns : goal.returns
returns c =
    c.own_part.ensures
    ∙ ap (λ d. own_part 48 c.args.numbers.now c.args.here.now.site.0 (get_or c.args.here.now.depot.now 0 0) d) c.shops_of.ensures
