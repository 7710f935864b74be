use Rattle.std.proofs.Common.{◌≡◌, ◌<◌, length, get_or, drop, sym, ap, ◌∙◌, subst, arith, lit<}
use Rattle.fixed_interval.specs.Ends.{InScale}
use Rattle.family_numbers.specs.Numbers.{FamilyNumbers, base_line_place, own_part, shop_part}
use Rattle.family_points.proofs.Public.{at_long, stock_small}
use Rattle.family_rows.proofs.Public.{shop_stocks}
use Rattle.family_bases.proofs.lows.walk_at.Goals as goal

pub bounds-depot-0 : goal.bounds-depot-0
bounds-depot-0 c =
    let here = c.args.here.now in
    let some : 0 < length here.depot.now = omega (arith, at_long here.family.now c.requires.here.valid 0 here.depot.now (omega (arith, c.requires.here.site.1)) c.requires.here.depot) in
    some

pub shops_of-requires : goal.shops_of-requires
shops_of-requires c =
    let here = c.args.here.now in
    omega (arith, at_long here.family.now c.requires.here.valid 0 here.depot.now (omega (arith, c.requires.here.site.1)) c.requires.here.depot)

pub line_walk-requires : goal.line_walk-requires
line_walk-requires c =
    let x = c.args.here.now.family.now in
    let n = c.args.numbers.now in
    let j = c.args.here.now.site.0 in
    let valid = c.requires.here.valid in
    let some : 0 < length x.case.sites = omega (arith, c.requires.here.site.1) in
    let base = shop_stocks x valid j c.args.shops.now n c.requires.numbers c.requires.here.site.1 c.requires.shops in
    let inside : j < n.sites = subst (λ (n : FamilyNumbers 48). j < n.sites) (sym c.requires.numbers) c.requires.here.site.1 in
    let own : c.args.own.now ≡ own_part 48 n j (get_or c.args.here.now.depot.now 0 0) c.shops_of.result.now =
    c.requires.own ∙ ap (λ d. own_part 48 n j (get_or c.args.here.now.depot.now 0 0) d) (sym c.shops_of.ensures) in
    let part = c.requires.part ∙ ap (λ d. shop_part 48 n j d c.args.shops.now) (sym c.shops_of.ensures) in
    let scale : InScale 48 = (omega arith, omega arith) in (
      lit< tt,
      (
        lit< tt,
        (
          lit< tt,
          (
            lit< tt,
            (scale, (own, (stock_small x valid 0 0 c.args.here.now.depot.now some c.requires.here.depot (omega arith), (inside, (part, (base.count, base.small)))))),
          ),
        ),
      ),
    )

pub returns : goal.returns
returns c =
    let j = c.args.here.now.site.0 in
    let depot = c.args.here.now.depot.now in
    c.line_walk.ensures ∙ ap (λ d. base_line_place 48 c.args.numbers.now j (get_or depot 0 0) d c.args.shops.now 0) c.shops_of.ensures
    ∙ ap (λ (n : FamilyNumbers 48). base_line_place 48 n j (get_or depot 0 0) (drop 1 depot) c.args.shops.now 0) c.requires.numbers
