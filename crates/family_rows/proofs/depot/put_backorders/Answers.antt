use Rattle.std.proofs.Common.{◌≡◌, ◌<◌, ◌∷◌, length, get_or, drop, sym, ap, ◌∙◌, subst, arith, lit<}
use Rattle.fixed_interval.specs.Ends.{InScale}
use Rattle.family_numbers.specs.Numbers.{AreBaseBackorders, FamilyNumbers, own_part, shop_part}
use Rattle.family_points.specs.Inputs.{line_high}
use Rattle.family_points.proofs.Public.{stock_small, box_begins, joined_at, at_long}
use Rattle.family_rows.proofs.Tabled.{line_listed, shop_stocks, tabled}
use Rattle.family_rows.proofs.depot.put_backorders.Goals as goal

pub bounds-depot-0 : goal.bounds-depot-0
bounds-depot-0 c =
    let valid = c.requires.here.valid in
    let some : 0 < length c.args.here.now.depot.now = omega (arith, at_long c.args.here.now.family.now valid 0 c.args.here.now.depot.now (omega (arith, c.requires.here.site.1)) c.requires.here.depot) in
    some

pub shops_of-requires : goal.shops_of-requires
shops_of-requires c =
    let valid = c.requires.here.valid in
    omega (arith, at_long c.args.here.now.family.now valid 0 c.args.here.now.depot.now (omega (arith, c.requires.here.site.1)) c.requires.here.depot)

pub put_line_backorders-requires : goal.put_line_backorders-requires
put_line_backorders-requires c =
    let x = c.args.here.now.family.now in
    let n = c.args.numbers.now in
    let j = c.args.here.now.site.0 in
    let valid = c.requires.here.valid in
    let some : 0 < length x.case.sites = omega (arith, c.requires.here.site.1) in
    let base = shop_stocks x valid j c.args.shops.now n c.requires.numbers c.requires.here.site.1 c.requires.shops in
    let inside : j < n.sites = subst (λ (n : FamilyNumbers 48). j < n.sites) (sym c.requires.numbers) c.requires.here.site.1 in
    let own : c.args.own.now ≡ own_part 48 n j (get_or c.args.here.now.depot.now 0 0) c.shops_of.result.now =
    c.requires.own ∙ ap (λ d. own_part 48 n j (get_or c.args.here.now.depot.now 0 0) d) (sym c.shops_of.ensures) in
    let part = c.requires.part ∙ ap (λ d. shop_part 48 n j d c.args.shops.now) (sym c.shops_of.ensures) in
    let scale : InScale 48 = (omega arith, omega arith) in (
      lit< tt,
      (
        lit< tt,
        (lit< tt, (lit< tt, (scale, (own, (stock_small x valid 0 0 c.args.here.now.depot.now some c.requires.here.depot (omega arith), (inside, (part, (base.count, base.small)))))))),
      ),
    )

pub returns : goal.returns
returns c =
    let x = c.args.here.now.family.now in
    let j = c.args.here.now.site.0 in
    let depot = c.args.here.now.depot.now in
    let valid = c.requires.here.valid in
    let order = (box_begins x valid j c.requires.here.site.1).0 in
    let items = c.put_line_backorders.new.found.items in
    let is = subst (λ (n : FamilyNumbers 48). AreBaseBackorders 48 n j (get_or depot 0 0) (drop 1 depot) c.args.shops.now items) c.requires.numbers
    (subst (λ d. AreBaseBackorders 48 c.args.numbers.now j (get_or depot 0 0) d c.args.shops.now items) c.shops_of.ensures c.in_ok-put_line_backorders.ensures.ends) in
    record {
      long = line_listed x valid j depot (line_high x j ∷ c.args.shops.now) items c.requires.here.site
          (joined_at x valid j (line_high x j) c.args.shops.now c.requires.here.site.1 c.requires.shops order (omega arith)) is;
      small = c.in_ok-put_line_backorders.ensures.most;
      ends = λ s at. tabled x valid j s depot c.args.shops.now items c.requires.here.site c.requires.here.depot at is;
    }
