use Rattle.std.proofs.Common.{◌≡◌, ℕ, ◌-◌, ◌<◌, ◌*◌, ◌∙◌, suc, ap, arith, length}
use Rattle.list_laws.proofs.Public.{count_from, read_from}
use Rattle.family_numbers.specs.Numbers.{base_shop_table, nth_stock}
use Rattle.family_numbers.proofs.BaseTables.{bases_long, read_shop, shops_are, shops_long, within_of}
use Rattle.family_numbers.proofs.base_shops.table_of.Goals as goal

pub bounds-bases-from : goal.bounds-bases-from
bounds-bases-from g c =
    let have = c.requires.tables in
    omega (
      arith,
      bases_long g.row.F c.args.numbers.now have.low have.high c.args.site.0 c.as_slice-bases.result.now (c.as_slice-bases.ensures ∙ have.are.tables) c.requires.base
          c.requires.site,
      c.from.ensures,
    )

pub bounds-shops-shop : goal.bounds-shops-shop
bounds-shops-shop g c =
    let have = c.requires.tables in
    let x = c.args.numbers.now in
    let k = c.args.site.0 in
    let shops = shops_are g.row.F x c.args.depot.now c.args.tables.now have k c.from.result c.as_slice-bases.result.now c.index-bases-from.result c.as_slice-shops.result.now
    c.as_slice-bases.ensures c.from.ensures c.requires.base c.requires.site c.index-bases-from.is c.as_slice-shops.ensures in
    shops_long g.row.F x have.low have.high k c.args.shop c.as_slice-shops.result.now shops c.requires.shop

pub offset_bounds-shops-shop : goal.offset_bounds-shops-shop
offset_bounds-shops-shop g c =
    let most : length c.as_slice-shops.result.now * 24 < 9223372036854775808 = c.as_slice-shops.type_inv.1 in
    omega (arith, bounds-shops-shop g c, most)

pub bounds-depot-shop : goal.bounds-depot-shop
bounds-depot-shop g c = (within_of c.args.numbers.now c.args.depot.now c.args.tables.now c.requires.tables c.args.shop c.requires.shop).inside.1

pub overflow_sub-depot : goal.overflow_sub-depot
overflow_sub-depot g c =
    let within = within_of c.args.numbers.now c.args.depot.now c.args.tables.now c.requires.tables c.args.shop c.requires.shop in
    let low : nth_stock c.as_slice.result.now c.args.shop ≡ nth_stock c.requires.tables.low c.args.shop =
    ap (λ v. nth_stock v c.args.shop) (c.as_slice.ensures ∙ c.requires.tables.are.least) in
    omega (arith, within.least, low)

pub bounds-stocks-from : goal.bounds-stocks-from
bounds-stocks-from g c =
    let have = c.requires.tables in
    let x = c.args.numbers.now in
    let k = c.args.site.0 in
    let i = c.args.shop in
    let a : ℕ = nth_stock have.low i in
    let within = within_of x c.args.depot.now c.args.tables.now have i c.requires.shop in
    let shops = shops_are g.row.F x c.args.depot.now c.args.tables.now have k c.from.result c.as_slice-bases.result.now c.index-bases-from.result c.as_slice-shops.result.now
    c.as_slice-bases.ensures c.from.ensures c.requires.base c.requires.site c.index-bases-from.is c.as_slice-shops.ensures in
    let stocks = c.as_slice-stocks.ensures ∙ read_shop g.row.F x have.low have.high k i c.as_slice-shops.result.now c.index-shops-shop.result shops c.requires.shop c.index-shops-shop.is in
    let low : nth_stock c.as_slice.result.now i ≡ a = ap (λ v. nth_stock v i) (c.as_slice.ensures ∙ have.are.least) in
    count_from (λ s. base_shop_table g.row.F x i k s) a (suc (nth_stock have.high i) - a) c.from-2.result c.as_slice-stocks.result.now stocks
    (omega (arith, c.from-2.ensures, low, within.place))

pub returns : goal.returns
returns g c =
    let have = c.requires.tables in
    let x = c.args.numbers.now in
    let k = c.args.site.0 in
    let i = c.args.shop in
    let a : ℕ = nth_stock have.low i in
    let within = within_of x c.args.depot.now c.args.tables.now have i c.requires.shop in
    let shops = shops_are g.row.F x c.args.depot.now c.args.tables.now have k c.from.result c.as_slice-bases.result.now c.index-bases-from.result c.as_slice-shops.result.now
    c.as_slice-bases.ensures c.from.ensures c.requires.base c.requires.site c.index-bases-from.is c.as_slice-shops.ensures in
    let stocks = c.as_slice-stocks.ensures ∙ read_shop g.row.F x have.low have.high k i c.as_slice-shops.result.now c.index-shops-shop.result shops c.requires.shop c.index-shops-shop.is in
    let low : nth_stock c.as_slice.result.now i ≡ a = ap (λ v. nth_stock v i) (c.as_slice.ensures ∙ have.are.least) in
    read_from (λ s. base_shop_table g.row.F x i k s) a (suc (nth_stock have.high i) - a) c.from-2.result (nth_stock c.args.depot.now i) c.as_slice-stocks.result.now
    c.index-stocks-from.result stocks (omega (arith, c.from-2.ensures, low, within.place)) (omega (arith, c.from-2.ensures, low, within.back)) c.index-stocks-from.is
