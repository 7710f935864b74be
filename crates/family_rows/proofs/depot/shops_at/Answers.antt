use Rattle.std.proofs.Common.{◌≡◌, ◌-◌, ◌<◌, ◌∙◌, drop, get_or, length, map, ap, sym, arith}
use Rattle.std.proofs.lemmas.List.{get_or-map, length-map}
use Rattle.list_laws.proofs.Public.{count_from, read_from}
use Rattle.family_rows.specs.Tabled.{parts_at}
use Rattle.family_rows.proofs.depot.shops_at.Goals as goal

pub bounds-bases-from : goal.bounds-bases-from
bounds-bases-from c =
    let here = c.args.here.now in
    let x = here.family.now in
    let lists = c.args.tables.now.shops.now.by_base.items in
    let few = count_from (parts_at x (drop 1 here.depot.now)) 1 (length x.case.sites - 1) (c.from.result - 1) (map (λ r. r.items) lists)
    c.requires.tables.shops (omega (arith, c.from.ensures, c.requires.here.site.0, c.requires.here.site.1)) in
    omega (arith, few, length-map lists (λ r. r.items), ap length c.as_slice-bases.ensures.value)

pub returns : goal.returns
returns c =
    let here = c.args.here.now in
    let x = here.family.now in
    let lists = c.args.tables.now.shops.now.by_base.items in
    let found = c.index-bases-from.result in
    let i = c.from.result - 1 in
    let inside : i < length x.case.sites - 1 = omega (arith, c.from.ensures, c.requires.here.site.0, c.requires.here.site.1) in
    let few = count_from (parts_at x (drop 1 here.depot.now)) 1 (length x.case.sites - 1) i (map (λ r. r.items) lists) c.requires.tables.shops inside in
    let at : found.items ≡ get_or (map (λ r. r.items) lists) i found.items =
    ap (λ r. r.items) (c.index-bases-from.is ∙ ap (λ l. get_or l i found) c.as_slice-bases.ensures.value)
    ∙ sym (get_or-map (λ r. r.items) lists i found found.items (omega (arith, few, length-map lists (λ r. r.items)))) in
    c.as_slice.ensures.value
    ∙ read_from (parts_at x (drop 1 here.depot.now)) 1 (length x.case.sites - 1) i here.site.0 (map (λ r. r.items) lists) found.items c.requires.tables.shops inside
    (omega (arith, c.from.ensures, c.requires.here.site.0)) at
