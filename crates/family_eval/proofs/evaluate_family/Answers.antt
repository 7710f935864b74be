use Rattle.std.proofs.Common.{ap, ◌∙◌, lit<, flat_map}
use Rattle.family_items.specs.Profile.{part_items}
use Rattle.family_items.proofs.Public.{by_ids, depot_line_item, shop_of}
use Rattle.family_eval.proofs.evaluate_family.Goals as goal

pub all_shop_items-requires : goal.all_shop_items-requires
all_shop_items-requires g c =
    let ids = c.shop_units-shops.ensures in (
      lit< tt,
      (
        c.requires.scale,
        λ k d h. record {
          line = c.args.line.0;
          is_shop = shop_of c.args.inputs.now.case c.args.line.0 c.shop_units-shops.result.now c.invariant.ensures.valid.valid c.requires.line ids k d h;
        },
      ),
    )

pub depot_line_at-requires : goal.depot_line_at-requires
depot_line_at-requires g c =
    let ids = c.shop_units-shops.ensures in
    (lit< tt, (c.requires.scale, (c.requires.line, (ids, c.as_slice.ensures.value ∙ c.in_ok-items.ensures))))

pub family_from-requires : goal.family_from-requires
family_from-requires g c =
    let ids = c.shop_units-shops.ensures in
    let x = c.args.inputs.now in (
      lit< tt,
      (
        lit< tt,
        (
          c.requires.scale,
          (
            c.requires.line,
            (
              c.in_ok-depot.ensures ∙ depot_line_item g.row.F x.case x.stocks.list c.args.line.0 c.requires.line,
              c.as_slice-2.ensures.value ∙ c.in_ok-items.ensures ∙ by_ids g.row.F x.case x.stocks.list c.shop_units-shops.result.now
                  ∙ ap (flat_map (part_items g.row.F x.case x.stocks.list)) ids,
            ),
          ),
        ),
      ),
    )
