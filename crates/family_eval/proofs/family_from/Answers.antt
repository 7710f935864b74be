use Rattle.std.proofs.Common.{ap, ◌∙◌, arith, lit<, flat_map, sym}
use Rattle.family_items.specs.Profile.{part_items}
use Rattle.family_items.proofs.Public.{by_ids, depot_line_item, family_is, row_length, row_small, total_is}
use Rattle.family_eval.proofs.family_from.Goals as goal

pub line_items-requires : goal.line_items-requires
line_items-requires g c =
    let x = c.args.inputs.now in
    let ids = c.shop_units-shops.ensures in (
      lit< tt,
      (
        c.requires.scale,
        (
          c.requires.line,
          (
            c.requires.depot ∙ sym (depot_line_item g.row.F x.case x.stocks.list c.args.line.0 c.requires.line),
            (
              ids,
              c.requires.shops
                  ∙ sym (by_ids g.row.F x.case x.stocks.list c.shop_units-shops.result.now ∙ ap (flat_map (part_items g.row.F x.case x.stocks.list)) ids),
            ),
          ),
        ),
      ),
    )

pub total_of-total-requires : goal.total_of-total-requires
total_of-total-requires g c =
    let x = c.args.inputs.now in
    let n = row_length g.row.F x.case x.stocks.list c.args.line.0 c.in_ok-items.items.items c.as_slice.result.now c.as_slice.ensures.value c.in_ok-items.ensures in
    let valid = c.invariant.ensures.valid in (
      lit< tt,
      (
        lit< tt,
        (
          c.requires.scale,
          (
            c.weight.ensures.most,
            (
              omega (arith, n, valid.valid.frame.fewest_sites),
              (
                omega (arith, n, valid.valid.frame.most_sites),
                row_small g.row.F x.case x.stocks.list c.args.line.0 c.in_ok-items.items.items c.as_slice.result.now c.requires.scale.0 valid
                    c.requires.line.is_part c.as_slice.ensures.value c.in_ok-items.ensures,
              ),
            ),
          ),
        ),
      ),
    )

pub returns : goal.returns
returns g c =
    let x = c.args.inputs.now in
    family_is g.row.F x.case x.stocks c.args.line.0 c.in_ok-items.items.items c.args.shop_items.now c.extend_from_slice.new.self.items c.of.result
    c.total_of-total.result c.in_ok-items.ensures c.requires.shops c.in_ok-extend_from_slice.ensures.items c.of.ensures
    (total_is g.row.F x.case x.stocks.list c.args.line.0 c.weight.result c.in_ok-items.items.items c.as_slice.result.now c.total_of-total.result
    c.as_slice.ensures.value c.in_ok-items.ensures c.weight.ensures.weight c.total_of-total.ensures)
