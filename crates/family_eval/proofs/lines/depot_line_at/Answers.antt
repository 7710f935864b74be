use Rattle.std.proofs.Common.{◌∙◌, lit<}
use Rattle.std.proofs.lemmas.Result.{IfOk-weaker}
use Rattle.family_items.proofs.Public.{depot_feeds_small, depot_line_is, feeds_are, feeds_few, ids_few, shop_of}
use Rattle.family_eval.proofs.lines.depot_line_at.Goals as goal

pub depot_feeds-requires : goal.depot_feeds-requires
depot_feeds-requires g c =
    let valid = c.invariant.ensures.valid.valid in (
      lit< tt,
      (
        lit< tt,
        (
          c.requires.scale,
          (
            ids_few c.args.inputs.now.case c.args.line.0 c.args.shops.now valid c.requires.line c.requires.shops,
            (
              λ k d h. (shop_of c.args.inputs.now.case c.args.line.0 c.args.shops.now valid c.requires.line c.requires.shops k d h).is_part,
              c.requires.items,
            ),
          ),
        ),
      ),
    )

pub depot_line_item-requires : goal.depot_line_item-requires
depot_line_item-requires g c =
    let sound = c.invariant.ensures.valid in
    let feeds = c.as_slice.ensures.value ∙ c.in_ok-feeds.ensures
    ∙ feeds_are g.row.F c.args.inputs.now.case c.args.inputs.now.stocks.list c.args.line.0 c.args.shops.now sound.valid c.requires.line c.requires.shops in (
      lit< tt,
      (
        lit< tt,
        (
          lit< tt,
          (
            c.pipeline.ensures.valid,
            (
              feeds_few g.row.F c.args.inputs.now.case c.args.inputs.now.stocks.list c.args.line.0 c.as_slice.result.now sound c.requires.line feeds,
              depot_feeds_small g.row.F c.args.inputs.now.case c.args.inputs.now.stocks.list c.args.line.0 c.as_slice.result.now c.requires.scale.0 sound c.requires.line feeds,
            ),
          ),
        ),
      ),
    )

pub returns : goal.returns
returns g c =
    let sound = c.invariant.ensures.valid in
    IfOk-weaker c.depot_line_item.result _ _
    (λ x h. depot_line_is g.row.F c.args.inputs.now.case c.args.inputs.now.stocks.list c.args.line.0 c.pipeline.result _ c.as_slice.result.now x c.pipeline.ensures.pipeline
    (c.as_slice.ensures.value ∙ c.in_ok-feeds.ensures)
    (feeds_are g.row.F c.args.inputs.now.case c.args.inputs.now.stocks.list c.args.line.0 c.args.shops.now sound.valid c.requires.line c.requires.shops) h) c.depot_line_item.ensures
