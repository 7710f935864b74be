use Rattle.std.proofs.Common.{◌∙◌, lit<, subst, sym}
use Rattle.std.proofs.lemmas.Result.{IfOk-weaker}
use Rattle.family_items.specs.Encloses.{IsSmallItem}
use Rattle.family_items.proofs.Public.{small_00, all_delays_small, base_line_is, feed_small, delays_are, delays_few, ids_few}
use Rattle.family_eval.proofs.lines.base_line_at.Goals as goal

pub delays_at-requires : goal.delays_at-requires
delays_at-requires g c =
    let valid = c.invariant.ensures.valid.valid in (
      lit< tt,
      (
        lit< tt,
        (
          c.requires.scale,
          (
            c.requires.site,
            (ids_few c.args.inputs.now.case c.args.line.0 c.args.shops.now valid c.requires.line c.requires.shops, c.requires.items),
          ),
        ),
      ),
    )

pub base_line_item-requires : goal.base_line_item-requires
base_line_item-requires g c =
    let sound = c.invariant.ensures.valid in
    let small = subst (IsSmallItem g.row.F) (sym c.requires.depot)
    (small_00 g.row.F c.args.inputs.now.case c.args.inputs.now.stocks.list c.requires.scale.0 sound c.args.line.0 c.requires.line) in
    let delays = c.as_slice.ensures.value ∙ c.in_ok-delays.ensures
    ∙ delays_are g.row.F c.args.inputs.now.case c.args.inputs.now.stocks.list c.args.line.0 c.args.site.0 c.args.shops.now c.requires.base sound.valid c.requires.line c.requires.shops in (
      lit< tt,
      (
        lit< tt,
        (
          lit< tt,
          (
            lit< tt,
            (
              c.pipeline.ensures.valid,
              (
                feed_small g.row.F c.share.result c.args.depot.now c.feed_of-feed.result c.feed_of-feed.ensures c.share.ensures.most small,
                (
                  delays_few g.row.F c.args.inputs.now.case c.args.inputs.now.stocks.list c.args.line.0 c.args.site.0 c.as_slice.result.now sound c.requires.line delays,
                  all_delays_small g.row.F c.args.inputs.now.case c.args.inputs.now.stocks.list c.args.line.0 c.args.site.0 c.as_slice.result.now c.requires.scale.0 sound c.requires.line
                      c.requires.site delays,
                ),
              ),
            ),
          ),
        ),
      ),
    )

pub returns : goal.returns
returns g c =
    let sound = c.invariant.ensures.valid in
    IfOk-weaker c.base_line_item.result _ _
    (λ x h. base_line_is g.row.F c.args.inputs.now.case c.args.inputs.now.stocks.list c.args.line.0 c.args.site.0 c.pipeline.result c.feed_of-feed.result c.share.result c.args.depot.now x
    _ c.as_slice.result.now c.pipeline.ensures.pipeline c.feed_of-feed.ensures c.share.ensures.share c.requires.depot (c.as_slice.ensures.value ∙ c.in_ok-delays.ensures)
    (delays_are g.row.F c.args.inputs.now.case c.args.inputs.now.stocks.list c.args.line.0 c.args.site.0 c.args.shops.now c.requires.base sound.valid c.requires.line c.requires.shops) h)
    c.base_line_item.ensures
