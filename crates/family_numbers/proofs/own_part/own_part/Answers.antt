use Rattle.std.proofs.Common.{◌≡◌, ◌∙◌, ap, lit<}
use Rattle.moment_table.specs.Rows.{TableRows, at_stock}
use Rattle.family_numbers.specs.Numbers.{depot_line_row, feed_from}
use Rattle.family_numbers.proofs.Served.{depot_line_small, feed_is_small}
use Rattle.family_numbers.proofs.own_part.own_part.Goals as goal

pub base_own-requires : goal.base_own-requires
base_own-requires g c =
    let x = c.args.numbers.now in
    let share = c.pair-pair.result.share in
    let feed : c.feed_from-feed.result ≡ feed_from g.row.F share (depot_line_row g.row.F x c.args.depot.now c.args.own) =
    c.feed_from-feed.ensures ∙ ap (λ (t : TableRows g.row.F). feed_from g.row.F share (at_stock t.rows c.args.own)) c.requires.line in (
      lit< tt,
      (
        lit< tt,
        (
          lit< tt,
          (
            c.pair-pair.ensures.valid.direct_most,
            feed_is_small g.row.F share _ c.feed_from-feed.result feed c.pair-pair.ensures.valid.share_most
                (depot_line_small g.row.F x c.invariant.ensures.valid c.args.depot.now c.args.own c.requires.own),
          ),
        ),
      ),
    )
