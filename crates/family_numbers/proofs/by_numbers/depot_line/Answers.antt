use Rattle.std.proofs.Common.{◌∙◌, ◌≡◌, ◌-◌, List, lit<, subst, sym, arith, ap, ap₂, length}
use Rattle.std.proofs.lemmas.Result.{IfOk-weaker}
use Rattle.std.proofs.lemmas.List.FromFn.{length-map-range_with_len}
use Rattle.std.specs.List.{All}
use Rattle.depot_pipeline.specs.declared.Feed.{Feed}
use Rattle.depot_pipeline.specs.Exact.{IsSmallFeed}
use Rattle.depot_pipeline.specs.Profile.{depot_line_ends}
use Rattle.family_numbers.specs.declared.numbers.PairNumbers.{PairNumbers}
use Rattle.family_numbers.specs.Numbers.{depot_feeds, table_of}
use Rattle.family_numbers.proofs.Served.{depot_feeds_small}
use Rattle.family_numbers.proofs.by_numbers.depot_line.Goals as goal

pub depot_line_table-requires : goal.depot_line_table-requires
depot_line_table-requires g c =
    let feeds : c.as_slice.result.now ≡ depot_feeds g.row.F c.args.numbers.now c.args.depot.now = c.as_slice.ensures.value ∙ c.in_ok-feeds.ensures in
    let are = c.invariant.ensures.valid in
    let count = ap (λ (v : List (Feed g.row.F)). length v) feeds ∙ length-map-range_with_len _ 0 (length c.args.numbers.now.parts - 1) in (
      lit< tt,
      (
        lit< tt,
        (
          lit< tt,
          (
            lit< tt,
            (
              c.pair-pair.ensures.valid,
              (
                omega (arith, count, are.few),
                subst (All (IsSmallFeed g.row.F)) (sym feeds) (depot_feeds_small g.row.F c.args.numbers.now are c.args.depot.now c.requires.stocks c.requires.count),
              ),
            ),
          ),
        ),
      ),
    )

pub returns : goal.returns
returns g c =
    let feeds : c.as_slice.result.now ≡ depot_feeds g.row.F c.args.numbers.now c.args.depot.now = c.as_slice.ensures.value ∙ c.in_ok-feeds.ensures in
    IfOk-weaker c.depot_line_table.result _ _
    (λ t h. h ∙ ap₂ (λ (w : PairNumbers g.row.F) (z : List (Feed g.row.F)). table_of g.row.F (depot_line_ends g.row.F w.direct w.cap z) w.limit) c.pair-pair.ensures.is feeds) c.depot_line_table.ensures
