use Rattle.spares_input.specs.Cases.{CaseRows}
use Rattle.std.specs.List.{flat_map, range_with_len}
use Rattle.std.proofs.Common.{◌≡◌, ◌∙◌, length, ap, arith}
use Rattle.list_laws.proofs.Public.{rows_more}
use Rattle.metric_compare.specs.Levels.{by_site, of_shop}
use Rattle.metric_compare.proofs.shops.shop_numbers.Goals as goal
use Rattle.metric_compare.proofs.shops.shop_numbers.Goals.{then-is_line+in_ok-row, else-is_line+in_ok-row-2}

pub loop-p-preserved : goal.loop-p-preserved
loop-p-preserved c =
    let row : c.if-is_line.row.items ≡ by_site c.args.inputs.now.case (of_shop c.args.inputs.now.case c.args.inputs.now.stocks.list c.loop-p.p) =
    elim c.if-is_line.branch [
      | then-is_line+in_ok-row w ↦ rw w.row-is w.in_ok-row.ensures
      | else-is_line+in_ok-row-2 w ↦ rw w.row-is w.in_ok-row-2.ensures
    ] in
    rows_more (λ q. by_site c.args.inputs.now.case (of_shop c.args.inputs.now.case c.args.inputs.now.stocks.list q)) c.loop-p.p c.loop-p.all.items c.if-is_line.row.items c.append.new.self.items
    c.in_ok-append.ensures.items c.loop-p.invariant row

pub returns : goal.returns
returns c =
    let case = c.args.inputs.now.case in
    let all : c.loop-p.p ≡ length case.parts = omega (arith, c.loop-p-test.false, c.loop-p.auto.p-end, c.part_count-p-end.ensures.count, ap (λ (x : CaseRows). length x.parts) c.case.ensures) in
    c.loop-p.invariant ∙ ap (λ n. flat_map (λ p. by_site case (of_shop case c.args.inputs.now.stocks.list p)) (range_with_len 0 n)) all
