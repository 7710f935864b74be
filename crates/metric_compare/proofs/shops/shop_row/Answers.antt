use Rattle.std.specs.List.{range_with_len}
use Rattle.std.proofs.Common.{◌∙◌, arith, sym, ◌≡◌, ◌≤◌, length, map, ap}
use Rattle.list_laws.proofs.Public.{mapped_more}
use Rattle.metric_compare.specs.Levels.{of_shop}
use Rattle.metric_compare.proofs.Pipes.{base_of_shop}
use Rattle.metric_compare.proofs.shops.shop_row.Goals as goal

pub loop-j-preserved : goal.loop-j-preserved
loop-j-preserved c =
    let e = base_of_shop c.args.inputs.now.case c.args.inputs.now.stocks.list c.requires.line c.args.part.0 c.loop-j.j c.requires.is_shop.line_is (omega (arith, c.loop-j.auto.j)) in
    mapped_more (of_shop c.args.inputs.now.case c.args.inputs.now.stocks.list c.args.part.0) c.loop-j.j c.loop-j.row.items c.push-in-loop-j.new.self.items c.in_ok-base.base
    c.in_ok-push-2.ensures.items c.loop-j.invariant (c.in_ok-base.ensures.ends ∙ sym e)

pub returns : goal.returns
returns c =
    let case = c.args.inputs.now.case in
    let some = c.sites-j-end.ensures.valid.valid.frame.fewest_sites in
    let end : c.loop-j.j ≤ c.sites-j-end.result = c.loop-j.auto.j-end (omega (arith, some, c.sites-j-end.ensures.count)) in
    let all : c.loop-j.j ≡ length case.sites = omega (arith, c.loop-j-test.false, end, c.sites-j-end.ensures.count) in
    c.loop-j.invariant ∙ ap (λ n. map (of_shop case c.args.inputs.now.stocks.list c.args.part.0) (range_with_len 0 n)) all
