use Rattle.std.specs.List.{range_with_len}
use Rattle.std.proofs.Common.{◌∙◌, ◌≡◌, length, map, ap, arith}
use Rattle.list_laws.proofs.Public.{mapped_more}
use Rattle.metric_compare.specs.Profile.{poisson_of}
use Rattle.metric_compare.proofs.Pipes.{shop_is_poisson}
use Rattle.metric_compare.proofs.shops.row_of.Goals as goal

pub loop-k-preserved : goal.loop-k-preserved
loop-k-preserved c =
    mapped_more (poisson_of 48 c.args.inputs.now.case c.args.inputs.now.stocks.list c.args.unit.0) c.loop-k.k c.loop-k.row.items c.push.new.self.items c.number_at.result
    c.in_ok-push.ensures.items c.loop-k.invariant
    (c.number_at.ensures.ends ∙ shop_is_poisson c.args.inputs.now.case c.args.inputs.now.stocks.list c.requires.unit.line c.args.unit.0 c.loop-k.k c.requires.unit.is_shop.line_is)

pub returns : goal.returns
returns c =
    let case = c.args.inputs.now.case in
    let all : c.loop-k.k ≡ length case.sites = omega (arith, c.loop-k-test.false, c.loop-k.auto.k-end, c.sites-k-end.ensures.count) in
    c.loop-k.invariant ∙ ap (λ n. map (poisson_of 48 case c.args.inputs.now.stocks.list c.args.unit.0) (range_with_len 0 n)) all
