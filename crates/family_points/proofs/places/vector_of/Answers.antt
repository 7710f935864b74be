use Rattle.std.proofs.Common.{◌≡◌, ℕ, List, length, map, flat_map, sym, ap, ◌∙◌, arith}
use Rattle.spares_input.specs.declared.rows.PartId.{PartId}
use Rattle.spares_input.specs.Stocks.{stock_at}
use Rattle.std.specs.List.{range_with_len}
use Rattle.list_laws.proofs.Public.{rows_more}
use Rattle.fleet_model.specs.Rows.{stock}
use Rattle.fleet_model.specs.Fleet.{family}
use Rattle.family_points.proofs.Placed.{ids_there, ids_stocks, vector_rows}
use Rattle.family_points.proofs.places.vector_of.Goals as goal

pub put_stocks-requires : goal.put_stocks-requires
put_stocks-requires c =
    ids_there c.args.case.now c.args.line.0 c.loop-k.k c.family-members.result.now c.args.stocks.now c.site_count-k-end.ensures.valid c.requires.line c.requires.stocks
    (omega (arith, c.loop-k-test.true, c.site_count-k-end.ensures.count)) c.family-members.ensures

pub loop-k-preserved : goal.loop-k-preserved
loop-k-preserved c =
    rows_more (λ k. map (λ p. stock c.args.case.now c.args.stocks.now.list p k) (family c.args.case.now c.args.line.0)) c.loop-k.k c.loop-k.list.items
    (map (λ (p : PartId). stock_at c.args.stocks.now p.0 c.loop-k.k) c.family-members.result.now) c.put_stocks.new.list.items c.in_ok-put_stocks.ensures c.loop-k.invariant
    (ids_stocks c.args.case.now c.args.line.0 c.loop-k.k c.family-members.result.now c.args.stocks.now c.requires.stocks c.family-members.ensures)

pub returns : goal.returns
returns c =
    let k = c.args.case.now in
    let l = c.args.line.0 in
    let last : c.loop-k.k ≡ length k.sites = omega (arith, c.loop-k-test.false, c.loop-k.auto.k-end, c.site_count-k-end.ensures.count) in
    let rows : ℕ → List ℕ = λ n. flat_map (λ k'. map (λ p. stock k c.args.stocks.now.list p k') (family k l)) (range_with_len 0 n) in
    c.of.ensures ∙ c.loop-k.invariant ∙ ap rows last ∙ sym (vector_rows k l c.args.stocks.now.list)
