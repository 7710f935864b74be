use Rattle.std.proofs.Common.{◌≡◌, ℕ, List, length, map, flat_map, sym, ap, ◌∙◌, arith}
use Rattle.spares_input.specs.declared.rows.PartId.{PartId}
use Rattle.spares_input.specs.Stocks.{limit_at}
use Rattle.std.specs.List.{range_with_len}
use Rattle.list_laws.proofs.Public.{rows_more}
use Rattle.fleet_model.specs.Fleet.{family}
use Rattle.family_points.proofs.Whole.{ids_limits, ids_within, limits_rows}
use Rattle.family_points.proofs.places.limits_of.Goals as goal

pub put_limits-requires-clause-members : goal.put_limits-requires-clause-members
put_limits-requires-clause-members c =
    ids_within c.args.case.now c.args.line.0 c.family-members.result.now c.site_count-k-end.ensures.valid c.requires c.family-members.ensures

pub loop-k-preserved : goal.loop-k-preserved
loop-k-preserved c =
    rows_more (λ k. map (λ p. limit_at c.args.case.now.parts p k) (family c.args.case.now c.args.line.0)) c.loop-k.k c.loop-k.list.items
    (map (λ (p : PartId). limit_at c.args.case.now.parts p.0 c.loop-k.k) c.family-members.result.now) c.put_limits.new.list.items c.in_ok-put_limits.ensures c.loop-k.invariant
    (ids_limits c.args.case.now c.args.line.0 c.loop-k.k c.family-members.result.now c.family-members.ensures)

pub returns : goal.returns
returns c =
    let k = c.args.case.now in
    let l = c.args.line.0 in
    let last : c.loop-k.k ≡ length k.sites = omega (arith, c.loop-k-test.false, c.loop-k.auto.k-end, c.site_count-k-end.ensures.count) in
    let rows : ℕ → List ℕ = λ n. flat_map (λ k'. map (λ p. limit_at k.parts p k') (family k l)) (range_with_len 0 n) in
    c.of.ensures ∙ c.loop-k.invariant ∙ ap rows last ∙ sym (limits_rows k l)
