use Rattle.std.proofs.Common.{◌≡◌, ℕ, length, map, flat_map, sym, ap, ◌∙◌, arith}
use Rattle.std.proofs.lemmas.List.{map-append}
use Rattle.std.specs.List.{range_with_len}
use Rattle.list_laws.proofs.Public.{rows_more}
use Rattle.spares_input.specs.declared.rows.PartId.{PartId}
use Rattle.fleet_model.specs.Fleet.{family}
use Rattle.family_points.proofs.Placed.{parts_rows}
use Rattle.family_points.proofs.places.place_parts.Goals as goal

pub loop-k-preserved : goal.loop-k-preserved
loop-k-preserved c =
    let id : PartId → ℕ = λ p. p.0 in
    rows_more (λ (k : ℕ). family c.args.case.now c.args.line.0) c.loop-k._k (map id c.loop-k.parts.items) (map id c.family-members.result.now) _
    (ap (map id) c.in_ok-extend_from_slice.ensures.items ∙ map-append id c.loop-k.parts.items c.family-members.result.now) c.loop-k.invariant
    c.family-members.ensures

pub returns : goal.returns
returns c =
    let k = c.args.case.now in
    let l = c.args.line.0 in
    let last : c.loop-k._k ≡ length k.sites = omega (arith, c.loop-k-test.false, c.site_count-k-end.ensures.count) in
    c.loop-k.invariant ∙ ap (λ n. flat_map (λ (i : ℕ). family k l) (range_with_len 0 n)) last ∙ sym (parts_rows k l)
