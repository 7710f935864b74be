use Rattle.std.proofs.Common.{◌*◌, ◌/◌, ◌<◌, ◌≤◌, arith, ap, sym, ◌∙◌, get_or, length, map, refl, sum}
use Rattle.std.specs.List.{range_with_len}
use Rattle.std.proofs.lemmas.Nat.{mul-le}
use Rattle.list_laws.proofs.Public.{all_places}
use Rattle.spares_input.specs.Frames.{part_at}
use Rattle.spares_input.specs.declared.rows.PartId.{PartId}
use Rattle.spares_input.specs.declared.rows.PartRow.{PartRow}
use Rattle.spares_input.proofs.CaseFacts.{few_parts, few_sites, part_within, place_few, place_in_list, places_fit, some_sites}
use Rattle.spares_input.proofs.StockFacts.{cost_bound, cost_fits, cost_step}
use Rattle.spares_input.proofs.stocks.cost_of.Goals as goal

pub loop-i-preserved : goal.loop-i-preserved
loop-i-preserved c =
    let inv = c.loop-i.invariant in
    let parts = c.args.case.now.parts in
    let row = c.part.ensures.row ∙ ap (λ (p : PartId). part_at parts p.0) c.pair_at.ensures.part in
    let each = c.from-in-loop-i.ensures ∙ ap (λ (r : PartRow). r.cost) row in
    record {
      cost = cost_step c.args.case.now (record { sites = c.args.sites; list = c.args.list.now }) c.loop-i.i c.loop-i.cost c.from.result c.from-in-loop-i.result inv.cost c.from.ensures each;
      bound = cost_bound c.loop-i.i c.loop-i.cost c.from.result c.from-in-loop-i.result inv.bound (omega (arith, c.type_inv.list c.loop-i.i, c.from.ensures)) (rw c.from-in-loop-i.ensures c.part.ensures.fields.cost.1);
    }

pub overflow_mul-pairs : goal.overflow_mul-pairs
overflow_mul-pairs c =
    places_fit c.part_count.result c.args.sites (few_parts c.args.case.now c.part_count.result c.part_count.ensures.valid c.part_count.ensures.count)
    (few_sites c.args.case.now c.args.sites c.part_count.ensures.valid c.requires.sites)

pub overflow_mul-cost : goal.overflow_mul-cost
overflow_mul-cost c =
    let stock : c.from.result ≤ 255 = omega (arith, c.type_inv.list c.loop-i.i, c.from.ensures) in
    let each : c.from-in-loop-i.result ≤ 100000000 = rw c.from-in-loop-i.ensures c.part.ensures.fields.cost.1 in
    omega (arith, mul-le c.from.result c.from-in-loop-i.result 255 100000000 stock each)

pub pair_at-requires-clause-some_sites : goal.pair_at-requires-clause-some_sites
pair_at-requires-clause-some_sites c = some_sites c.args.case.now c.args.sites c.part_count.ensures.valid c.requires.sites

pub pair_at-requires-clause-few_sites : goal.pair_at-requires-clause-few_sites
pair_at-requires-clause-few_sites c = few_sites c.args.case.now c.args.sites c.part_count.ensures.valid c.requires.sites

pub pair_at-requires-clause-within : goal.pair_at-requires-clause-within
pair_at-requires-clause-within c = place_few c.args.case.now c.loop-i.i c.part_count.result c.args.sites c.part_count.ensures.valid c.part_count.ensures.count c.loop-i-test.true

pub bounds-list-i : goal.bounds-list-i
bounds-list-i c =
    place_in_list c.loop-i.i c.part_count.result c.args.sites (length c.args.list.now) _ _ _ refl c.requires.pairs c.part_count.ensures.count c.requires.sites
    c.loop-i-test.true

pub part-requires : goal.part-requires
part-requires c =
    part_within c.loop-i.i c.args.sites c.part_count.result (length c.args.case.now.parts) c.pair_at.result.0 c.pair_at.ensures.part c.part_count.ensures.count
    (some_sites c.args.case.now c.args.sites c.part_count.ensures.valid c.requires.sites) c.loop-i-test.true

pub overflow_add-cost : goal.overflow_add-cost
overflow_add-cost c =
    let stock : c.from.result < 256 = omega (arith, c.type_inv.list c.loop-i.i, c.from.ensures) in
    let most = cost_bound c.loop-i.i c.loop-i.cost c.from.result c.from-in-loop-i.result c.loop-i.invariant.bound stock (rw c.from-in-loop-i.ensures c.part.ensures.fields.cost.1) in
    cost_fits c.loop-i.i c.part_count.result c.args.sites _ (few_parts c.args.case.now c.part_count.result c.part_count.ensures.valid c.part_count.ensures.count)
    (few_sites c.args.case.now c.args.sites c.part_count.ensures.valid c.requires.sites) c.loop-i-test.true most

pub returns : goal.returns
returns c =
    let all = all_places c.loop-i.i c.part_count.result c.args.sites (length c.args.case.now.parts) (length c.args.case.now.sites) c.part_count.ensures.count c.requires.sites
    c.loop-i-test.false c.loop-i.auto.i-end ∙ sym c.requires.pairs in
    c.loop-i.invariant.cost
    ∙ ap (λ n. sum (map (λ i. get_or c.args.list.now i 0 * (part_at c.args.case.now.parts (i / c.args.sites)).cost) (range_with_len 0 n))) all
