use Rattle.std.proofs.Common.{◌+◌, ◌*◌, ◌≤◌, refl, arith, mul-le-mul_left}
use Rattle.gap_rules.proofs.Boxes.{at_most_at}
use Rattle.gap_rules.proofs.Adding.{length_vector, length_held, length_parts, few_places, part_in, part_cost, added_more, added_all}
use Rattle.gap_rules.proofs.cost.added_cost.Goals as goal

pub bounds-vector-i : goal.bounds-vector-i
bounds-vector-i c =
    let a = length_parts c.args.case.now c.args.line.0 c.args.held.now c.args.vector.now c.requires.order c.requires.limit c.args.parts.now c.requires.parts in
    let b = length_vector c.args.case.now c.args.line.0 c.args.held.now c.args.vector.now c.requires.order c.requires.limit in
    omega (arith, a, b, c.loop-i-test.true)

pub bounds-held-i : goal.bounds-held-i
bounds-held-i c =
    let a = length_parts c.args.case.now c.args.line.0 c.args.held.now c.args.vector.now c.requires.order c.requires.limit c.args.parts.now c.requires.parts in
    let b = length_held c.args.case.now c.args.line.0 c.args.held.now c.args.vector.now c.requires.order c.requires.limit in
    omega (arith, a, b, c.loop-i-test.true)

pub overflow_sub-vector : goal.overflow_sub-vector
overflow_sub-vector c = at_most_at c.args.held.now c.args.vector.now c.loop-i.i c.requires.order

pub part-requires : goal.part-requires
part-requires c = part_in c.args.case.now c.args.line.0 c.args.parts.now c.loop-i.i c.requires.line.is_part c.requires.parts c.loop-i-test.true

pub overflow_add-cost : goal.overflow_add-cost
overflow_add-cost c =
    let a = length_parts c.args.case.now c.args.line.0 c.args.held.now c.args.vector.now c.requires.order c.requires.limit c.args.parts.now c.requires.parts in
    let b = few_places c.args.case.now c.args.line.0 c.invariant.ensures.valid c.requires.line in
    let most = c.loop-i.invariant.most in
    let added : c.from-added.result ≤ 255 = omega (arith, c.type_inv.vector c.loop-i.i, c.from-added.ensures) in
    let each : c.from.result ≤ 100000000 = omega (arith, c.from.ensures, c.part.ensures.fields.cost.1) in
    let p : c.from-added.result * c.from.result ≤ c.from-added.result * 100000000 = mul-le-mul_left c.from-added.result each in
    omega (arith, most, a, b, added, p, c.loop-i-test.true)

pub loop-i-preserved : goal.loop-i-preserved
loop-i-preserved c =
    added_more c.args.case.now c.args.line.0 c.args.held.now c.args.vector.now c.requires.order c.requires.limit c.loop-i.i c.loop-i.cost c.from-added.result c.from.result
    (c.loop-i.cost + c.from-added.result * c.from.result) c.args.parts.now c.loop-i.invariant c.loop-i-test.true c.requires.parts c.from-added.ensures
    (part_cost c.args.case.now c.args.parts.now c.loop-i.i c.from.result c.part.result.now c.from.ensures c.part.ensures.row)
    (omega (arith, c.type_inv.vector c.loop-i.i, c.from-added.ensures)) (omega (arith, c.from.ensures, c.part.ensures.fields.cost.1)) refl

pub returns-clause-cost : goal.returns-clause-cost
returns-clause-cost c =
    added_all c.args.case.now c.args.line.0 c.args.held.now c.args.vector.now c.requires.order c.requires.limit c.loop-i.i c.loop-i.cost c.args.parts.now c.loop-i.invariant
    (omega (arith, c.loop-i-test.false)) c.requires.parts

pub returns-clause-most : goal.returns-clause-most
returns-clause-most c =
    let a = length_parts c.args.case.now c.args.line.0 c.args.held.now c.args.vector.now c.requires.order c.requires.limit c.args.parts.now c.requires.parts in
    let b = few_places c.args.case.now c.args.line.0 c.invariant.ensures.valid c.requires.line in
    let most = c.loop-i.invariant.most in
    let end = c.loop-i.auto.i-end in
    omega (arith, most, a, b, end)
