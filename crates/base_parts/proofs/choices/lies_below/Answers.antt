use Rattle.std.proofs.Common.{List, arith}
use Rattle.hull.specs.declared.point.Point.{Point}
use Rattle.hull.specs.Curves.{nowhere, point_at}
use Rattle.hull.proofs.Public.{among_at}
use Rattle.base_parts.proofs.choices.lies_below.Goals as goal

pub value-requires-clause-place : goal.value-requires-clause-place
value-requires-clause-place c = omega (arith, c.loop-k-test.true, c.count-k-end.ensures.count)

pub value-requires-then-value-bounds-clause-place : goal.value-requires-then-value-bounds-clause-place
value-requires-then-value-bounds-clause-place c = omega (arith, c.loop-k-test.true, c.count-k-end.ensures.count)

pub returns-then-value-bounds-2 : goal.returns-then-value-bounds-2
returns-then-value-bounds-2 c = λ t w a b. (
    let chain : List Point = c.args.chain.now in
    let x = c.value.ensures in
    let y = c.value-then-value-bounds.ensures in
    let k = c.if-value-bounds.true in
    let l = c.if-value-bounds-2.true in
    (point_at chain c.loop-k.k, among_at chain c.loop-k.k nowhere (omega (arith, c.loop-k-test.true, c.count-k-end.ensures.count)), omega (arith, x, k, a), omega (arith, y, l, b)))
