use Rattle.std.proofs.Common.{◌+◌, ◌<◌, List, length, arith}
use Rattle.hull.specs.declared.point.Point.{Point}
use Rattle.curve_parts.proofs.Behind.{next_lowest, none_dearer}
use Rattle.curve_parts.proofs.window.next_value.Goals as goal

pub overflow_add-last : goal.overflow_add-last
overflow_add-last g c = omega (arith, c.requires.last, c.count-count.ensures.shape.few)

pub returns-then-last-count : goal.returns-then-last-count
returns-then-last-count g c = λ money w m dearer.
    let l : List Point = g.V.Vertices.list c.args.chain.now in
    let low = c.args.low in
    let next : c.args.last + 1 < length (g.V.Vertices.list c.args.chain.now) = omega (arith, c.if-last-count.true, c.count-count.ensures.count) in
    let lowest = next_lowest low money l c.args.last c.count-count.ensures.shape.chain next (c.requires.flatter next) w m dearer in
    let is = c.value.ensures in
    omega (arith, is, lowest)

pub returns-else-last-count : goal.returns-else-last-count
returns-else-last-count g c = λ money w m dearer.
    let l : List Point = g.V.Vertices.list c.args.chain.now in
    let none = none_dearer l c.args.last c.count-count.ensures.shape.chain c.requires.last (omega (arith, c.if-last-count.false, c.count-count.ensures.count)) w m in
    absurd (omega (arith, none, dearer))
