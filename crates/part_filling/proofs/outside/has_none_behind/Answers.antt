use Rattle.std.proofs.Common.{◌+◌, ◌*◌, ◌^◌, ◌≤◌, arith}
use Rattle.std.proofs.lemmas.Nat.{mul-le}
use Rattle.hull.specs.Curves.{InRange}
use Rattle.part_filling.proofs.Ranges.{range_read}
use Rattle.part_filling.proofs.outside.has_none_behind.Goals as goal

pub overflow_add-room : goal.overflow_add-room
overflow_add-room c =
    let r : InRange c.point-here.result.now = range_read c.args.curve.now c.args.pick c.point-here.result.now c.requires.shape c.requires.pick c.point-here.ensures in
    let h = r.cost in
    let l = c.requires.left in
    omega (arith, h, l)

pub overflow_mul-lowest : goal.overflow_mul-lowest
overflow_mul-lowest c =
    let r : InRange c.point-here.result.now = range_read c.args.curve.now c.args.pick c.point-here.result.now c.requires.shape c.requires.pick c.point-here.ensures in
    let h = r.hi in
    let q : c.from-2.result ≤ 1000000000000 = omega (arith, c.from-2.ensures, c.requires.small.q) in
    omega (arith, mul-le c.from-2.result c.point-here.result.now.hi 1000000000000 (2 ^ 74) q (omega (arith, h)))

pub overflow_mul-lowest-2 : goal.overflow_mul-lowest-2
overflow_mul-lowest-2 c =
    let r : InRange c.point-here.result.now = range_read c.args.curve.now c.args.pick c.point-here.result.now c.requires.shape c.requires.pick c.point-here.ensures in
    let h = r.cost in
    let few : c.from-3.result ≤ 1001000000000000 = omega (arith, h, c.requires.left, c.from-3.ensures) in
    omega (arith, mul-le c.args.low.p c.from-3.result (2 ^ 74) 1001000000000000 c.requires.small.p few)

pub overflow_add-lowest : goal.overflow_add-lowest
overflow_add-lowest c =
    let r : InRange c.point-here.result.now = range_read c.args.curve.now c.args.pick c.point-here.result.now c.requires.shape c.requires.pick c.point-here.ensures in
    let h = r.hi in
    let k = r.cost in
    let q : c.from-2.result ≤ 1000000000000 = omega (arith, c.from-2.ensures, c.requires.small.q) in
    let few : c.from-3.result ≤ 1001000000000000 = omega (arith, k, c.requires.left, c.from-3.ensures) in
    omega (
      arith,
      mul-le c.from-2.result c.point-here.result.now.hi 1000000000000 (2 ^ 74) q (omega (arith, h)),
      mul-le c.args.low.p c.from-3.result (2 ^ 74) 1001000000000000 c.requires.small.p few,
    )
