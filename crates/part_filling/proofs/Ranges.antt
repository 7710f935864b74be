-- Numbers have room.
use Rattle.std.proofs.Common.{◌≡◌, ℕ, ◌*◌, ◌^◌, ◌<◌, ◌≤◌, List, length, sym, subst, arith}
use Rattle.std.proofs.Math.Nat.{mul-le-mul_left}
use Rattle.hull.specs.declared.point.Point.{Point}
use Rattle.hull.specs.Curves.{InRange, IsShape, nowhere, point_at}
use Rattle.hull.proofs.Public.{among_at}

-- a vertex that is read is in range
pub range_read : (curve : List Point) (k : ℕ) (v : Point) → IsShape curve → k < length curve → v ≡ point_at curve k → InRange v
range_read curve k v shape b e = subst InRange (sym e) (shape.ranges (point_at curve k) (among_at curve k nowhere b))

-- the product of ends and money has room
pub ends_room : (a m : ℕ) → a ≤ 2 ^ 75 → m ≤ 1000000000000 → a * m ≤ 2 ^ 75 * 1000000000000
ends_room a m h k = (let x : a * m ≤ a * 1000000000000 = mul-le-mul_left a k in omega (arith, x, h))
