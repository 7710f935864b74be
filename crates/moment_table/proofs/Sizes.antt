-- The sizes of a weight.
use Rattle.std.proofs.Common.{ℕ, ◌*◌, ◌<◌, ◌≤◌, ◌^◌, arith}
use Rattle.fixed_interval.proofs.Public.{unit_most}

weight_most : (f w : ℕ) → f ≤ 52 → w ≤ 8 * 2 ^ f → w ≤ 2 ^ 55
weight_most f w s h = omega (arith, h, unit_most f s)

-- a weight of at most 8 has 64 bits
pub weight_short : (f w : ℕ) → f ≤ 52 → w ≤ 8 * 2 ^ f → w < 2 ^ 64
weight_short f w s h = omega (arith, weight_most f w s h)
