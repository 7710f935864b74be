use Rattle.std.proofs.Common.{ℕ, zero, suc, ◌≡◌, ◌+◌, ◌-◌, ◌*◌, ◌^◌, ◌<◌, ◌≤◌, ap, arith, pow_pos, pow-add, mul-le-mul}
use Rattle.std.proofs.Math.Nat.{le_refl, pow-le-pow_right, mul-lt-mul_of_pos_right}
use Rattle.std.specs.Int.Count.{count_leading_zeros}
use Rattle.std.proofs.lemmas.Nat.{leading_top}
use Rattle.quotients.proofs.places_to.Goals as goal

enough : (f a j p : ℕ) → 2 ^ j ≤ a → f ≤ j + p → 2 ^ f ≤ a * 2 ^ p
enough f a j p l h =
    let e = pow-add 2 j p in
    let m : 2 ^ f ≤ 2 ^ (j + p) = pow-le-pow_right {n = 2} (omega arith) {i = f} {j = j + p} h in
    let n : 2 ^ j * 2 ^ p ≤ a * 2 ^ p = mul-le-mul l (le_refl (2 ^ p)) in
    omega (arith, e, m, n)

pub returns-clause-least : goal.returns-clause-least
returns-clause-least g c = λ p.
    let t = leading_top 64 c.args.den p c.ranges.den.fits in
    let e : c.saturating_sub.result ≡ count_leading_zeros 64 c.args.den - (63 - g.row.F) = c.saturating_sub.ensures in
    enough g.row.F c.args.den t.0 c.saturating_sub.result t.2 (omega (arith, e, t.1, c.requires))

-- with one place fewer than the zeros in front allow, a number stays below 2^f
too_few : (f a p : ℕ) → a < 2 ^ 64 → f ≤ 52 → p ≡ count_leading_zeros 64 a - (63 - f) → 0 < p → a * 2 ^ (p - 1) < 2 ^ f
too_few f zero p h s e o = omega (arith, pow_pos f)
too_few f (suc b) p h s e o =
    let t = leading_top 64 (suc b) (omega arith) h in
    let d : 2 ^ f ≡ 2 ^ (suc t.0 + (p - 1)) = ap (λ i. 2 ^ i) (omega (arith, e, t.1, s, o)) in
    let m : suc b * 2 ^ (p - 1) < 2 ^ suc t.0 * 2 ^ (p - 1) = mul-lt-mul_of_pos_right t.3 (pow_pos (p - 1)) in
    omega (arith, d, m, pow-add 2 (suc t.0) (p - 1))

pub returns-clause-fewest : goal.returns-clause-fewest
returns-clause-fewest g c = too_few g.row.F c.args.den c.saturating_sub.result c.ranges.den.fits c.requires c.saturating_sub.ensures
