-- Numbers of 36 places, in units of f places: o is one whole, and p is a unit of 36 places.
use Rattle.std.proofs.Common.{◌≡◌, ℕ, ◌+◌, ◌-◌, ◌*◌, ◌/◌, ◌<◌, ◌≤◌, ◌^◌, ap, ◌∙◌, arith, pow-add, pow_pos, mul-le-mul_right}
use Rattle.std.proofs.Math.Nat.{div-mul-le_self, lt_of_mul-lt-mul_right}
use Rattle.std.proofs.lemmas.Nat.{le-div}

-- one whole
pub places : (f : ℕ) → 46 ≤ f → 2 ^ f ≡ 2 ^ 36 * 2 ^ (f - 36)
places f l = (let z : f ≡ 36 + (f - 36) = omega (arith, l) in ap (λ x. 2 ^ x) z ∙ pow-add 2 36 (f - 36))

-- a unit of 36 places is many of f places
pub many : (f : ℕ) → 46 ≤ f → 1024 ≤ 2 ^ (f - 36)
many f l =
    let z : f - 36 ≡ 10 + (f - 46) = omega (arith, l) in
    let e : 2 ^ (f - 36) ≡ 2 ^ 10 * 2 ^ (f - 46) = ap (λ x. 2 ^ x) z ∙ pow-add 2 10 (f - 46) in
    omega (arith, e, pow_pos (f - 46))

-- a product rounded down is at most the finer product
pub product_low : (a b p o : ℕ) → 0 < o → o ≡ 2 ^ 36 * p → a * b / 2 ^ 36 * p ≤ (a * p) * (b * p) / o
product_low a b p o q e =
    let h : a * b / 2 ^ 36 * 2 ^ 36 ≤ a * b = div-mul-le_self (a * b) (2 ^ 36) in
    let k : a * b / 2 ^ 36 * 2 ^ 36 * (p * p) ≤ a * b * (p * p) = mul-le-mul_right (p * p) h in
    let x : a * b / 2 ^ 36 * p * o ≡ a * b / 2 ^ 36 * 2 ^ 36 * (p * p) = ap (λ y. a * b / 2 ^ 36 * p * y) e ∙ omega arith in
    le-div (a * b / 2 ^ 36 * p) ((a * p) * (b * p)) o q (omega (arith, k, x))

-- one that is rounded up is above it
pub product_high : (a b c p o : ℕ) → 0 < o → 0 < p → o ≡ 2 ^ 36 * p → a * b < 2 ^ 36 * c → (a * p) * (b * p) / o + 1 ≤ c * p
product_high a b c p o q n e h =
    let k : (a * b + 1) * (p * p) ≤ 2 ^ 36 * c * (p * p) = mul-le-mul_right (p * p) (omega (arith, h)) in
    let i : 1 * 1 ≤ p * p = (let j : 1 * p ≤ p * p = mul-le-mul_right p n in omega (arith, j, n)) in
    let x : c * p * o ≡ 2 ^ 36 * c * (p * p) = ap (λ y. c * p * y) e ∙ omega arith in
    let d : (a * p) * (b * p) / o * o ≤ (a * p) * (b * p) = div-mul-le_self ((a * p) * (b * p)) o in
    let z : (a * p) * (b * p) / o < c * p = lt_of_mul-lt-mul_right o (omega (arith, d, k, i, x)) in
    omega (arith, z)
