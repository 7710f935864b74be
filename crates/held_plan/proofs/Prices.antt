-- The numbered prices.
use Rattle.std.proofs.Common.{◌≡◌, ℕ, ◌+◌, ◌*◌, ◌/◌, ◌%◌, ◌^◌, ◌<◌, ◌≤◌, sym, subst, arith}
use Rattle.std.proofs.Math.Nat.{mul-le-mul_right, pow-le-pow_right}
use Rattle.std.proofs.lemmas.Nat.{shl_whole}

-- the price of a number
abbrev pub numbered : ℕ → ℕ
numbered n = (4 + n % 4) * 2 ^ (n / 4)

-- it is computed with no loss up to the number 279
pub price_whole : (a n : ℕ) → a ≡ 4 + n % 4 → n ≤ 279 → a * 2 ^ (n / 4) % 2 ^ 128 ≡ numbered n
price_whole a n is last =
    subst (λ b. b * 2 ^ (n / 4) % 2 ^ 128 ≡ numbered n) (sym is) (shl_whole (4 + n % 4) 3 (n / 4) 128 (omega arith) (omega (arith, last)))

-- it is 256 or more from the number 24 on
pub price_least : (n : ℕ) → 24 ≤ n → 256 ≤ numbered n
price_least n first =
    let p : 2 ^ 6 ≤ 2 ^ (n / 4) = pow-le-pow_right {n = 2} (omega arith) {i = 6} {j = n / 4} (omega (arith, first)) in
    let m : 4 * 2 ^ (n / 4) ≤ (4 + n % 4) * 2 ^ (n / 4) = mul-le-mul_right (2 ^ (n / 4)) (omega arith) in
    omega (arith, p, m)

-- and below 2^72 up to the number 279
pub price_most : (n : ℕ) → n ≤ 279 → numbered n < 2 ^ 72
price_most n last =
    let p : 2 ^ (n / 4) ≤ 2 ^ 69 = pow-le-pow_right {n = 2} (omega arith) {i = n / 4} {j = 69} (omega (arith, last)) in
    let m : (4 + n % 4) * 2 ^ (n / 4) ≤ 7 * 2 ^ (n / 4) = mul-le-mul_right (2 ^ (n / 4)) (omega arith) in
    omega (arith, p, m)
