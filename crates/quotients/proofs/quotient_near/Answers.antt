use Rattle.std.proofs.Common.{ℕ, ◌≡◌, ◌+◌, ◌-◌, ◌*◌, ◌/◌, ◌%◌, ◌^◌, ◌<◌, ◌≤◌, ap, ap₂, arith, mul-le-mul}
use Rattle.std.proofs.Math.Nat.{div-eq_of_lt-le}
use Rattle.std.proofs.lemmas.Nat.{div-add-mod'}
use Rattle.quotients.proofs.quotient_near.Goals as goal

-- what is left after the wrap, if it has 64 bits
left_is : (n g d : ℕ) → n < 2 ^ 128 → g < 2 ^ 64 → d < 2 ^ 64 → (n + (2 ^ 128 - g * d)) % 2 ^ 128 < 2 ^ 64
    → g * d + (n + (2 ^ 128 - g * d)) % 2 ^ 128 ≡ n
left_is n g d m h l s =
    let p : g * d ≤ (2 ^ 64 - 1) * (2 ^ 64 - 1) = mul-le-mul {n₁ = g} {m₁ = d} {n₂ = 2 ^ 64 - 1} {m₂ = 2 ^ 64 - 1} (omega (arith, h)) (omega (arith, l)) in
    let t = div-add-mod' (n + (2 ^ 128 - g * d)) (2 ^ 128) in
    omega (arith, p, t, s, m)

next_is : (n g d a b k : ℕ) → n < 2 ^ 128 → g < 2 ^ 64 → d < 2 ^ 64 → a ≡ g → b ≡ d → k ≡ g → (n + (2 ^ 128 - a * b)) % 2 ^ 128 < 2 ^ 64
    → d ≤ (n + (2 ^ 128 - a * b)) % 2 ^ 128 → (n + (2 ^ 128 - a * b)) % 2 ^ 128 - d < d → k + 1 ≡ n / d
next_is n g d a b k m h l ea eb ek s u v =
    let e : a * b ≡ g * d = ap₂ (λ y z. y * z) ea eb in
    let f : (n + (2 ^ 128 - a * b)) % 2 ^ 128 ≡ (n + (2 ^ 128 - g * d)) % 2 ^ 128 = ap (λ z. (n + (2 ^ 128 - z)) % 2 ^ 128) e in
    let i = left_is n g d m h l (omega (arith, f, s)) in
    let r : n / d ≡ g + 1 = div-eq_of_lt-le d (omega (arith, f, i, u)) (omega (arith, f, i, u, v)) in
    omega (arith, r, ek)

pub returns-then-left-den-2 : goal.returns-then-left-den-2
returns-then-left-den-2 c =
    next_is c.args.num c.args.guess c.args.den c.from.result c.from-2.result c.from-then-left-den-2.result c.ranges.num.fits c.ranges.guess.fits c.ranges.den.fits
    c.from.ensures c.from-2.ensures c.from-then-left-den-2.ensures c.if-left.true c.if-left-den.false c.if-left-den-2.true
