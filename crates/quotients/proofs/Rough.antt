-- What a divisor's inverse is good for: s is one unit of 1, i the inverse of d, w what it makes of n.
use Rattle.std.proofs.Common.{ℕ, ◌≡◌, ◌∙◌, ap, ap₂, ◌+◌, ◌-◌, ◌*◌, ◌/◌, ◌%◌, ◌^◌, ◌<◌, ◌≤◌, arith, pow_pos, pow-add, mul-le-mul, mul-le-mul_right}
use Rattle.std.specs.Int.{div_ceil}
use Rattle.std.proofs.Math.Nat.{lt_of_mul-lt-mul_right, mod-eq_of_lt, mod-lt, mul-le-mul_left, pow-le-pow_right}
use Rattle.std.proofs.lemmas.Nat.{div-add-mod'}
use Rattle.list_laws.proofs.Public.{ceil_is}
use Rattle.quotients.specs.Divisors.{IsDivisor}

-- the inverse times its divisor is at most 1
pub inverse_most : (f d i : ℕ) → i ≡ 2 ^ (f + 62) / d → i * d ≤ 2 ^ f * 2 ^ 62
inverse_most f d i e =
    let p = pow-add 2 f 62 in
    let t = div-add-mod' (2 ^ (f + 62)) d in
    rw e (omega (arith, p, t))

-- and with one more above it
pub inverse_next : (f d i : ℕ) → 0 < d → i ≡ 2 ^ (f + 62) / d → 2 ^ f * 2 ^ 62 < (i + 1) * d
inverse_next f d i q e =
    let p = pow-add 2 f 62 in
    let t = div-add-mod' (2 ^ (f + 62)) d in
    let l : 2 ^ (f + 62) % d < d = mod-lt (2 ^ (f + 62)) q in
    rw e (omega (arith, p, t, l))

-- an inverse has at most 63 bits
pub inverse_room : (f d i : ℕ) → 2 ^ f ≤ d → i ≡ 2 ^ (f + 62) / d → i ≤ 2 ^ 62
inverse_room f d i l e =
    let a = inverse_most f d i e in
    let b : i * 2 ^ f ≤ i * d = mul-le-mul_left i l in
    let c : i < 2 ^ 62 + 1 = lt_of_mul-lt-mul_right (2 ^ f) (omega (arith, a, b, pow_pos f)) in
    omega (arith, c)

-- what the inverse makes is not too large
pub rough_most : (s d i n w : ℕ) → i * d ≤ s * 2 ^ 62 → w ≡ n * i / 2 ^ 62 → w * d ≤ n * s
rough_most s d i n w h e =
    let t = div-add-mod' (n * i) (2 ^ 62) in
    let a : w * 2 ^ 62 ≤ n * i = rw e (omega (arith, t)) in
    let b : w * 2 ^ 62 * d ≤ n * i * d = mul-le-mul_right d a in
    let c : n * (i * d) ≤ n * (s * 2 ^ 62) = mul-le-mul_left n h in
    let x : w * d < n * s + 1 = lt_of_mul-lt-mul_right (2 ^ 62) (omega (arith, b, c)) in
    omega (arith, x)

-- nor too small by 2
pub rough_next : (s d i n w : ℕ) → 0 < d → n ≤ 2 ^ 62 → s * 2 ^ 62 < (i + 1) * d → w ≡ n * i / 2 ^ 62 → n * s < (w + 2) * d
rough_next s d i n w p l h e =
    let t = div-add-mod' (n * i) (2 ^ 62) in
    let m : (n * i) % 2 ^ 62 < 2 ^ 62 = mod-lt (n * i) (omega arith) in
    let a : n * i + n + 1 ≤ (w + 2) * 2 ^ 62 = rw e (omega (arith, t, m, l)) in
    let b : (n * i + n + 1) * d ≤ (w + 2) * 2 ^ 62 * d = mul-le-mul_right d a in
    let c : n * (s * 2 ^ 62) ≤ n * ((i + 1) * d) = mul-le-mul_left n (omega (arith, h)) in
    lt_of_mul-lt-mul_right (2 ^ 62) (omega (arith, b, c, p))

-- it has at most 63 bits
pub rough_room : (i n w : ℕ) → n ≤ 2 ^ 62 → i ≤ 2 ^ 62 → w ≡ n * i / 2 ^ 62 → w ≤ 2 ^ 62
rough_room i n w l h e =
    let t = div-add-mod' (n * i) (2 ^ 62) in
    let a : n * i ≤ 2 ^ 62 * 2 ^ 62 = mul-le-mul l h in
    let b : w * 2 ^ 62 ≤ n * i = rw e (omega (arith, t)) in
    let c : w < 2 ^ 62 + 1 = lt_of_mul-lt-mul_right (2 ^ 62) (omega (arith, a, b)) in
    omega (arith, c)

-- a number of 63 bits times a unit has 128 bits
pub scaled_room : (f n : ℕ) → f ≤ 52 → n ≤ 2 ^ 62 → n * 2 ^ f < 2 ^ 128
scaled_room f n s l =
    let a : 2 ^ f ≤ 2 ^ 52 = pow-le-pow_right {n = 2} (omega arith) {i = f} {j = 52} s in
    let b : n * 2 ^ f ≤ 2 ^ 62 * 2 ^ 52 = mul-le-mul l a in
    omega (arith, b)

-- 1 in units of 2^-(f + 62) has 128 bits
pub unit_room : (f : ℕ) → f ≤ 52 → 1 * 2 ^ (f + 62) % 2 ^ 128 ≡ 2 ^ (f + 62)
unit_room f s =
    let a : 2 ^ (f + 62) ≤ 2 ^ 114 = pow-le-pow_right {n = 2} (omega arith) {i = f + 62} {j = 114} (omega arith) in
    let b : 1 * 2 ^ (f + 62) ≡ 2 ^ (f + 62) = omega arith in
    ap (λ z. z % 2 ^ 128) b ∙ mod-eq_of_lt (omega (arith, a))

-- the quotient rounded up, from one that leaves less than two divisors
pub rough_up : (a d w left more second : ℕ) → w * d + left ≡ a → left < 2 * d → (left ≡ 0 → more ≡ 0) → (0 < left → more ≡ 1)
    → (left ≤ d → second ≡ 0) → (d < left → second ≡ 1) → w + more + second ≡ div_ceil a d
rough_up a d w left more second e l m n p q = ceil_is a d (w + more + second) (omega (arith, l)) (grind (arith, e, l, m, n, p, q)) (grind (arith, e, l, m, n, p, q))

-- a quotient rounded down or one less, and what it leaves
pub record IsRough (num d whole left : ℕ) : Type 0 where
  pub below : whole * d ≤ num
  pub sum : whole * d + left ≡ num
  pub short : left < 2 * d

-- what a divisor's inverse makes, each number as the code has it
pub rough_is : (f d i n a b x w y left : ℕ) → IsDivisor f d i → n ≤ 2 ^ 62 → a ≡ n → b ≡ i → x ≡ n → y ≡ d → w ≡ a * b / 2 ^ 62
    → left ≡ x * 2 ^ f % 2 ^ 128 - w * y → (w * y ≤ x * 2 ^ f % 2 ^ 128) × IsRough (n * 2 ^ f) d w left
rough_is f d i n a b x w y left v l ea eb ex ey ew el =
    let e : w ≡ n * i / 2 ^ 62 = ew ∙ ap₂ (λ p q. p * q / 2 ^ 62) ea eb in
    let m : x * 2 ^ f % 2 ^ 128 ≡ n * 2 ^ f = ap (λ z. z * 2 ^ f % 2 ^ 128) ex ∙ mod-eq_of_lt (scaled_room f n v.scale l) in
    let p : w * y ≡ w * d = ap (λ z. w * z) ey in
    let pos : 0 < d = omega (arith, pow_pos f, v.least) in
    let low = rough_most (2 ^ f) d i n w (inverse_most f d i v.inverse_is) e in
    let high = rough_next (2 ^ f) d i n w pos l (inverse_next f d i pos v.inverse_is) e in (
      omega (arith, m, p, low),
      record { below = low; sum = omega (arith, m, p, el, low); short = omega (arith, m, p, el, low, high) },
    )
