-- Ratios whose numerator and denominator lose the same binary places.
use Rattle.std.proofs.Common.{◌≡◌, ℕ, ◌+◌, ◌-◌, ◌*◌, ◌/◌, ◌%◌, ◌^◌, ◌<◌, ◌≤◌, ap, ap₂, sym, ◌∙◌, arith, lit<, mul-le-mul_right, mul-le-mul}
use Rattle.std.specs.Int.{div_ceil}
use Rattle.std.proofs.Math.Nat.{mul-pos, mul-div-mul_right, mod-eq_of_lt, pow-le-pow_right}
use Rattle.std.proofs.lemmas.Grind.{div_ceil_times}
use Rattle.std.proofs.lemmas.Nat.{pow-add}
use Rattle.list_laws.proofs.Public.{ceil_is, ceil_most}
use Rattle.fixed_interval.specs.Ends.{ends_ratio}
use Rattle.fleet_model.specs.Units.{pipeline_scale}

-- a quotient rounded up stays the same where both numbers are multiplied alike
ceil_shift : (a b p : ℕ) → 0 < b → 0 < p → div_ceil (a * p) (b * p) ≡ div_ceil a b
ceil_shift a b p q h =
    let t = div_ceil_times a b q in
    let x : a * p ≤ div_ceil a b * b * p = mul-le-mul_right p t.0 in
    let y : (div_ceil a b * b + 1) * p ≤ (a + b) * p = mul-le-mul_right p (omega (arith, t.1)) in
    sym (ceil_is (a * p) (b * p) (div_ceil a b) (mul-pos {m = b} {n = p} q h) (omega (arith, x)) (omega (arith, y, h)))

-- a pipeline's numerator, shifted by 18 places fewer, has room
pub pipeline_room : (f num : ℕ) → f ≤ 52 → num ≤ 4096 * pipeline_scale → num * 2 ^ (f - 18) < 2 ^ 128
pipeline_room f num h l =
    let p : 2 ^ (f - 18) ≤ 2 ^ 34 = pow-le-pow_right (lit< tt) {j = 34} (omega (arith, h)) in
    let m : num * 2 ^ (f - 18) ≤ 4096 * pipeline_scale * 2 ^ 34 = mul-le-mul l p in
    omega (arith, m)

-- a pipeline's ends need 18 places fewer
pub pipeline_shifted : (f num : ℕ) → 24 ≤ f → f ≤ 52 → num ≤ 4096 * pipeline_scale
    → record { lo = num * 2 ^ (f - 18) % 2 ^ 128 / 1392364501953125; hi = div_ceil (num * 2 ^ (f - 18) % 2 ^ 128) 1392364501953125 } ≡ ends_ratio f num pipeline_scale
pipeline_shifted f num g h l =
    let room : num * 2 ^ (f - 18) % 2 ^ 128 ≡ num * 2 ^ (f - 18) = mod-eq_of_lt (pipeline_room f num h l) in
    let split : 2 ^ f ≡ 2 ^ (f - 18) * 2 ^ 18 = ap (λ k. 2 ^ k) (omega (arith, g)) ∙ pow-add 2 (f - 18) 18 in
    let whole : num * 2 ^ (f - 18) * 2 ^ 18 ≡ num * 2 ^ f = omega (arith, ap (λ p. num * p) split) in
    let low : num * 2 ^ (f - 18) / 1392364501953125 ≡ num * 2 ^ f / pipeline_scale =
    sym (mul-div-mul_right {m = 2 ^ 18} (num * 2 ^ (f - 18)) 1392364501953125 (lit< tt)) ∙ ap (λ n. n / pipeline_scale) whole in
    let high : div_ceil (num * 2 ^ (f - 18)) 1392364501953125 ≡ div_ceil (num * 2 ^ f) pipeline_scale =
    sym (ceil_shift (num * 2 ^ (f - 18)) 1392364501953125 (2 ^ 18) (lit< tt) (lit< tt)) ∙ ap (λ n. div_ceil n pipeline_scale) whole in
    rw (room) (ap₂ (λ a b. record { lo = a; hi = b }) low high)

-- a share's numerator, shifted, has room
pub share_room : (f num den : ℕ) → f ≤ 52 → num ≤ den → den ≤ 2 ^ 75 → num * 2 ^ f < 2 ^ 128
share_room f num den h l d =
    let p : 2 ^ f ≤ 2 ^ 52 = pow-le-pow_right (lit< tt) {j = 52} h in
    let n : num ≤ 2 ^ 75 = omega (arith, l, d) in
    let m : num * 2 ^ f ≤ 2 ^ 75 * 2 ^ 52 = mul-le-mul n p in
    omega (arith, m)

-- its upper end is at most a whole
pub share_top : (f num den : ℕ) → f ≤ 52 → 0 < den → num ≤ den → den ≤ 2 ^ 75 → div_ceil (num * 2 ^ f % 2 ^ 128) den < 2 ^ 127
share_top f num den h q l d =
    let room : num * 2 ^ f % 2 ^ 128 ≡ num * 2 ^ f = mod-eq_of_lt (share_room f num den h l d) in
    let p : 2 ^ f ≤ 2 ^ 52 = pow-le-pow_right (lit< tt) {j = 52} h in
    let top : div_ceil (num * 2 ^ f) den ≤ 2 ^ f = ceil_most (num * 2 ^ f) den (2 ^ f) q (omega (arith, mul-le-mul_right (2 ^ f) l)) in
    rw (room) (omega (arith, top, p))
