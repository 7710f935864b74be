-- Lower bounds on the powers and the sum of the series, from a lower bound on the share.
use Rattle.std.proofs.Common.{ℕ, zero, suc, ◌+◌, ◌-◌, ◌*◌, ◌/◌, ◌^◌, ◌<◌, ◌≤◌, ◌≡◌, arith, refl, sym, ap, subst, min, mul-le-mul}
use Rattle.std.proofs.Math.Nat.{div-le_of_le-mul, div-le_self, div-mul-le_self, mul-le-mul_right}
use Rattle.std.proofs.lemmas.Nat.{le-div, pow_pos}
use Rattle.fixed_interval.specs.Ends.{Ends, ends_power}
use Rattle.log_loss.specs.Profile.{sum_ends, series_ends, series_past, share_ends}

floor_grows : (a b k : ℕ) → 0 < k → a ≤ b → a / k ≤ b / k
floor_grows a b k p h = let m = div-mul-le_self a k in le-div (a / k) b k p (omega (arith, m, h))

-- a power and a sum of n terms, both for every share from low on
pub record AreBelow (low n power sum : ℕ) : Type 0 where
  pub powers : (y : Ends) → low ≤ y.lo → power ≤ (ends_power 48 y n).lo
  pub sums : (y : Ends) → low ≤ y.lo → sum ≤ (sum_ends 48 y n).lo

-- no terms yet, and the first power
pub none_below : (low : ℕ) → AreBelow low 0 low 0
unfolding ends_power sum_ends
none_below low = record { powers = λ y h. h; sums = λ y h. omega arith }

power_next : (y : Ends) (n : ℕ) → (ends_power 48 y (suc n)).lo ≡ (ends_power 48 y n).lo * y.lo / 2 ^ 48
unfolding ends_power
power_next y n = refl

sum_next : (y : Ends) (n : ℕ) → (sum_ends 48 y (suc n)).lo ≡ (sum_ends 48 y n).lo + (ends_power 48 y n).lo / suc n
unfolding sum_ends
sum_next y n = refl

-- one term more, and the next power
pub more_below : (low n power sum : ℕ) → AreBelow low n power sum → AreBelow low (n + 1) (power * low / 2 ^ 48) (sum + power / (n + 1))
more_below low n power sum h =
    let e : suc n ≡ n + 1 = omega arith in
    record {
      powers = λ y l. subst (λ k. power * low / 2 ^ 48 ≤ (ends_power 48 y k).lo) e
          (let i = h.powers y l in let m = floor_grows (power * low) ((ends_power 48 y n).lo * y.lo) (2 ^ 48) (pow_pos 48) (mul-le-mul i l) in omega (arith, m, power_next y n));
      sums = λ y l. subst (λ k. sum + power / (n + 1) ≤ (sum_ends 48 y k).lo) e
          (let i = h.powers y l in let j = h.sums y l in let m : power / (n + 1) ≤ (ends_power 48 y n).lo / (n + 1) = floor_grows power (ends_power 48 y n).lo (n + 1) (omega arith) i in
          let s : (ends_power 48 y n).lo / suc n ≡ (ends_power 48 y n).lo / (n + 1) = ap (λ k. (ends_power 48 y n).lo / k) e in
          omega (arith, m, j, s, sum_next y n));
    }

-- more terms come to no less
sum_grows : (y : Ends) (n j : ℕ) → (sum_ends 48 y n).lo ≤ (sum_ends 48 y (j + n)).lo
sum_grows y n zero = let e : 0 + n ≡ n = omega arith in subst (λ k. (sum_ends 48 y n).lo ≤ (sum_ends 48 y k).lo) (sym e) (omega arith)
sum_grows y n (suc j) =
    let e : suc j + n ≡ suc (j + n) = omega arith in
    let i = sum_grows y n j in
    subst (λ k. (sum_ends 48 y n).lo ≤ (sum_ends 48 y k).lo) (sym e) (omega (arith, i, sum_next y (j + n)))

series_is : (y : Ends) → (series_past 48 y 256).lo ≡ (sum_ends 48 y 256).lo
unfolding series_past
series_is y = refl

-- the first terms come to no more than the series
pub series_above : (low n power sum : ℕ) → n ≤ 256 → AreBelow low n power sum → (y : Ends) → low ≤ y.lo → sum ≤ (series_ends 48 y).lo
series_above low n power sum few h y l =
    let e : 256 - n + n ≡ 256 = omega (arith, few) in
    let g = subst (λ k. (sum_ends 48 y n).lo ≤ (sum_ends 48 y k).lo) e (sum_grows y n (256 - n)) in
    let i = h.sums y l in
    omega (arith, g, i, series_is y)

-- ---- room

-- a product of two numbers of at most 1 is at most 1
pub product_most : (a b : ℕ) → a ≤ 2 ^ 48 → b ≤ 2 ^ 48 → a * b / 2 ^ 48 ≤ 2 ^ 48
product_most a b h k = div-le_of_le-mul (2 ^ 48) (mul-le-mul h k)

-- a term is at most 1
pub term_most : (a k : ℕ) → a ≤ 2 ^ 48 → a / (k + 1) ≤ 2 ^ 48
term_most a k h = let d = div-le_self a (k + 1) in omega (arith, d, h)

-- ---- the loss of all places

-- the share of a lower bound is at most the share of the backorders
pub share_above : (n z low places share : ℕ) (b : Ends) → places ≡ n * z → 0 < places → low ≤ b.lo → share ≡ min (low / places) (7 * 2 ^ 45)
    → share ≤ (share_ends n z b).lo
share_above n z low places share b e p l s =
    let g = floor_grows low b.lo places p l in
    let q : b.lo / places ≡ b.lo / (n * z) = ap (λ k. b.lo / k) e in
    omega (arith, s, g, q)

-- a lower bound on one place's loss, for all places
pub places_above : (n z places low lo : ℕ) → places ≡ n * z → low ≤ lo → low * places ≤ lo * z * n
places_above n z places low lo e l =
    let m = mul-le-mul_right places l in
    let s : lo * places ≡ lo * (n * z) = ap (λ k. lo * k) e in
    let t : lo * (n * z) ≡ lo * z * n = omega arith in
    omega (arith, m, s, t)
