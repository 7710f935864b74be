-- Values of choices against sums of ends.
use Rattle.std.proofs.Common.{ℕ, ◌+◌, ◌*◌, ◌^◌, ◌<◌, ◌≤◌, List, [], ◌∷◌, arith}
use Rattle.std.proofs.Math.Nat.{mul-le-mul_left, mul-le-mul_right, le_of_mul-le-mul_left, mul-pos}
use Rattle.list_laws.proofs.Public.{sum_no_less, sum_no_more}
use Rattle.exact_model.specs.Fraction.{Fraction, whole, ◌+ℚ◌, ◌*ℚ◌, ◌≤ℚ◌, Contains}
use Rattle.hull.specs.declared.point.Point.{Point}
use Rattle.price_bounds.specs.Sums.{lo_of, hi_of}
use Rattle.price_bounds.specs.Values.{sum_of, AllContain, IsAtLeast, IsAtMost}

-- values within their ends are within the ends together
pub sum_contains : (vs : List Point) (ts : List Fraction) → AllContain vs ts → Contains 48 (lo_of vs) (hi_of vs) (sum_of ts)
unfolding sum_of whole ◌+ℚ◌
sum_contains [] [] h = record { low = omega arith; high = omega arith }
sum_contains [] (t ∷ ts) h = absurd h
sum_contains (v ∷ vs) [] h = absurd h
sum_contains (v ∷ vs) (t ∷ ts) h =
    let k : Contains 48 (lo_of vs) (hi_of vs) (sum_of ts) = sum_contains vs ts h.1 in
    record {
      low = sum_no_more (2 ^ 48) v.lo t.num t.den (lo_of vs) (sum_of ts).num (sum_of ts).den h.0.low k.low;
      high = sum_no_less (2 ^ 48) v.hi t.num t.den (hi_of vs) (sum_of ts).num (sum_of ts).den h.0.high k.high;
    }

below : (E N l n d : ℕ) → N ≤ l → l * d ≤ n * E → N * d ≤ n * E
below E N l n d h k = (let i = mul-le-mul_right d h in omega (arith, i, k))

above : (E N l n d : ℕ) → l ≤ N → n * E ≤ l * d → n * E ≤ N * d
above E N l n d h k = (let i = mul-le-mul_right d h in omega (arith, i, k))

-- a value is at least what its lower end is at least
pub at_least : (N l h : ℕ) (q : Fraction) → N ≤ l → Contains 48 l h q → IsAtLeast N q
at_least N l h q e c = record { low = below (2 ^ 48) N l q.num q.den e c.low }

-- a value is at most what its upper end is at most
pub at_most : (N l h : ℕ) (q : Fraction) → h ≤ N → Contains 48 l h q → IsAtMost N q
at_most N l h q e c = record { high = above (2 ^ 48) N h q.num q.den e c.high }

-- a bound l/m at the price a/b, where the choice of value n/d and cost c is within X and B
price_step : (E a b l m n d h c X B : ℕ) → 0 < b → 0 < d
    → (l * (b * 1) + (a * B) * m) * (d * (b * 1)) ≤ (n * (b * 1) + (a * c) * d) * (m * (b * 1))
    → n * E ≤ h * d → b * h + (E * a) * c ≤ b * X + (E * a) * B → l * E ≤ X * m
price_step E a b l m n d h c X B bp dp below high within =
    let one : b * ((l * b + a * B * m) * d) ≤ b * ((n * b + a * c * d) * m) = omega (arith, below) in
    let two : (l * b + a * B * m) * d ≤ (n * b + a * c * d) * m = le_of_mul-le-mul_left one bp in
    let three : E * ((l * b + a * B * m) * d) ≤ E * ((n * b + a * c * d) * m) = mul-le-mul_left E two in
    let four : (b * m) * (n * E) ≤ (b * m) * (h * d) = mul-le-mul_left (b * m) high in
    let five : (d * m) * (b * h + (E * a) * c) ≤ (d * m) * (b * X + (E * a) * B) = mul-le-mul_left (d * m) within in
    let six : (b * d) * (l * E) ≤ (b * d) * (X * m) = omega (arith, three, four, five) in
    le_of_mul-le-mul_left six (mul-pos bp dp)

-- a bound at a price is at most X, where the choice's upper end and cost are within X and the budget at it
pub bound_at_most : (X B l h c : ℕ) (price bound q : Fraction) → bound +ℚ price *ℚ whole B ≤ℚ q +ℚ price *ℚ whole c → Contains 48 l h q
    → price.den * h + (2 ^ 48 * price.num) * c ≤ price.den * X + (2 ^ 48 * price.num) * B → IsAtMost X bound
unfolding whole ◌+ℚ◌ ◌*ℚ◌
bound_at_most X B l h c price bound q less contains within = record {
  high = price_step (2 ^ 48) price.num price.den bound.num bound.den q.num q.den h c X B price.positive q.positive less.cross contains.high within;
}
