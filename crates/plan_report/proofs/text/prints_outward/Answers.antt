use Rattle.std.proofs.Common.{ℕ, ◌*◌, ◌^◌, ◌<◌, lit<, arith}
use Rattle.std.proofs.Math.Nat.{le_refl, mul-pos}
use Rattle.list_laws.proofs.Public.{ceil_above}
use Rattle.exact_model.specs.Fraction.{whole, ◌/ℚ◌, ◌≈◌}
use Rattle.exact_model.proofs.Public.{over, same, le_same, turned, ◌≈≈◌}
use Rattle.fixed_interval.specs.Ends.{In}
use Rattle.fixed_interval.proofs.Public.{down_below, up_above, ratio_below, quotient_is}
use Rattle.case_figures.specs.Spans.{ends, places}
use Rattle.hull.specs.declared.price.Price.{Price}
use Rattle.plan_report.specs.Texts.{PrintsAbove, PrintsBelow, PrintsPriceBelow, PrintsWithin}
use Rattle.plan_report.proofs.text.prints_outward.Goals as goal

parts_of : (n k : ℕ) (p : 0 < k) → whole n /ℚ whole k ≈ over n k p
unfolding whole
parts_of n k p = quotient_is (whole n) (whole k) p ≈≈ record { cross = omega arith }

some : 0 < 2 ^ 48
some = lit< tt

alone : (n : ℕ) → In 48 (record { lo = n; hi = n }) (over n (2 ^ 48) some)
alone n = record { low = le_refl (n * 2 ^ 48); high = le_refl (n * 2 ^ 48) }

below : (n : ℕ) → PrintsBelow n
below n = le_same (same _) (turned (parts_of n (2 ^ 48) some)) (down_below 48 6 (record { lo = n; hi = n }) (over n (2 ^ 48) some) (alone n))

above : (n : ℕ) → PrintsAbove n
above n = le_same (turned (parts_of n (2 ^ 48) some)) (same _) (up_above 48 6 (record { lo = n; hi = n }) (over n (2 ^ 48) some) (alone n))

within : (n m rounding : ℕ) → PrintsWithin n m rounding
within n m rounding h = (let up = ceil_above (rounding * 10 ^ 6) (2 ^ 48) some in omega (arith, h, up))

price_below : (price : Price) → PrintsPriceBelow price
price_below price h = le_same (same _) (turned (parts_of price.p (price.q * 2 ^ 48) (mul-pos h some))) (ratio_below price.p (price.q * 2 ^ 48) 12 (mul-pos h some))

pub returns : goal.returns
returns c = record {
  intervals = λ f x q h. (down_below f 6 x q h, up_above f 6 x q h);
  spans = λ x q h. (down_below (places x) 6 (ends x) q h, up_above (places x) 6 (ends x) q h);
  down = below;
  up = above;
  within = within;
  price = price_below;
}
