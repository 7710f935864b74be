-- The inputs of a case by part p and site k. Site 0 is the depot, and sites 1 to J are the bases. A look-up past the
-- case's rows finds zeros.
use Rattle.std.specs.Prelude.{ℕ, ◌-◌, List, length, get_or}
use Rattle.std.specs.List.{range_with_len}
use Rattle.std.proofs.Common.{zero-lt-suc}
use Rattle.exact_model.specs.Fraction.{Fraction, whole, ◌-ℚ◌}
use Rattle.spares_input.specs.Frames as frames
use Rattle.spares_input.specs.Frames.{site_at, part_at}
use Rattle.spares_input.specs.Pairs.{pair_place}
use Rattle.spares_input.specs.Cases.{CaseRows, rate_at}

-- all sites
abbrev pub all_sites : CaseRows → List ℕ
all_sites c = range_with_len 0 (length c.sites)

-- the sites 1 to J
abbrev pub bases : CaseRows → List ℕ
bases c = range_with_len 1 (length c.sites - 1)

-- all parts, line units and shop units, in file order
abbrev pub all_parts : CaseRows → List ℕ
all_parts c = range_with_len 0 (length c.parts)

-- the line units, in part order
abbrev pub line_units : CaseRows → List ℕ
line_units c = frames.line_units c.parts

-- the shop units of the line unit l, in part order
abbrev pub shop_units : CaseRows → ℕ → List ℕ
shop_units c l = frames.shop_units_among c.parts l

-- n ten-thousandths
unfoldable pub ten_thousandths : ℕ → Fraction
ten_thousandths n = record { num = n; den = 10000; positive = zero-lt-suc 9999 }

-- n hundredths of a day, in years of 365 days
unfoldable pub years : ℕ → Fraction
years n = record { num = n; den = 36500; positive = zero-lt-suc 36499 }

-- r, the probability that part p is repaired at base j
unfoldable pub here : CaseRows → ℕ → ℕ → Fraction
here c p j = ten_thousandths (rate_at c p j).repair_here

-- 1 - r, the probability that it is sent to the depot
unfoldable pub sent : CaseRows → ℕ → ℕ → Fraction
sent c p j = whole 1 -ℚ here c p j

-- q, the probability that a repair of the line unit at site k needs its shop unit i
unfoldable pub needed : CaseRows → ℕ → ℕ → Fraction
needed c i k = ten_thousandths (rate_at c i k).share

-- T, the mean time of a repair of part p at site k
unfoldable pub repair : CaseRows → ℕ → ℕ → Fraction
repair c p k = years (rate_at c p k).repair_days

-- O, the mean time of order and shipment from the depot to base j
unfoldable pub ship : CaseRows → ℕ → Fraction
ship c j = years (site_at c.sites j).ship

-- N, the systems at base j
abbrev pub systems : CaseRows → ℕ → ℕ
systems c j = (site_at c.sites j).systems

-- Z, the number of the line unit l in a system
abbrev pub per_system : CaseRows → ℕ → ℕ
per_system c l = (part_at c.parts l).per_system

-- the weight of a backorder of the line unit l
abbrev pub weight : CaseRows → ℕ → ℕ
weight c l = (part_at c.parts l).weight

-- the stock of part p at site k, in a list by part and then by site
abbrev pub stock : CaseRows → List ℕ → ℕ → ℕ → ℕ
stock c s p k = get_or s (pair_place (length c.sites) p k) 0
