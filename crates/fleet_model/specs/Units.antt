-- The same numbers in whole units: demands in 10^-4, 10^-8, 10^-12 or 10^-16 a year, and direct pipelines and
-- zero-stock means in 10^-18 / 365.
use Rattle.std.specs.Prelude.{ℕ, ◌+◌, ◌-◌, ◌*◌, ◌^◌, Option, sum_by}
use Rattle.std.proofs.Common.{zero-lt-suc}
use Rattle.exact_model.specs.Fraction.{Fraction}
use Rattle.spares_input.specs.Frames.{line_of, site_at}
use Rattle.spares_input.specs.Cases.{CaseRows, rate_at}
use Rattle.fleet_model.specs.Rows.{bases, shop_units}
use Rattle.fleet_model.specs.Pairs.{by_pair}

-- m_0j, in 10^-4
abbrev pub demand_0j : CaseRows → ℕ → ℕ → ℕ
demand_0j c l j = (rate_at c l j).demand

-- m_0j (1 - r_0j), in 10^-8
abbrev pub sent_0j : CaseRows → ℕ → ℕ → ℕ
sent_0j c l j = (rate_at c l j).demand * (10000 - (rate_at c l j).repair_here)

-- m_00, in 10^-8
abbrev pub demand_00 : CaseRows → ℕ → ℕ
demand_00 c l = sum_by (sent_0j c l) (bases c)

-- m_ij, in 10^-12
abbrev pub demand_ij : CaseRows → ℕ → ℕ → ℕ → ℕ
demand_ij c l i j = (rate_at c l j).demand * (rate_at c l j).repair_here * (rate_at c i j).share

-- m_ij (1 - r_ij), in 10^-16
abbrev pub sent_ij : CaseRows → ℕ → ℕ → ℕ → ℕ
sent_ij c l i j = demand_ij c l i j * (10000 - (rate_at c i j).repair_here)

-- m_00 q_i0, in 10^-12
abbrev pub needed_i0 : CaseRows → ℕ → ℕ → ℕ
needed_i0 c l i = demand_00 c l * (rate_at c i 0).share

-- m_i0, in 10^-16
abbrev pub demand_i0 : CaseRows → ℕ → ℕ → ℕ
demand_i0 c l i = sum_by (sent_ij c l i) (bases c) + needed_i0 c l i * 10000

-- (1 - r) O + r T, in 10^-6 days
abbrev pub days_at : CaseRows → ℕ → ℕ → ℕ
days_at c p j = (10000 - (rate_at c p j).repair_here) * (site_at c.sites j).ship + (rate_at c p j).repair_here
    * (rate_at c p j).repair_days

-- D of a shop unit at the depot
abbrev pub direct_units_i0 : CaseRows → ℕ → ℕ → ℕ
direct_units_i0 c l i = demand_i0 c l i * (rate_at c i 0).repair_days

-- D of a line unit at the depot
abbrev pub direct_units_00 : CaseRows → ℕ → ℕ
direct_units_00 c l = demand_00 c l * (rate_at c l 0).repair_days * 100000000

-- D of a shop unit at a base
abbrev pub direct_units_ij : CaseRows → ℕ → ℕ → ℕ → ℕ
direct_units_ij c l i j = demand_ij c l i j * days_at c i j

-- D of a line unit at a base
abbrev pub direct_units_0j : CaseRows → ℕ → ℕ → ℕ
direct_units_0j c l j = (rate_at c l j).demand * days_at c l j * 100000000

-- M of a line unit at the depot
abbrev pub zero_stock_units_00 : CaseRows → ℕ → ℕ
zero_stock_units_00 c l = direct_units_00 c l + sum_by (λ i. needed_i0 c l i * (rate_at c i 0).repair_days * 10000)
    (shop_units c l)

-- M of a shop unit at a base
abbrev pub zero_stock_units_ij : CaseRows → ℕ → ℕ → ℕ → ℕ
zero_stock_units_ij c l i j = direct_units_ij c l i j + sent_ij c l i j * (rate_at c i 0).repair_days

-- M of a line unit at a base
abbrev pub zero_stock_units_0j : CaseRows → ℕ → ℕ → ℕ
zero_stock_units_0j c l j =
    direct_units_0j c l j
    + sent_0j c l j * ((rate_at c l 0).repair_days * 10000 + sum_by
    (λ i. (rate_at c i 0).share * (rate_at c i 0).repair_days) (shop_units c l)) * 10000
    + sum_by (λ i. zero_stock_units_ij c l i j) (shop_units c l)

-- ---- by pair: the numbers of part p, whose line unit is o, at site k

-- the demand, in a unit that depends on the kind of the pair
abbrev pub demand_of : CaseRows → Option ℕ → ℕ → ℕ → ℕ
demand_of c o p k = by_pair (demand_i0 c) (demand_00 c) (demand_ij c) (demand_0j c) o p k

-- the number of the demand's units in 1
abbrev pub scale_of : Option ℕ → ℕ → ℕ → ℕ
scale_of o p k = by_pair (λ l i. 10 ^ 16) (λ l. 10 ^ 8) (λ l i j. 10 ^ 12) (λ l j. 10 ^ 4) o p k

-- a share is its top over its bottom, 0 if the bottom is 0
abbrev pub top_of : CaseRows → Option ℕ → ℕ → ℕ → ℕ
top_of c o p k = by_pair (λ l i. needed_i0 c l i * 10000) (λ l. 1) (sent_ij c) (sent_0j c) o p k

-- the demand at the depot of which the share is taken
abbrev pub bottom_of : CaseRows → Option ℕ → ℕ → ℕ → ℕ
bottom_of c o p k = by_pair (demand_i0 c) (λ l. 1) (λ l i j. demand_i0 c l i) (λ l j. demand_00 c l) o p k

-- D of the pair, in the pipelines' units
abbrev pub direct_of : CaseRows → Option ℕ → ℕ → ℕ → ℕ
direct_of c o p k = by_pair (direct_units_i0 c) (direct_units_00 c) (direct_units_ij c) (direct_units_0j c) o p k

-- M of the pair, in the pipelines' units
abbrev pub zero_stock_of : CaseRows → Option ℕ → ℕ → ℕ → ℕ
zero_stock_of c o p k = by_pair (direct_units_i0 c) (zero_stock_units_00 c) (zero_stock_units_ij c)
    (zero_stock_units_0j c) o p k

-- the demand of part p at site k
abbrev pub demand_units : CaseRows → ℕ → ℕ → ℕ
demand_units c p k = demand_of c (line_of c.parts p) p k

-- the number of units of that demand in 1
abbrev pub demand_scale : CaseRows → ℕ → ℕ → ℕ
demand_scale c p k = scale_of (line_of c.parts p) p k

-- the top of the share of part p at site k
abbrev pub share_top : CaseRows → ℕ → ℕ → ℕ
share_top c p k = top_of c (line_of c.parts p) p k

-- the bottom of that share
abbrev pub share_bottom : CaseRows → ℕ → ℕ → ℕ
share_bottom c p k = bottom_of c (line_of c.parts p) p k

-- D of part p at site k, in the pipelines' units
abbrev pub direct_units : CaseRows → ℕ → ℕ → ℕ
direct_units c p k = direct_of c (line_of c.parts p) p k

-- M of part p at site k, in the pipelines' units
abbrev pub zero_stock_units : CaseRows → ℕ → ℕ → ℕ
zero_stock_units c p k = zero_stock_of c (line_of c.parts p) p k

-- the number of the pipelines' units in 1
abbrev pub pipeline_scale : ℕ
pipeline_scale = 365000000000000000000

-- n of the pipelines' units
unfoldable pub in_pipeline : ℕ → Fraction
in_pipeline n = record { num = n; den = pipeline_scale; positive = zero-lt-suc 364999999999999999999 }
