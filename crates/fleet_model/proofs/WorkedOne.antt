-- The definitions at a case of one base, worked by hand from the formulas: a line unit with one shop unit.
use Rattle.std.specs.Prelude.{◌≡◌, ◌*◌, ℕ, suc, true, false, List, [], ◌∷◌, Some, None}
use Rattle.std.proofs.Common.{refl, zero-lt-suc, arith, ◌<◌, ◌≤◌, zero}
use Rattle.exact_model.specs.Fraction.{Fraction, whole, ◌≈◌, ◌+ℚ◌, ◌-ℚ◌, ◌*ℚ◌, ◌/ℚ◌, scaled, sum_below, larger}
use Rattle.exact_model.specs.Series.{excess, weight, weight_sum, chance, unless_zero, ebo, second, vbo}
use Rattle.exact_model.specs.Shares.{shared}
use Rattle.exact_model.proofs.Public.{over, ◌≈≈◌, ebo_same, vbo_same}
use Rattle.spares_input.specs.Cases.{CaseRows}
use Rattle.spares_input.specs.Frames.{line_of}
use Rattle.spares_input.specs.Stocks.{limit_at}
use Rattle.exact_model.specs.Sums.{sum_over, product_over, power}
use Rattle.fleet_model.specs.Rows.{ten_thousandths, years, here, sent, needed, repair, ship, line_units, shop_units, stock}
use Rattle.fleet_model.specs.Demand.{m_0j, m_00, m_ij, m_i0, f_i0, f_ij, f_0j}
use Rattle.fleet_model.specs.ZeroStock.{direct_i0, direct_00, time_at, direct_ij, direct_0j, zero_stock_i0, zero_stock_00, zero_stock_ij, zero_stock_0j}
use Rattle.fleet_model.specs.Pipelines.{pipeline_i0, pipeline_00, pipeline_ij, pipeline_0j, ebo_i0, ebo_00, ebo_ij, ebo_0j, vbo_i0, vbo_00, vbo_ij, vbo_0j}
use Rattle.fleet_model.specs.Fleet.{factor, availability, fleet, family_total, case_total, cost, IsAllocation}

-- a fraction is n / d
abbrev IsRatio : Fraction → ℕ → ℕ → Type 0
IsRatio q n d = q.num * d ≡ n * q.den

of_ratio : {q : Fraction} {n d : ℕ} → IsRatio q n (suc d) → q ≈ over n (suc d) (zero-lt-suc d)
of_ratio h = record { cross = h }

-- a depot and a base; the line unit L, of weight 3, with the shop unit S
small : CaseRows
small = record {
  sites =
      record { name = 68 ∷ []; depot = true; systems = 0; ship = 0 }
      ∷ record { name = 66 ∷ []; depot = false; systems = 10; ship = 500 }
      ∷ [];
  parts =
      record { name = 76 ∷ []; parent = None; cost = 1000; per_system = 2; max_depot = 1; max_base = 1; weight = 3 }
      ∷ record { name = 83 ∷ []; parent = Some (76 ∷ []); cost = 200; per_system = 0; max_depot = 1; max_base = 1; weight = 0 }
      ∷ [];
  rates =
      record { part = record { 0 = 0 }; site = record { 0 = 0 }; demand = 0; repair_here = 0; share = 0; repair_days = 1000 }
      ∷ record { part = record { 0 = 0 }; site = record { 0 = 1 }; demand = 365000; repair_here = 5000; share = 0; repair_days = 500 }
      ∷ record { part = record { 0 = 1 }; site = record { 0 = 0 }; demand = 0; repair_here = 0; share = 4000; repair_days = 2000 }
      ∷ record { part = record { 0 = 1 }; site = record { 0 = 1 }; demand = 0; repair_here = 2500; share = 4000; repair_days = 500 }
      ∷ [];
}

lines : line_units small ≡ 0 ∷ []
unfolding small
lines = refl

shops : shop_units small 0 ≡ 1 ∷ []
unfolding small
shops = refl

line_of_shop : line_of small.parts 1 ≡ Some 0
unfolding small
line_of_shop = refl

-- a unit of S at the depot and one of L at the base
stocks : List ℕ
stocks = 0 ∷ 1 ∷ 1 ∷ 0 ∷ []

cost_row : cost small stocks ≡ 1200
unfolding small stocks
cost_row = refl

demands :
    IsRatio (m_0j small 0 1) 73 2
    × IsRatio (m_00 small 0) 73 4
    × IsRatio (m_ij small 0 1 1) 73 10
    × IsRatio (m_i0 small 0 1) 511 40
unfolding small sum_over product_over power ten_thousandths years here sent needed repair ship m_0j m_00 m_ij m_i0 f_i0 f_ij f_0j direct_i0 direct_00 time_at direct_ij direct_0j zero_stock_i0 zero_stock_00 zero_stock_ij zero_stock_0j shared pipeline_i0 ebo_i0 vbo_i0 pipeline_00 ebo_00 vbo_00 pipeline_ij ebo_ij vbo_ij pipeline_0j ebo_0j vbo_0j factor availability fleet family_total case_total ebo vbo second larger unless_zero sum_below chance weight_sum weight excess ◌/ℚ◌ scaled ◌+ℚ◌ ◌-ℚ◌ ◌*ℚ◌ whole
demands = (refl, refl, refl, refl)

shares :
    IsRatio (f_i0 small 0 1) 4 7
    × IsRatio (f_ij small 0 1 1) 3 7
    × IsRatio (f_0j small 0 1) 1 1
unfolding small sum_over product_over power ten_thousandths years here sent needed repair ship m_0j m_00 m_ij m_i0 f_i0 f_ij f_0j direct_i0 direct_00 time_at direct_ij direct_0j zero_stock_i0 zero_stock_00 zero_stock_ij zero_stock_0j shared pipeline_i0 ebo_i0 vbo_i0 pipeline_00 ebo_00 vbo_00 pipeline_ij ebo_ij vbo_ij pipeline_0j ebo_0j vbo_0j factor availability fleet family_total case_total ebo vbo second larger unless_zero sum_below chance weight_sum weight excess ◌/ℚ◌ scaled ◌+ℚ◌ ◌-ℚ◌ ◌*ℚ◌ whole
shares = (refl, refl, refl)

directs :
    IsRatio (direct_i0 small 0 1) 7 10
    × IsRatio (direct_00 small 0) 1 2
    × IsRatio (direct_ij small 0 1 1) 1 10
    × IsRatio (direct_0j small 0 1) 1 2
unfolding small sum_over product_over power ten_thousandths years here sent needed repair ship m_0j m_00 m_ij m_i0 f_i0 f_ij f_0j direct_i0 direct_00 time_at direct_ij direct_0j zero_stock_i0 zero_stock_00 zero_stock_ij zero_stock_0j shared pipeline_i0 ebo_i0 vbo_i0 pipeline_00 ebo_00 vbo_00 pipeline_ij ebo_ij vbo_ij pipeline_0j ebo_0j vbo_0j factor availability fleet family_total case_total ebo vbo second larger unless_zero sum_below chance weight_sum weight excess ◌/ℚ◌ scaled ◌+ℚ◌ ◌-ℚ◌ ◌*ℚ◌ whole
directs = (refl, refl, refl, refl)

zero_stocks :
    IsRatio (zero_stock_i0 small 0 1) 7 10
    × IsRatio (zero_stock_00 small 0) 9 10
    × IsRatio (zero_stock_ij small 0 1 1) 2 5
    × IsRatio (zero_stock_0j small 0 1) 9 5
unfolding small sum_over product_over power ten_thousandths years here sent needed repair ship m_0j m_00 m_ij m_i0 f_i0 f_ij f_0j direct_i0 direct_00 time_at direct_ij direct_0j zero_stock_i0 zero_stock_00 zero_stock_ij zero_stock_0j shared pipeline_i0 ebo_i0 vbo_i0 pipeline_00 ebo_00 vbo_00 pipeline_ij ebo_ij vbo_ij pipeline_0j ebo_0j vbo_0j factor availability fleet family_total case_total ebo vbo second larger unless_zero sum_below chance weight_sum weight excess ◌/ℚ◌ scaled ◌+ℚ◌ ◌-ℚ◌ ◌*ℚ◌ whole
zero_stocks = (refl, refl, refl, refl)

-- at these stocks and depth 3
depot_shop :
    IsRatio ((pipeline_i0 small 0 1).mean) 7 10
    × IsRatio ((pipeline_i0 small 0 1).variance) 7 10
    × IsRatio (ebo_i0 small stocks 3 0 1) 23961 120130
    × IsRatio (vbo_i0 small stocks 3 0 1) 361873183 1443121690
unfolding small stocks sum_over product_over power ten_thousandths years here sent needed repair ship m_0j m_00 m_ij m_i0 f_i0 f_ij f_0j direct_i0 direct_00 time_at direct_ij direct_0j zero_stock_i0 zero_stock_00 zero_stock_ij zero_stock_0j shared pipeline_i0 ebo_i0 vbo_i0 pipeline_00 ebo_00 vbo_00 pipeline_ij ebo_ij vbo_ij pipeline_0j ebo_0j vbo_0j factor availability fleet family_total case_total ebo vbo second larger unless_zero sum_below chance weight_sum weight excess ◌/ℚ◌ scaled ◌+ℚ◌ ◌-ℚ◌ ◌*ℚ◌ whole
depot_shop = (refl, refl, refl, refl)

depot_line :
    IsRatio ((pipeline_00 small stocks 3 0).mean) 73757 120130
    × IsRatio ((pipeline_00 small stocks 3 0).variance) 910215801 1443121690
    × IsRatio (ebo_00 small stocks 3 0) 73757 120130
    × IsRatio (vbo_00 small stocks 3 0) 910215801 1443121690
unfolding small stocks sum_over product_over power ten_thousandths years here sent needed repair ship m_0j m_00 m_ij m_i0 f_i0 f_ij f_0j direct_i0 direct_00 time_at direct_ij direct_0j zero_stock_i0 zero_stock_00 zero_stock_ij zero_stock_0j shared pipeline_i0 ebo_i0 vbo_i0 pipeline_00 ebo_00 vbo_00 pipeline_ij ebo_ij vbo_ij pipeline_0j ebo_0j vbo_0j factor availability fleet family_total case_total ebo vbo second larger unless_zero sum_below chance weight_sum weight excess ◌/ℚ◌ scaled ◌+ℚ◌ ◌-ℚ◌ ◌*ℚ◌ whole
depot_line = (refl, refl, refl, refl)

base_shop :
    IsRatio ((pipeline_ij small stocks 3 0 1 1).mean) 11141 60065
    × IsRatio ((pipeline_ij small stocks 3 0 1 1).variance) 140635478 721560845
    × IsRatio (ebo_ij small stocks 3 0 1 1) 11141 60065
    × IsRatio (vbo_ij small stocks 3 0 1 1) 140635478 721560845
unfolding small stocks sum_over product_over power ten_thousandths years here sent needed repair ship m_0j m_00 m_ij m_i0 f_i0 f_ij f_0j direct_i0 direct_00 time_at direct_ij direct_0j zero_stock_i0 zero_stock_00 zero_stock_ij zero_stock_0j shared pipeline_i0 ebo_i0 vbo_i0 pipeline_00 ebo_00 vbo_00 pipeline_ij ebo_ij vbo_ij pipeline_0j ebo_0j vbo_0j factor availability fleet family_total case_total ebo vbo second larger unless_zero sum_below chance weight_sum weight excess ◌/ℚ◌ scaled ◌+ℚ◌ ◌-ℚ◌ ◌*ℚ◌ whole
base_shop = (refl, refl, refl, refl)

base_line_mean :
    IsRatio ((pipeline_0j small stocks 3 0 1).mean) 78052 60065
unfolding small stocks sum_over product_over power ten_thousandths years here sent needed repair ship m_0j m_00 m_ij m_i0 f_i0 f_ij f_0j direct_i0 direct_00 time_at direct_ij direct_0j zero_stock_i0 zero_stock_00 zero_stock_ij zero_stock_0j shared pipeline_i0 ebo_i0 vbo_i0 pipeline_00 ebo_00 vbo_00 pipeline_ij ebo_ij vbo_ij pipeline_0j ebo_0j vbo_0j factor availability fleet family_total case_total ebo vbo second larger unless_zero sum_below chance weight_sum weight excess ◌/ℚ◌ scaled ◌+ℚ◌ ◌-ℚ◌ ◌*ℚ◌ whole
base_line_mean = refl

base_line_variance :
    IsRatio ((pipeline_0j small stocks 3 0 1).variance) 956523801 721560845
unfolding small stocks sum_over product_over power ten_thousandths years here sent needed repair ship m_0j m_00 m_ij m_i0 f_i0 f_ij f_0j direct_i0 direct_00 time_at direct_ij direct_0j zero_stock_i0 zero_stock_00 zero_stock_ij zero_stock_0j shared pipeline_i0 ebo_i0 vbo_i0 pipeline_00 ebo_00 vbo_00 pipeline_ij ebo_ij vbo_ij pipeline_0j ebo_0j vbo_0j factor availability fleet family_total case_total ebo vbo second larger unless_zero sum_below chance weight_sum weight excess ◌/ℚ◌ scaled ◌+ℚ◌ ◌-ℚ◌ ◌*ℚ◌ whole
base_line_variance = refl

ebo_number : IsRatio (ebo 3 (over 78052 60065 (zero-lt-suc 60064)) (over 956523801 721560845 (zero-lt-suc 721560844)) 1) 4458567993844280578414430682689636 7574656187348142946277338322223695
unfolding ebo vbo second larger unless_zero sum_below chance weight_sum weight excess ◌/ℚ◌ scaled ◌+ℚ◌ ◌-ℚ◌ ◌*ℚ◌ whole
ebo_number = refl

base_line_ebo : ebo_0j small stocks 3 0 1 ≈ over 4458567993844280578414430682689636 7574656187348142946277338322223695 (zero-lt-suc 7574656187348142946277338322223694)
unfolding small stocks ebo_0j
base_line_ebo = ebo_same 3 1 (of_ratio {q = (pipeline_0j small stocks 3 0 1).mean} base_line_mean) (of_ratio {q = (pipeline_0j small stocks 3 0 1).variance} base_line_variance) ≈≈ of_ratio ebo_number

vbo_number : IsRatio (vbo 3 (over 78052 60065 (zero-lt-suc 60064)) (over 956523801 721560845 (zero-lt-suc 721560844)) 1) 8946893985212970224201754904651579567807363028816390785812033759609 11475083271306301042616260438338097507330831088316958815185923890605
unfolding ebo vbo second larger unless_zero sum_below chance weight_sum weight excess ◌/ℚ◌ scaled ◌+ℚ◌ ◌-ℚ◌ ◌*ℚ◌ whole
vbo_number = refl

base_line_vbo : vbo_0j small stocks 3 0 1 ≈ over 8946893985212970224201754904651579567807363028816390785812033759609 11475083271306301042616260438338097507330831088316958815185923890605 (zero-lt-suc 11475083271306301042616260438338097507330831088316958815185923890604)
unfolding small stocks vbo_0j
base_line_vbo = vbo_same 3 1 (of_ratio {q = (pipeline_0j small stocks 3 0 1).mean} base_line_mean) (of_ratio {q = (pipeline_0j small stocks 3 0 1).variance} base_line_variance) ≈≈ of_ratio vbo_number

-- with no stock at the base
stocks_at_depot : List ℕ
stocks_at_depot = 0 ∷ 0 ∷ 1 ∷ 0 ∷ []

base_line_without_stock :
    IsRatio (ebo_0j small stocks_at_depot 3 0 1) 78052 60065
unfolding small stocks_at_depot sum_over product_over power ten_thousandths years here sent needed repair ship m_0j m_00 m_ij m_i0 f_i0 f_ij f_0j direct_i0 direct_00 time_at direct_ij direct_0j zero_stock_i0 zero_stock_00 zero_stock_ij zero_stock_0j shared pipeline_i0 ebo_i0 vbo_i0 pipeline_00 ebo_00 vbo_00 pipeline_ij ebo_ij vbo_ij pipeline_0j ebo_0j vbo_0j factor availability fleet family_total case_total ebo vbo second larger unless_zero sum_below chance weight_sum weight excess ◌/ℚ◌ scaled ◌+ℚ◌ ◌-ℚ◌ ◌*ℚ◌ whole
base_line_without_stock = refl

availabilities :
    IsRatio (availability small stocks_at_depot 3 1) 78855379344 90195105625
    × IsRatio (fleet small stocks_at_depot 3) 78855379344 90195105625
unfolding small stocks_at_depot sum_over product_over power ten_thousandths years here sent needed repair ship m_0j m_00 m_ij m_i0 f_i0 f_ij f_0j direct_i0 direct_00 time_at direct_ij direct_0j zero_stock_i0 zero_stock_00 zero_stock_ij zero_stock_0j shared pipeline_i0 ebo_i0 vbo_i0 pipeline_00 ebo_00 vbo_00 pipeline_ij ebo_ij vbo_ij pipeline_0j ebo_0j vbo_0j factor availability fleet family_total case_total ebo vbo second larger unless_zero sum_below chance weight_sum weight excess ◌/ℚ◌ scaled ◌+ℚ◌ ◌-ℚ◌ ◌*ℚ◌ whole
availabilities = (refl, refl)

-- three times the backorders
totals :
    IsRatio (family_total small stocks_at_depot 3 0) 234156 60065
    × IsRatio (case_total small stocks_at_depot 3) 234156 60065
unfolding small stocks_at_depot sum_over product_over power ten_thousandths years here sent needed repair ship m_0j m_00 m_ij m_i0 f_i0 f_ij f_0j direct_i0 direct_00 time_at direct_ij direct_0j zero_stock_i0 zero_stock_00 zero_stock_ij zero_stock_0j shared pipeline_i0 ebo_i0 vbo_i0 pipeline_00 ebo_00 vbo_00 pipeline_ij ebo_ij vbo_ij pipeline_0j ebo_0j vbo_0j factor availability fleet family_total case_total ebo vbo second larger unless_zero sum_below chance weight_sum weight excess ◌/ℚ◌ scaled ◌+ℚ◌ ◌-ℚ◌ ◌*ℚ◌ whole
totals = (refl, refl)

stocks_everywhere : List ℕ
stocks_everywhere = 1 ∷ 1 ∷ 1 ∷ 1 ∷ []

depot_line_stocked :
    IsRatio ((pipeline_00 small stocks_everywhere 2 0).mean) 2421 3890
    × IsRatio ((pipeline_00 small stocks_everywhere 2 0).variance) 949609 1513210
    × IsRatio (ebo_00 small stocks_everywhere 2 0) 570601075643019 3264828620260610
    × IsRatio (vbo_00 small stocks_everywhere 2 0) 199540427319002072685147799609 1065910591967279837338431757210
unfolding small stocks_everywhere sum_over product_over power ten_thousandths years here sent needed repair ship m_0j m_00 m_ij m_i0 f_i0 f_ij f_0j direct_i0 direct_00 time_at direct_ij direct_0j zero_stock_i0 zero_stock_00 zero_stock_ij zero_stock_0j shared pipeline_i0 ebo_i0 vbo_i0 pipeline_00 ebo_00 vbo_00 pipeline_ij ebo_ij vbo_ij pipeline_0j ebo_0j vbo_0j factor availability fleet family_total case_total ebo vbo second larger unless_zero sum_below chance weight_sum weight excess ◌/ℚ◌ scaled ◌+ℚ◌ ◌-ℚ◌ ◌*ℚ◌ whole
depot_line_stocked = (refl, refl, refl, refl)

base_shop_stocked :
    IsRatio (ebo_ij small stocks_everywhere 2 0 1 1) 63830054696 3276811339115
    × IsRatio (vbo_ij small stocks_everywhere 2 0 1 1) 42590808433068939762298 2147498510430527905796645
unfolding small stocks_everywhere sum_over product_over power ten_thousandths years here sent needed repair ship m_0j m_00 m_ij m_i0 f_i0 f_ij f_0j direct_i0 direct_00 time_at direct_ij direct_0j zero_stock_i0 zero_stock_00 zero_stock_ij zero_stock_0j shared pipeline_i0 ebo_i0 vbo_i0 pipeline_00 ebo_00 vbo_00 pipeline_ij ebo_ij vbo_ij pipeline_0j ebo_0j vbo_0j factor availability fleet family_total case_total ebo vbo second larger unless_zero sum_below chance weight_sum weight excess ◌/ℚ◌ scaled ◌+ℚ◌ ◌-ℚ◌ ◌*ℚ◌ whole
base_shop_stocked = (refl, refl)

-- the first stocks are an allocation
allocation : IsAllocation small stocks
unfolding small stocks
allocation = record { complete = refl; within = within }
  where
    within : (p k : ℕ) → p < 2 → k < 2 → stock small (0 ∷ 1 ∷ 1 ∷ 0 ∷ []) p k ≤ limit_at small.parts p k
    within zero zero a b = omega arith
    within zero (suc zero) a b = omega arith
    within (suc zero) zero a b = omega arith
    within (suc zero) (suc zero) a b = omega arith
    within (suc (suc p)) k a b = absurd (omega arith)
    within p (suc (suc k)) a b = absurd (omega arith)

-- no stock of the line unit at the base is above its limit of 1
too_many : IsAllocation small (0 ∷ 2 ∷ 1 ∷ 0 ∷ []) → ⊥
unfolding small
too_many a = absurd (omega (arith, a.within 0 1 (omega arith) (omega arith)))
