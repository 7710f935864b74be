-- The definitions at a case of two bases, computed apart from the formulas in exact fractions.
use Rattle.std.specs.Prelude.{◌≡◌, ◌*◌, ℕ, true, false, List, [], ◌∷◌, Some, None}
use Rattle.std.proofs.Common.{refl}
use Rattle.exact_model.specs.Fraction.{Fraction, whole, ◌+ℚ◌, ◌-ℚ◌, ◌*ℚ◌, ◌/ℚ◌, scaled, sum_below, larger}
use Rattle.exact_model.specs.Series.{excess, weight, weight_sum, chance, unless_zero, ebo, second, vbo}
use Rattle.exact_model.specs.Shares.{shared}
use Rattle.spares_input.specs.Cases.{CaseRows}
use Rattle.exact_model.specs.Sums.{sum_over, product_over, power}
use Rattle.fleet_model.specs.Rows.{ten_thousandths, years, here, sent, needed, repair, ship, line_units, shop_units}
use Rattle.fleet_model.specs.Demand.{m_0j, m_00, m_ij, m_i0, f_i0, f_ij, f_0j}
use Rattle.fleet_model.specs.ZeroStock.{direct_i0, direct_00, time_at, direct_ij, direct_0j, zero_stock_i0, zero_stock_00, zero_stock_ij, zero_stock_0j}
use Rattle.fleet_model.specs.Pipelines.{pipeline_i0, pipeline_00, pipeline_ij, pipeline_0j, ebo_i0, ebo_00, ebo_ij, ebo_0j, vbo_i0, vbo_00, vbo_ij, vbo_0j}
use Rattle.fleet_model.specs.Fleet.{factor, availability, fleet, family_total, case_total, cost}
use Rattle.fleet_model.specs.Pairs.{demand, share, direct, zero_stock, mean, variance, backorders, spread}

-- a fraction is n / d
abbrev IsRatio : Fraction → ℕ → ℕ → Type 0
IsRatio q n d = q.num * d ≡ n * q.den

-- two bases; the line unit L, of weight 2, with the shop units S and R, and K, of weight 5, with none
two : CaseRows
two = record {
  sites =
      record { name = 68 ∷ []; depot = true; systems = 0; ship = 0 }
      ∷ record { name = 66 ∷ []; depot = false; systems = 10; ship = 500 }
      ∷ record { name = 67 ∷ []; depot = false; systems = 3; ship = 750 }
      ∷ [];
  parts =
      record { name = 83 ∷ []; parent = Some (76 ∷ []); cost = 200; per_system = 0; max_depot = 1; max_base = 1; weight = 0 }
      ∷ record { name = 76 ∷ []; parent = None; cost = 1000; per_system = 2; max_depot = 1; max_base = 1; weight = 2 }
      ∷ record { name = 75 ∷ []; parent = None; cost = 70; per_system = 1; max_depot = 1; max_base = 1; weight = 5 }
      ∷ record { name = 82 ∷ []; parent = Some (76 ∷ []); cost = 30; per_system = 0; max_depot = 1; max_base = 1; weight = 0 }
      ∷ [];
  rates =
      record { part = record { 0 = 0 }; site = record { 0 = 0 }; demand = 0; repair_here = 0; share = 4000; repair_days = 2000 }
      ∷ record { part = record { 0 = 0 }; site = record { 0 = 1 }; demand = 0; repair_here = 2500; share = 4000; repair_days = 500 }
      ∷ record { part = record { 0 = 0 }; site = record { 0 = 2 }; demand = 0; repair_here = 5000; share = 2000; repair_days = 600 }
      ∷ record { part = record { 0 = 1 }; site = record { 0 = 0 }; demand = 0; repair_here = 0; share = 0; repair_days = 1000 }
      ∷ record { part = record { 0 = 1 }; site = record { 0 = 1 }; demand = 365000; repair_here = 5000; share = 0; repair_days = 500 }
      ∷ record { part = record { 0 = 1 }; site = record { 0 = 2 }; demand = 200000; repair_here = 2500; share = 0; repair_days = 400 }
      ∷ record { part = record { 0 = 2 }; site = record { 0 = 0 }; demand = 0; repair_here = 0; share = 0; repair_days = 800 }
      ∷ record { part = record { 0 = 2 }; site = record { 0 = 1 }; demand = 90000; repair_here = 1000; share = 0; repair_days = 300 }
      ∷ record { part = record { 0 = 2 }; site = record { 0 = 2 }; demand = 20000; repair_here = 10000; share = 0; repair_days = 200 }
      ∷ record { part = record { 0 = 3 }; site = record { 0 = 0 }; demand = 0; repair_here = 0; share = 1000; repair_days = 3000 }
      ∷ record { part = record { 0 = 3 }; site = record { 0 = 1 }; demand = 0; repair_here = 3000; share = 6000; repair_days = 900 }
      ∷ record { part = record { 0 = 3 }; site = record { 0 = 2 }; demand = 0; repair_here = 0; share = 5000; repair_days = 100 }
      ∷ [];
}

stocks : List ℕ
stocks = 1 ∷ 0 ∷ 0 ∷ 0 ∷ 0 ∷ 0 ∷ 1 ∷ 0 ∷ 0 ∷ 1 ∷ 0 ∷ 0 ∷ []

lines : line_units two ≡ 1 ∷ 2 ∷ []
unfolding two
lines = refl

shops : shop_units two 1 ≡ 0 ∷ 3 ∷ []
unfolding two
shops = refl

no_shops : shop_units two 2 ≡ []
unfolding two
no_shops = refl

cost_row : cost two stocks ≡ 300
unfolding two stocks
cost_row = refl

demands :
    IsRatio (demand two 0 0) 771 40
    × IsRatio (demand two 0 1) 73 10
    × IsRatio (demand two 0 2) 1 1
    × IsRatio (demand two 1 0) 133 4
    × IsRatio (demand two 1 1) 73 2
    × IsRatio (demand two 1 2) 20 1
    × IsRatio (demand two 2 0) 81 10
    × IsRatio (demand two 2 1) 9 1
    × IsRatio (demand two 2 2) 2 1
    × IsRatio (demand two 3 0) 1349 100
    × IsRatio (demand two 3 1) 219 20
    × IsRatio (demand two 3 2) 5 2
unfolding two stocks sum_over product_over power ten_thousandths years here sent needed repair ship m_0j m_00 m_ij m_i0 f_i0 f_ij f_0j direct_i0 direct_00 time_at direct_ij direct_0j zero_stock_i0 zero_stock_00 zero_stock_ij zero_stock_0j shared pipeline_i0 ebo_i0 vbo_i0 pipeline_00 ebo_00 vbo_00 pipeline_ij ebo_ij vbo_ij pipeline_0j ebo_0j vbo_0j factor availability fleet family_total case_total ebo vbo second larger unless_zero sum_below chance weight_sum weight excess ◌/ℚ◌ scaled ◌+ℚ◌ ◌-ℚ◌ ◌*ℚ◌ whole
demands = (refl, refl, refl, refl, refl, refl, refl, refl, refl, refl, refl, refl)

shares :
    IsRatio (share two 0 0) 532 771
    × IsRatio (share two 0 1) 73 257
    × IsRatio (share two 0 2) 20 771
    × IsRatio (share two 1 1) 73 133
    × IsRatio (share two 1 2) 60 133
    × IsRatio (share two 2 1) 1 1
    × IsRatio (share two 2 2) 0 1
    × IsRatio (share two 3 0) 35 142
    × IsRatio (share two 3 1) 1533 2698
    × IsRatio (share two 3 2) 250 1349
unfolding two stocks sum_over product_over power ten_thousandths years here sent needed repair ship m_0j m_00 m_ij m_i0 f_i0 f_ij f_0j direct_i0 direct_00 time_at direct_ij direct_0j zero_stock_i0 zero_stock_00 zero_stock_ij zero_stock_0j shared pipeline_i0 ebo_i0 vbo_i0 pipeline_00 ebo_00 vbo_00 pipeline_ij ebo_ij vbo_ij pipeline_0j ebo_0j vbo_0j factor availability fleet family_total case_total ebo vbo second larger unless_zero sum_below chance weight_sum weight excess ◌/ℚ◌ scaled ◌+ℚ◌ ◌-ℚ◌ ◌*ℚ◌ whole
shares = (refl, refl, refl, refl, refl, refl, refl, refl, refl, refl)

directs :
    IsRatio (direct two 0 0) 771 730
    × IsRatio (direct two 0 1) 1 10
    × IsRatio (direct two 0 2) 27 1460
    × IsRatio (direct two 1 0) 133 146
    × IsRatio (direct two 1 1) 1 2
    × IsRatio (direct two 1 2) 53 146
    × IsRatio (direct two 2 0) 324 1825
    × IsRatio (direct two 2 1) 216 1825
    × IsRatio (direct two 2 2) 4 365
    × IsRatio (direct two 3 0) 4047 3650
    × IsRatio (direct two 3 1) 93 500
    × IsRatio (direct two 3 2) 15 292
unfolding two stocks sum_over product_over power ten_thousandths years here sent needed repair ship m_0j m_00 m_ij m_i0 f_i0 f_ij f_0j direct_i0 direct_00 time_at direct_ij direct_0j zero_stock_i0 zero_stock_00 zero_stock_ij zero_stock_0j shared pipeline_i0 ebo_i0 vbo_i0 pipeline_00 ebo_00 vbo_00 pipeline_ij ebo_ij vbo_ij pipeline_0j ebo_0j vbo_0j factor availability fleet family_total case_total ebo vbo second larger unless_zero sum_below chance weight_sum weight excess ◌/ℚ◌ scaled ◌+ℚ◌ ◌-ℚ◌ ◌*ℚ◌ whole
directs = (refl, refl, refl, refl, refl, refl, refl, refl, refl, refl, refl, refl)

zero_stocks :
    IsRatio (zero_stock two 0 0) 771 730
    × IsRatio (zero_stock two 0 1) 2 5
    × IsRatio (zero_stock two 0 2) 67 1460
    × IsRatio (zero_stock two 1 0) 2793 1460
    × IsRatio (zero_stock two 1 1) 1383 500
    × IsRatio (zero_stock two 1 2) 558 365
    × IsRatio (zero_stock two 2 0) 324 1825
    × IsRatio (zero_stock two 2 1) 108 365
    × IsRatio (zero_stock two 2 2) 4 365
    × IsRatio (zero_stock two 3 0) 4047 3650
    × IsRatio (zero_stock two 3 1) 102 125
    × IsRatio (zero_stock two 3 2) 75 292
unfolding two stocks sum_over product_over power ten_thousandths years here sent needed repair ship m_0j m_00 m_ij m_i0 f_i0 f_ij f_0j direct_i0 direct_00 time_at direct_ij direct_0j zero_stock_i0 zero_stock_00 zero_stock_ij zero_stock_0j shared pipeline_i0 ebo_i0 vbo_i0 pipeline_00 ebo_00 vbo_00 pipeline_ij ebo_ij vbo_ij pipeline_0j ebo_0j vbo_0j factor availability fleet family_total case_total ebo vbo second larger unless_zero sum_below chance weight_sum weight excess ◌/ℚ◌ scaled ◌+ℚ◌ ◌-ℚ◌ ◌*ℚ◌ whole
zero_stocks = (refl, refl, refl, refl, refl, refl, refl, refl, refl, refl, refl, refl)

moments_0_0 :
    IsRatio (mean two stocks 0 0 2) 771 730
    × IsRatio (variance two stocks 0 0 2) 771 730
unfolding two stocks sum_over product_over power ten_thousandths years here sent needed repair ship m_0j m_00 m_ij m_i0 f_i0 f_ij f_0j direct_i0 direct_00 time_at direct_ij direct_0j zero_stock_i0 zero_stock_00 zero_stock_ij zero_stock_0j shared pipeline_i0 ebo_i0 vbo_i0 pipeline_00 ebo_00 vbo_00 pipeline_ij ebo_ij vbo_ij pipeline_0j ebo_0j vbo_0j factor availability fleet family_total case_total ebo vbo second larger unless_zero sum_below chance weight_sum weight excess ◌/ℚ◌ scaled ◌+ℚ◌ ◌-ℚ◌ ◌*ℚ◌ whole
moments_0_0 = (refl, refl)

moments_0_1 :
    IsRatio (mean two stocks 0 1 2) 3128857 13929505
    × IsRatio (variance two stocks 0 1 2) 8859235769162 38806221909005
unfolding two stocks sum_over product_over power ten_thousandths years here sent needed repair ship m_0j m_00 m_ij m_i0 f_i0 f_ij f_0j direct_i0 direct_00 time_at direct_ij direct_0j zero_stock_i0 zero_stock_00 zero_stock_ij zero_stock_0j shared pipeline_i0 ebo_i0 vbo_i0 pipeline_00 ebo_00 vbo_00 pipeline_ij ebo_ij vbo_ij pipeline_0j ebo_0j vbo_0j factor availability fleet family_total case_total ebo vbo second larger unless_zero sum_below chance weight_sum weight excess ◌/ℚ◌ scaled ◌+ℚ◌ ◌-ℚ◌ ◌*ℚ◌ whole
moments_0_1 = (refl, refl)

moments_0_2 :
    IsRatio (mean two stocks 0 2 2) 121510167 4067415460
    × IsRatio (variance two stocks 0 2 2) 338862449299467 11331416797429460
unfolding two stocks sum_over product_over power ten_thousandths years here sent needed repair ship m_0j m_00 m_ij m_i0 f_i0 f_ij f_0j direct_i0 direct_00 time_at direct_ij direct_0j zero_stock_i0 zero_stock_00 zero_stock_ij zero_stock_0j shared pipeline_i0 ebo_i0 vbo_i0 pipeline_00 ebo_00 vbo_00 pipeline_ij ebo_ij vbo_ij pipeline_0j ebo_0j vbo_0j factor availability fleet family_total case_total ebo vbo second larger unless_zero sum_below chance weight_sum weight excess ◌/ℚ◌ scaled ◌+ℚ◌ ◌-ℚ◌ ◌*ℚ◌ whole
moments_0_2 = (refl, refl)

moments_1_0 :
    IsRatio (mean two stocks 1 0 2) 392855006612544007 295157327101737140
    × IsRatio (variance two stocks 1 0 2) 20224674583309137666731914780957 14917439681822235206917809187565
unfolding two stocks sum_over product_over power ten_thousandths years here sent needed repair ship m_0j m_00 m_ij m_i0 f_i0 f_ij f_0j direct_i0 direct_00 time_at direct_ij direct_0j zero_stock_i0 zero_stock_00 zero_stock_ij zero_stock_0j shared pipeline_i0 ebo_i0 vbo_i0 pipeline_00 ebo_00 vbo_00 pipeline_ij ebo_ij vbo_ij pipeline_0j ebo_0j vbo_0j factor availability fleet family_total case_total ebo vbo second larger unless_zero sum_below chance weight_sum weight excess ◌/ℚ◌ scaled ◌+ℚ◌ ◌-ℚ◌ ◌*ℚ◌ whole
moments_1_0 = (refl, refl)

moments_1_1 :
    IsRatio (mean two stocks 1 1 2) 193227387652073647 101081276404704500
    × IsRatio (variance two stocks 1 1 2) 39626981198220624643874645511373 20434848879208541379339464640500
unfolding two stocks sum_over product_over power ten_thousandths years here sent needed repair ship m_0j m_00 m_ij m_i0 f_i0 f_ij f_0j direct_i0 direct_00 time_at direct_ij direct_0j zero_stock_i0 zero_stock_00 zero_stock_ij zero_stock_0j shared pipeline_i0 ebo_i0 vbo_i0 pipeline_00 ebo_00 vbo_00 pipeline_ij ebo_ij vbo_ij pipeline_0j ebo_0j vbo_0j factor availability fleet family_total case_total ebo vbo second larger unless_zero sum_below chance weight_sum weight excess ◌/ℚ◌ scaled ◌+ℚ◌ ◌-ℚ◌ ◌*ℚ◌ whole
moments_1_1 = (refl, refl)

moments_1_2 :
    IsRatio (mean two stocks 1 2 2) 83596938682797122 73789331775434285
    × IsRatio (variance two stocks 1 2 2) 17001931657838948649196324315898 14917439681822235206917809187565
unfolding two stocks sum_over product_over power ten_thousandths years here sent needed repair ship m_0j m_00 m_ij m_i0 f_i0 f_ij f_0j direct_i0 direct_00 time_at direct_ij direct_0j zero_stock_i0 zero_stock_00 zero_stock_ij zero_stock_0j shared pipeline_i0 ebo_i0 vbo_i0 pipeline_00 ebo_00 vbo_00 pipeline_ij ebo_ij vbo_ij pipeline_0j ebo_0j vbo_0j factor availability fleet family_total case_total ebo vbo second larger unless_zero sum_below chance weight_sum weight excess ◌/ℚ◌ scaled ◌+ℚ◌ ◌-ℚ◌ ◌*ℚ◌ whole
moments_1_2 = (refl, refl)

moments_2_0 :
    IsRatio (mean two stocks 2 0 2) 324 1825
    × IsRatio (variance two stocks 2 0 2) 324 1825
unfolding two stocks sum_over product_over power ten_thousandths years here sent needed repair ship m_0j m_00 m_ij m_i0 f_i0 f_ij f_0j direct_i0 direct_00 time_at direct_ij direct_0j zero_stock_i0 zero_stock_00 zero_stock_ij zero_stock_0j shared pipeline_i0 ebo_i0 vbo_i0 pipeline_00 ebo_00 vbo_00 pipeline_ij ebo_ij vbo_ij pipeline_0j ebo_0j vbo_0j factor availability fleet family_total case_total ebo vbo second larger unless_zero sum_below chance weight_sum weight excess ◌/ℚ◌ scaled ◌+ℚ◌ ◌-ℚ◌ ◌*ℚ◌ whole
moments_2_0 = (refl, refl)

moments_2_1 :
    IsRatio (mean two stocks 2 1 2) 194253984 1450660745
    × IsRatio (variance two stocks 2 1 2) 773051130713952 5765524923517685
unfolding two stocks sum_over product_over power ten_thousandths years here sent needed repair ship m_0j m_00 m_ij m_i0 f_i0 f_ij f_0j direct_i0 direct_00 time_at direct_ij direct_0j zero_stock_i0 zero_stock_00 zero_stock_ij zero_stock_0j shared pipeline_i0 ebo_i0 vbo_i0 pipeline_00 ebo_00 vbo_00 pipeline_ij ebo_ij vbo_ij pipeline_0j ebo_0j vbo_0j factor availability fleet family_total case_total ebo vbo second larger unless_zero sum_below chance weight_sum weight excess ◌/ℚ◌ scaled ◌+ℚ◌ ◌-ℚ◌ ◌*ℚ◌ whole
moments_2_1 = (refl, refl)

moments_2_2 :
    IsRatio (mean two stocks 2 2 2) 4 365
    × IsRatio (variance two stocks 2 2 2) 4 365
unfolding two stocks sum_over product_over power ten_thousandths years here sent needed repair ship m_0j m_00 m_ij m_i0 f_i0 f_ij f_0j direct_i0 direct_00 time_at direct_ij direct_0j zero_stock_i0 zero_stock_00 zero_stock_ij zero_stock_0j shared pipeline_i0 ebo_i0 vbo_i0 pipeline_00 ebo_00 vbo_00 pipeline_ij ebo_ij vbo_ij pipeline_0j ebo_0j vbo_0j factor availability fleet family_total case_total ebo vbo second larger unless_zero sum_below chance weight_sum weight excess ◌/ℚ◌ scaled ◌+ℚ◌ ◌-ℚ◌ ◌*ℚ◌ whole
moments_2_2 = (refl, refl)

moments_3_0 :
    IsRatio (mean two stocks 3 0 2) 4047 3650
    × IsRatio (variance two stocks 3 0 2) 4047 3650
unfolding two stocks sum_over product_over power ten_thousandths years here sent needed repair ship m_0j m_00 m_ij m_i0 f_i0 f_ij f_0j direct_i0 direct_00 time_at direct_ij direct_0j zero_stock_i0 zero_stock_00 zero_stock_ij zero_stock_0j shared pipeline_i0 ebo_i0 vbo_i0 pipeline_00 ebo_00 vbo_00 pipeline_ij ebo_ij vbo_ij pipeline_0j ebo_0j vbo_0j factor availability fleet family_total case_total ebo vbo second larger unless_zero sum_below chance weight_sum weight excess ◌/ℚ◌ scaled ◌+ℚ◌ ◌-ℚ◌ ◌*ℚ◌ whole
moments_3_0 = (refl, refl)

moments_3_1 :
    IsRatio (mean two stocks 3 1 2) 8280420411 18141577250
    × IsRatio (variance two stocks 3 1 2) 1245060622300992123 2632934600941740500
unfolding two stocks sum_over product_over power ten_thousandths years here sent needed repair ship m_0j m_00 m_ij m_i0 f_i0 f_ij f_0j direct_i0 direct_00 time_at direct_ij direct_0j zero_stock_i0 zero_stock_00 zero_stock_ij zero_stock_0j shared pipeline_i0 ebo_i0 vbo_i0 pipeline_00 ebo_00 vbo_00 pipeline_ij ebo_ij vbo_ij pipeline_0j ebo_0j vbo_0j factor availability fleet family_total case_total ebo vbo second larger unless_zero sum_below chance weight_sum weight excess ◌/ℚ◌ scaled ◌+ℚ◌ ◌-ℚ◌ ◌*ℚ◌ whole
moments_3_1 = (refl, refl)

moments_3_2 :
    IsRatio (mean two stocks 3 2 2) 2957480175 21189362228
    × IsRatio (variance two stocks 3 2 2) 217303541068674075 1537633806949976452
unfolding two stocks sum_over product_over power ten_thousandths years here sent needed repair ship m_0j m_00 m_ij m_i0 f_i0 f_ij f_0j direct_i0 direct_00 time_at direct_ij direct_0j zero_stock_i0 zero_stock_00 zero_stock_ij zero_stock_0j shared pipeline_i0 ebo_i0 vbo_i0 pipeline_00 ebo_00 vbo_00 pipeline_ij ebo_ij vbo_ij pipeline_0j ebo_0j vbo_0j factor availability fleet family_total case_total ebo vbo second larger unless_zero sum_below chance weight_sum weight excess ◌/ℚ◌ scaled ◌+ℚ◌ ◌-ℚ◌ ◌*ℚ◌ whole
moments_3_2 = (refl, refl)

backorders_0_0 :
    IsRatio (backorders two stocks 0 0 2) 892255941 2033707730
    × IsRatio (spread two stocks 0 0 2) 2743689593098971 5665708398714730
unfolding two stocks sum_over product_over power ten_thousandths years here sent needed repair ship m_0j m_00 m_ij m_i0 f_i0 f_ij f_0j direct_i0 direct_00 time_at direct_ij direct_0j zero_stock_i0 zero_stock_00 zero_stock_ij zero_stock_0j shared pipeline_i0 ebo_i0 vbo_i0 pipeline_00 ebo_00 vbo_00 pipeline_ij ebo_ij vbo_ij pipeline_0j ebo_0j vbo_0j factor availability fleet family_total case_total ebo vbo second larger unless_zero sum_below chance weight_sum weight excess ◌/ℚ◌ scaled ◌+ℚ◌ ◌-ℚ◌ ◌*ℚ◌ whole
backorders_0_0 = (refl, refl)

backorders_3_0 :
    IsRatio (backorders two stocks 3 0 2) 126063074673 264867027850
    × IsRatio (spread two stocks 3 0 2) 10127028944885027607 19220422586874705650
unfolding two stocks sum_over product_over power ten_thousandths years here sent needed repair ship m_0j m_00 m_ij m_i0 f_i0 f_ij f_0j direct_i0 direct_00 time_at direct_ij direct_0j zero_stock_i0 zero_stock_00 zero_stock_ij zero_stock_0j shared pipeline_i0 ebo_i0 vbo_i0 pipeline_00 ebo_00 vbo_00 pipeline_ij ebo_ij vbo_ij pipeline_0j ebo_0j vbo_0j factor availability fleet family_total case_total ebo vbo second larger unless_zero sum_below chance weight_sum weight excess ◌/ℚ◌ scaled ◌+ℚ◌ ◌-ℚ◌ ◌*ℚ◌ whole
backorders_3_0 = (refl, refl)

availability_1 :
    IsRatio (availability two stocks 2 1) 23923383347804267032536724065278828298166490397 29644033099075077647715915383288887172500000000
unfolding two stocks sum_over product_over power ten_thousandths years here sent needed repair ship m_0j m_00 m_ij m_i0 f_i0 f_ij f_0j direct_i0 direct_00 time_at direct_ij direct_0j zero_stock_i0 zero_stock_00 zero_stock_ij zero_stock_0j shared pipeline_i0 ebo_i0 vbo_i0 pipeline_00 ebo_00 vbo_00 pipeline_ij ebo_ij vbo_ij pipeline_0j ebo_0j vbo_0j factor availability fleet family_total case_total ebo vbo second larger unless_zero sum_below chance weight_sum weight excess ◌/ℚ◌ scaled ◌+ℚ◌ ◌-ℚ◌ ◌*ℚ◌ whole
availability_1 = refl

availability_2 :
    IsRatio (availability two stocks 2 2) 35179529196725551337805830658545533676 53659149343490716706923878483360372375
unfolding two stocks sum_over product_over power ten_thousandths years here sent needed repair ship m_0j m_00 m_ij m_i0 f_i0 f_ij f_0j direct_i0 direct_00 time_at direct_ij direct_0j zero_stock_i0 zero_stock_00 zero_stock_ij zero_stock_0j shared pipeline_i0 ebo_i0 vbo_i0 pipeline_00 ebo_00 vbo_00 pipeline_ij ebo_ij vbo_ij pipeline_0j ebo_0j vbo_0j factor availability fleet family_total case_total ebo vbo second larger unless_zero sum_below chance weight_sum weight excess ◌/ℚ◌ scaled ◌+ℚ◌ ◌-ℚ◌ ◌*ℚ◌ whole
availability_2 = refl

availability_all :
    IsRatio (fleet two stocks 2) 1427025345090731628485779592585081744276027421930517 1848284712904161738780733923007293812984354250000000
unfolding two stocks sum_over product_over power ten_thousandths years here sent needed repair ship m_0j m_00 m_ij m_i0 f_i0 f_ij f_0j direct_i0 direct_00 time_at direct_ij direct_0j zero_stock_i0 zero_stock_00 zero_stock_ij zero_stock_0j shared pipeline_i0 ebo_i0 vbo_i0 pipeline_00 ebo_00 vbo_00 pipeline_ij ebo_ij vbo_ij pipeline_0j ebo_0j vbo_0j factor availability fleet family_total case_total ebo vbo second larger unless_zero sum_below chance weight_sum weight excess ◌/ℚ◌ scaled ◌+ℚ◌ ◌-ℚ◌ ◌*ℚ◌ whole
availability_all = refl

-- twice the backorders of L, and five times those of K
totals :
    IsRatio (family_total two stocks 2 1) 22465293166881088431 3689466588771714250
    × IsRatio (family_total two stocks 2 2) 210151636 290132149
    × IsRatio (case_total two stocks 2) 99907551013971791700097003 14663463973479955147485250
unfolding two stocks sum_over product_over power ten_thousandths years here sent needed repair ship m_0j m_00 m_ij m_i0 f_i0 f_ij f_0j direct_i0 direct_00 time_at direct_ij direct_0j zero_stock_i0 zero_stock_00 zero_stock_ij zero_stock_0j shared pipeline_i0 ebo_i0 vbo_i0 pipeline_00 ebo_00 vbo_00 pipeline_ij ebo_ij vbo_ij pipeline_0j ebo_0j vbo_0j factor availability fleet family_total case_total ebo vbo second larger unless_zero sum_below chance weight_sum weight excess ◌/ℚ◌ scaled ◌+ℚ◌ ◌-ℚ◌ ◌*ℚ◌ whole
totals = (refl, refl, refl)
