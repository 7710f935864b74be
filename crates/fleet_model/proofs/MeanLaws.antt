-- The zero-stock mean is the pipeline's mean where each backorder below it is its own zero-stock mean.
use Rattle.std.proofs.Common.{ℕ, ◌+◌, ◌-◌, ◌<◌, arith}
use Rattle.std.specs.Prelude.{length}
use Rattle.exact_model.specs.Fraction.{Fraction, whole, ◌≈◌, ◌≤ℚ◌, ◌+ℚ◌, ◌*ℚ◌}
use Rattle.exact_model.proofs.Public.{same, turned, ◌≈≈◌, add_same, mul_same, times_assoc, le_chain, le_plus}
use Rattle.spares_input.specs.Cases.{CaseRows}
use Rattle.exact_model.specs.Sums.{sum_over}
use Rattle.fleet_model.specs.Rows.{bases, shop_units, sent, needed, repair}
use Rattle.fleet_model.specs.Demand.{m_0j, m_00, m_ij, m_i0, f_i0, f_ij, f_0j}
use Rattle.fleet_model.specs.ZeroStock.{direct_i0, direct_00, direct_ij, direct_0j, zero_stock_i0, zero_stock_00, zero_stock_ij, zero_stock_0j}
use Rattle.fleet_model.specs.Laws.{IsBase}
use Rattle.fleet_model.proofs.Order.{le_plus_left, times_plus, share_times, share_most}
use Rattle.fleet_model.proofs.SumLaws.{sum_same, sum_times, term_most}

-- a base's part of a sum over the bases
base_most : (c : CaseRows) (f : ℕ → Fraction) (j : ℕ) → IsBase c j → f j ≤ℚ sum_over (bases c) f
base_most c f j b = term_most f (length c.sites - 1) 1 j b.0 (in_range (length c.sites) j b.1)
  where
    in_range : (m j : ℕ) → j < m → j < 1 + (m - 1)
    in_range m j h = omega arith

part_i0 : (c : CaseRows) (l i : ℕ) → m_00 c l *ℚ needed c i 0 ≤ℚ m_i0 c l i
unfolding m_i0
part_i0 c l i = le_plus_left _ _

part_ij : (c : CaseRows) (l i j : ℕ) → IsBase c j → m_ij c l i j *ℚ sent c i j ≤ℚ m_i0 c l i
unfolding m_i0
part_ij c l i j b = le_chain (base_most c (λ j. m_ij c l i j *ℚ sent c i j) j b) (le_plus _ _)

part_0j : (c : CaseRows) (l j : ℕ) → IsBase c j → m_0j c l j *ℚ sent c l j ≤ℚ m_00 c l
unfolding m_00
part_0j c l j b = base_most c (λ j. m_0j c l j *ℚ sent c l j) j b

-- the share of the depot's repairs in a shop unit's demand there is at most 1
pub f_i0_most : (c : CaseRows) (l i : ℕ) → f_i0 c l i ≤ℚ whole 1
unfolding f_i0
f_i0_most c l i = share_most _ _ (part_i0 c l i)

-- a base's share of a shop unit's demand at the depot is at most 1
pub f_ij_most : (c : CaseRows) (l i j : ℕ) → IsBase c j → f_ij c l i j ≤ℚ whole 1
unfolding f_ij
f_ij_most c l i j b = share_most _ _ (part_ij c l i j b)

-- a base's share of a line unit's demand at the depot is at most 1
pub f_0j_most : (c : CaseRows) (l j : ℕ) → IsBase c j → f_0j c l j ≤ℚ whole 1
unfolding f_0j
f_0j_most c l j b = share_most _ _ (part_0j c l j b)

wait_i0 : (c : CaseRows) (l i : ℕ) → f_i0 c l i *ℚ zero_stock_i0 c l i ≈ m_00 c l *ℚ needed c i 0 *ℚ repair c i 0
unfolding f_i0 zero_stock_i0 direct_i0
wait_i0 c l i = share_times _ _ (repair c i 0) (part_i0 c l i)

wait_ij : (c : CaseRows) (l i j : ℕ) → IsBase c j → f_ij c l i j *ℚ zero_stock_i0 c l i ≈ m_ij c l i j *ℚ sent c i j *ℚ repair c i 0
unfolding f_ij zero_stock_i0 direct_i0
wait_ij c l i j b = share_times _ _ (repair c i 0) (part_ij c l i j b)

-- the depot's mean is its demand times the time of a repair with what it waits for
zero_stock_00_is : (c : CaseRows) (l : ℕ)
    → zero_stock_00 c l ≈ m_00 c l *ℚ (repair c l 0 +ℚ sum_over (shop_units c l) (λ i. needed c i 0 *ℚ repair c i 0))
unfolding zero_stock_00 direct_00
zero_stock_00_is c l =
    add_same (same (m_00 c l *ℚ repair c l 0))
    (sum_same (shop_units c l) _ _ (λ i. times_assoc (m_00 c l) (needed c i 0) (repair c i 0))
    ≈≈ turned (sum_times (shop_units c l) (m_00 c l) (λ i. needed c i 0 *ℚ repair c i 0)))
    ≈≈ turned (times_plus (m_00 c l) (repair c l 0) _)

wait_0j : (c : CaseRows) (l j : ℕ) → IsBase c j
    → f_0j c l j *ℚ zero_stock_00 c l
    ≈ m_0j c l j *ℚ sent c l j *ℚ (repair c l 0 +ℚ sum_over (shop_units c l) (λ i. needed c i 0 *ℚ repair c i 0))
unfolding f_0j
wait_0j c l j b = mul_same (same _) (zero_stock_00_is c l) ≈≈ share_times _ _ _ (part_0j c l j b)

-- a line unit's zero-stock mean at the depot is its direct part and its shares of the shop units' there
pub mean_00 : (c : CaseRows) (l : ℕ) → zero_stock_00 c l ≈ direct_00 c l +ℚ sum_over (shop_units c l) (λ i. f_i0 c l i *ℚ zero_stock_i0 c l i)
unfolding zero_stock_00
mean_00 c l = add_same (same (direct_00 c l)) (sum_same (shop_units c l) _ _ (λ i. turned (wait_i0 c l i)))

-- a shop unit's zero-stock mean at a base is its direct part and its share of that at the depot
pub mean_ij : (c : CaseRows) (l i j : ℕ) → IsBase c j → zero_stock_ij c l i j ≈ direct_ij c l i j +ℚ f_ij c l i j *ℚ zero_stock_i0 c l i
unfolding zero_stock_ij
mean_ij c l i j b = add_same (same (direct_ij c l i j)) (turned (wait_ij c l i j b))

-- a line unit's zero-stock mean at a base is its direct part, its share of the depot's and its shop units' there
pub mean_0j : (c : CaseRows) (l j : ℕ) → IsBase c j
    → zero_stock_0j c l j ≈ direct_0j c l j +ℚ f_0j c l j *ℚ zero_stock_00 c l +ℚ sum_over (shop_units c l) (λ i. zero_stock_ij c l i j)
unfolding zero_stock_0j
mean_0j c l j b = add_same (add_same (same (direct_0j c l j)) (turned (wait_0j c l j b))) (same _)
