-- The direct part D and the zero-stock mean M of each pipeline: polynomials of the inputs, without any share.
use Rattle.std.specs.Prelude.{ℕ}
use Rattle.exact_model.specs.Fraction.{Fraction, ◌+ℚ◌, ◌*ℚ◌}
use Rattle.spares_input.specs.Cases.{CaseRows}
use Rattle.exact_model.specs.Sums.{sum_over}
use Rattle.fleet_model.specs.Rows.{shop_units, here, sent, needed, repair, ship}
use Rattle.fleet_model.specs.Demand.{m_0j, m_00, m_ij, m_i0}

-- D of the shop unit at the depot: m_i0 T_i0
unfoldable pub direct_i0 : CaseRows → ℕ → ℕ → Fraction
direct_i0 c l i = m_i0 c l i *ℚ repair c i 0

-- D of the line unit at the depot: m_00 T_00
unfoldable pub direct_00 : CaseRows → ℕ → Fraction
direct_00 c l = m_00 c l *ℚ repair c l 0

-- (1 - r) O + r T, the time of a part at base j that waits for no stock of the depot
unfoldable pub time_at : CaseRows → ℕ → ℕ → Fraction
time_at c p j = sent c p j *ℚ ship c j +ℚ here c p j *ℚ repair c p j

-- D of the shop unit at base j: m_ij ((1 - r_ij) O_j + r_ij T_ij)
unfoldable pub direct_ij : CaseRows → ℕ → ℕ → ℕ → Fraction
direct_ij c l i j = m_ij c l i j *ℚ time_at c i j

-- D of the line unit at base j: m_0j ((1 - r_0j) O_j + r_0j T_0j)
unfoldable pub direct_0j : CaseRows → ℕ → ℕ → Fraction
direct_0j c l j = m_0j c l j *ℚ time_at c l j

-- M of the shop unit at the depot: D
unfoldable pub zero_stock_i0 : CaseRows → ℕ → ℕ → Fraction
zero_stock_i0 c l i = direct_i0 c l i

-- M of the line unit at the depot: D + sum over i of m_00 q_i0 T_i0
unfoldable pub zero_stock_00 : CaseRows → ℕ → Fraction
zero_stock_00 c l = direct_00 c l +ℚ sum_over (shop_units c l) (λ i. m_00 c l *ℚ needed c i 0 *ℚ repair c i 0)

-- M of the shop unit at base j: D + m_ij (1 - r_ij) T_i0
unfoldable pub zero_stock_ij : CaseRows → ℕ → ℕ → ℕ → Fraction
zero_stock_ij c l i j = direct_ij c l i j +ℚ m_ij c l i j *ℚ sent c i j *ℚ repair c i 0

-- M of the line unit at base j: D + m_0j (1 - r_0j) (T_00 + sum over i of q_i0 T_i0) + sum over i of M_ij
unfoldable pub zero_stock_0j : CaseRows → ℕ → ℕ → Fraction
zero_stock_0j c l j =
    direct_0j c l j
    +ℚ m_0j c l j *ℚ sent c l j *ℚ (repair c l 0 +ℚ sum_over (shop_units c l) (λ i. needed c i 0 *ℚ repair c i 0))
    +ℚ sum_over (shop_units c l) (λ i. zero_stock_ij c l i j)
