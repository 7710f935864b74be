-- Demands per year and shares of a line unit l and its shop unit i, at the depot and at base j.
use Rattle.std.specs.Prelude.{ℕ}
use Rattle.exact_model.specs.Fraction.{Fraction, ◌+ℚ◌, ◌*ℚ◌, ◌/ℚ◌}
use Rattle.spares_input.specs.Cases.{CaseRows, rate_at}
use Rattle.exact_model.specs.Sums.{sum_over}
use Rattle.fleet_model.specs.Rows.{bases, ten_thousandths, here, sent, needed}

-- m_0j, for the line unit at base j
unfoldable pub m_0j : CaseRows → ℕ → ℕ → Fraction
m_0j c l j = ten_thousandths (rate_at c l j).demand

-- m_00 = sum over j of m_0j (1 - r_0j), for the line unit at the depot
unfoldable pub m_00 : CaseRows → ℕ → Fraction
m_00 c l = sum_over (bases c) (λ j. m_0j c l j *ℚ sent c l j)

-- m_ij = m_0j r_0j q_ij, for the shop unit at base j
unfoldable pub m_ij : CaseRows → ℕ → ℕ → ℕ → Fraction
m_ij c l i j = m_0j c l j *ℚ here c l j *ℚ needed c i j

-- m_i0 = (sum over j of m_ij (1 - r_ij)) + m_00 q_i0, for the shop unit at the depot
unfoldable pub m_i0 : CaseRows → ℕ → ℕ → Fraction
m_i0 c l i = sum_over (bases c) (λ j. m_ij c l i j *ℚ sent c i j) +ℚ m_00 c l *ℚ needed c i 0

-- f_i0 = m_00 q_i0 / m_i0, the share of the depot's repairs; a quotient by 0 is 0
unfoldable pub f_i0 : CaseRows → ℕ → ℕ → Fraction
f_i0 c l i = (m_00 c l *ℚ needed c i 0) /ℚ m_i0 c l i

-- f_ij = m_ij (1 - r_ij) / m_i0, the share of base j
unfoldable pub f_ij : CaseRows → ℕ → ℕ → ℕ → Fraction
f_ij c l i j = (m_ij c l i j *ℚ sent c i j) /ℚ m_i0 c l i

-- f_0j = m_0j (1 - r_0j) / m_00, the share of base j
unfoldable pub f_0j : CaseRows → ℕ → ℕ → Fraction
f_0j c l j = (m_0j c l j *ℚ sent c l j) /ℚ m_00 c l
