-- The numbers of the pair of part p and site k, each from one of the four pipelines.
use Rattle.std.specs.Prelude.{ℕ, zero, suc, List, Option, Some, None}
use Rattle.exact_model.specs.Fraction.{Fraction, whole}
use Rattle.exact_model.specs.Series.{ebo, vbo}
use Rattle.spares_input.specs.Cases.{CaseRows}
use Rattle.spares_input.specs.Frames.{line_of}
use Rattle.fleet_model.specs.Rows.{stock}
use Rattle.fleet_model.specs.Demand.{m_0j, m_00, m_ij, m_i0, f_i0, f_ij, f_0j}
use Rattle.fleet_model.specs.ZeroStock.{direct_i0, direct_00, direct_ij, direct_0j, zero_stock_i0, zero_stock_00, zero_stock_ij, zero_stock_0j}
use Rattle.fleet_model.specs.Pipelines.{Moments, pipeline_i0, pipeline_00, pipeline_ij, pipeline_0j}

-- the case of a shop unit of this line unit, or of a line unit, at the depot or at a base
abbrev pub by_pair : {A : Type 0} → (ℕ → ℕ → A) → (ℕ → A) → (ℕ → ℕ → ℕ → A) → (ℕ → ℕ → A) → Option ℕ → ℕ → ℕ → A
by_pair depot_shop depot_line base_shop base_line (Some l) p zero = depot_shop l p
by_pair depot_shop depot_line base_shop base_line None p zero = depot_line p
by_pair depot_shop depot_line base_shop base_line (Some l) p (suc j) = base_shop l p (suc j)
by_pair depot_shop depot_line base_shop base_line None p (suc j) = base_line p (suc j)

-- demands a year for part p at site k
abbrev pub demand : CaseRows → ℕ → ℕ → Fraction
demand c p k = by_pair (m_i0 c) (m_00 c) (m_ij c) (m_0j c) (line_of c.parts p) p k

-- the share of part p at site k; a line unit at the depot has no share, and the value is 1
abbrev pub share : CaseRows → ℕ → ℕ → Fraction
share c p k = by_pair (f_i0 c) (λ l. whole 1) (f_ij c) (f_0j c) (line_of c.parts p) p k

-- D, the mean of the pipeline if nothing below it is backordered
abbrev pub direct : CaseRows → ℕ → ℕ → Fraction
direct c p k = by_pair (direct_i0 c) (direct_00 c) (direct_ij c) (direct_0j c) (line_of c.parts p) p k

-- M, the mean of the pipeline if nothing is in stock
abbrev pub zero_stock : CaseRows → ℕ → ℕ → Fraction
zero_stock c p k = by_pair (zero_stock_i0 c) (zero_stock_00 c) (zero_stock_ij c) (zero_stock_0j c)
    (line_of c.parts p) p k

-- mean and variance of the pipeline at depth n
abbrev pub pipeline : CaseRows → List ℕ → ℕ → ℕ → ℕ → Moments
pipeline c s n p k = by_pair (pipeline_i0 c) (pipeline_00 c s n) (pipeline_ij c s n) (pipeline_0j c s n)
    (line_of c.parts p) p k

-- the mean of the pipeline at depth n
abbrev pub mean : CaseRows → List ℕ → ℕ → ℕ → ℕ → Fraction
mean c s p k n = (pipeline c s n p k).mean

-- the variance of the pipeline at depth n
abbrev pub variance : CaseRows → List ℕ → ℕ → ℕ → ℕ → Fraction
variance c s p k n = (pipeline c s n p k).variance

-- EBO at the pair's stock, at depth n
abbrev pub backorders : CaseRows → List ℕ → ℕ → ℕ → ℕ → Fraction
backorders c s p k n = ebo n (mean c s p k n) (variance c s p k n) (stock c s p k)

-- VBO at the pair's stock, at depth n
abbrev pub spread : CaseRows → List ℕ → ℕ → ℕ → ℕ → Fraction
spread c s p k n = vbo n (mean c s p k n) (variance c s p k n) (stock c s p k)
