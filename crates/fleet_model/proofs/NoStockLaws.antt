-- With no stock each pipeline's mean is its zero-stock mean, at every depth.
use Rattle.std.proofs.Common.{◌≡◌, ℕ, sym, subst}
use Rattle.std.specs.Prelude.{List}
use Rattle.exact_model.specs.Fraction.{Fraction, ◌≈◌}
use Rattle.exact_model.specs.Series.{ebo}
use Rattle.exact_model.proofs.Public.{same, turned, ◌≈≈◌, add_same, mul_same, ebo_none}
use Rattle.spares_input.specs.Cases.{CaseRows}
use Rattle.fleet_model.specs.Rows.{shop_units, stock}
use Rattle.fleet_model.specs.Demand.{f_i0, f_ij, f_0j}
use Rattle.fleet_model.specs.ZeroStock.{direct_i0, direct_00, direct_ij, direct_0j, zero_stock_i0, zero_stock_00, zero_stock_ij, zero_stock_0j}
use Rattle.fleet_model.specs.Pipelines.{pipeline_i0, pipeline_00, pipeline_ij, pipeline_0j, ebo_i0, ebo_00, ebo_ij}
use Rattle.fleet_model.specs.Laws.{IsBase, HasNoStock}
use Rattle.fleet_model.proofs.SumLaws.{sum_same}
use Rattle.fleet_model.proofs.MeanLaws.{mean_00, mean_ij, mean_0j}

ebo_at_none : (n : ℕ) (u v m : Fraction) (k : ℕ) → k ≡ 0 → u ≈ m → ebo n u v k ≈ m
ebo_at_none n u v m k z h = subst (λ j. ebo n u v j ≈ m) (sym z) (ebo_none n u v ≈≈ h)

backorders_i0 : (c : CaseRows) (s : List ℕ) (n l i : ℕ) → HasNoStock c s → ebo_i0 c s n l i ≈ zero_stock_i0 c l i
unfolding ebo_i0 pipeline_i0 zero_stock_i0
backorders_i0 c s n l i h = ebo_at_none n _ _ _ (stock c s i 0) (h i 0) (same (direct_i0 c l i))

-- where nothing is in stock a line unit's pipeline at the depot has the zero-stock mean
pub no_stock_00 : (c : CaseRows) (s : List ℕ) (n l : ℕ) → HasNoStock c s → (pipeline_00 c s n l).mean ≈ zero_stock_00 c l
unfolding pipeline_00
no_stock_00 c s n l h =
    add_same (same (direct_00 c l)) (sum_same (shop_units c l) _ _ (λ i. mul_same (same (f_i0 c l i)) (backorders_i0 c s n l i h)))
    ≈≈ turned (mean_00 c l)

backorders_00 : (c : CaseRows) (s : List ℕ) (n l : ℕ) → HasNoStock c s → ebo_00 c s n l ≈ zero_stock_00 c l
unfolding ebo_00
backorders_00 c s n l h = ebo_at_none n _ _ _ (stock c s l 0) (h l 0) (no_stock_00 c s n l h)

-- where nothing is in stock a shop unit's pipeline at a base has the zero-stock mean
pub no_stock_ij : (c : CaseRows) (s : List ℕ) (n l i j : ℕ) → HasNoStock c s → IsBase c j → (pipeline_ij c s n l i j).mean ≈ zero_stock_ij c l i j
unfolding pipeline_ij
no_stock_ij c s n l i j h b =
    add_same (same (direct_ij c l i j)) (mul_same (same (f_ij c l i j)) (backorders_i0 c s n l i h)) ≈≈ turned (mean_ij c l i j b)

backorders_ij : (c : CaseRows) (s : List ℕ) (n l i j : ℕ) → HasNoStock c s → IsBase c j → ebo_ij c s n l i j ≈ zero_stock_ij c l i j
unfolding ebo_ij
backorders_ij c s n l i j h b = ebo_at_none n _ _ _ (stock c s i j) (h i j) (no_stock_ij c s n l i j h b)

-- where nothing is in stock a line unit's pipeline at a base has the zero-stock mean
pub no_stock_0j : (c : CaseRows) (s : List ℕ) (n l j : ℕ) → HasNoStock c s → IsBase c j → (pipeline_0j c s n l j).mean ≈ zero_stock_0j c l j
unfolding pipeline_0j
no_stock_0j c s n l j h b =
    add_same (add_same (same (direct_0j c l j)) (mul_same (same (f_0j c l j)) (backorders_00 c s n l h)))
    (sum_same (shop_units c l) _ _ (λ i. backorders_ij c s n l i j h b))
    ≈≈ turned (mean_0j c l j b)

-- a shop unit's pipeline at the depot has the zero-stock mean, whatever is in stock
pub no_stock_i0 : (c : CaseRows) (l i : ℕ) → (pipeline_i0 c l i).mean ≈ zero_stock_i0 c l i
unfolding pipeline_i0 zero_stock_i0
no_stock_i0 c l i = same (direct_i0 c l i)
