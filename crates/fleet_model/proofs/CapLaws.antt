-- Means, variances and backorders are at most the zero-stock means.
use Rattle.std.proofs.Common.{ℕ, suc, ◌≤◌, inl, inr}
use Rattle.std.specs.Prelude.{List}
use Rattle.exact_model.specs.Fraction.{Fraction, whole, larger, ◌≤ℚ◌, ◌+ℚ◌, ◌-ℚ◌, ◌*ℚ◌}
use Rattle.exact_model.specs.Series.{ebo, vbo}
use Rattle.exact_model.specs.Shares.{shared}
use Rattle.exact_model.proofs.Public.{same, turned, le_self, le_same, le_chain, larger_is, ebo_within as ebo_most, vbo_within as vbo_most}
use Rattle.spares_input.specs.Cases.{CaseRows}
use Rattle.exact_model.specs.Sums.{sum_over}
use Rattle.fleet_model.specs.Rows.{shop_units, stock}
use Rattle.fleet_model.specs.Demand.{f_i0, f_ij, f_0j}
use Rattle.fleet_model.specs.ZeroStock.{direct_i0, direct_00, direct_ij, direct_0j, zero_stock_i0, zero_stock_00, zero_stock_ij, zero_stock_0j}
use Rattle.fleet_model.specs.Pipelines.{pipeline_i0, pipeline_00, pipeline_ij, pipeline_0j, ebo_i0, ebo_00, ebo_ij, ebo_0j, vbo_i0, vbo_00, vbo_ij, vbo_0j}
use Rattle.fleet_model.specs.Laws.{IsBase, Reaches, IsCapped}
use Rattle.fleet_model.proofs.Order.{le_of_same, le_add, le_mul, shared_same}
use Rattle.fleet_model.proofs.SumLaws.{sum_most}
use Rattle.fleet_model.proofs.MeanLaws.{f_i0_most, f_ij_most, f_0j_most, mean_00, mean_ij, mean_0j}

ebo_within : (n : ℕ) (u v : Fraction) (k : ℕ) (most : Fraction) → k ≤ suc n → u ≤ℚ most → ebo n u v k ≤ℚ most
ebo_within n u v k most r h = le_chain (ebo_most n u v k r) h

larger_most : (u v most : Fraction) → u ≤ℚ most → v ≤ℚ most → larger v u ≤ℚ most
larger_most u v most h k = elim (larger_is v u) [
  | inl e ↦ le_same (turned e.0) (same most) k
  | inr e ↦ le_same (turned e.0) (same most) h
]

vbo_within : (n : ℕ) (u v : Fraction) (k : ℕ) (most : Fraction) → k ≤ suc n → u ≤ℚ most → v ≤ℚ most → vbo n u v k ≤ℚ most
vbo_within n u v k most r h l = le_chain (vbo_most n u v k r) (larger_most u v most h l)

-- the variance of a share of backorders is at most that share of what caps them
shared_most : (f e v most : Fraction) → f ≤ℚ whole 1 → e ≤ℚ most → v ≤ℚ most → shared f e v ≤ℚ f *ℚ most
unfolding shared
shared_most f e v most h he hv =
    le_chain (le_add (le_mul (le_self (f *ℚ (whole 1 -ℚ f))) he) (le_mul (le_self (f *ℚ f)) hv)) (le_of_same (shared_same f most h))

-- mean, variance, EBO and VBO of a shop unit at the depot are at most its zero-stock mean
pub capped_i0 : (c : CaseRows) (s : List ℕ) (n l i : ℕ) → Reaches c s n
    → IsCapped (zero_stock_i0 c l i) (pipeline_i0 c l i).mean (pipeline_i0 c l i).variance (ebo_i0 c s n l i) (vbo_i0 c s n l i)
unfolding zero_stock_i0 pipeline_i0 ebo_i0 vbo_i0
capped_i0 c s n l i r =
    let d : direct_i0 c l i ≤ℚ direct_i0 c l i = le_self (direct_i0 c l i) in
    record {
      mean_most = d;
      variance_most = d;
      backorders_most = ebo_within n _ _ (stock c s i 0) _ (r i 0) d;
      spread_most = vbo_within n _ _ (stock c s i 0) _ (r i 0) d d;
    }

-- mean, variance, EBO and VBO of a line unit at the depot are at most its zero-stock mean
pub capped_00 : (c : CaseRows) (s : List ℕ) (n l : ℕ) → Reaches c s n
    → IsCapped (zero_stock_00 c l) (pipeline_00 c s n l).mean (pipeline_00 c s n l).variance (ebo_00 c s n l) (vbo_00 c s n l)
unfolding pipeline_00 ebo_00 vbo_00
capped_00 c s n l r =
    let sum : direct_00 c l +ℚ sum_over (shop_units c l) (λ i. f_i0 c l i *ℚ zero_stock_i0 c l i) ≤ℚ zero_stock_00 c l =
    le_of_same (turned (mean_00 c l)) in
    let m : direct_00 c l +ℚ sum_over (shop_units c l) (λ i. f_i0 c l i *ℚ ebo_i0 c s n l i) ≤ℚ zero_stock_00 c l =
    le_chain (le_add (le_self (direct_00 c l)) (sum_most (shop_units c l) _ _
    (λ i. le_mul (le_self (f_i0 c l i)) (capped_i0 c s n l i r).backorders_most))) sum in
    let v : direct_00 c l +ℚ sum_over (shop_units c l) (λ i. shared (f_i0 c l i) (ebo_i0 c s n l i) (vbo_i0 c s n l i)) ≤ℚ zero_stock_00 c l =
    le_chain (le_add (le_self (direct_00 c l)) (sum_most (shop_units c l) _ _
    (λ i. shared_most (f_i0 c l i) _ _ _ (f_i0_most c l i) (capped_i0 c s n l i r).backorders_most (capped_i0 c s n l i r).spread_most))) sum in
    record {
      mean_most = m;
      variance_most = v;
      backorders_most = ebo_within n _ _ (stock c s l 0) _ (r l 0) m;
      spread_most = vbo_within n _ _ (stock c s l 0) _ (r l 0) m v;
    }

-- mean, variance, EBO and VBO of a shop unit at a base are at most its zero-stock mean
pub capped_ij : (c : CaseRows) (s : List ℕ) (n l i j : ℕ) → Reaches c s n → IsBase c j
    → IsCapped (zero_stock_ij c l i j) (pipeline_ij c s n l i j).mean (pipeline_ij c s n l i j).variance (ebo_ij c s n l i j) (vbo_ij c s n l i j)
unfolding pipeline_ij ebo_ij vbo_ij
capped_ij c s n l i j r b =
    let sum : direct_ij c l i j +ℚ f_ij c l i j *ℚ zero_stock_i0 c l i ≤ℚ zero_stock_ij c l i j =
    le_of_same (turned (mean_ij c l i j b)) in
    let depot = capped_i0 c s n l i r in
    let m : direct_ij c l i j +ℚ f_ij c l i j *ℚ ebo_i0 c s n l i ≤ℚ zero_stock_ij c l i j =
    le_chain (le_add (le_self (direct_ij c l i j)) (le_mul (le_self (f_ij c l i j)) depot.backorders_most)) sum in
    let v : direct_ij c l i j +ℚ shared (f_ij c l i j) (ebo_i0 c s n l i) (vbo_i0 c s n l i) ≤ℚ zero_stock_ij c l i j =
    le_chain (le_add (le_self (direct_ij c l i j))
    (shared_most (f_ij c l i j) _ _ _ (f_ij_most c l i j b) depot.backorders_most depot.spread_most)) sum in
    record {
      mean_most = m;
      variance_most = v;
      backorders_most = ebo_within n _ _ (stock c s i j) _ (r i j) m;
      spread_most = vbo_within n _ _ (stock c s i j) _ (r i j) m v;
    }

-- mean, variance, EBO and VBO of a line unit at a base are at most its zero-stock mean
pub capped_0j : (c : CaseRows) (s : List ℕ) (n l j : ℕ) → Reaches c s n → IsBase c j
    → IsCapped (zero_stock_0j c l j) (pipeline_0j c s n l j).mean (pipeline_0j c s n l j).variance (ebo_0j c s n l j) (vbo_0j c s n l j)
unfolding pipeline_0j ebo_0j vbo_0j
capped_0j c s n l j r b =
    let sum : direct_0j c l j +ℚ f_0j c l j *ℚ zero_stock_00 c l +ℚ sum_over (shop_units c l) (λ i. zero_stock_ij c l i j) ≤ℚ zero_stock_0j c l j =
    le_of_same (turned (mean_0j c l j b)) in
    let depot = capped_00 c s n l r in
    let m : direct_0j c l j +ℚ f_0j c l j *ℚ ebo_00 c s n l +ℚ sum_over (shop_units c l) (λ i. ebo_ij c s n l i j) ≤ℚ zero_stock_0j c l j =
    le_chain (le_add (le_add (le_self (direct_0j c l j)) (le_mul (le_self (f_0j c l j)) depot.backorders_most))
    (sum_most (shop_units c l) _ _ (λ i. (capped_ij c s n l i j r b).backorders_most))) sum in
    let v : direct_0j c l j +ℚ shared (f_0j c l j) (ebo_00 c s n l) (vbo_00 c s n l)
    +ℚ sum_over (shop_units c l) (λ i. vbo_ij c s n l i j) ≤ℚ zero_stock_0j c l j =
    le_chain (le_add (le_add (le_self (direct_0j c l j))
    (shared_most (f_0j c l j) _ _ _ (f_0j_most c l j b) depot.backorders_most depot.spread_most))
    (sum_most (shop_units c l) _ _ (λ i. (capped_ij c s n l i j r b).spread_most))) sum in
    record {
      mean_most = m;
      variance_most = v;
      backorders_most = ebo_within n _ _ (stock c s l j) _ (r l j) m;
      spread_most = vbo_within n _ _ (stock c s l j) _ (r l j) m v;
    }
