-- The laws of zero-stock means and of shares by pair.
use Rattle.std.proofs.Common.{ℕ, zero, suc, ◌+◌, ◌*◌, ◌<◌, ◌≤◌, Bool, true, false, inl, inr, refl, sym, subst, arith, zero-lt-suc}
use Rattle.std.specs.Prelude.{List, length, get_or, Option, Some, None}
use Rattle.std.proofs.lemmas.List.{get_or_past}
use Rattle.std.proofs.lemmas.Bool.{cases_lt}
use Rattle.exact_model.specs.Fraction.{whole, ◌≈◌, ◌≤ℚ◌, ◌+ℚ◌, ◌-ℚ◌}
use Rattle.exact_model.specs.Series.{ebo, vbo}
use Rattle.exact_model.proofs.Public.{le_self}
use Rattle.spares_input.specs.Rows.{no_rate, IsNumberField}
use Rattle.spares_input.specs.Frames.{line_of}
use Rattle.spares_input.specs.Cases.{CaseRows, IsCase}
use Rattle.spares_input.specs.declared.rows.RateRow.{RateRow}
use Rattle.fleet_model.specs.Rows.{stock, here, sent, ten_thousandths}
use Rattle.fleet_model.specs.Demand.{f_i0, f_ij, f_0j}
use Rattle.fleet_model.specs.ZeroStock.{zero_stock_i0, zero_stock_00, zero_stock_ij, zero_stock_0j}
use Rattle.fleet_model.specs.Pipelines.{Moments, pipeline_i0, pipeline_00, pipeline_ij, pipeline_0j, ebo_i0, ebo_00, ebo_ij, ebo_0j, vbo_i0, vbo_00, vbo_ij, vbo_0j}
use Rattle.fleet_model.specs.Pairs.{by_pair, share, zero_stock, mean, variance, backorders, spread}
use Rattle.fleet_model.specs.Laws.{Reaches, IsCapped, HasNoStock}
use Rattle.fleet_model.proofs.Order.{rest}
use Rattle.fleet_model.proofs.MeanLaws.{f_i0_most, f_ij_most, f_0j_most}
use Rattle.fleet_model.proofs.CapLaws.{capped_i0, capped_00, capped_ij, capped_0j}
use Rattle.fleet_model.proofs.NoStockLaws.{no_stock_i0, no_stock_00, no_stock_ij, no_stock_0j}

abbrev moments : CaseRows → List ℕ → ℕ → Option ℕ → ℕ → ℕ → Moments
moments c s n o p k = by_pair (pipeline_i0 c) (pipeline_00 c s n) (pipeline_ij c s n) (pipeline_0j c s n) o p k

capped_of : (c : CaseRows) (s : List ℕ) (n : ℕ) (o : Option ℕ) (p k : ℕ) → Reaches c s n → k < length c.sites
    → IsCapped (by_pair (zero_stock_i0 c) (zero_stock_00 c) (zero_stock_ij c) (zero_stock_0j c) o p k)
    (moments c s n o p k).mean (moments c s n o p k).variance
    (ebo n (moments c s n o p k).mean (moments c s n o p k).variance (stock c s p k))
    (vbo n (moments c s n o p k).mean (moments c s n o p k).variance (stock c s p k))
unfolding ebo_i0 ebo_00 ebo_ij ebo_0j vbo_i0 vbo_00 vbo_ij vbo_0j
capped_of c s n (Some l) p zero r h = capped_i0 c s n l p r
capped_of c s n None p zero r h = capped_00 c s n p r
capped_of c s n (Some l) p (suc j) r h = capped_ij c s n l p (suc j) r (zero-lt-suc j, h)
capped_of c s n None p (suc j) r h = capped_0j c s n p (suc j) r (zero-lt-suc j, h)

-- mean, variance, EBO and VBO of each pair are at most its zero-stock mean
pub capped : (c : CaseRows) (s : List ℕ) (n p k : ℕ) → Reaches c s n → k < length c.sites
    → IsCapped (zero_stock c p k) (mean c s p k n) (variance c s p k n) (backorders c s p k n) (spread c s p k n)
capped c s n p k r h = capped_of c s n (line_of c.parts p) p k r h

no_stock_of : (c : CaseRows) (s : List ℕ) (n : ℕ) (o : Option ℕ) (p k : ℕ) → HasNoStock c s → k < length c.sites
    → (moments c s n o p k).mean ≈ by_pair (zero_stock_i0 c) (zero_stock_00 c) (zero_stock_ij c) (zero_stock_0j c) o p k
no_stock_of c s n (Some l) p zero h k = no_stock_i0 c l p
no_stock_of c s n None p zero h k = no_stock_00 c s n p h
no_stock_of c s n (Some l) p (suc j) h k = no_stock_ij c s n l p (suc j) h (zero-lt-suc j, k)
no_stock_of c s n None p (suc j) h k = no_stock_0j c s n p (suc j) h (zero-lt-suc j, k)

-- where nothing is in stock the pipeline of each pair has the zero-stock mean
pub no_stock : (c : CaseRows) (s : List ℕ) (n p k : ℕ) → HasNoStock c s → k < length c.sites → mean c s p k n ≈ zero_stock c p k
no_stock c s n p k h l = no_stock_of c s n (line_of c.parts p) p k h l

-- ---- shares

share_most_of : (c : CaseRows) (o : Option ℕ) (p k : ℕ) → k < length c.sites → by_pair (f_i0 c) (λ l. whole 1) (f_ij c) (f_0j c) o p k ≤ℚ whole 1
share_most_of c (Some l) p zero h = f_i0_most c l p
share_most_of c None p zero h = le_self (whole 1)
share_most_of c (Some l) p (suc j) h = f_ij_most c l p (suc j) (zero-lt-suc j, h)
share_most_of c None p (suc j) h = f_0j_most c p (suc j) (zero-lt-suc j, h)

-- the share of each pair is at most 1
pub share_most : (c : CaseRows) (p k : ℕ) → k < length c.sites → share c p k ≤ℚ whole 1
share_most c p k h = share_most_of c (line_of c.parts p) p k h

-- a pair's share and what it lacks of 1 come to 1
pub share_rest : (c : CaseRows) (p k : ℕ) → k < length c.sites → (whole 1 -ℚ share c p k) +ℚ share c p k ≈ whole 1
share_rest c p k h = rest (share c p k) (share_most c p k h)

-- ---- repairs sent to the depot

here_step : (r : ℕ) → r ≤ 10000 → r * 1 ≤ 1 * 10000
here_step r h = omega arith

few_here : (c : CaseRows) (i : ℕ) → IsCase c → i < length c.rates → (get_or c.rates i no_rate).repair_here ≤ 10000
few_here c i h l = let row = h.rate_rows i no_rate l in most_field _ _ row.fields.repair_here
  where
    most_field : (used : Bool) (n : ℕ) → IsNumberField used 0 10000 n → n ≤ 10000
    most_field true n f = (f.within refl).1
    most_field false n f = omega (arith, f.empty refl)

here_most : (c : CaseRows) (i : ℕ) → IsCase c → (get_or c.rates i no_rate).repair_here ≤ 10000
here_most c i h = elim (cases_lt i (length c.rates)) [
  | inl l ↦ few_here c i h l
  | inr l ↦ subst (λ (r : RateRow). r.repair_here ≤ 10000) (sym (get_or_past c.rates i no_rate l)) (omega arith)
]

here_within : (c : CaseRows) (p k : ℕ) → IsCase c → here c p k ≤ℚ whole 1
unfolding here ten_thousandths whole
here_within c p k h = record { cross = here_step _ (here_most c (p * length c.sites + k) h) }

-- what is sent to the depot and what is repaired at the base come to 1
pub sent_here : (c : CaseRows) (p k : ℕ) → IsCase c → sent c p k +ℚ here c p k ≈ whole 1
unfolding sent
sent_here c p k h = rest (here c p k) (here_within c p k h)
