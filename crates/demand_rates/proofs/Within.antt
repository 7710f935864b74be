-- Bounds of a valid case: of its rows, and of the demands at the depot.
use Rattle.std.proofs.Common.{ℕ, ◌+◌, ◌-◌, ◌*◌, ◌<◌, ◌≤◌, Bool, true, false, inl, inr, Option, Some, None, length, get_or, refl, sym, subst, arith}
use Rattle.std.proofs.lemmas.List.{get_or_past}
use Rattle.std.proofs.lemmas.Bool.{cases_lt}
use Rattle.std.proofs.lemmas.Nat.{mul-le}
use Rattle.spares_input.specs.Rows.{no_rate, IsNumberField}
use Rattle.spares_input.specs.Frames.{line_of}
use Rattle.spares_input.specs.Cases.{CaseRows, IsCase, rate_at}
use Rattle.fleet_model.specs.Units.{demand_00, demand_i0, demand_of, demand_units, needed_i0, sent_0j, sent_ij}
use Rattle.demand_rates.specs.Limits.{IsRate}
use Rattle.demand_rates.proofs.Sums.{sum_few}

field_most : (used : Bool) (most n : ℕ) → IsNumberField used 0 most n → n ≤ most
field_most true most n f = (f.within refl).1
field_most false most n f = omega (arith, f.empty refl)

no_rate_within : IsRate no_rate
no_rate_within = record { demand = omega arith; here = omega arith; share = omega arith; days = omega arith }

row_within : (c : CaseRows) (i : ℕ) → IsCase c → i < length c.rates → IsRate (get_or c.rates i no_rate)
row_within c i h l =
    let row = h.rate_rows i no_rate l in
    record {
      demand = field_most _ _ _ row.fields.demand;
      here = field_most _ _ _ row.fields.repair_here;
      share = field_most _ _ _ row.fields.share;
      days = row.fields.repair_days;
    }

at_within : (c : CaseRows) (i : ℕ) → IsCase c → IsRate (get_or c.rates i no_rate)
at_within c i h = elim (cases_lt i (length c.rates)) [
  | inl l ↦ row_within c i h l
  | inr l ↦ subst (λ r. IsRate r) (sym (get_or_past c.rates i no_rate l)) no_rate_within
]

pub rate_within : (c : CaseRows) (p k : ℕ) → IsCase c → IsRate (rate_at c p k)
rate_within c p k h = at_within c (p * length c.sites + k) h

sent_0j_most : (c : CaseRows) (l j : ℕ) → IsCase c → sent_0j c l j ≤ 10000000000000
sent_0j_most c l j h =
    mul-le (rate_at c l j).demand (10000 - (rate_at c l j).repair_here) 1000000000 10000 (rate_within c l j h).demand (omega arith)

sent_ij_most : (c : CaseRows) (l i j : ℕ) → IsCase c → sent_ij c l i j ≤ 1000000000000000000000
sent_ij_most c l i j h =
    mul-le ((rate_at c l j).demand * (rate_at c l j).repair_here * (rate_at c i j).share) (10000 - (rate_at c i j).repair_here) 100000000000000000 10000
    (mul-le ((rate_at c l j).demand * (rate_at c l j).repair_here) (rate_at c i j).share 10000000000000 10000
    (mul-le (rate_at c l j).demand (rate_at c l j).repair_here 1000000000 10000 (rate_within c l j h).demand (rate_within c l j h).here)
    (rate_within c i j h).share)
    (omega arith)

-- what all bases send of a line unit to the depot is at most 150,000,000,000,000 units
pub demand_00_most : (c : CaseRows) (l : ℕ) → IsCase c → demand_00 c l ≤ 150000000000000
demand_00_most c l h =
    sum_few (sent_0j c l) 10000000000000 (length c.sites - 1) (omega (arith, h.frame.most_sites)) (λ j. sent_0j_most c l j h)

needed_most : (c : CaseRows) (l i : ℕ) → IsCase c → needed_i0 c l i * 10000 ≤ 15000000000000000000000
needed_most c l i h =
    mul-le (needed_i0 c l i) 10000 1500000000000000000 10000
    (mul-le (demand_00 c l) (rate_at c i 0).share 150000000000000 10000 (demand_00_most c l h) (rate_within c i 0 h).share)
    (omega arith)

-- the demand for a shop unit at the depot is at most 3 * 10^22 units
pub demand_i0_most : (c : CaseRows) (l i : ℕ) → IsCase c → demand_i0 c l i ≤ 30000000000000000000000
demand_i0_most c l i h =
    omega (
      arith,
      sum_few (sent_ij c l i) 1000000000000000000000 (length c.sites - 1) (omega (arith, h.frame.most_sites)) (λ j. sent_ij_most c l i j h),
      needed_most c l i h,
    )

demand_most_of : (c : CaseRows) (o : Option ℕ) (p : ℕ) → IsCase c → demand_of c o p 0 ≤ 30000000000000000000000
demand_most_of c None p h = omega (arith, demand_00_most c p h)
demand_most_of c (Some l) p h = demand_i0_most c l p h

-- and so is that for any part at the depot
pub demand_most : (c : CaseRows) (p : ℕ) → IsCase c → demand_units c p 0 ≤ 30000000000000000000000
demand_most c p h = demand_most_of c (line_of c.parts p) p h
