-- The exact availability, and when intervals contain the numbers that it is made of.
use Rattle.std.specs.Prelude.{◌≡◌, ℕ, ◌*◌, ◌^◌, ◌<◌, ◌≤◌, List, length, get_or}
use Rattle.exact_model.specs.Fraction.{Fraction, whole, sum_below, ◌-ℚ◌, ◌*ℚ◌, ◌/ℚ◌}
use Rattle.exact_model.specs.Sums.{power}
use Rattle.fixed_interval.specs.Ends.{Ends, In, ends_exact}
use Rattle.availability.specs.declared.Weighted.{Weighted}

-- max(0, 1 - e / (N Z))^Z
abbrev pub factor_of : Fraction → (systems per_system : ℕ) → Fraction
factor_of e systems per_system = power (whole 1 -ℚ e /ℚ whole (systems * per_system)) per_system

-- the mean of q(0) .. q(m - 1) with the weights n(0) .. n(m - 1)
abbrev pub weighted_mean : (ℕ → ℕ) → (ℕ → Fraction) → ℕ → Fraction
weighted_mean n q m = sum_below (λ k. whole (n k) *ℚ q k) m /ℚ sum_below (λ k. whole (n k)) m

-- each factor contains the fraction at its place
abbrev pub AllIn : (bits : ℕ) → List Ends → (ℕ → Fraction) → Type 0
AllIn bits factors q = (k : ℕ) → k < length factors → In bits (get_or factors k (ends_exact bits 1)) (q k)

-- the base at a place
abbrev pub base_at : {bits : ℕ} → List (Weighted bits) → ℕ → Weighted bits
base_at {bits} bases k = get_or bases k (record { systems = 0; value = ends_exact bits 0 })

-- a base has n systems, and its value contains q
pub record BaseIn (bits : ℕ) (base : Weighted bits) (n : ℕ) (q : Fraction) : Type 0 where
  pub systems : base.systems ≡ n
  pub value : In bits base.value q

-- each base has the systems at its place, and contains the value there
abbrev pub BasesIn : (bits : ℕ) → List (Weighted bits) → (ℕ → ℕ) → (ℕ → Fraction) → Type 0
BasesIn bits bases n q = (k : ℕ) → k < length bases → BaseIn bits (base_at bases k) (n k) (q k)

-- a base has 1 to 10,000 systems, and its value is at most 1
pub record IsWeighted (bits : ℕ) (base : Weighted bits) : Type 0 where
  pub some_systems : 1 ≤ base.systems
  pub few_systems : base.systems ≤ 10000
  pub value : base.value.hi ≤ 2 ^ bits
