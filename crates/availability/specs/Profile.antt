-- The ends of the availability of a base and of a fleet.
use Rattle.std.specs.Prelude.{ℕ, ◌-◌, ◌*◌, List, sum_by}
use Rattle.std.specs.List.{fold}
use Rattle.fixed_interval.specs.Ends.{Ends, ends_exact, ends_add, ends_less, ends_times, ends_over, ends_mul, ends_power}
use Rattle.availability.specs.declared.Weighted.{Weighted}

-- 1 - e / places, cut at 0
abbrev pub filled_ends : (f : ℕ) → Ends → ℕ → Ends
filled_ends f e places = ends_less (ends_exact f 1) (ends_over e places)

-- the factor of a line unit in a base's availability, with N systems of Z each
abbrev pub factor_ends : (f : ℕ) → Ends → (systems per_system : ℕ) → Ends
factor_ends f e systems per_system = ends_power f (filled_ends f e (systems * per_system)) (per_system - 1)

-- 1 multiplied by each factor in order
abbrev pub base_ends : (f : ℕ) → List Ends → Ends
base_ends f factors = fold (ends_mul f) (ends_exact f 1) factors

-- the sum of each value times its systems, in order
abbrev pub weighted_sum : (f : ℕ) → List (Weighted f) → Ends
weighted_sum f bases = fold (λ sum base. ends_add sum (ends_times base.value base.systems)) (ends_exact f 0) bases

-- the total number of systems of the bases
abbrev pub all_systems : {f : ℕ} → List (Weighted f) → ℕ
all_systems bases = sum_by (λ base. base.systems) bases

-- that sum over the total number of systems
abbrev pub fleet_ends : (f : ℕ) → List (Weighted f) → Ends
fleet_ends f bases = ends_over (weighted_sum f bases) (all_systems bases)
