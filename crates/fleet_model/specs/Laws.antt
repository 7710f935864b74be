-- The laws of pipelines, of their zero-stock means and of families.
use Rattle.std.specs.Prelude.{◌≡◌, ◌↔◌, ℕ, suc, ◌<◌, ◌≤◌, List, [], length}
use Rattle.std.specs.List.{AllByRecursion}
use Rattle.exact_model.specs.Fraction.{Fraction, ◌≤ℚ◌}
use Rattle.spares_input.specs.Cases.{CaseRows}
use Rattle.fleet_model.specs.Rows.{stock}
use Rattle.fleet_model.specs.Fleet.{IsAllocation, cost, family, family_total, case_total}
use Rattle.fleet_model.specs.Aims.{weighted_backorders, family_aim, aim, IsHeldAllocation, cost_beyond}

-- j is a base
abbrev pub IsBase : CaseRows → ℕ → Type 0
IsBase c j = (0 < j) × (j < length c.sites)

-- the depth is at least each stock less 1
abbrev pub Reaches : CaseRows → List ℕ → ℕ → Type 0
Reaches c s n = (p k : ℕ) → stock c s p k ≤ suc n

-- no pair has a unit in stock
abbrev pub HasNoStock : CaseRows → List ℕ → Type 0
HasNoStock c s = (p k : ℕ) → stock c s p k ≡ 0

-- a pipeline's mean, variance, EBO and VBO are at most its zero-stock mean
pub record IsCapped (most mean variance backorders spread : Fraction) : Type 0 where
  pub mean_most : mean ≤ℚ most
  pub variance_most : variance ≤ℚ most
  pub backorders_most : backorders ≤ℚ most
  pub spread_most : spread ≤ℚ most

-- two lists of stocks agree on the family of the line unit l at each site
abbrev pub AgreeOnFamily : CaseRows → List ℕ → List ℕ → ℕ → Type 0
AgreeOnFamily c s t l = AllByRecursion (λ p. (k : ℕ) → k < length c.sites → stock c s p k ≡ stock c t p k) (family c l)

-- if nothing is held, the allocations, their cost and the aim by weighted backorders are the plain ones
pub record ArePlainWords (c : CaseRows) (s : List ℕ) : Type 0 where
  pub allocation : IsHeldAllocation c [] s ↔ IsAllocation c s
  pub cost_is : cost_beyond c [] s ≡ cost c s
  pub family_is : (n l : ℕ) → family_aim weighted_backorders c s n l ≡ family_total c s n l
  pub total_is : (n : ℕ) → aim weighted_backorders c s n ≡ case_total c s n
