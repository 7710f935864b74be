-- When two cases have the same family: the same sites and parts, and the same rates of the family's own parts.
-- Nothing else of a case reaches a family's numbers.
use Rattle.std.specs.Prelude.{◌≡◌, ◌≢◌, ℕ, ◌<◌, List, length, map, unwrap_or}
use Rattle.std.specs.List.{AllByRecursion}
use Rattle.spares_input.specs.declared.rows.RateRow.{RateRow}
use Rattle.spares_input.specs.Frames.{line_of}
use Rattle.spares_input.specs.Cases.{CaseRows, frame_rows, rate_at, IsCase, IsRateOf}
use Rattle.spares_input.specs.Edits.{with_rate}
use Rattle.fleet_model.specs.Rows.{stock}
use Rattle.fleet_model.specs.Fleet.{family}
use Rattle.demand_rates.specs.Rates.{pair_rates}
use Rattle.family_items.specs.Inputs.{IsLine}
use Rattle.family_items.specs.Profile.{item_of}
use Rattle.family_points.specs.Points.{ScoreEnds, points_within}

-- two lists of stocks agree on the family of the line unit l at site k
abbrev pub AgreeAt : CaseRows → ℕ → List ℕ → List ℕ → ℕ → Type 0
AgreeAt c l s t k = map (λ p. stock c s p k) (family c l) ≡ map (λ p. stock c t p k) (family c l)

-- a line unit's item at a base depends on the family's stocks at the depot and there alone
abbrev pub ItemsAreLocal : Type 0
ItemsAreLocal =
    (f : ℕ) (c : CaseRows) (s t : List ℕ) (l j : ℕ) → IsLine c l → 0 < j → AgreeAt c l s t 0 → AgreeAt c l s t j
    → item_of f c s l j ≡ item_of f c t l j

-- part p has the same rates in both cases at each site
abbrev pub SameRates : CaseRows → CaseRows → ℕ → Type 0
SameRates c d p = (k : ℕ) → k < length c.sites → rate_at c p k ≡ rate_at d p k

-- so have all parts of the family of the line unit l
pub record SameFamily (c d : CaseRows) (l : ℕ) : Type 0 where
  pub sites : c.sites ≡ d.sites
  pub parts : c.parts ≡ d.parts
  pub rates : AllByRecursion (SameRates c d) (family c l)

-- both cases then have the same rates of each pair, the same item at the same stocks, and the same points
pub record HaveOneFamily (c d : CaseRows) (l : ℕ) : Type 0 where
  pub pairs : AllByRecursion (λ p. (k : ℕ) → k < length c.sites → pair_rates c p k ≡ pair_rates d p k) (family c l)
  pub items : (f : ℕ) (s : List ℕ) → AllByRecursion (λ p. (k : ℕ) → k < length c.sites
      → item_of f c s p k ≡ item_of f d s p k) (family c l)
  pub points : (ends : ScoreEnds) (held low high : List ℕ)
      → points_within c l ends held low high ≡ points_within d l ends held low high

-- a family's rates, items and points depend only on the sites, the parts and its own parts' rates
abbrev pub FamiliesAreLocal : Type 0
FamiliesAreLocal = (c d : CaseRows) (l : ℕ) → IsCase c → IsLine c l → SameFamily c d l → HaveOneFamily c d l

-- ---- one row changed

-- the line unit of the family to which part p belongs
abbrev pub home_of : CaseRows → ℕ → ℕ
home_of c p = unwrap_or (line_of c.parts p) p

-- replacing a pair's row leaves every other family unchanged
abbrev pub ChangesAreLocal : Type 0
ChangesAreLocal =
    (c : CaseRows) (r : RateRow) (l : ℕ) → IsCase c → IsLine c l → IsRateOf (frame_rows c) r → home_of c r.part.0 ≢ l
    → HaveOneFamily c (with_rate c r) l
