-- Allocations: a vector of stocks for each family, as the model sees them.
use Rattle.std.specs.Prelude.{ℕ, ◌+◌, List, [], ◌∷◌, map}
use Rattle.exact_model.specs.Fraction.{Fraction, whole, ◌+ℚ◌, ◌*ℚ◌, ◌≤ℚ◌, Encloses}
use Rattle.hull.specs.declared.point.Point.{Point}
use Rattle.hull.specs.Curves.{Among}

-- A family: its vectors within the limits, and for each vector the cost, the ends of its interval and the model's
-- backorders at each depth.
pub record Family : Type 0 where
  pub vectors : List (List ℕ)
  pub cost : List ℕ → ℕ
  pub lo : List ℕ → ℕ
  pub hi : List ℕ → ℕ
  pub backorders : ℕ → List ℕ → Fraction

-- the point of a vector of stocks: its cost and the ends of its interval
abbrev pub point_of : Family → List ℕ → Point
point_of family stocks = record {
  cost = family.cost stocks;
  lo = family.lo stocks;
  hi = family.hi stocks;
  stocks = stocks;
}

-- the points of all vectors of a family
abbrev pub points_of : Family → List Point
points_of family = map (point_of family) family.vectors

-- the interval of each vector encloses its backorders
abbrev pub AreEnclosed : List Family → Type 0
AreEnclosed [] = Unit {0}
AreEnclosed (family ∷ families) = ((stocks : List ℕ) → Among stocks family.vectors
    → Encloses 48 (family.lo stocks) (family.hi stocks) (λ n. family.backorders n stocks))
    × AreEnclosed families

-- one vector of each family
abbrev pub IsFamilyAllocation : List Family → List (List ℕ) → Type 0
IsFamilyAllocation [] [] = Unit {0}
IsFamilyAllocation [] (stocks ∷ rest) = ⊥
IsFamilyAllocation (family ∷ families) [] = ⊥
IsFamilyAllocation (family ∷ families) (stocks ∷ rest) = Among stocks family.vectors × IsFamilyAllocation families rest

-- the cost of an allocation
abbrev pub cost_at : List Family → List (List ℕ) → ℕ
cost_at [] allocation = 0
cost_at (family ∷ families) [] = 0
cost_at (family ∷ families) (stocks ∷ rest) = family.cost stocks + cost_at families rest

-- the backorders of an allocation at a depth
unfoldable pub total_at : ℕ → List Family → List (List ℕ) → Fraction
total_at n [] allocation = whole 0
total_at n (family ∷ families) [] = whole 0
total_at n (family ∷ families) (stocks ∷ rest) = family.backorders n stocks +ℚ total_at n families rest

-- For every allocation, the backorders and the price of the money above the budget sum to at least this.
abbrev pub IsBoundAtPrice : List Family → ℕ → ℕ → Fraction → Fraction → Type 0
IsBoundAtPrice families budget n price bound = (allocation : List (List ℕ)) → IsFamilyAllocation families allocation
    → bound +ℚ price *ℚ whole budget ≤ℚ total_at n families allocation +ℚ price *ℚ whole (cost_at families allocation)
