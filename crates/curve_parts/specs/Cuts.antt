-- A curve between two prices, by its steps.
use Rattle.std.specs.Prelude.{◌≡◌, ℕ, zero, suc, ◌-◌, ◌*◌, ◌<◌, ◌≤◌, List, [], ◌∷◌, ◌++◌}
use Rattle.hull.specs.declared.point.Point.{Point}
use Rattle.hull.specs.declared.price.Price.{Price}
use Rattle.hull.specs.Limits.{most_price_units, most_price_money}
use Rattle.curve_parts.specs.Parts.{IsPriceBetween}

-- some price above 0 lies between low and high
pub record IsWindow (low high : Price) : Type 0 where
  pub steep : 0 < high.p
  pub money : 0 < low.q
  pub order : low.p * high.q ≤ high.p * low.q

-- each step falls more per money than the price
abbrev pub AreSteeper : Price → List Point → Type 0
AreSteeper price [] = Unit {0}
AreSteeper price (v ∷ []) = Unit {0}
AreSteeper price (v ∷ w ∷ rest) = (price.p * (w.cost - v.cost) < (v.lo - w.lo) * price.q) × AreSteeper price (w ∷ rest)

-- each step falls less per money than the price
abbrev pub AreFlatter : Price → List Point → Type 0
AreFlatter price [] = Unit {0}
AreFlatter price (v ∷ []) = Unit {0}
AreFlatter price (v ∷ w ∷ rest) =
    ((v.lo - w.lo) * price.q < price.p * (w.cost - v.cost)) × AreFlatter price (w ∷ rest)

-- each step falls as much per money as some price from low to high
abbrev pub AreBetween : Price → Price → List Point → Type 0
AreBetween low high [] = Unit {0}
AreBetween low high (v ∷ []) = Unit {0}
AreBetween low high (v ∷ w ∷ rest) =
    IsPriceBetween low high (v.lo - w.lo) (w.cost - v.cost) × AreBetween low high (w ∷ rest)

-- the part is a stretch of the curve: its steps are between two prices, those before it steeper than high, and those
-- after it flatter than low
pub record IsCutOf (low high : Price) (curve part : List Point) : Type 0 where
  pub front : List Point
  pub back : List Point
  pub is : curve ≡ front ++ (part ++ back)
  pub first : Point
  pub after : List Point
  pub begins : part ≡ first ∷ after
  pub last : Point
  pub before : List Point
  pub ends : part ≡ before ++ last ∷ []
  pub steeper : AreSteeper high (front ++ first ∷ [])
  pub steps : AreBetween low high part
  pub flatter : AreFlatter low (last ∷ back)

-- the prices low and high lie between least and most
pub record IsWithin (low high least most : Price) : Type 0 where
  pub least_below : least.p * low.q ≤ low.p * least.q
  pub most_above : high.p * most.q ≤ most.p * high.q

-- a step with this fall and rise falls more per money than the price
abbrev pub Steeper : Price → ℕ → ℕ → Type 0
Steeper price fall rise = price.p * rise < fall * price.q

-- it doesn't
abbrev pub NoSteeper : Price → ℕ → ℕ → Type 0
NoSteeper price fall rise = fall * price.q ≤ price.p * rise

-- it falls less per money than the price
abbrev pub Flatter : Price → ℕ → ℕ → Type 0
Flatter price fall rise = fall * price.q < price.p * rise

-- it doesn't fall less
abbrev pub NoFlatter : Price → ℕ → ℕ → Type 0
NoFlatter price fall rise = price.p * rise ≤ fall * price.q

-- the step at place k of a list, from its vertex to the next, is such
abbrev pub StepAt : (ℕ → ℕ → Type 0) → List Point → ℕ → Type 0
StepAt Is [] k = ⊥
StepAt Is (v ∷ []) k = ⊥
StepAt Is (v ∷ w ∷ rest) zero = Is (v.lo - w.lo) (w.cost - v.cost)
StepAt Is (v ∷ w ∷ rest) (suc k) = StepAt Is (w ∷ rest) k

-- the numbers of a price are within their limits
pub record IsSmall (price : Price) : Type 0 where
  pub p : price.p ≤ most_price_units
  pub q : price.q ≤ most_price_money
