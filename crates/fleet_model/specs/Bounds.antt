-- Bounds on the aim of allocations under a budget, and the bounds that a price shows. A budget is in whole money and
-- pays for the stocks beyond those held. Bounds and floors are in units of 2^-48, and hold at every depth from 1024 on.
use Rattle.std.specs.Prelude.{◌≡◌, ℕ, ◌+◌, ◌*◌, ◌<◌, ◌≤◌, ◌^◌, true, List, length}
use Rattle.exact_model.specs.Fraction.{Fraction, whole, ◌≤ℚ◌, ◌+ℚ◌, ◌*ℚ◌}
use Rattle.spares_input.specs.Rows.{is_line}
use Rattle.spares_input.specs.Frames.{part_at}
use Rattle.spares_input.specs.Cases.{CaseRows}
use Rattle.fleet_model.specs.Aims.{Value, family_aim, aim, IsHeldAllocation, family_cost_beyond, cost_beyond}

-- no allocation within the budget has a smaller aim than the bound
abbrev pub NoneHasLess : Value → CaseRows → List ℕ → ℕ → ℕ → Type 0
NoneHasLess value c held budget bound =
    (n : ℕ) → 1024 ≤ n → (s : List ℕ) → IsHeldAllocation c held s → cost_beyond c held s ≤ budget
    → whole bound ≤ℚ aim value c s n *ℚ whole (2 ^ 48)

-- x is a bound that a price shows at depth n: for every allocation, x is at most aim + price (cost - budget). It is
-- written without a difference: x + price budget is at most aim + price cost
abbrev pub PriceShows : Value → CaseRows → List ℕ → ℕ → ℕ → Fraction → Fraction → Type 0
PriceShows value c held budget n price x =
    (s : List ℕ) → IsHeldAllocation c held s
    → x +ℚ price *ℚ whole budget ≤ℚ aim value c s n +ℚ price *ℚ whole (cost_beyond c held s)

-- no price shows a bound above this one
abbrev pub NoPriceShowsMore : Value → CaseRows → List ℕ → ℕ → ℕ → Type 0
NoPriceShowsMore value c held budget most =
    (n : ℕ) → 1024 ≤ n → (price x : Fraction) → PriceShows value c held budget n price x
    → x *ℚ whole (2 ^ 48) ≤ℚ whole most

-- the aim of these stocks is at most this
abbrev pub HasNoMore : Value → CaseRows → List ℕ → ℕ → Type 0
HasNoMore value c s most = (n : ℕ) → 1024 ≤ n → aim value c s n *ℚ whole (2 ^ 48) ≤ℚ whole most

-- at the price of `money` of the aim for `units` of money, floor(l) is at most units * 2^48 * aim + money * cost of the
-- family of each line unit l, for every allocation
abbrev pub AreFloors : Value → CaseRows → List ℕ → ℕ → ℕ → (ℕ → ℕ) → Type 0
AreFloors value c held units money floor =
    (n : ℕ) → 1024 ≤ n → (s : List ℕ) → IsHeldAllocation c held s
    → (l : ℕ) → l < length c.parts → is_line (part_at c.parts l) ≡ true
    → whole (floor l)
    ≤ℚ whole units *ℚ (family_aim value c s n l *ℚ whole (2 ^ 48)) +ℚ whole (money * family_cost_beyond c held s l)

-- two allocations, the first `left` within the budget and the second `over` above it
pub record AreAround (c : CaseRows) (held : List ℕ) (budget : ℕ) (s t : List ℕ) (left over : ℕ) : Type 0 where
  pub first : IsHeldAllocation c held s
  pub second : IsHeldAllocation c held t
  pub below : cost_beyond c held s + left ≡ budget
  pub above : cost_beyond c held t ≡ budget + over
  pub apart : 0 < left + over
