-- The statements of the laws of plans.
use Rattle.std.specs.Prelude.{◌≡◌, ℕ, ◌<◌, List, [], map, length, ◌↔◌, None, fold}
use Rattle.fixed_interval.specs.Ends.{ends_add, ends_exact}
use Rattle.hull.specs.declared.point.Point.{Point}
use Rattle.hull.specs.declared.price.Price.{Price}
use Rattle.hull.specs.Curves.{Among, InRange}
use Rattle.hull.specs.Scores.{EnclosesValue, LeavesRoom}
use Rattle.spares_input.specs.Cases.{CaseRows, IsCase, frame_rows, pair_count}
use Rattle.demand_rates.specs.Limits.{rate_fault_of}
use Rattle.fleet_model.specs.Rows.{line_units}
use Rattle.family_items.specs.Profile.{total_of}
use Rattle.family_items.specs.Inputs.{IsLine}
use Rattle.family_points.specs.Vectors.{vector_of, zeros}
use Rattle.family_points.specs.Points.{ScoreEnds, plain_ends}
use Rattle.marginal_alloc.specs.Choice.{AreCurves}
use Rattle.marginal_alloc.specs.Plans.{IsPlan}
use Rattle.price_bounds.specs.Certificates.{AreLeastFloors, Claims, IsAcceptable}
use Rattle.price_bounds.specs.Soundness.{stocks_of}
use Rattle.price_bounds.specs.Allocations as families
use Rattle.price_bounds.specs.Allocations.{AreEnclosed, cost_at, total_at, points_of}
use Rattle.marginal_alloc.specs.Promises.{StocksTellAll}
use Rattle.fleet_model.specs.Aims.{Value, aim, IsHeldAllocation, cost_beyond}
use Rattle.fleet_plan.specs.Families.{families_at, family_points, case_points, vectors_at, points_at, hi_at}
use Rattle.fleet_plan.specs.Plans.{CasePlan, IsCasePlan, CaseClaims, AreAcceptable, IsTruePlan, AreTrueClaims, IsPlainPlan, ArePlainClaims}

-- a valid case whose rates break no rule
pub record IsAcceptedCase (c : CaseRows) : Type 0 where
  pub valid : IsCase c
  pub no_fault : rate_fault_of c ≡ None

-- ---- families

-- the interval of each vector encloses its aim
abbrev pub FamiliesAreEnclosed : Type 0
FamiliesAreEnclosed =
    (ends : ScoreEnds) (value : Value) (c : CaseRows) (held : List ℕ)
    → IsAcceptedCase c → EnclosesValue ends value → AreEnclosed (families_at ends value c held)

-- the points are the families' points, whatever the value
abbrev pub PointsAreTheFamilies : Type 0
PointsAreTheFamilies =
    (ends : ScoreEnds) (value : Value) (c : CaseRows) (held : List ℕ)
    → map points_of (families_at ends value c held) ≡ case_points ends c held

-- and they meet the requirements of a curve
abbrev pub PointsAreInRange : Type 0
PointsAreInRange =
    (ends : ScoreEnds) (c : CaseRows) (held : List ℕ) (l : ℕ) (v : Point)
    → IsAcceptedCase c → IsLine c l → LeavesRoom ends → Among v (family_points ends c held l) → InRange v

-- no two points of a family have the same stocks
abbrev pub CaseStocksTell : Type 0
CaseStocksTell = (ends : ScoreEnds) (c : CaseRows) (held : List ℕ) → StocksTellAll (case_points ends c held)

-- ---- allocations

-- an allocation of the case is an allocation of its families, with the same cost and the same aim
pub record IsSameChoice (ends : ScoreEnds) (value : Value) (c : CaseRows) (held s : List ℕ) : Type 0 where
  pub allocation : families.IsFamilyAllocation (families_at ends value c held) (vectors_at c s)
  pub cost : cost_at (families_at ends value c held) (vectors_at c s) ≡ cost_beyond c held s
  pub total : (n : ℕ) → total_at n (families_at ends value c held) (vectors_at c s) ≡ aim value c s n

-- each allocation of the case is a choice of a vector from each family, with the same cost and aim
abbrev pub AllocationsAreChoices : Type 0
AllocationsAreChoices =
    (ends : ScoreEnds) (value : Value) (c : CaseRows) (held s : List ℕ)
    → IsCase c → IsHeldAllocation c held s → IsSameChoice ends value c held s

-- and each choice of vectors is the choice of an allocation
pub record IsOfStocks (c : CaseRows) (held : List ℕ) (allocation : List (List ℕ)) : Type 0 where
  pub stocks : List ℕ
  pub is_allocation : IsHeldAllocation c held stocks
  pub vectors : vectors_at c stocks ≡ allocation

-- each choice of a vector from each family is the choice of an allocation of the case
abbrev pub ChoicesAreAllocations : Type 0
ChoicesAreAllocations =
    (ends : ScoreEnds) (value : Value) (c : CaseRows) (held : List ℕ) (allocation : List (List ℕ))
    → IsCase c → families.IsFamilyAllocation (families_at ends value c held) allocation → IsOfStocks c held allocation

-- ---- plans

-- the plan of an accepted case is true of it, for any score that encloses its value
abbrev pub PlansAreTrue : Type 0
PlansAreTrue =
    (ends : ScoreEnds) (value : Value) (c : CaseRows) (held : List ℕ) (budget : ℕ) (p : CasePlan)
    → IsAcceptedCase c → EnclosesValue ends value
    → IsCasePlan ends c held budget p → IsTruePlan ends value c held budget p

-- acceptable claims of an accepted case are true of it, for any score that encloses its value
abbrev pub ClaimsAreTrue : Type 0
ClaimsAreTrue =
    (ends : ScoreEnds) (value : Value) (c : CaseRows) (held : List ℕ) (budget : ℕ) (x : CaseClaims)
    → IsAcceptedCase c → EnclosesValue ends value
    → AreAcceptable ends c held budget x → AreTrueClaims value c held budget x

-- the same for weighted backorders if nothing is held, in the model's plain words
abbrev pub PlainPlansAreTrue : Type 0
PlainPlansAreTrue =
    (c : CaseRows) (budget : ℕ) (p : CasePlan)
    → IsAcceptedCase c → IsCasePlan plain_ends c [] budget p → IsPlainPlan c budget p

-- acceptable claims for weighted backorders with nothing held are true in the model's plain words
abbrev pub PlainClaimsAreTrue : Type 0
PlainClaimsAreTrue =
    (c : CaseRows) (budget : ℕ) (x : CaseClaims)
    → IsAcceptedCase c → AreAcceptable plain_ends c [] budget x → ArePlainClaims c budget x

-- the claims of the certificate over the families' points
abbrev pub claims_at : ScoreEnds → CaseRows → List ℕ → CaseClaims → Claims
claims_at ends c held x = record {
  chosen = points_at ends c held x.stocks;
  price = x.price;
  floors = x.floors;
  upper = x.upper;
  bound = x.bound;
}

-- they are acceptable for the case exactly if they are acceptable over the points
abbrev pub ClaimsAreOverPoints : Type 0
ClaimsAreOverPoints =
    (ends : ScoreEnds) (c : CaseRows) (held : List ℕ) (budget : ℕ) (x : CaseClaims)
    → IsCase c → length x.stocks ≡ pair_count (frame_rows c)
    → AreAcceptable ends c held budget x ↔ IsAcceptable (case_points ends c held) budget (claims_at ends c held x)

-- a case has one plan under a budget
abbrev pub CasePlansAreOne : Type 0
CasePlansAreOne =
    (ends : ScoreEnds) (c : CaseRows) (held : List ℕ) (budget : ℕ) (p q : CasePlan)
    → IsCase c → IsCasePlan ends c held budget p → IsCasePlan ends c held budget q → p ≡ q

-- ---- how a plan is made

-- chosen points are the points of the stocks that have their vectors
abbrev pub ChosenAreOfStocks : Type 0
ChosenAreOfStocks =
    (ends : ScoreEnds) (c : CaseRows) (held : List ℕ) (budget : ℕ) (chosen : List Point) (p : CasePlan)
    → IsPlan (case_points ends c held) budget chosen p.floors p.numbers → stocks_of chosen ≡ vectors_at c p.stocks
    → length p.stocks ≡ pair_count (frame_rows c) → IsCasePlan ends c held budget p

-- the least Lagrangians over the vertices of curves are the least over all points
abbrev pub CurvesShowFloors : Type 0
CurvesShowFloors =
    (families curves : List (List Point)) (price : Price) (floors : List ℕ)
    → 0 < price.q → AreCurves families curves → AreLeastFloors price curves floors
    → AreLeastFloors price families floors

-- if nothing is held, each vector of held stocks is zeros
abbrev pub NothingHeld : Type 0
NothingHeld = (c : CaseRows) (l : ℕ) → vector_of c l [] ≡ zeros c l

-- the plain scored totals are the families' totals, and their upper ends add up to the upper end of the sum
abbrev pub UpperIsTotal : Type 0
UpperIsTotal =
    (c : CaseRows) (s : List ℕ)
    → (fold ends_add (ends_exact 48 0) (map (total_of 48 c s) (line_units c))).hi ≡ hi_at plain_ends c s
