-- A case has one plan under a budget, and how a plan is made.
use Rattle.std.proofs.Common.{◌≡◌, ℕ, suc, ◌<◌, ◌≤◌, List, [], ◌∷◌, length, map, refl, sym, ap, ap₂, ◌∙◌, arith}
use Rattle.hull.specs.declared.point.Point.{Point}
use Rattle.hull.specs.declared.price.Price.{Price}
use Rattle.hull.specs.Curves.{Among, lagrangian, IsCurve}
use Rattle.hull.proofs.Public.{least_of_all, among_mapped}
use Rattle.spares_input.specs.Cases.{CaseRows, IsCase, frame_rows, pair_count}
use Rattle.fleet_model.specs.Rows.{line_units}
use Rattle.family_points.specs.Vectors.{vector_of, limits, vectors}
use Rattle.family_points.specs.Points.{ScoreEnds, point_at_vector}
use Rattle.price_bounds.specs.Sums.{cost_of, hi_of, Picks}
use Rattle.marginal_alloc.specs.Choice.{AreCurves}
use Rattle.marginal_alloc.specs.Plans.{IsPlan}
use Rattle.price_bounds.specs.Certificates.{AreLeastFloors}
use Rattle.price_bounds.specs.Soundness.{stocks_of}
use Rattle.marginal_alloc.proofs.Public.{one_plan, plan_acceptable}
use Rattle.fleet_plan.specs.Families.{family_points, case_points, vectors_at, points_at}
use Rattle.fleet_plan.specs.Plans.{CasePlan, IsCasePlan}
use Rattle.fleet_plan.proofs.Lists.{same_first, same_rest}
use Rattle.fleet_plan.proofs.Places.{one_list}
use Rattle.fleet_plan.proofs.Scores.{stocks_tell_all}
use Rattle.fleet_plan.proofs.Bridge.{stocks_are}

-- ---- one plan

same_plan : (p q : CasePlan) → p.stocks ≡ q.stocks → p.floors ≡ q.floors → p.numbers ≡ q.numbers → p ≡ q
same_plan p q s l f =
    ap (λ z. let x : CasePlan = record { stocks = z; floors = p.floors; numbers = p.numbers } in x) s
    ∙ ap (λ z. let x : CasePlan = record { stocks = q.stocks; floors = z; numbers = p.numbers } in x) l
    ∙ ap (λ z. let x : CasePlan = record { stocks = q.stocks; floors = q.floors; numbers = z } in x) f

-- a case has one plan under a budget, whatever the score and what is held
pub one_case_plan : (ends : ScoreEnds) (c : CaseRows) (held : List ℕ) (budget : ℕ) (p q : CasePlan) → IsCase c → IsCasePlan ends c held budget p → IsCasePlan ends c held budget q → p ≡ q
one_case_plan ends c held budget p q valid h k =
    let same = one_plan (case_points ends c held) budget (points_at ends c held p.stocks) (points_at ends c held q.stocks) p.floors q.floors p.numbers q.numbers (stocks_tell_all ends c held) h.plan k.plan in
    same_plan p q
    (one_list c valid p.stocks q.stocks h.count k.count (sym (stocks_are ends c held p.stocks) ∙ ap stocks_of same.chosen ∙ stocks_are ends c held q.stocks))
    same.floors same.numbers

-- ---- how it is made

-- points picked from the families whose stocks are the vectors of s are the points at s
pub chosen_in : (ends : ScoreEnds) (c : CaseRows) (held s ls : List ℕ) (chosen : List Point) → Picks (map (family_points ends c held) ls) chosen → stocks_of chosen ≡ map (λ l. vector_of c l s) ls
    → chosen ≡ map (λ l. point_at_vector c l ends (vector_of c l held) (vector_of c l s)) ls
chosen_in ends c held s [] [] a e = refl
chosen_in ends c held s [] (v ∷ vs) a e = absurd a
chosen_in ends c held s (l ∷ ls) [] a e = absurd a
chosen_in ends c held s (l ∷ ls) (v ∷ vs) a e =
    let m = among_mapped (point_at_vector c l ends (vector_of c l held)) (vectors (vector_of c l held) (limits c l)) v a.0 in
    let from : m.from ≡ vector_of c l s = sym (ap (λ (z : Point). z.stocks) m.is) ∙ same_first _ _ _ _ e in
    ap₂ (λ x y. x ∷ y) (m.is ∙ ap (point_at_vector c l ends (vector_of c l held)) from) (chosen_in ends c held s ls vs a.1 (same_rest _ _ _ _ e))

-- a plan of all points whose chosen points have the vectors of some stocks is the plan of the case
-- with these stocks
pub chosen_of_stocks : (ends : ScoreEnds) (c : CaseRows) (held : List ℕ) (budget : ℕ) (chosen : List Point) (p : CasePlan) → IsPlan (case_points ends c held) budget chosen p.floors p.numbers
    → stocks_of chosen ≡ vectors_at c p.stocks → length p.stocks ≡ pair_count (frame_rows c) → IsCasePlan ends c held budget p
chosen_of_stocks ends c held budget chosen p plan e count =
    let same : chosen ≡ points_at ends c held p.stocks =
    chosen_in ends c held p.stocks (line_units c) chosen (plan_acceptable (case_points ends c held) budget chosen p.floors p.numbers plan).within e in
    record {
      count = count;
      plan = record {
        curves = plan.curves;
        hull = plan.hull;
        end = plan.end;
        choice = plan.choice;
        fills = plan.fills;
        chosen_is = sym same ∙ plan.chosen_is;
        hull_cost = plan.hull_cost;
        price = plan.price;
        cost = plan.cost ∙ ap cost_of same;
        upper = plan.upper ∙ ap hi_of same;
        floors_are = plan.floors_are;
        bound = plan.bound;
        rounding = plan.rounding;
        gap = plan.gap;
        critical = plan.critical;
      };
    }

tail_areas : (points : List Point) (families : List (List Point)) (curve : List Point) (curves : List (List Point)) → AreCurves (points ∷ families) (curve ∷ curves) → AreCurves families curves
tail_areas points families curve curves a = record { count = (let n = a.count in omega (arith, n)); each = λ f b. a.each (suc f) (omega (arith, b)) }

-- the least Lagrangians over the curves' vertices are the least over all points of the families
pub floors_of_curves : (families curves : List (List Point)) (price : Price) (floors : List ℕ) → 0 < price.q → AreCurves families curves → AreLeastFloors price curves floors → AreLeastFloors price families floors
floors_of_curves [] [] price floors pos a h = h
floors_of_curves [] (curve ∷ curves) price floors pos a h = absurd (let n = a.count in omega (arith, n))
floors_of_curves (points ∷ families) [] price floors pos a h = absurd (let n = a.count in omega (arith, n))
floors_of_curves (points ∷ families) (curve ∷ curves) price [] pos a h = absurd h
floors_of_curves (points ∷ families) (curve ∷ curves) price (d ∷ ds) pos a h =
    let least = h.1 in
    let own : IsCurve points curve = a.each 0 (omega arith) in
    let all : (w : Point) → Among w points → lagrangian price.p price.q least.0 ≤ lagrangian price.p price.q w =
    (λ w m. least_of_all price.p price.q points curve pos own least.0 (λ u b. let k = h.0 u b in omega (arith, least.2, k)) w m) in
    ((λ w m. let k = all w m in omega (arith, least.2, k)), (least.0, own.among least.0 least.1, least.2), floors_of_curves families curves price ds pos (tail_areas points families curve curves a) h.2)
