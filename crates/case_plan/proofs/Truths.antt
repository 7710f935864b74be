-- The report of a plan is true of the case.
use Rattle.std.proofs.Common.{◌≡◌, ℕ, ◌*◌, ◌/◌, ◌^◌, ◌<◌, ◌≤◌, Bool, true, false, IfSome, List, [], refl, sym, ap, ◌∙◌, subst, arith}
use Rattle.std.proofs.Math.Nat.{mul-le-mul_right, le_of_mul-le-mul_right}
use Rattle.exact_model.specs.Fraction.{Fraction, whole, scaled, ◌*ℚ◌, ◌/ℚ◌, ◌≤ℚ◌}
use Rattle.fixed_interval.specs.Ends.{Ends}
use Rattle.fixed_interval.specs.Text.{text_value}
use Rattle.hull.specs.Scores.{EnclosesValue, LeavesRoom}
use Rattle.spares_input.specs.Cases.{CaseRows, IsCase}
use Rattle.spares_input.specs.Stocks.{StockList}
use Rattle.fleet_model.specs.Fleet.{IsAllocation, cost, case_total}
use Rattle.family_items.specs.Encloses.{CanEvaluate}
use Rattle.family_items.proofs.Public.{evaluable}
use Rattle.case_figures.specs.declared.figures.Figures.{Figures}
use Rattle.case_figures.specs.Figures.{figures_of}
use Rattle.case_figures.specs.Shows.{ShowsFigures}
use Rattle.case_figures.proofs.Public.{evaluated_as, figures_fit, figures_shown}
use Rattle.family_points.specs.Vectors.{stock_list}
use Rattle.family_points.specs.Points.{ScoreEnds, plain_ends}
use Rattle.fleet_model.proofs.Public.{plain_words}
use Rattle.fleet_plan.specs.Plans.{IsCasePlan, IsPlainPlan}
use Rattle.fleet_plan.specs.Laws.{IsAcceptedCase}
use Rattle.fleet_plan.proofs.Public.{plain_plan, upper_is_total, plain_encloses, plan_true, one_case_plan}
use Rattle.fleet_model.specs.Aims.{Value, aim, weighted_backorders}
use Rattle.fleet_model.specs.Bounds.{HasNoMore}
use Rattle.plan_report.specs.Fits.{FitsPlan, IntervalFits}
use Rattle.plan_report.specs.Texts.{millionths_down}
use Rattle.plan_report.specs.declared.plan.PlanReport.{PlanReport}
use Rattle.held_work.specs.Work.{IsNothing}
use Rattle.case_plan.specs.Report.{aim_ends, if_asked, report_of, IsPlanned}
use Rattle.case_plan.specs.declared.request.Request.{Request}
use Rattle.case_plan.specs.Truth.{IsTruePlanReport, IsTrueReport}
use Rattle.case_plan.proofs.Aimed.{aim_enclosed}
use Rattle.case_plan.proofs.Nothing.{from_nothing}
use Rattle.case_plan.proofs.Ranges.{plan_fits}

can : (c : CaseRows) (s : List ℕ) → IsAcceptedCase c → IsAllocation c s → CanEvaluate 48 c (stock_list c s)
can c s accepted a = record {
  scale = (omega arith, omega arith);
  valid = accepted.valid;
  no_fault = accepted.no_fault;
  are_stocks = record {
    is_for = record { sites = refl; pairs = a.complete };
    limits = a.within;
  };
}

with_cost : (c : CaseRows) (s : StockList) (figures : Figures) (money : ℕ) → money ≡ cost c s.list → ShowsFigures 48 c s figures → ShowsFigures 48 c s (record figures { cost = money })
with_cost c s figures money e h = record {
  cost_is = e;
  item_count = h.item_count;
  items_in = h.items_in;
  base_count = h.base_count;
  bases_in = h.bases_in;
  fleet_in = h.fleet_in;
  total_in = h.total_in;
}

rounded : (x d : ℕ) → 0 < d → x / d * d ≤ x
rounded x d h = omega arith

printed_step : (bound num den : ℕ) → bound * den ≤ num * 2 ^ 48 → bound * 10 ^ 6 / 2 ^ 48 * den ≤ num * 10 ^ 6
printed_step bound num den h =
    let low : bound * 10 ^ 6 / 2 ^ 48 * 2 ^ 48 ≤ bound * 10 ^ 6 = rounded (bound * 10 ^ 6) (2 ^ 48) (omega arith) in
    let one : bound * 10 ^ 6 / 2 ^ 48 * 2 ^ 48 * den ≤ bound * 10 ^ 6 * den = mul-le-mul_right den low in
    let two : bound * den * 10 ^ 6 ≤ num * 2 ^ 48 * 10 ^ 6 = mul-le-mul_right (10 ^ 6) h in
    let three : bound * 10 ^ 6 / 2 ^ 48 * den * 2 ^ 48 ≤ num * 10 ^ 6 * 2 ^ 48 = omega (arith, one, two) in
    le_of_mul-le-mul_right three (omega arith)

-- what is printed of a bound in millionths is at most each value that the bound is at most
pub below_printed : (bound : ℕ) (q : Fraction) → whole bound ≤ℚ q *ℚ whole (2 ^ 48) → text_value 6 (millionths_down 48 bound) ≤ℚ q
unfolding whole ◌*ℚ◌ ◌/ℚ◌ scaled
below_printed bound q h = record { cross = (let c = h.cross in let l = printed_step bound q.num q.den (omega (arith, c)) in omega (arith, l)) }

-- for any score, whatever is held
pub planned_true : (ends : ScoreEnds) (value : Value) (c : CaseRows) (held : List ℕ) (request : Request) (report : PlanReport) → IsAcceptedCase c → EnclosesValue ends value
    → (planned : IsPlanned ends c held request report) → IsTrueReport ends value c held request planned.plan report
planned_true ends value c held request report accepted encloses h = subst (IsTrueReport ends value c held request h.plan) (sym h.is) told
  where
    told : IsTrueReport ends value c held request h.plan (report_of ends c request h.plan)
    told =
        let t = plan_true ends value c held accepted encloses request.budget h.plan h.is_plan in
        let s = h.plan.stocks in
        let e = can c h.plan.stocks accepted t.allocation.allocation in
        record {
          budget_is = refl;
          on_hand_is = refl;
          allocation = t.allocation;
          cost_is = t.cost_is;
          fits = t.fits;
          shows = with_cost c (stock_list c s) (figures_of 48 c (stock_list c s)) (cost c s) refl (figures_shown 48 c (stock_list c s) refl e (evaluated_as 48 c (stock_list c s) e));
          none_less = t.none_less;
          printed = λ n deep u a f. below_printed h.plan.numbers.bound (aim value c u n) (t.none_less n deep u a f);
          no_price = t.no_price;
          no_claims = t.no_claims;
          upper = t.gap ∙ t.upper_is;
          no_more = subst (HasNoMore value c s) (sym t.gap) t.no_more;
          loss_is = refl;
          encloses = aim_enclosed ends value c s encloses (evaluable 48 c (stock_list c s) e) accepted.valid;
          price_is = refl;
          hull_is = refl;
          critical_is = refl;
          small_gap = t.small_gap;
        }

-- of weighted backorders, where nothing is held
pub plain_true : (c : CaseRows) (held : List ℕ) (request : Request) (report : PlanReport) → IsAcceptedCase c → IsNothing held
    → (planned : IsPlanned plain_ends c held request report) → IsTruePlanReport c request.budget planned.plan.stocks report
plain_true c held request report accepted nothing h = subst (IsTruePlanReport c request.budget h.plan.stocks) (sym h.is) told
  where
    is_plan : IsCasePlan plain_ends c [] request.budget h.plan
    is_plan = from_nothing c held nothing plain_ends request.budget h.plan h.is_plan

    -- in the plain words
    plain_fewer : IsPlainPlan c request.budget h.plan → (n : ℕ) → 1024 ≤ n → (s : List ℕ) → IsAllocation c s → cost c s ≤ request.budget → whole h.plan.numbers.bound ≤ℚ case_total c s n *ℚ whole (2 ^ 48)
    plain_fewer k n deep s a f =
        let words = plain_words c s in
        subst (λ z. whole h.plan.numbers.bound ≤ℚ z *ℚ whole (2 ^ 48)) (words.total_is n) (k.fewer n deep s (words.allocation.1 a) (subst (λ z. z ≤ request.budget) (sym words.cost_is) f))

    told : IsTruePlanReport c request.budget h.plan.stocks (report_of plain_ends c request h.plan)
    told =
        let k = plain_plan c request.budget h.plan accepted is_plan in
        let e = can c h.plan.stocks accepted k.allocation in
        let t = plan_true plain_ends weighted_backorders c [] accepted plain_encloses request.budget h.plan is_plan in
        record {
          budget_is = refl;
          allocation = k.allocation;
          fits = k.fits;
          shows = with_cost c (stock_list c h.plan.stocks) (figures_of 48 c (stock_list c h.plan.stocks)) h.plan.numbers.cost k.cost_is
              (figures_shown 48 c (stock_list c h.plan.stocks) refl e (evaluated_as 48 c (stock_list c h.plan.stocks) e));
          fewer = k.fewer;
          printed = λ n deep s a f. below_printed h.plan.numbers.bound (case_total c s n) (plain_fewer k n deep s a f);
          no_price = k.no_price;
          gap = k.gap ∙ t.upper_is ∙ sym (upper_is_total c h.plan.stocks);
        }

-- a case has one report of its plan
pub planned_one : (ends : ScoreEnds) (c : CaseRows) (held : List ℕ) (request : Request) (one other : PlanReport) → IsCase c
    → IsPlanned ends c held request one → IsPlanned ends c held request other → one ≡ other
planned_one ends c held request one other valid h k = h.is ∙ ap (report_of ends c request) (one_case_plan ends c held request.budget h.plan k.plan valid h.is_plan k.is_plan) ∙ sym k.is

-- ---- the room of a report

asked_fits : (asked : Bool) (x : Ends) → x.hi ≤ 2 ^ 85 → IfSome (if_asked asked x) IntervalFits
asked_fits true x h = omega (arith, h)
asked_fits false x h = tt

-- the numbers of a plan's report have room in its text
pub report_fits : (ends : ScoreEnds) (value : Value) (c : CaseRows) (held : List ℕ) (request : Request) (report : PlanReport) → IsAcceptedCase c → EnclosesValue ends value → LeavesRoom ends
    → IsPlanned ends c held request report → FitsPlan report
report_fits ends value c held request report accepted encloses room h = subst FitsPlan (sym h.is) fits
  where
    fits : FitsPlan (report_of ends c request h.plan)
    fits =
        let s = h.plan.stocks in
        let t = plan_true ends value c held accepted encloses request.budget h.plan h.is_plan in
        let f = plan_fits ends value c held request.budget h.plan accepted encloses room h.is_plan in
        let e = can c h.plan.stocks accepted t.allocation.allocation in
        let print = figures_fit 48 c (stock_list c s) refl e (evaluated_as 48 c (stock_list c s) e) in
        let a = f.bound in let b = f.gap in let d = f.rounding in let p = f.price in
        record {
          figures = record { items = print.items; bases = print.bases; fleet = print.fleet; total = print.total };
          loss = asked_fits request.loss (aim_ends ends c s) (subst (λ n. n ≤ 2 ^ 85) t.upper_is f.upper);
          bound = omega (arith, a);
          gap = omega (arith, b);
          rounding = omega (arith, d);
          price = record { p = omega (arith, p); money = f.money; most_money = f.most_money };
        }
