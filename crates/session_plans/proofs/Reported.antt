-- The plan of the curves that a session keeps is that of its case.
use Rattle.std.proofs.Common.{◌≡◌, ℕ, zero, suc, ◌<◌, List, [], ◌∷◌, length, map, get_or, All, Option, Some, None, Err, sym, ap, ◌∙◌, subst, arith}
use Rattle.std.specs.List.{AllZip}
use Rattle.std.proofs.lemmas.List.{get_or-map, length-map}
use Rattle.answers.specs.Answers.{Gives}
use Rattle.answers.specs.declared.stop.Stop.{Stop}
use Rattle.answers.specs.declared.stop.Stop.TheVariants as stop
use Rattle.spares_input.specs.First.{unless}
use Rattle.spares_input.specs.Cases.{CaseRows}
use Rattle.fleet_model.specs.Rows.{line_units}
use Rattle.fleet_model.specs.Aims.{weighted_backorders}
use Rattle.demand_rates.specs.Limits.{rate_fault_of}
use Rattle.demand_rates.specs.RateLists.{RateList}
use Rattle.demand_rates.specs.Rates.{rates_of}
use Rattle.demand_rates.specs.declared.fault.RateFault.{RateFault}
use Rattle.hull.specs.declared.point.Point.{Point}
use Rattle.marginal_alloc.specs.Choice.{AreCurves}
use Rattle.fleet_plan.specs.Families.{case_points}
use Rattle.fleet_plan.specs.Laws.{IsAcceptedCase}
use Rattle.fleet_plan.proofs.Public.{plain_encloses, plain_room}
use Rattle.held_work.specs.Curves.{IsFamilyCurve}
use Rattle.held_work.proofs.Public.{all_points}
use Rattle.case_plan.specs.Report.{AreFamilyCurves, IsPlanOf, plain_request}
use Rattle.case_plan.specs.declared.outcome.Outcome.{Outcome}
use Rattle.case_plan.proofs.Public.{are_curves, are_family_curves, report_fits}
use Rattle.plan_report.specs.Fits.{FitsPlan}
use Rattle.plan_report.specs.declared.plan.PlanReport.{PlanReport}
use Rattle.case_edits.specs.Edits.{PlanDue}
use Rattle.session_plans.specs.Sessions.{AnswersPlan, AreKept}
use Rattle.session_report.specs.Reports.{IsReportOf}
use Rattle.session_plans.proofs.Keeping.{none_held}
use Rattle.session_plans.proofs.Places.{of_some}
use Rattle.family_points.specs.Points.{plain_ends}

zip_from : {X Y : Type 0} (R : X → Y → Type 0) (xs : List X) (ys : List Y) (d : X) (e : Y) → length ys ≡ length xs
    → ((k : ℕ) → k < length xs → R (get_or xs k d) (get_or ys k e)) → AllZip R xs ys
zip_from R [] [] d e n h = tt
zip_from R [] (y ∷ ys) d e n h = absurd (omega (arith, n))
zip_from R (x ∷ xs) [] d e n h = absurd (omega (arith, n))
zip_from R (x ∷ xs) (y ∷ ys) d e n h = (h 0 (omega arith), zip_from R xs ys d e (omega (arith, n)) (λ k b. h (suc k) (omega (arith, b))))

-- the report of a plan of curves of the case's points is that of the case under this budget
pub reported_by : (c : CaseRows) (curves : List (List Point)) (budget : ℕ) (outcome : Outcome) → IsAcceptedCase c → AreCurves (case_points plain_ends c []) curves
    → IsPlanOf c curves (plain_request budget) outcome → IsReportOf (record { case = c; budget = budget }) outcome.report
reported_by c curves budget outcome accepted are h = record {
  accepted = accepted;
  is_planned = λ held nothing.
      let of_case : AreCurves (case_points plain_ends c held) curves = subst (λ (points : List (List Point)). AreCurves points curves) (sym (all_points plain_ends c held nothing)) are in
      let is = h plain_ends held of_case in
      record { plan = is.plan; is_plan = is.is_plan; is = ap (λ (o : Outcome). o.report) is.is };
}

module _ (c : CaseRows) (kept : List (Option (List Point))) (curves : List (List Point)) (are : map Some curves ≡ kept) (h : AreKept c kept) where
  each_curve : AllZip (IsFamilyCurve plain_ends c []) (line_units c) curves
  each_curve =
      let some = (λ (v : List Point). Some v) in
      let long : length curves ≡ length (line_units c) = sym (length-map curves some) ∙ ap (λ (vs : List (Option (List Point))). length vs) are ∙ h.count in
      zip_from (IsFamilyCurve plain_ends c []) (line_units c) curves 0 [] long (λ k b.
      let is : get_or kept k None ≡ Some (get_or curves k []) =
      sym (ap (λ (vs : List (Option (List Point))). get_or vs k None) are) ∙ get_or-map some curves k [] None (omega (arith, b, long)) in
      of_some (get_or kept k None) (IsFamilyCurve plain_ends c [] (get_or (line_units c) k 0)) (get_or curves k []) is (h.each k))

  -- the kept curves are those of the families
  pub serve : AreFamilyCurves c curves
  serve = are_family_curves plain_ends c [] curves each_curve

  -- and these are curves of the case's points
  pub are_of_case : AreCurves (case_points plain_ends c []) curves
  are_of_case = are_curves plain_ends c [] curves each_curve

-- its text can be printed
pub report_printed : (d : PlanDue) (report : PlanReport) → IsReportOf d report → FitsPlan report
report_printed d report h =
    report_fits plain_ends weighted_backorders d.case [] (plain_request d.budget) report h.accepted plain_encloses plain_room (h.is_planned [] none_held)

printed_at : (due : List PlanDue) (plans : List PlanReport) → AllZip IsReportOf due plans → (i : ℕ) (e : PlanReport) → i < length plans → FitsPlan (get_or plans i e)
printed_at [] [] a i e b = absurd (omega (arith, b))
printed_at [] (p ∷ plans) a i e b = absurd a
printed_at (d ∷ due) [] a i e b = absurd a
printed_at (d ∷ due) (p ∷ plans) a zero e b = report_printed d p a.0
printed_at (d ∷ due) (p ∷ plans) a (suc i) e b = printed_at due plans a.1 i e (omega (arith, b))

-- the reports of plans that were due can all be printed
pub all_printed : (due : List PlanDue) (plans : List PlanReport) → AllZip IsReportOf due plans → All FitsPlan plans
all_printed due plans a i e b = printed_at due plans a i e b

-- ---- refused rates

refused : {A : Type 0} (o : Option RateFault) (x : A) (f : RateFault) → unless o x ≡ Err f → o ≡ Some f
refused None x f h = cc
refused (Some g) x f h = cc

-- rates that break a rule refuse the plan that is due
pub unrated : (d : PlanDue) (e : Stop RateFault) → Gives {T = RateList} (rates_of d.case) (Err e) → AnswersPlan d (Err e)
unrated d stop.NoMemory h = tt
unrated d (stop.Fault f) h = refused (rate_fault_of d.case) _ f h
