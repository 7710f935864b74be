-- How a session follows the lines of an edits file.
use Rattle.std.proofs.Common.{◌≡◌, ℕ, suc, ◌+◌, ◌<◌, ◌≤◌, Bool, true, false, nat_le, List, [], ◌∷◌, ◌++◌, length, Option, Some, Result, Ok, Err, if◌then◌else◌, refl, sym, ap, ◌∙◌, subst, arith}
use Rattle.std.specs.List.{AllZip}
use Rattle.std.proofs.lemmas.Bool.Decides.{nat_tests}
use Rattle.std.proofs.lemmas.Slice.Zip.{AllZip-long}
use Rattle.list_laws.proofs.Public.{zip_push}
use Rattle.answers.specs.Steps.{◌>>=◌}
use Rattle.answers.specs.declared.stop.Stop.{Stop}
use Rattle.answers.specs.declared.stop.Stop.TheVariants as stop
use Rattle.spares_input.specs.Cases.{CaseRows}
use Rattle.demand_rates.specs.Limits.{rate_fault_of}
use Rattle.demand_rates.specs.declared.fault.RateFault.{RateFault}
use Rattle.plan_report.specs.declared.plan.PlanReport.{PlanReport}
use Rattle.case_edits.specs.declared.fault.EditFault.{EditFault}
use Rattle.case_edits.specs.declared.fault.EditFault.TheVariants as fault
use Rattle.session_report.specs.declared.report.SessionReport.{SessionReport}
use Rattle.case_edits.specs.Edits.{PlanDue}
use Rattle.session_plans.specs.Sessions.{due, started, IsLater, SessionRows}
use Rattle.session_report.specs.Reports.{IsReportOf}
use Rattle.case_edits.specs.Lines.{edit_lines}
use Rattle.case_edits.specs.Edits.{due_at, most_lines, most_plans, planned, session_from, session_of, Standing, taken}
use Rattle.session_plans.specs.Answers.{AnswersEdits}
use Rattle.session_plans.specs.Following.{standing, Follows, HasFollowed}
use Rattle.case_edits.proofs.Public.{no_lines}

-- ---- a plan

planned_step : (b : Bool) (n : ℕ) (at : Standing) (broken : Option RateFault) → nat_le most_plans (length at.due) ≡ b
    → planned n at broken ≡ (if b then Err (fault.TooManyPlans n) else due_at n at broken)
planned_step b n at broken h = rw h refl

-- a plan asked for after 64 others is the fault of too many plans
pub too_many : (n : ℕ) (s : SessionRows) (ds : List PlanDue) (plans : List PlanReport) (broken : Option RateFault) → AllZip IsReportOf ds plans → 64 ≤ length plans
    → planned n (standing s ds) broken ≡ Err (fault.TooManyPlans n)
too_many n s ds plans broken told many =
    let long = AllZip-long IsReportOf ds plans told in
    let at_most : most_plans ≤ length ds = omega (arith, long, many) in
    planned_step true n (standing s ds) broken (grind (arith, nat_tests, at_most))

module _ (n : ℕ) (s : SessionRows) (ds : List PlanDue) (plans : List PlanReport) (told : AllZip IsReportOf ds plans) (few : length plans < 64) where
  pub is_due : (broken : Option RateFault) → planned n (standing s ds) broken ≡ due_at n (standing s ds) broken
  is_due broken =
      let long = AllZip-long IsReportOf ds plans told in
      let short : length ds < most_plans = omega (arith, long, few) in
      planned_step false n (standing s ds) broken (grind (arith, nat_tests, short))

  -- where the rates break a rule, the plan's line is refused by that rule
  pub plan_refused : (f : RateFault) → rate_fault_of s.case ≡ Some f → planned n (standing s ds) (rate_fault_of s.case) ≡ Err (fault.Rate n f)
  plan_refused f h = is_due (rate_fault_of s.case) ∙ ap (due_at n (standing s ds)) h

  -- a plan's line leads on to the later session, with its report behind the others
  pub plan_followed : (new : SessionRows) (report : PlanReport) (all : List PlanReport) → IsReportOf (due s) report → IsLater s new → all ≡ plans ++ report ∷ []
      → HasFollowed (planned n (standing s ds) (rate_fault_of s.case)) new all
  plan_followed new report all is later e = record {
    due = ds ++ due s ∷ [];
    is = is_due (rate_fault_of s.case) ∙ ap (due_at n (standing s ds)) is.accepted.no_fault ∙ rw (later.case_is, later.budget_is) refl;
    told = subst (λ (z : List PlanReport). AllZip IsReportOf (ds ++ due s ∷ []) z) (sym e) (zip_push IsReportOf ds plans (due s) report told is);
  }

-- ---- all lines

-- the lines before line n + 1 led to this session and these plans
pub record IsOnItsWay (c : CaseRows) (bytes : List ℕ) (s : SessionRows) (plans : List PlanReport) (n : ℕ) (rest : List ℕ) : Type 0 where
  pub ds : List PlanDue
  pub is : session_of c bytes ≡ session_from (suc n) (edit_lines rest) (standing s ds)
  pub told : AllZip IsReportOf ds plans
  pub few : n ≤ most_lines

module _ (c : CaseRows) (bytes : List ℕ) (s : SessionRows) (plans : List PlanReport) (n : ℕ) (rest text left : List ℕ) (h : IsOnItsWay c bytes s plans n rest)
    (lines : edit_lines rest ≡ text ∷ edit_lines left) where
  at_line : session_of c bytes ≡ (taken (suc n) (standing s h.ds) text >>= session_from (suc (suc n)) (edit_lines left))
  at_line = h.is ∙ ap (λ ls. session_from (suc n) ls (standing s h.ds)) lines

  -- what a line leads to is what all lines up to it lead to
  pub line_followed : (m : ℕ) (new : SessionRows) (all : List PlanReport) → m ≡ n + 1 → m ≤ most_lines → HasFollowed (taken m (standing s h.ds) text) new all → IsOnItsWay c bytes new all m left
  line_followed m new all e few f = record {
    ds = f.due;
    is =
        let now : taken (suc n) (standing s h.ds) text ≡ Ok (standing new f.due) = ap (λ k. taken k (standing s h.ds) text) (omega (arith, e)) ∙ f.is in
        at_line ∙ ap (λ r. r >>= session_from (suc (suc n)) (edit_lines left)) now ∙ ap (λ k. session_from k (edit_lines left) (standing new f.due)) (omega (arith, e));
    told = f.told;
    few = few;
  }

  -- the fault of the line is that of the whole file
  pub line_refused : (m : ℕ) (f : EditFault) → m ≡ n + 1 → taken m (standing s h.ds) text ≡ Err f → session_of c bytes ≡ Err f
  line_refused m f e k =
      let now : taken (suc n) (standing s h.ds) text ≡ Err f = ap (λ i. taken i (standing s h.ds) text) (omega (arith, e)) ∙ k in
      at_line ∙ ap (λ r. r >>= session_from (suc (suc n)) (edit_lines left)) now

-- before the first line the session is as started, with no plans
pub begun : (c : CaseRows) (bytes : List ℕ) (s : SessionRows) (plans : List PlanReport) → s ≡ started c 0 → plans ≡ [] → IsOnItsWay c bytes s plans 0 bytes
begun c bytes s plans e none = rw (e, none) (record { ds = []; is = refl; told = tt; few = omega arith })

-- a fault where the lines stand is the fault of the whole file
pub refused_by : (answer : Result (List PlanDue) EditFault) (at : Result Standing EditFault) (s : SessionRows) (plans : List PlanReport) (why : Stop EditFault)
    → ((f : EditFault) → at ≡ Err f → answer ≡ Err f) → Follows {U = Unit {0}} at s plans (Err why) → AnswersEdits answer (Err why)
refused_by answer at s plans stop.NoMemory h k = tt
refused_by answer at s plans (stop.Fault f) h k = h f k

answered : (answer : Result (List PlanDue) EditFault) (ds : List PlanDue) (report : SessionReport) → answer ≡ Ok ds → AllZip IsReportOf ds report.plans
    → AnswersEdits answer (Ok report)
answered answer ds report e told = subst (λ (a : Result (List PlanDue) EditFault). AnswersEdits a (Ok report)) (sym e) told

-- behind the last line the plans so far are the answer to the edits
pub ended : (c : CaseRows) (bytes : List ℕ) (s : SessionRows) (plans : List PlanReport) (n : ℕ) (rest : List ℕ) (report : SessionReport) → IsOnItsWay c bytes s plans n rest
    → length rest ≡ 0 → report.plans ≡ plans → AnswersEdits (session_of c bytes) (Ok report)
ended c bytes s plans n rest report h none e =
    answered (session_of c bytes) h.ds report (h.is ∙ ap (λ ls. session_from (suc n) ls (standing s h.ds)) (no_lines rest none))
    (subst (λ (z : List PlanReport). AllZip IsReportOf h.ds z) (sym e) h.told)
