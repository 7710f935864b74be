-- A plan of the demonstration case is accepted, and its summary is what is asked for.
use Rattle.std.proofs.Common.{◌≡◌, ◌∙◌, ap, arith, refl, subst, sym, ℕ, ◌≤◌, length, None, IfOk, Result, Ok, Err}
use Rattle.std.specs.Result.{IsOk, result_and}
use Rattle.spares_input.specs.Cases.{CaseRows, IsCase}
use Rattle.spares_input.specs.Stocks.{AreStocksOf, StockList, nothing_held}
use Rattle.case_figures.specs.Figures.{case_total_of}
use Rattle.case_maker.specs.Demonstration.{made}
use Rattle.case_maker.proofs.Public.{made_few, made_lines, made_valid, made_drawn}
use Rattle.case_plan.specs.Report.{IsOutcome, IsPlanned, plain_request}
use Rattle.case_plan.specs.declared.outcome.Outcome.{Outcome}
use Rattle.case_plan.proofs.Public.{report_fits}
use Rattle.certified_plan.specs.Certificates.{certificate_of}
use Rattle.certified_plan.specs.Inputs.{AreTerms, IsPlanOn}
use Rattle.certified_plan.proofs.Public.{accepted, scores_enclose, scores_leave_room, text_short}
use Rattle.demand_rates.specs.Limits.{rate_fault_of}
use Rattle.demo_accepts.proofs.Public.{all_few, work_few, zeros_hold}
use Rattle.demo_accepts.specs.Demonstrations.{IsDemonstrated, budget_of, demo_terms}
use Rattle.fleet_plan.specs.Plans.{IsCasePlan}
use Rattle.gap_rules.specs.Refusals.{reject_of}
use Rattle.held_work.specs.Work.{held_work_of}
use Rattle.held_work.proofs.Public.{all_work}
use Rattle.plan_report.specs.Fits.{FitsPlan, FitsSummary}
use Rattle.plan_report.specs.declared.summary.Summary.{Summary}
use Rattle.price_certificate.specs.Certificates.{cert_text, certificate_limit}
use Rattle.price_certificate.specs.declared.certificate.Certificate.{Certificate}
use Rattle.price_certificate.specs.declared.certificate.Objective.TheVariants.{Backorders}
use Rattle.plan_commands.specs.Summaries.{summary_in}
use Rattle.family_points.specs.Points.{plain_ends}

-- ---- the work

is_ok : {A E : Type 0} (r : Result A E) (n : A) → r ≡ Ok n → IsOk r
is_ok {A} {E} r n e = subst (λ (x : Result A E). IsOk x) (sym e) refl

-- the curves of a demonstration case take few enough tables
pub demo_work : (number lines : ℕ) (c : CaseRows) (held : StockList) → lines ≤ 80 → c ≡ made number lines → held ≡ nothing_held c
    → IsOk (held_work_of c held.list)
demo_work number lines c held few is none =
    let valid = made_valid number lines few in
    let all = all_few (made number lines) valid (made_drawn number lines) (made_few number lines few) lines (made_lines number lines) in
    subst (λ (s : StockList). IsOk (held_work_of c s.list)) (sym none)
    (subst (λ (d : CaseRows). IsOk (held_work_of d (nothing_held d).list)) (sym is)
    (is_ok _ _ (all_work (made number lines) (nothing_held (made number lines)).list valid (zeros_hold (made number lines)) ∙ work_few (made number lines) lines few all)))

-- ---- the plan

-- the terms of the demonstration's plan are those of a certificate
pub are_terms : (lines : ℕ) → lines ≤ 80 → AreTerms (demo_terms (budget_of lines))
are_terms lines few = record { budget = omega (arith, few); fewest = omega arith; most = omega arith; first = λ e. refl }

module _ (c : CaseRows) (held : StockList) (budget : ℕ) (terms : AreTerms (demo_terms budget)) (valid : IsCase c) (no_fault : rate_fault_of c ≡ None) (is_held : AreStocksOf c held)
    (o : Outcome) (h : IsOutcome plain_ends c held.list (plain_request budget) o) where
  -- the outcome is that of a plan on the demonstration's terms
  pub on_plan : IsPlanOn c held (demo_terms budget) o
  on_plan = record {
    accepted = record { valid = valid; no_fault = no_fault };
    are_terms = terms;
    is_held = is_held;
    plan = h.plan;
    is_plan = h.is_plan;
    request = plain_request budget;
    same_budget = refl;
    is = h.is;
  }

  report : IsPlanned plain_ends c held.list (plain_request budget) o.report
  report = record { plan = h.plan; is_plan = h.is_plan; is = ap (λ (z : Outcome). z.report) h.is }

  pub plan_prints : FitsPlan o.report
  plan_prints =
      report_fits plain_ends _ c held.list (plain_request budget) o.report (record { valid = valid; no_fault = no_fault })
      (scores_enclose Backorders) (scores_leave_room Backorders) report

  -- the numbers of the summary fit
  pub sums_fit : (number lines parts : ℕ) → FitsSummary (summary_in number lines parts o)
  sums_fit number lines parts =
      let p = plan_prints in
      record { total = p.figures.total; bound = p.bound; gap = p.gap }

  -- the summary of the outcome is the demonstration's
  pub is_demonstrated : (number lines parts : ℕ) → c ≡ made number lines → held ≡ nothing_held c → budget ≡ budget_of lines → parts ≡ length c.parts
      → IsDemonstrated number lines (summary_in number lines parts o)
  is_demonstrated number lines parts is none money count =
      let told : ℕ → CaseRows → Summary = λ b d. record {
        number = number;
        lines = lines;
        parts = length d.parts;
        budget = b;
        cost = h.plan.numbers.cost;
        total = case_total_of 48 d h.plan.stocks;
        bound = h.plan.numbers.bound;
        gap = h.plan.numbers.gap;
      } in
      let here : summary_in number lines (length c.parts) o ≡ told budget c = rw h.is refl in
      record {
        plan = h.plan;
        is_plan = subst (λ (b : ℕ). IsCasePlan plain_ends (made number lines) (nothing_held (made number lines)).list b h.plan) money
            (subst (λ (d : CaseRows). IsCasePlan plain_ends d (nothing_held d).list budget h.plan) is
            (subst (λ (s : StockList). IsCasePlan plain_ends c s.list budget h.plan) none h.is_plan));
        is = ap (λ n. summary_in number lines n o) count ∙ here ∙ ap (told budget) is ∙ ap (λ (b : ℕ). told b (made number lines)) money;
      }

-- ---- its certificate

module _ (c : CaseRows) (held : StockList) (budget : ℕ) (o : Outcome) (on : IsPlanOn c held (demo_terms budget) o) (cert : Certificate)
    (is : cert ≡ certificate_of c held (demo_terms budget) o) where
  -- the objective of the certificate is the backorders
  pub aims : cert.objective ≡ Backorders
  aims = rw is refl

  -- the text of the demonstration's certificate is no longer than what is read
  pub is_short : length (cert_text cert) ≤ certificate_limit
  is_short = subst (λ (x : Certificate). length (cert_text x) ≤ certificate_limit) (sym is) (text_short c held (demo_terms budget) o on)

  -- the demonstration's certificate is accepted
  pub is_accepted : held ≡ nothing_held c → IsOk (held_work_of c held.list) → reject_of plain_ends cert (nothing_held cert.case) ≡ None
  is_accepted none work =
      subst (λ (x : Certificate). reject_of plain_ends x (nothing_held x.case) ≡ None) (sym is)
      (subst (λ (s : StockList). reject_of plain_ends (certificate_of c held (demo_terms budget) o) s ≡ None) none
      (accepted c held (demo_terms budget) o on work))

-- what holds of a value holds of it after a call that may find no memory
pub after_call : {A E X : Type 0} (P : X → Type 0) (x : X) (r : Result A E) → P x → IfOk (result_and r (Ok x)) P
after_call P x (Ok a) h = h
after_call P x (Err e) h = tt
