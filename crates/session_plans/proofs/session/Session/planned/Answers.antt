use Rattle.std.proofs.Common.{◌≡◌, ◌++◌, ℕ, ap, drop, length, List, Option, refl, replicate, sym, subst, take, true, ◌∙◌, All, IfOk, IsSome}
use Rattle.std.proofs.lemmas.Result.{err_from_is_err_and, IfOk-weaker}
use Rattle.spares_input.specs.Cases.{CaseRows}
use Rattle.fleet_model.specs.Rows.{line_units}
use Rattle.demand_rates.specs.Rates.{AreRatesOf}
use Rattle.hull.specs.declared.point.Point.{Point}
use Rattle.session_plans.specs.Sessions.{due, marks_of, AreEvaluated, AreKept, AreLater, IsLater, IsSession, SessionRows}
use Rattle.session_plans.specs.declared.evaluated.Evaluated.{Evaluated}
use Rattle.held_plan.specs.Kept.{KeptRows}
use Rattle.session_report.specs.Reports.{IsReportOf}
use Rattle.session_plans.proofs.Places.{all_kept, written}
use Rattle.session_plans.proofs.session.Session.planned.Goals as goal

-- ---- a session whose curves were written, and again for a while

module _ (c : CaseRows) (budget : ℕ) (parts : KeptRows) (x : Evaluated) (n : ℕ) (held lent kept : List (Option (List Point))) (many : n ≡ length held)
    (are_lent : lent ≡ held) (was : IsSession c budget held parts x) (is : AreKept c kept) (since : AreLater (marks_of lent) (marks_of kept)) where
  abbrev first : List (Option (List Point))
  first = take n (kept ++ drop (length kept) held)

  there : first ≡ kept
  there = written n kept held (is.count ∙ sym was.are_kept.count ∙ sym many) (sym many)

  session_by : (curves : List (Option (List Point))) (y : Evaluated) → curves ≡ kept → AreEvaluated c y → IsSession c budget curves parts y
  session_by curves y e evaluated =
      rw e (record { valid = was.valid; work = was.work; budget_most = was.budget_most; are_kept = is; are_parts = was.are_parts; are_evaluated = evaluated })

  later_by : (self : SessionRows) → record { case = c; budget = budget; marks = marks_of held } ≡ self → (curves : List (Option (List Point))) → curves ≡ kept
      → IsLater self (record { case = c; budget = budget; marks = marks_of curves })
  later_by self e curves are =
      subst (λ (s : SessionRows). IsLater s (record { case = c; budget = budget; marks = marks_of curves })) e
      (record {
        case_is = refl;
        budget_is = refl;
        marks = rw are (subst (λ (z : List (Option (List Point))). AreLater (marks_of z) (marks_of kept)) are_lent since);
      })

  module _ (again : List (Option (List Point))) where
    still : again ≡ first → again ≡ kept
    still e = e ∙ there

    back : (new : List (Option (List Point))) → again ≡ first → new ≡ again → take n (new ++ drop (length new) first) ≡ kept
    back new e same =
        let all : new ≡ kept = same ∙ e ∙ there in
        let long : length kept ≡ n = is.count ∙ sym was.are_kept.count ∙ sym many in
        written n new first (ap (λ (z : List (Option (List Point))). length z) all ∙ long) (ap (λ (z : List (Option (List Point))). length z) there ∙ long) ∙ all

pub report_near-requires-clause-all : goal.report_near-requires-clause-all
report_near-requires-clause-all c =
    subst (λ (z : List (Option (List Point))). All IsSome z) (sym (still c.self.inside.case c.self.inside.budget c.self.inside.parts c.self.inside.evaluated c.self.inside.curves.len c.self.inside.curves.items c.deref_mut.result.now c.keep_all.new.curves c.self.inside.curves.ok.0
    c.deref_mut.ensures.value c.self.invariant c.keep_all.ensures.kept c.keep_all.ensures.later
    c.deref_mut-2.result.now c.deref_mut-2.ensures.value))
    (all_kept c.keep_all.new.curves (length (line_units c.self.inside.case)) c.in_ok-keep_all.ensures.on)

pub report_near-requires-clause-curves : goal.report_near-requires-clause-curves
report_near-requires-clause-curves c =
    subst (λ (z : List (Option (List Point))). AreKept c.self.inside.case z) (sym (still c.self.inside.case c.self.inside.budget c.self.inside.parts c.self.inside.evaluated c.self.inside.curves.len c.self.inside.curves.items c.deref_mut.result.now c.keep_all.new.curves c.self.inside.curves.ok.0
    c.deref_mut.ensures.value c.self.invariant c.keep_all.ensures.kept c.keep_all.ensures.later
    c.deref_mut-2.result.now c.deref_mut-2.ensures.value))
    c.keep_all.ensures.kept

pub invariant_of-self-2 : goal.invariant_of-self-2
invariant_of-self-2 c =
    session_by c.self.inside.case c.self.inside.budget c.self.inside.parts c.self.inside.evaluated c.self.inside.curves.len c.self.inside.curves.items c.deref_mut.result.now c.keep_all.new.curves c.self.inside.curves.ok.0
    c.deref_mut.ensures.value c.self.invariant c.keep_all.ensures.kept c.keep_all.ensures.later
    _ c.report_near.new.evaluated (back c.self.inside.case c.self.inside.budget c.self.inside.parts c.self.inside.evaluated c.self.inside.curves.len c.self.inside.curves.items c.deref_mut.result.now c.keep_all.new.curves c.self.inside.curves.ok.0
    c.deref_mut.ensures.value c.self.invariant c.keep_all.ensures.kept c.keep_all.ensures.later
    c.deref_mut-2.result.now c.report_near.new.curves c.deref_mut-2.ensures.value c.report_near.ensures.curves) c.report_near.ensures.kept

pub returns-clause-report : goal.returns-clause-report
returns-clause-report c =
    subst (λ (s : SessionRows). IfOk c.report_near.result (IsReportOf (due s))) c.self.view_is c.report_near.ensures.report

pub returns-clause-later : goal.returns-clause-later
returns-clause-later c =
    later_by c.self.inside.case c.self.inside.budget c.self.inside.parts c.self.inside.evaluated c.self.inside.curves.len c.self.inside.curves.items c.deref_mut.result.now c.keep_all.new.curves c.self.inside.curves.ok.0
    c.deref_mut.ensures.value c.self.invariant c.keep_all.ensures.kept c.keep_all.ensures.later
    c.args.self.now c.self.view_is _ (back c.self.inside.case c.self.inside.budget c.self.inside.parts c.self.inside.evaluated c.self.inside.curves.len c.self.inside.curves.items c.deref_mut.result.now c.keep_all.new.curves c.self.inside.curves.ok.0
    c.deref_mut.ensures.value c.self.invariant c.keep_all.ensures.kept c.keep_all.ensures.later
    c.deref_mut-2.result.now c.report_near.new.curves c.deref_mut-2.ensures.value c.report_near.ensures.curves)

pub returns-clause-marks : goal.returns-clause-marks
returns-clause-marks c =
    IfOk-weaker c.report_near.result _ _ (λ _ _.
    ap (λ (z : List (Option (List Point))). marks_of z) (back c.self.inside.case c.self.inside.budget c.self.inside.parts c.self.inside.evaluated c.self.inside.curves.len c.self.inside.curves.items c.deref_mut.result.now c.keep_all.new.curves c.self.inside.curves.ok.0
    c.deref_mut.ensures.value c.self.invariant c.keep_all.ensures.kept c.keep_all.ensures.later
    c.deref_mut-2.result.now c.report_near.new.curves c.deref_mut-2.ensures.value c.report_near.ensures.curves)
    ∙ c.in_ok-keep_all.ensures.on ∙ ap (λ (s : SessionRows). replicate (length (line_units s.case)) true) c.self.view_is) c.report_near.ensures.report

-- ---- want of memory

pub invariant_of-self : goal.invariant_of-self
invariant_of-self c =
    session_by c.self.inside.case c.self.inside.budget c.self.inside.parts c.self.inside.evaluated c.self.inside.curves.len c.self.inside.curves.items c.deref_mut.result.now c.keep_all.new.curves c.self.inside.curves.ok.0
    c.deref_mut.ensures.value c.self.invariant c.keep_all.ensures.kept c.keep_all.ensures.later
    _ c.self.inside.evaluated (there c.self.inside.case c.self.inside.budget c.self.inside.parts c.self.inside.evaluated c.self.inside.curves.len c.self.inside.curves.items c.deref_mut.result.now c.keep_all.new.curves c.self.inside.curves.ok.0
    c.deref_mut.ensures.value c.self.invariant c.keep_all.ensures.kept c.keep_all.ensures.later) c.self.invariant.are_evaluated

pub returns-in_err-keep_all-clause-report : goal.returns-in_err-keep_all-clause-report
returns-in_err-keep_all-clause-report c = let p = err_from_is_err_and c.from_residual.result c.from_residual.ensures.1 in rw p.1 tt

pub returns-in_err-keep_all-clause-later : goal.returns-in_err-keep_all-clause-later
returns-in_err-keep_all-clause-later c =
    later_by c.self.inside.case c.self.inside.budget c.self.inside.parts c.self.inside.evaluated c.self.inside.curves.len c.self.inside.curves.items c.deref_mut.result.now c.keep_all.new.curves c.self.inside.curves.ok.0
    c.deref_mut.ensures.value c.self.invariant c.keep_all.ensures.kept c.keep_all.ensures.later
    c.args.self.now c.self.view_is _ (there c.self.inside.case c.self.inside.budget c.self.inside.parts c.self.inside.evaluated c.self.inside.curves.len c.self.inside.curves.items c.deref_mut.result.now c.keep_all.new.curves c.self.inside.curves.ok.0
    c.deref_mut.ensures.value c.self.invariant c.keep_all.ensures.kept c.keep_all.ensures.later)

pub returns-in_err-keep_all-clause-marks : goal.returns-in_err-keep_all-clause-marks
returns-in_err-keep_all-clause-marks c = let p = err_from_is_err_and c.from_residual.result c.from_residual.ensures.1 in rw p.1 tt

-- ---- what the calls ask for

pub keep_all-requires-clause-rates : goal.keep_all-requires-clause-rates
keep_all-requires-clause-rates c = subst (λ (s : SessionRows). AreRatesOf s.case c.args.rates.now) (sym c.self.view_is) c.requires

pub keep_all-requires-clause-work : goal.keep_all-requires-clause-work
keep_all-requires-clause-work c = c.self.invariant.work

pub keep_all-requires-clause-kept : goal.keep_all-requires-clause-kept
keep_all-requires-clause-kept c =
    subst (λ (z : List (Option (List Point))). AreKept c.self.inside.case z) (sym c.deref_mut.ensures.value) c.self.invariant.are_kept

pub report_near-requires-clause-rates : goal.report_near-requires-clause-rates
report_near-requires-clause-rates c = subst (λ (s : SessionRows). AreRatesOf s.case c.args.rates.now) (sym c.self.view_is) c.requires

pub report_near-requires-clause-budget : goal.report_near-requires-clause-budget
report_near-requires-clause-budget c = c.self.invariant.budget_most

pub report_near-requires-clause-kept : goal.report_near-requires-clause-kept
report_near-requires-clause-kept c = c.self.invariant.are_evaluated
