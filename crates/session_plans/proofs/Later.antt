-- Sessions that came later, with the same case and budget.
use Rattle.std.proofs.Common.{◌≡◌, ℕ, ap₂, ◌∙◌}
use Rattle.spares_input.specs.Cases.{CaseRows}
use Rattle.case_edits.specs.Edits.{PlanDue}
use Rattle.session_plans.specs.Sessions.{due, IsLater, SessionRows}

-- the same plan is due
pub due_same : (before after : SessionRows) → IsLater before after → due after ≡ due before
due_same before after h = ap₂ (λ (c : CaseRows) (n : ℕ). let d : PlanDue = record { case = c; budget = n } in d) h.case_is h.budget_is

-- a session that came later than a later one
pub later_twice : (before between after : SessionRows) → IsLater before between → IsLater between after → IsLater before after
later_twice before between after h k = record {
  case_is = k.case_is ∙ h.case_is;
  budget_is = k.budget_is ∙ h.budget_is;
  marks = record { count = k.marks.count ∙ h.marks.count; stay = λ i on. k.marks.stay i (h.marks.stay i on) };
}
