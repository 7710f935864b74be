-- The plans that the lines of an edits file ask for: a case and a budget for each, or the first fault.
use Rattle.std.specs.Prelude.{◌==◌, ℕ, suc, nat_le, nat_lt, List, [], ◌∷◌, ◌++◌, length, Option, Some, None, Result, Ok, Err, if◌then◌else◌}
use Rattle.answers.specs.Steps.{◌>>=◌}
use Rattle.spares_input.specs.Cases.{CaseRows, frame_rows}
use Rattle.spares_input.specs.Edits.{with_rate}
use Rattle.demand_rates.specs.Limits.{rate_fault_of}
use Rattle.demand_rates.specs.declared.fault.RateFault.{RateFault}
use Rattle.case_edits.specs.declared.fault.EditFault.{EditFault}
use Rattle.case_edits.specs.declared.fault.EditFault.TheVariants as fault
use Rattle.case_edits.specs.declared.lines.Edit.{Edit}
use Rattle.case_edits.specs.declared.lines.Edit.TheVariants as edit
use Rattle.case_edits.specs.Lines.{edit_lines, edit_of}

-- a plan that is due: a case under a budget
pub record PlanDue : Type 0 where
  pub case : CaseRows
  pub budget : ℕ

-- the state after some lines: the current case and budget, and the plans due so far
pub record Standing : Type 0 where
  pub case : CaseRows
  pub budget : ℕ
  pub due : List PlanDue

-- the most lines that an edits file may have
abbrev pub most_lines : ℕ
most_lines = 4000

-- the most plans that it may ask for
abbrev pub most_plans : ℕ
most_plans = 64

-- the state after a plan at line n, whose rates break this rule or none
abbrev pub due_at : ℕ → Standing → Option RateFault → Result Standing EditFault
due_at n at (Some f) = Err (fault.Rate n f)
due_at n at None = Ok (record at { due = at.due ++ record { case = at.case; budget = at.budget } ∷ [] })

-- the state after a plan at line n, which is refused if the plans due are already the most
abbrev pub planned : ℕ → Standing → Option RateFault → Result Standing EditFault
planned n at broken = if nat_le most_plans (length at.due) then Err (fault.TooManyPlans n) else due_at n at broken

-- the state after an edit at line n
abbrev pub carried : ℕ → Standing → Edit → Result Standing EditFault
carried n at (edit.Budget budget) = Ok (record at { budget = budget })
carried n at (edit.Rate row) = Ok (record at { case = with_rate at.case row })
carried n at edit.Plan = planned n at (rate_fault_of at.case)

-- the state after line n with this edit, or with none of the three forms
abbrev pub edited : ℕ → Standing → Option Edit → Result Standing EditFault
edited n at (Some said) = carried n at said
edited n at None = Err (fault.BadLine n)

-- the state after line n, empty or not
abbrev pub taken : ℕ → Standing → List ℕ → Result Standing EditFault
taken n at line =
    if nat_lt most_lines n then Err fault.TooManyLines
    else if length line == 0 then Ok at
    else edited n at (edit_of (frame_rows at.case) line)

-- the plans due after the lines from line n on
abbrev pub session_from : ℕ → List (List ℕ) → Standing → Result (List PlanDue) EditFault
session_from n [] at = Ok at.due
session_from n (line ∷ lines) at = taken n at line >>= session_from (suc n) lines

-- The plans that an edits file asks for, each of the case and the budget at its line, or the file's first fault. The
-- budget starts at 0.
abbrev pub session_of : CaseRows → List ℕ → Result (List PlanDue) EditFault
session_of c bytes = session_from 1 (edit_lines bytes) (record { case = c; budget = 0; due = [] })
