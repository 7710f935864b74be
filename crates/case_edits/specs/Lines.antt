-- The lines of an edits file, and the edit of each.
use Rattle.std.specs.Prelude.{⊤, ◌≤◌, ℕ, nat_le, List, length, map, take, drop, Option, Some, None, Result, Ok, Err, bytes_eq, codes, if◌then◌else◌, option_map}
use Rattle.std.specs.Option.{option_and_then, option_map_or}
use Rattle.std.specs.Str.Lines.{strip_carriage_return}
use Rattle.exact_ratio.specs.Decimal.{decimal_of}
use Rattle.exact_ratio.specs.declared.decimal.Decimal.{Decimal}
use Rattle.exact_ratio.specs.declared.decimal.NumberFault.{NumberFault}
use Rattle.line_text.specs.Files.{lines_of, unended}
use Rattle.spares_input.specs.First.{or_else}
use Rattle.spares_input.specs.Frames.{FrameRows}
use Rattle.spares_input.specs.Cases.{IsRateOf}
use Rattle.spares_input.specs.Money.{most_budget}
use Rattle.csv_tables.specs.Rates.{rate_line}
use Rattle.case_edits.specs.declared.lines.Edit.{Edit}
use Rattle.case_edits.specs.declared.lines.Edit.TheVariants as edit

-- a line without its line feed and one carriage return before it; the last line may have no line feed
abbrev pub body_of : List ℕ → List ℕ
body_of line = option_map_or strip_carriage_return (unended line) line

-- the lines of an edits file, without their ends
abbrev pub edit_lines : List ℕ → List (List ℕ)
edit_lines bytes = map body_of (lines_of bytes)

-- the rest of a line after a word at its start
abbrev pub after : List ℕ → List ℕ → Option (List ℕ)
after word line = if bytes_eq (take (length word) line) word then Some (drop (length word) line) else None

-- a number in the range of a budget
abbrev pub as_budget : Result Decimal NumberFault → Option ℕ
as_budget (Ok d) = if nat_le d.units most_budget then Some d.units else None
as_budget (Err f) = None

-- the budget that a text without decimals spells
abbrev pub budget_in : List ℕ → Option ℕ
budget_in text = as_budget (decimal_of text 0)

-- The edit that a non-empty line spells for this frame. No line has two of the three forms.
abbrev pub edit_of : FrameRows → List ℕ → Option Edit
edit_of f line =
    if bytes_eq line (codes "plan") then Some edit.Plan
    else or_else (option_map (λ n. edit.Budget n) (option_and_then budget_in (after (codes "budget,") line)))
    (option_map (λ r. edit.Rate r) (option_and_then (rate_line f) (after (codes "rate,") line)))

-- an edit has a number in the range of a budget, or a row of this frame
abbrev pub IsEditOf : FrameRows → Edit → Type 0
IsEditOf f (edit.Budget n) = n ≤ most_budget
IsEditOf f edit.Plan = ⊤
IsEditOf f (edit.Rate r) = IsRateOf f r
