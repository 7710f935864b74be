use Rattle.std.proofs.Common.{◌++◌, List, ℕ, ap, ◌∙◌}
use Rattle.line_text.specs.Files.{file_text, file_answer}
use Rattle.line_text.proofs.Public.{answer_again}
use Rattle.case_lines.specs.Grammar.{case_format}
use Rattle.case_lines.proofs.Shape.{case_is_exact}
use Rattle.case_lines.proofs.Valid.{case_fits}
use Rattle.case_lines.proofs.whole.write_case.Goals as goal

pub returns-clause-again : goal.returns-clause-again
returns-clause-again c =
    let rows = c.args.case.now in
    let text = c.in_ok-put_case.ensures ∙ ap (λ (z : List ℕ). z ++ file_text case_format rows) c.in_ok-out.ensures.items in
    ap (file_answer case_format) text ∙ answer_again case_format case_is_exact rows (case_fits rows c.part_count.ensures.valid)
