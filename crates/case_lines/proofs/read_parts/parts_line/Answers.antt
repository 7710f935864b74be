use Rattle.std.proofs.lemmas.Result.{err_from_is_err_and}
use Rattle.line_text.specs.Files.{line}
use Rattle.line_text.specs.Texts.{count_fields}
use Rattle.case_lines.specs.Grammar.{weights_fields}
use Rattle.case_lines.proofs.Choices.{first_there, second_there, neither}
use Rattle.case_lines.proofs.read_parts.parts_line.Goals as goal
use lib.Chars.{codes}

pub returns-in-Ok : goal.returns-in-Ok
returns-in-Ok c = first_there (line (count_fields (codes "parts") 0 2000)) (line weights_fields) c.args.lines.now c.count_line.new.lines c.in-Ok.count c.in-Ok.ensures

pub returns-in_ok-count-in-Err : goal.returns-in_ok-count-in-Err
returns-in_ok-count-in-Err c = second_there (line (count_fields (codes "parts") 0 2000)) (line weights_fields) c.args.lines.now c.count_line.new.lines c.weights_line.new.lines c.in_ok-count-in-Err.count c.in-Err.ensures c.in_ok-count-in-Err.ensures

pub returns-in_err-count-in-Err : goal.returns-in_err-count-in-Err
returns-in_err-count-in-Err c =
    let p = err_from_is_err_and c.from_residual.result c.from_residual.ensures.1 in
    rw p.1 (neither (line (count_fields (codes "parts") 0 2000)) (line weights_fields) c.args.lines.now c.count_line.new.lines c.weights_line.new.lines c.in-Err.ensures c.in_err-count-in-Err.ensures)
