use Rattle.std.proofs.lemmas.Result.{err_from_is_err_and}
use Rattle.line_text.specs.Files.{line}
use Rattle.line_text.specs.Texts.{word}
use Rattle.case_lines.proofs.Public.{first_there, second_there, neither}
use Rattle.price_certificate.proofs.single_lines.leaf_line.Goals as goal
use lib.Chars.{codes}

pub returns-in-Ok : goal.returns-in-Ok
returns-in-Ok c = first_there (line (word (codes "cost"))) (line (word (codes "whole"))) c.args.lines.now c.word_line.new.lines tt c.in-Ok.ensures

pub returns-in_ok-word_line-in-Err : goal.returns-in_ok-word_line-in-Err
returns-in_ok-word_line-in-Err c = second_there (line (word (codes "cost"))) (line (word (codes "whole"))) c.args.lines.now c.word_line.new.lines c.word_line-in-Err.new.lines tt c.in-Err.ensures c.in_ok-word_line-in-Err.ensures

pub returns-in_err-word_line-in-Err : goal.returns-in_err-word_line-in-Err
returns-in_err-word_line-in-Err c =
    let p = err_from_is_err_and c.from_residual.result c.from_residual.ensures.1 in
    rw p.1 (neither (line (word (codes "cost"))) (line (word (codes "whole"))) c.args.lines.now c.word_line.new.lines c.word_line-in-Err.new.lines c.in-Err.ensures c.in_err-word_line-in-Err.ensures)
