use Rattle.std.proofs.Common.{◌≡◌, Err, refl}
use Rattle.std.proofs.lemmas.Result.{err_from_is_err_and}
use Rattle.line_text.specs.Formats.{one}
use Rattle.line_text.specs.Files.{line}
use Rattle.price_certificate.specs.Grammar.{split_fields, node_text}
use Rattle.price_certificate.specs.Reading.{leaf_text}
use Rattle.case_lines.proofs.Public.{neither}
use Rattle.price_certificate.proofs.single_lines.node_line.Goals as goal

pub returns-in_err-leaf_line-in-Err : goal.returns-in_err-leaf_line-in-Err
returns-in_err-leaf_line-in-Err c =
    let p = err_from_is_err_and c.from_residual.result c.from_residual.ensures.1 in
    let none : (one node_text).read c.args.lines.now ≡ Err c.leaf_line.new.lines = neither (line split_fields) leaf_text c.args.lines.now c.split_line.new.lines c.leaf_line.new.lines c.in-Err.ensures c.in_err-leaf_line-in-Err.ensures in
    rw (p.1, none) refl
