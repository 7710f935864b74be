use Rattle.std.proofs.lemmas.Result.{err_from_is_err_and}
use Rattle.line_text.proofs.Public.{line_missing}
use Rattle.case_lines.specs.Grammar.{pair_of, rate_fields}
use Rattle.case_lines.proofs.read_rates.rate_line.Goals as goal

pub returns : goal.returns
returns c = c.row.ensures (rate_fields (pair_of c.args.part.0 c.args.row.now c.args.site.0 c.args.place.now)) c.in_ok-fields.fields c.in_ok-fields.ensures c.rate_of-rate.ensures

pub returns-in_err-fields : goal.returns-in_err-fields
returns-in_err-fields c =
    let p = err_from_is_err_and c.from_residual.result c.from_residual.ensures.1 in
    rw p.1 (line_missing (rate_fields (pair_of c.args.part.0 c.args.row.now c.args.site.0 c.args.place.now)) c.args.lines.now c.in_err-fields.ensures)
