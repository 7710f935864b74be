use Rattle.std.proofs.Common.{◌≡◌, List, Ok, Err, ap, subst, sym, ◌∙◌}
use Rattle.answers.specs.Answers.{Gives}
use Rattle.spares_input.specs.Frames.{frame_of}
use Rattle.spares_input.specs.Cases.{CaseRows, case_of}
use Rattle.spares_input.specs.declared.rows.RateRow.{RateRow}
use Rattle.case_lines.specs.Framed.{rows_of, with_frame}
use Rattle.case_lines.proofs.Framed.{site_rows, are_part_rows, rates_of_frame, case_of_frame, stops_free}
use Rattle.case_lines.proofs.reading.case_of_lines.Goals as goal

pub build-requires-clause-site_rows : goal.build-requires-clause-site_rows
build-requires-clause-site_rows c = rw c.into_vec.ensures (site_rows (rows_of c.args.rows) c.requires)

pub build-requires-clause-part_rows : goal.build-requires-clause-part_rows
build-requires-clause-part_rows c = rw c.into_vec-2.ensures (are_part_rows (rows_of c.args.rows) c.requires)

pub build-requires-2 : goal.build-requires-2
build-requires-2 c =
    let r = rows_of c.args.rows in
    let e : frame_of r.sites r.parts ≡ Ok c.in_ok-frame.frame = rw (← c.into_vec.ensures, ← c.into_vec-2.ensures) c.in_ok-frame.ensures in
    rw c.into_vec-3.ensures (rates_of_frame r c.requires c.in_ok-frame.frame e)

pub returns-in-Ok : goal.returns-in-Ok
returns-in-Ok c =
    let r = rows_of c.args.rows in
    let e : frame_of r.sites r.parts ≡ Ok c.in_ok-frame.frame = rw (← c.into_vec.ensures, ← c.into_vec-2.ensures) c.in_ok-frame.ensures in
    ap (with_frame r) e ∙ sym (case_of_frame r c.requires c.in_ok-frame.frame e) ∙ ap (λ (rs : List RateRow). case_of c.in_ok-frame.frame rs) (sym c.into_vec-3.ensures) ∙ c.in-Ok.ensures.answer

pub returns-in-Err : goal.returns-in-Err
returns-in-Err c =
    let r = rows_of c.args.rows in
    let e : frame_of r.sites r.parts ≡ Ok c.in_ok-frame.frame = rw (← c.into_vec.ensures, ← c.into_vec-2.ensures) c.in_ok-frame.ensures in
    stops_free r c.requires c.in_ok-frame.frame c.in-Err.stop e (subst (λ (rs : List RateRow). Gives {T = CaseRows} (case_of c.in_ok-frame.frame rs) (Err c.in-Err.stop)) c.into_vec-3.ensures c.in-Err.ensures.answer)
