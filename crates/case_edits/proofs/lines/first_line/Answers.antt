use Rattle.std.proofs.Common.{◌-◌, length, take, drop, sym, ◌∙◌, arith}
use Rattle.std.proofs.lemmas.List.{length-take}
use Rattle.case_edits.proofs.LineFacts.{after_feed, first_ended, last_body}
use Rattle.case_edits.proofs.lines.first_line.Goals as goal

pub returns-in-Some-clause-lines : goal.returns-in-Some-clause-lines
returns-in-Some-clause-lines c =
    let bytes = c.args.bytes.now in
    let left = after_feed bytes c.split_at.result.1.now c.in-Some.end c.split_at.ensures.back in
    rw (c.without_return.ensures, c.split_at.ensures.front, left) (first_ended bytes c.in-Some.end (sym c.line_feed.ensures ∙ c.in-Some.is))

pub returns-in-None-clause-lines : goal.returns-in-None-clause-lines
returns-in-None-clause-lines c =
    let bytes = c.args.bytes.now in
    let n = length bytes in
    last_body bytes (take (n - n) (drop n bytes)) c.requires (sym c.line_feed.ensures ∙ c.in-None.is) (omega (arith, length-take (n - n) (drop n bytes)))
