use Rattle.std.proofs.lemmas.Result.{err_from_is_err_and}
use Rattle.price_certificate.specs.Reading.{draft_of}
use Rattle.held_certificate.proofs.Inverse.{stops_at, free, made_first}
use Rattle.held_certificate.proofs.reading.after_front.Goals as goal

pub returns-in_err-certificate-clause-answer : goal.returns-in_err-certificate-clause-answer
returns-in_err-certificate-clause-answer c =
    let p = err_from_is_err_and c.from_residual.result c.from_residual.ensures.1 in
    rw (p.1, p.2) (stops_at c.args.bytes.now (draft_of c.args.found) c.args.lines.now c.requires.front c.in_err-certificate.field-0.0 c.in_err-certificate.ensures.answer)

pub held_after-requires : goal.held_after-requires
held_after-requires c =
    let f = free c.args.bytes.now (draft_of c.args.found) c.args.lines.now c.requires.front c.in_ok-certificate.certificate c.in_ok-certificate.ensures.answer in
    record {
      size = c.requires.size;
      front = made_first c.args.bytes.now (draft_of c.args.found) c.args.lines.now c.requires.front c.in_ok-certificate.certificate f.0;
      no_fault = f.1;
    }
