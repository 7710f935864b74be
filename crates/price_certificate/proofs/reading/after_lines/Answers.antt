use Rattle.std.proofs.Common.{refl, arith}
use Rattle.std.proofs.lemmas.Bool.{false≢true}
use Rattle.price_certificate.specs.Reading.{draft_of}
use Rattle.price_certificate.proofs.Exact.{certificate_is_exact}
use Rattle.price_certificate.proofs.Made.{read_whole, read_more}
use Rattle.line_text.specs.Files.{lines_of}
use Rattle.price_certificate.proofs.reading.after_lines.Goals as goal

pub certificate_of-requires : goal.certificate_of-requires
certificate_of-requires c = ((certificate_is_exact 1 (omega arith)).takes (lines_of c.args.bytes.now) (draft_of c.args.found) c.args.left.now c.requires.read).0

pub returns-then-is_empty-clause-answer : goal.returns-then-is_empty-clause-answer
returns-then-is_empty-clause-answer c =
    read_whole c.args.bytes.now (lines_of c.args.bytes.now) c.args.left.now (draft_of c.args.found) c.certificate_of.result
    refl c.requires.read (c.is_empty.ensures.0 c.if-is_empty.true) c.certificate_of.ensures.answer

pub returns-else-is_empty-clause-answer : goal.returns-else-is_empty-clause-answer
returns-else-is_empty-clause-answer c =
    read_more c.args.bytes.now (lines_of c.args.bytes.now) c.args.left.now (draft_of c.args.found) c.line_number.result
    refl c.requires.read (λ e. false≢true (c.if-is_empty.ensures.1 e)) c.line_number.ensures
