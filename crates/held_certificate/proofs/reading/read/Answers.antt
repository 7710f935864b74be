use Rattle.held_certificate.proofs.Found.{found, only}
use Rattle.held_certificate.proofs.reading.read.Goals as goal

pub returns-clause-found : goal.returns-clause-found
returns-clause-found c = found c.args.bytes.now c.read_text.result c.read_text.ensures.answer c.read_text.ensures.well_formed

pub returns-clause-only : goal.returns-clause-only
returns-clause-only c = only c.args.bytes.now c.read_text.result c.read_text.ensures.answer
