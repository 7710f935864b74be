use Rattle.price_certificate.specs.Reading.{draft_of}
use Rattle.held_certificate.proofs.Exact.{front_is_exact, front_fits}
use Rattle.held_certificate.proofs.reading.read_text.Goals as goal

pub after_front-requires-clause-fits : goal.after_front-requires-clause-fits
after_front-requires-clause-fits c = front_fits (draft_of c.in-Ok.found) (front_is_exact.takes c.of-lines.result (draft_of c.in-Ok.found) c.front_lines.new.lines c.in-Ok.ensures).0
