use Rattle.price_bounds.proofs.Vectors.{certificate_sound}
use Rattle.price_bounds.proofs.certificates_are_sound.Goals as goal

pub returns : goal.returns
returns c = certificate_sound
