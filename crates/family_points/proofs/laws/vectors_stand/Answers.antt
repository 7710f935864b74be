use Rattle.family_points.proofs.Stands.{vector_stands}
use Rattle.family_points.proofs.Whole.{no_vector}
use Rattle.family_points.proofs.laws.vectors_stand.Goals as goal

pub returns : goal.returns
returns c = record { stands = vector_stands; nothing = no_vector }
