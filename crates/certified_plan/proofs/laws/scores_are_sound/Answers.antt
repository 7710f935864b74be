use Rattle.certified_plan.proofs.Scores.{scores_enclose, scores_leave_room}
use Rattle.certified_plan.proofs.laws.scores_are_sound.Goals as goal

pub returns : goal.returns
returns r = record { encloses = scores_enclose; room = scores_leave_room }
