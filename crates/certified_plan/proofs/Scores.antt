-- The scores of objectives are sound.
use Rattle.hull.specs.Scores.{EnclosesValue, LeavesRoom}
use Rattle.fleet_plan.proofs.Public.{plain_encloses, plain_room}
use Rattle.log_loss.specs.Enclosing.{loss_encloses, loss_has_room}
use Rattle.price_certificate.specs.declared.certificate.Objective.{Objective}
use Rattle.price_certificate.specs.declared.certificate.Objective.TheVariants.{Backorders, LogAvailability}
use Rattle.gap_rules.specs.Scores.{ends_of, value_of}

-- the intervals of each objective enclose the values that it aims at
pub scores_enclose : (o : Objective) → EnclosesValue (ends_of o) (value_of o)
scores_enclose Backorders = plain_encloses
scores_enclose LogAvailability = loss_encloses

-- the intervals of each objective leave room to be summed over the bases
pub scores_leave_room : (o : Objective) → LeavesRoom (ends_of o)
scores_leave_room Backorders = plain_room
scores_leave_room LogAvailability = loss_has_room
