-- The score of each objective: its intervals, and the values that they enclose.
use Rattle.fleet_model.specs.Aims.{Value, weighted_backorders}
use Rattle.family_points.specs.Points.{ScoreEnds, plain_ends}
use Rattle.log_loss.specs.Loss.{loss_of}
use Rattle.log_loss.specs.Profile.{loss_ends}
use Rattle.price_certificate.specs.declared.certificate.Objective.{Objective}
use Rattle.price_certificate.specs.declared.certificate.Objective.TheVariants.{Backorders, LogAvailability}

-- the interval for a base's systems, the units per system, the weight, and an interval of backorders
abbrev pub ends_of : Objective → ScoreEnds
ends_of Backorders = plain_ends
ends_of LogAvailability = λ systems per_system weight backorders. loss_ends systems per_system backorders

-- the value for these numbers, a backorder value and a depth
abbrev pub value_of : Objective → Value
value_of Backorders = weighted_backorders
value_of LogAvailability = λ systems per_system weight backorders n. loss_of systems per_system backorders n
