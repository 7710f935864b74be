use Rattle.budget_sweep.proofs.Told.{target_true}
use Rattle.budget_sweep.proofs.laws.case_targets_are_true.Goals as goal

pub returns : goal.returns
returns r = λ ends value c held target report accepted encloses h.
    target_true ends value c held accepted encloses h.curves h.is_target.points
    (record { areas = h.areas; shapes = h.shapes; sweep = h.is_target.sweep }) report h.is_target.told
