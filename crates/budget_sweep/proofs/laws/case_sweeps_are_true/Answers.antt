use Rattle.budget_sweep.proofs.Told.{point_true}
use Rattle.budget_sweep.proofs.laws.case_sweeps_are_true.Goals as goal

pub returns : goal.returns
returns r = λ ends value c held report k accepted encloses h l. point_true ends value c held accepted encloses h.curves
    report.points h.is_sweep k l
