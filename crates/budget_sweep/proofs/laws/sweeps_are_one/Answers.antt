use Rattle.budget_sweep.proofs.Ones.{one_case_sweep, one_case_target}
use Rattle.budget_sweep.proofs.laws.sweeps_are_one.Goals as goal

pub returns : goal.returns
returns r = record { sweeps = one_case_sweep; targets = one_case_target }
