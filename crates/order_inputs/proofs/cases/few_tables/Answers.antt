use Rattle.std.proofs.Common.{ap}
use Rattle.refusals.specs.Causes.{or_refuse}
use Rattle.refusals.specs.Lines.{no_names}
use Rattle.refusals.specs.declared.refusal.Refusal.TheVariants as refusal
use Rattle.order_inputs.proofs.cases.few_tables.Goals as goal

pub returns-in-Ok : goal.returns-in-Ok
returns-in-Ok c = ap (or_refuse no_names refusal.Work) c.in-Ok.is

pub returns-in-Err : goal.returns-in-Err
returns-in-Err c = rw c.of.ensures (ap (or_refuse no_names refusal.Work) c.in-Err.is)
