use Rattle.std.proofs.Common.{arith}
use Rattle.std.proofs.lemmas.Grind.{common_steps}
use Rattle.csv_tables.specs.Rates.{rate_in}
use Rattle.csv_tables.proofs.rates.rate_in.Goals as goal

pub returns-in_err-part : goal.returns-in_err-part
unfolding rate_in
returns-in_err-part c = grind (arith, common_steps)

pub returns-in_err-site : goal.returns-in_err-site
unfolding rate_in
returns-in_err-site c = grind (arith, common_steps)

pub returns-in_err-demand : goal.returns-in_err-demand
unfolding rate_in
returns-in_err-demand c = grind (arith, common_steps)

pub returns-in_err-repair_here : goal.returns-in_err-repair_here
unfolding rate_in
returns-in_err-repair_here c = grind (arith, common_steps)

pub returns-in_err-share : goal.returns-in_err-share
unfolding rate_in
returns-in_err-share c = grind (arith, common_steps)

pub returns-in_err-repair_days : goal.returns-in_err-repair_days
unfolding rate_in
returns-in_err-repair_days c = grind (arith, common_steps)
