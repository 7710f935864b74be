use Rattle.plan_commands.proofs.planning.request_of.Goals as goal

pub cost_of-requires : goal.cost_of-requires
cost_of-requires c = c.requires.held
