use Rattle.session_plans.proofs.Keeping.{few}
use Rattle.session_plans.proofs.kept.keep.Goals as goal

pub curve-requires-clause-few : goal.curve-requires-clause-few
curve-requires-clause-few c = few c.args.case.now c.args.line.0 c.invariant.ensures.valid c.requires.line c.requires.work
