use Rattle.std.proofs.Common.{[]}
use Rattle.held_work.specs.Curves.{IsFamilyCurve}
use Rattle.session_plans.proofs.Places.{AreKeptTo}
use Rattle.session_plans.proofs.kept.keep_all.Given as goal
use Rattle.family_points.specs.Points.{plain_ends}

abbrev pub invariant-loop-place : goal.invariant-loop-place
invariant-loop-place l = AreKeptTo (IsFamilyCurve plain_ends l.fn.case []) l.fn.case l.fn.curves l.curves l.place
