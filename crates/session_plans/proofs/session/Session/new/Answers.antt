use Rattle.std.proofs.Common.{Bool, List, [], length, ap}
use Rattle.fleet_model.specs.Rows.{line_units}
use Rattle.held_work.specs.Curves.{IsFamilyCurve}
use Rattle.session_plans.specs.Sessions.{SessionRows}
use Rattle.session_plans.proofs.Places.{no_marks, none_kept}
use Rattle.session_plans.proofs.session.Session.new.Goals as goal
use Rattle.family_points.specs.Points.{plain_ends}

pub invariant_of-result : goal.invariant_of-result
invariant_of-result c = record {
  valid = c.invariant.ensures.valid;
  work = c.requires.work;
  budget_most = c.requires.budget;
  are_kept = none_kept (IsFamilyCurve plain_ends c.args.case []) c.args.case c.in-Ok.curves.items c.in-Ok.ensures.curves;
  are_parts = c.in-Ok.ensures.parts;
  are_evaluated = c.in-Ok.ensures.evaluated;
}

pub returns-in-Ok : goal.returns-in-Ok
returns-in-Ok c =
    ap (λ (ms : List Bool). let s : SessionRows = record { case = c.args.case; budget = c.args.budget; marks = ms } in s)
    (no_marks c.in-Ok.curves.items (length (line_units c.args.case)) c.in-Ok.ensures.curves)
