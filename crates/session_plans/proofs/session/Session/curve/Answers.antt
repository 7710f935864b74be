use Rattle.std.proofs.Common.{[], get_or, not, ap, refl, ◌∙◌}
use Rattle.fleet_model.specs.Rows.{line_units}
use Rattle.held_work.specs.Curves.{IsFamilyCurve}
use Rattle.session_plans.specs.Sessions.{marks_of, SessionRows}
use Rattle.session_plans.proofs.Keeping.{lent, lent_mark, seen}
use Rattle.session_plans.proofs.session.Session.curve.Goals as goal
use Rattle.family_points.specs.Points.{plain_ends}

pub returns-clause-mark : goal.returns-clause-mark
returns-clause-mark c =
    let s : SessionRows = record { case = c.self.inside.case; budget = c.self.inside.budget; marks = marks_of c.self.inside.curves.items } in
    ap not (c.as_ref.ensures.variant ∙ lent_mark s c.args.self.now c.self.inside.curves.items c.self.inside.parts c.self.inside.evaluated c.self.view_is c.self.invariant
    c.args.family c.index.result.now c.requires c.index.ensures refl)

pub returns-clause-curve : goal.returns-clause-curve
returns-clause-curve c =
    let s : SessionRows = record { case = c.self.inside.case; budget = c.self.inside.budget; marks = marks_of c.self.inside.curves.items } in
    seen c.as_ref.result c.index.result.now (IsFamilyCurve plain_ends c.args.self.now.case [] (get_or (line_units c.args.self.now.case) c.args.family 0)) c.as_ref.ensures.value
    (lent s c.args.self.now c.self.inside.curves.items c.self.inside.parts c.self.inside.evaluated c.self.view_is c.self.invariant c.args.family c.index.result.now c.requires c.index.ensures)
