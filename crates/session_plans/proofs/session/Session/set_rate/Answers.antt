use Rattle.std.proofs.Common.{◌≡◌, [], None, set, refl, sym, subst, arith}
use Rattle.spares_input.specs.Cases.{frame_rows, IsRateOf}
use Rattle.family_points.specs.Points.{plain_ends}
use Rattle.held_plan.proofs.Public.{families_long}
use Rattle.session_plans.specs.Sessions.{marks_of, with_row, SessionRows}
use Rattle.session_plans.proofs.Families.{changed_session, changed_view}
use Rattle.session_plans.proofs.session.Session.set_rate.Goals as goal

pub invariant_of-self : goal.invariant_of-self
invariant_of-self c =
    changed_session c.self.inside.case c.self.inside.budget c.self.inside.curves.items c.self.inside.parts c.forget.new.self c.self.inside.evaluated _
    c.args.row c.place_of-place.result c.set_rate.new.self
    c.self.invariant (subst (λ (s : SessionRows). IsRateOf (frame_rows s.case) c.args.row) (sym c.self.view_is) c.requires)
    c.place_of-place.ensures.place c.place_of-place.ensures.within c.set_rate.ensures c.forget.ensures refl refl

pub forget-requires : goal.forget-requires
forget-requires c =
    let parts = c.self.invariant.are_parts.count in
    let lines = families_long plain_ends c.self.inside.case [] in
    omega (arith, c.place_of-place.ensures.within, parts, lines)

pub returns : goal.returns
returns c =
    subst (λ (s : SessionRows). record { case = c.set_rate.new.self; budget = c.self.inside.budget; marks = marks_of (set c.self.inside.curves.items c.place_of-place.result None) } ≡ with_row s c.args.row)
    c.self.view_is
    (changed_view c.self.inside.case c.self.inside.budget c.self.inside.curves.items c.args.row c.place_of-place.result c.set_rate.new.self c.place_of-place.ensures.place c.set_rate.ensures)
