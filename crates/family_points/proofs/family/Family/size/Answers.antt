use Rattle.std.proofs.Common.{◌≤◌, length, sym, ap, ◌∙◌, subst}
use Rattle.fleet_model.specs.Fleet.{family}
use Rattle.family_points.specs.Inputs.{FamilyBox, IsFamilyBox}
use Rattle.family_points.proofs.Bounded.{few_members, ids_long}
use Rattle.family_points.proofs.family.Family.size.Goals as goal

pub returns-clause-size : goal.returns-clause-size
returns-clause-size c =
    ids_long c.self.inside.case.now c.self.inside.line.0 c.self.inside.members.now c.self.invariant.1
    ∙ ap (λ (x : FamilyBox). length (family x.case x.line)) c.self.view_is

pub returns-clause-few : goal.returns-clause-few
returns-clause-few c =
    subst (λ n. n ≤ 9) (sym (ids_long c.self.inside.case.now c.self.inside.line.0 c.self.inside.members.now c.self.invariant.1))
    (few_members c.self.inside.case.now c.self.inside.line.0 c.self.invariant.0.valid c.self.invariant.0.is_line)

pub returns-clause-valid : goal.returns-clause-valid
returns-clause-valid c = subst (λ (x : FamilyBox). IsFamilyBox x) c.self.view_is c.self.invariant.0
