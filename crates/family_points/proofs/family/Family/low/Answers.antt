use Rattle.std.proofs.Common.{◌*◌, ◌<◌, ◌≤◌, length, take, drop, sym, ap, ap₂, ◌∙◌, subst}
use Rattle.family_points.specs.Inputs.{FamilyBox, low_at}
use Rattle.family_points.proofs.Bounded.{few_members, ids_long, part_within, low_long}
use Rattle.family_points.proofs.family.Family.low.Goals as goal

pub part_of-requires-clause-few : goal.part_of-requires-clause-few
part_of-requires-clause-few c =
    let few = few_members c.self.inside.case.now c.self.inside.line.0 c.self.invariant.0.valid c.self.invariant.0.is_line in
    subst (λ n. n ≤ 9) (sym (ids_long c.self.inside.case.now c.self.inside.line.0 c.self.inside.members.now c.self.invariant.1)) few

pub part_of-requires-clause-within : goal.part_of-requires-clause-within
part_of-requires-clause-within c =
    let site = subst (λ (x : FamilyBox). c.args.site.0 < length x.case.sites) (sym c.self.view_is) c.requires in
    let long = ids_long c.self.inside.case.now c.self.inside.line.0 c.self.inside.members.now c.self.invariant.1 in
    part_within c.args.site.0 (length c.self.inside.case.now.sites) (length c.self.inside.members.now) _ site
    (ap length c.as_slice.ensures ∙ low_long _ c.self.invariant.0 ∙ ap (λ n. length c.self.inside.case.now.sites * n) (sym long))

pub returns : goal.returns
returns c =
    let long = ids_long c.self.inside.case.now c.self.inside.line.0 c.self.inside.members.now c.self.invariant.1 in
    c.part_of.ensures ∙ ap₂ (λ n v. take n (drop (c.args.site.0 * n) v)) long c.as_slice.ensures
    ∙ ap (λ (x : FamilyBox). low_at x c.args.site.0) c.self.view_is
