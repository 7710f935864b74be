use Rattle.std.proofs.Common.{◌==◌, ◌∙◌, ℕ, position, sym, ap}
use Rattle.list_laws.proofs.Public.{position_mapped}
use Rattle.spares_input.specs.declared.rows.PartId.{PartId}
use Rattle.family_numbers.specs.Numbers.{FamilyNumbers}
use Rattle.family_numbers.proofs.numbers.Numbers.place_of.Goals as goal

pub returns : goal.returns
returns g c =
    c.place_in.ensures ∙ ap (position (λ (q : PartId). q.0 == c.args.part.0)) c.as_slice.ensures.value
    ∙ sym (position_mapped (λ (q : PartId). q.0) (λ (q : ℕ). q == c.args.part.0) c.self.inside.members.items)
    ∙ ap (λ (x : FamilyNumbers g.row.F). position (λ q. q == c.args.part.0) x.parts) c.self.view_is
