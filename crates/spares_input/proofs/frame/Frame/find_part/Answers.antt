use Rattle.std.proofs.Common.{ap, ◌∙◌}
use Rattle.std.specs.Option.{option_map}
use Rattle.spares_input.proofs.PartPlaces.{part_found}
use Rattle.spares_input.specs.declared.rows.PartId.{PartId}
use Rattle.spares_input.proofs.frame.Frame.find_part.Goals as goal

pub returns-clause-place : goal.returns-clause-place
returns-clause-place c =
    rw (← c.self.view_is) (ap (option_map (λ (p : PartId). p.0)) c.place_among.ensures ∙ c.self.invariant.1 c.args.name.now)

pub returns-clause-row : goal.returns-clause-row
returns-clause-row c =
    let place = ap (option_map (λ (p : PartId). p.0)) c.place_among.ensures ∙ c.self.invariant.1 c.args.name.now in
    rw (← c.self.view_is) (part_found c.self.inside.parts.items c.args.name.now c.place_among.result place)
