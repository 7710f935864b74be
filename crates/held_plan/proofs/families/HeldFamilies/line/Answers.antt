use Rattle.std.proofs.Common.{◌<◌, get_or, length, sym, subst, arith}
use Rattle.fleet_model.specs.Rows.{line_units}
use Rattle.family_items.specs.Inputs.{IsLine}
use Rattle.family_items.proofs.Public.{lines_count, listed_is_line}
use Rattle.held_plan.specs.Held.{HeldCase}
use Rattle.held_plan.proofs.families.HeldFamilies.line.Goals as goal

pub returns-clause-is_line : goal.returns-clause-is_line
returns-clause-is_line g c =
    let case = c.self.inside.case.now in
    let lines = c.line_units-lines.result.now in
    let h : c.args.family < length (line_units case) = subst (λ (x : HeldCase). c.args.family < length (line_units x.case)) (sym c.self.view_is) c.requires in
    subst (λ (x : HeldCase). IsLine x.case (get_or lines c.args.family (record { 0 = 0 })).0) c.self.view_is
    (listed_is_line case lines c.line_units-lines.ensures c.args.family (record { 0 = 0 }) (omega (arith, h, lines_count case lines c.line_units-lines.ensures)))
