use Rattle.std.proofs.Common.{◌≡◌, ◌<◌, get_or, length, sym, subst, arith}
use Rattle.std.proofs.lemmas.Result.{IfOk-weaker}
use Rattle.fleet_model.specs.Rows.{line_units}
use Rattle.family_items.specs.Inputs.{IsLine}
use Rattle.step_walk.specs.Prefix.{curve_at}
use Rattle.curve_parts.specs.Beyond.{IsKnownPart}
use Rattle.fleet_plan.specs.Families.{case_points}
use Rattle.held_work.proofs.Public.{box_few, box_ordered}
use Rattle.held_plan.specs.Held.{HeldCase}
use Rattle.held_plan.proofs.HeldFacts.{families_long, part_held}
use Rattle.held_plan.proofs.families.HeldFamiliesFamilies.part.Goals as goal

pub part_within-requires-clause-ordered : goal.part_within-requires-clause-ordered
part_within-requires-clause-ordered g c =
    let line = subst (λ (x : HeldCase). IsLine x.case c.line-line.result.0) (sym c.self.view_is) c.line-line.ensures.is_line in
    box_ordered c.self.inside.case.now c.line-line.result.0 c.self.inside.held.now c.in_ok-bounds.bounds c.in_ok-bounds.ensures c.self.invariant.valid line
    c.self.invariant.held

pub part_within-requires-clause-few : goal.part_within-requires-clause-few
part_within-requires-clause-few g c =
    let line = subst (λ (x : HeldCase). IsLine x.case c.line-line.result.0) (sym c.self.view_is) c.line-line.ensures.is_line in
    box_few c.self.inside.case.now c.line-line.result.0 c.self.inside.held.now.list c.in_ok-bounds.bounds c.in_ok-bounds.ensures c.self.invariant.valid line
    c.self.invariant.work

pub returns : goal.returns
returns g c =
    let ends = g.S.Score.ends in
    let case = c.self.inside.case.now in
    let held = c.self.inside.held.now.list in
    let long = subst (λ (x : HeldCase). c.args.family < length (case_points g.S.Score.ends x.case x.held.list)) (sym c.self.view_is) c.requires.family in
    let line = subst (λ (x : HeldCase). c.line-line.result.0 ≡ get_or (line_units x.case) c.args.family 0) (sym c.self.view_is) c.line-line.ensures.line in
    IfOk-weaker c.part_within.result _ _
    (λ part made. subst (λ (x : HeldCase). IsKnownPart c.args.low c.args.high (curve_at (case_points g.S.Score.ends x.case x.held.list) c.args.family) part.0 part.1) c.self.view_is
    (part_held ends case held c.args.family c.line-line.result.0 c.in_ok-bounds.bounds c.args.low c.args.high part.0 part.1 (omega (arith, long, families_long ends case held)) line
    c.in_ok-bounds.ensures made)) c.part_within.ensures.part
