use Rattle.std.proofs.Common.{arith, subst}
use Rattle.case_plan.proofs.Public.{are_curves}
use Rattle.fleet_model.specs.Rows.{line_units}
use Rattle.fleet_model.proofs.Public.{few_lines}
use Rattle.fleet_plan.specs.Families.{case_points, family_points}
use Rattle.marginal_alloc.specs.Choice.{AreCurves}
use Rattle.spares_input.specs.Stocks.{StockList}
use Rattle.std.proofs.lemmas.List.{length-map}
use Rattle.plan_commands.proofs.Planned.{plain_work}
use Rattle.plan_commands.proofs.curves.curves_of.Goals as goal
use Rattle.family_points.specs.Points.{plain_ends}

pub held_curves-requires-clause-work : goal.held_curves-requires-clause-work
held_curves-requires-clause-work c = plain_work c.args.given.now.case c.in_ok-held.held c.requires.accepted.valid c.in_ok-held.ensures.held c.requires.work

pub returns-clause-few : goal.returns-clause-few
returns-clause-few c =
    let n = (are_curves plain_ends c.args.given.now.case c.in_ok-held.held.list c.in_ok-curves.curves.items c.in_ok-curves.ensures).count in
    let m = length-map (line_units c.args.given.now.case) (family_points plain_ends c.args.given.now.case c.in_ok-held.held.list) in
    let few = few_lines c.args.given.now.case c.requires.accepted.valid in
    omega (arith, n, m, few)

pub returns-clause-curves : goal.returns-clause-curves
returns-clause-curves c =
    subst (λ (held : StockList). AreCurves (case_points plain_ends c.args.given.now.case held.list) c.in_ok-curves.curves.items) c.in_ok-held.ensures.held
    (are_curves plain_ends c.args.given.now.case c.in_ok-held.held.list c.in_ok-curves.curves.items c.in_ok-curves.ensures)
