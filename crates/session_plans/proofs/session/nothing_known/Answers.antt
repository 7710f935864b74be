use Rattle.std.proofs.Common.{[], List, None, Option, ap, length, sym, ◌∙◌}
use Rattle.std.proofs.lemmas.List.{length-replicate}
use Rattle.fleet_model.specs.Rows.{line_units}
use Rattle.hull.specs.declared.point.Point.{Point}
use Rattle.family_points.specs.Points.{plain_ends}
use Rattle.fleet_plan.specs.Families.{case_points}
use Rattle.held_plan.proofs.Public.{families_long}
use Rattle.session_plans.proofs.session.nothing_known.Goals as goal

pub returns-clause-parts : goal.returns-clause-parts
returns-clause-parts c =
    let case = c.args.case.now in
    c.in_ok-parts.ensures (case_points plain_ends case [])
    (families_long plain_ends case [] ∙ sym (c.len.ensures ∙ c.in_ok-curves.curves.ok.0 ∙ ap (λ (vs : List (Option (List Point))). length vs) c.in_ok-curves.ensures ∙ length-replicate (length (line_units case)) None))
