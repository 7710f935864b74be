use Rattle.std.proofs.Common.{◌≡◌, ◌≤◌, refl, sym, subst}
use Rattle.hull.specs.declared.point.Point.{Point}
use Rattle.hull.specs.Curves.{Among, IsCurve, point_at}
use Rattle.family_points.specs.Counts.{most_tables, tables_between}
use Rattle.family_points.specs.Inputs.{FamilyBox, box_points}
use Rattle.family_points.specs.Vectors.{IsBetween, box_from}
use Rattle.family_items.specs.Inputs.{IsLine}
use Rattle.held_work.proofs.Public.{box_few}
use Rattle.held_plan.proofs.curves.curve_from.Goals as goal

pub curve_from-requires-clause-few : goal.curve_from-requires-clause-few
curve_from-requires-clause-few g c =
    let x = c.args.families.now in
    let y = c.args.sources.now.family.now in
    let line = subst (λ (z : FamilyBox). IsLine z.case y.line) c.requires.family c.invariant-2.ensures.valid.is_line in
    subst (λ (z : FamilyBox). tables_between z.case z.line z.low z.high ≤ most_tables) (sym c.requires.family)
    (box_few x.case y.line x.held.list (box_from x.case y.line x.held.list) refl c.invariant.ensures.valid line c.invariant.ensures.work)

pub returns : goal.returns
returns g c =
    let curve = c.in_ok-curve.curve in
    record {
      is_curve = subst (λ (z : FamilyBox). IsCurve (box_points g.S.Score.ends z) curve) c.requires.family c.in_ok-curve.ensures.curve;
      free = subst (λ (z : FamilyBox). z.held ≡ z.low → (point_at curve 0).cost ≡ 0) c.requires.family c.in_ok-curve.ensures.begins refl;
      within = subst (λ (z : FamilyBox). (v : Point) → Among v curve → IsBetween z.low z.high v.stocks) c.requires.family c.in_ok-curve.ensures.stocks;
    }
