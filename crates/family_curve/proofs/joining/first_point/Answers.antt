use Rattle.std.proofs.Common.{sym, ap, ◌∙◌, subst, arith}
use Rattle.hull.specs.declared.point.Point.{Point}
use Rattle.family_points.specs.Separation.{depot_point}
use Rattle.family_points.specs.Inputs.{IsAt}
use Rattle.family_points.proofs.Public.{joined_at}
use Rattle.family_curve.proofs.joining.first_point.Goals as goal

pub depot_point-requires : goal.depot_point-requires
depot_point-requires c =
    let x = c.args.family.now in
    let valid = c.invariant.ensures.valid in
    let some = valid.valid.frame.fewest_sites in
    subst (IsAt x 0) (sym c.in_ok-stocks.ensures) (joined_at x valid 0 c.args.line c.args.shops.now (omega (arith, some)) c.requires.shops c.requires.least c.requires.most)

pub returns-clause-point : goal.returns-clause-point
returns-clause-point c =
    let x = c.args.family.now in
    let valid = c.invariant.ensures.valid in
    let some = valid.valid.frame.fewest_sites in
    let stocks = ap (λ (p : Point). p.stocks) c.depot_point.ensures.point in
    record {
      at = subst (IsAt x 0) (sym (stocks ∙ c.in_ok-stocks.ensures)) (joined_at x valid 0 c.args.line c.args.shops.now (omega (arith, some)) c.requires.shops c.requires.least c.requires.most);
      is = c.depot_point.ensures.point ∙ ap (depot_point x) (sym stocks);
      range = c.depot_point.ensures.range;
    }

pub returns-clause-stocks : goal.returns-clause-stocks
returns-clause-stocks c = ap (λ (p : Point). p.stocks) c.depot_point.ensures.point ∙ c.in_ok-stocks.ensures
