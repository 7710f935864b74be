use Rattle.std.proofs.Common.{List}
use Rattle.hull.specs.declared.point.Point.{Point}
use Rattle.family_points.specs.Separation.{base_points}
use Rattle.base_parts.proofs.Kept.{curve_with_all}
use Rattle.base_parts.proofs.choices.put_choices.Goals as goal

pub returns-clause-curve : goal.returns-clause-curve
returns-clause-curve g c =
    let b = c.args.here.now in
    let points : List Point = base_points g.S.Score.ends b.family.now b.depot.now b.site.0 in
    curve_with_all c.args.low c.args.high points c.put_curve.new.chain _ c.in_ok-put_curve.ensures.curve
