use Rattle.std.proofs.Common.{ℕ, List, arith}
use Rattle.hull.specs.declared.point.Point.{Point}
use Rattle.hull.proofs.Public.{convex}
use Rattle.curve_parts.specs.Beyond.{IsKnownPart}
use Rattle.curve_parts.proofs.Public.{part_of_curve, cut_is_part, beyond_gap, curve_known}
use Rattle.family_points.specs.Separation.{base_points}
use Rattle.base_parts.proofs.Bases.{cut_no_longer}
use Rattle.base_parts.proofs.Kept.{known_without}
use Rattle.base_parts.proofs.parts.put_part.Goals as goal

pub returns-clause-part : goal.returns-clause-part
returns-clause-part g c =
    let here = c.args.here.now in
    let low = c.args.low in
    let high = c.args.high in
    let points : List Point = base_points g.S.Score.ends here.family.now here.depot.now here.site.0 in
    let curve : List Point = c.put_choices.new.chain in
    let part : List Point = c.cut.new.chain in
    let without = c.in_ok-passed.ensures.curve in
    let beyond : ℕ = c.min-beyond.result in
    let kept : IsKnownPart low high without.kept part c.cut.result = record {
      is = part_of_curve low high without.kept curve part without.curve (cut_is_part low high curve part (convex without.kept curve without.curve) c.cut.ensures.cut c.requires.window);
      behind = curve_known low without.kept curve part c.cut.result without.curve (c.cut.ensures.beyond c.requires.window);
    } in
    (known_without low high points curve part c.in_ok-passed.passed c.cut.result beyond without (omega (arith, c.min-beyond.ensures)) (omega (arith, c.min-beyond.ensures)) kept).is

pub returns-clause-few : goal.returns-clause-few
returns-clause-few g c = omega (arith, c.in_ok-passed.ensures.few, cut_no_longer c.args.low c.args.high c.put_choices.new.chain c.cut.new.chain c.cut.ensures.cut)

pub returns-clause-least : goal.returns-clause-least
returns-clause-least g c =
    let here = c.args.here.now in
    let points : List Point = base_points g.S.Score.ends here.family.now here.depot.now here.site.0 in
    c.least_at_low-least.ensures c.args.high points c.requires.window (returns-clause-part g c)

pub returns-clause-beyond : goal.returns-clause-beyond
returns-clause-beyond g c =
    let here = c.args.here.now in
    let low = c.args.low in
    let high = c.args.high in
    let points : List Point = base_points g.S.Score.ends here.family.now here.depot.now here.site.0 in
    let curve : List Point = c.put_choices.new.chain in
    let part : List Point = c.cut.new.chain in
    let without = c.in_ok-passed.ensures.curve in
    let beyond : ℕ = c.min-beyond.result in
    let kept : IsKnownPart low high without.kept part c.cut.result = record {
      is = part_of_curve low high without.kept curve part without.curve (cut_is_part low high curve part (convex without.kept curve without.curve) c.cut.ensures.cut c.requires.window);
      behind = curve_known low without.kept curve part c.cut.result without.curve (c.cut.ensures.beyond c.requires.window);
    } in
    let known = known_without low high points curve part c.in_ok-passed.passed c.cut.result beyond without (omega (arith, c.min-beyond.ensures)) (omega (arith, c.min-beyond.ensures)) kept in
    let least = c.least_at_low-least.result in
    beyond_gap low points part least beyond c.saturating_sub.result (returns-clause-least g c) (omega (arith, c.saturating_sub.ensures)) known.behind
