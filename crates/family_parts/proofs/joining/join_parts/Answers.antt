use Rattle.std.proofs.Common.{List, Option, [], ◌∷◌, ◌++◌, sym, subst}
use Rattle.sum_walk.specs.Sums.{sums_of_each}
use Rattle.curve_parts.specs.Beyond.{LieBeyond}
use Rattle.hull.specs.declared.point.Point.{Point}
use Rattle.curve_parts.specs.Joins.{Joins}
use Rattle.family_bases.specs.Joining.{vertices_of}
use Rattle.family_parts.proofs.Grown.{begins_part}
use Rattle.family_parts.proofs.joining.join_parts.Goals as goal

pub returns-in_ok-curve-in-None-clause-joins : goal.returns-in_ok-curve-in-None-clause-joins
returns-in_ok-curve-in-None-clause-joins g c =
    let new : List Point = c.in_ok-curve-in-None.curve in
    subst (λ (o : Option (List Point)). Joins c.args.low c.args.high c.args.first.now c.args.parts.now (vertices_of o) new) (sym c.in-None.is)
    (begins_part c.args.low c.args.high c.args.first.now c.args.parts.now new c.in_ok-curve-in-None.ensures.part)

pub returns-in_ok-curve-in-None-clause-beyond : goal.returns-in_ok-curve-in-None-clause-beyond
returns-in_ok-curve-in-None-clause-beyond g c =
    subst (λ (o : Option (List Point)). LieBeyond c.args.low (vertices_of o ++ sums_of_each (c.args.first.now ∷ []) c.args.parts.now) c.in_ok-curve-in-None.curve c.in_ok-curve-in-None.beyond) (sym c.in-None.is)
    c.in_ok-curve-in-None.ensures.beyond
