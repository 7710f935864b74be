use Rattle.std.proofs.Common.{List, sym, subst}
use Rattle.hull.specs.declared.point.Point.{Point}
use Rattle.hull.specs.Curves.{Among, InRange}
use Rattle.family_parts.proofs.joining.vertices_of.Goals as goal

pub returns-in-Some-clause-ranges : goal.returns-in-Some-clause-ranges
returns-in-Some-clause-ranges c = subst (λ (l : List Point). (v : Point) → Among v l → InRange v) (sym c.vertices.ensures.vertices) c.vertices.ensures.shape.ranges
