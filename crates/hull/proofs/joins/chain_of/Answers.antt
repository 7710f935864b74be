use Rattle.std.proofs.Common.{subst}
use Rattle.std.proofs.lemmas.List.{map-id}
use Rattle.hull.specs.Curves.{Among}
use Rattle.hull.proofs.joins.chain_of.Goals as goal

pub scan-requires-clause-ranges : goal.scan-requires-clause-ranges
scan-requires-clause-ranges c = λ v m. c.requires.ranges v (subst (Among v) (map-id c.args.points.items) m)
