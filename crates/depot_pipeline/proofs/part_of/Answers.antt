use Rattle.std.proofs.Common.{arith, lit<, rules}
use Rattle.fixed_interval.specs.Ends.{InScale}
use Rattle.fixed_interval.proofs.Public.{mul_room}
use Rattle.depot_pipeline.proofs.Laws.{part_most}
use Rattle.depot_pipeline.proofs.part_of.Goals as goal

pub mul-requires : goal.mul-requires
mul-requires g c =
    let s : InScale g.row.F = search rules in
    (lit< tt, mul_room g.row.F 1 256 c.args.share c.args.number s.1 (omega (arith, c.requires.share)) c.requires.small (lit< tt))

pub returns-clause-most : goal.returns-clause-most
returns-clause-most g c = part_most g.row.F c.args.share c.args.number c.mul.result c.requires.share c.mul.ensures.ends
