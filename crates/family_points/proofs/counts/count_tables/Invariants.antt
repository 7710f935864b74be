use Rattle.family_points.specs.Rooms.{bounds_of}
use Rattle.family_points.proofs.TableFacts.{Based}
use Rattle.family_points.proofs.counts.count_tables.Given as goal

abbrev pub invariant-loop-j : goal.invariant-loop-j
invariant-loop-j l = Based l.case l.fn.line.0 (bounds_of l.case l.fn.line.0 l.fn.rooms).low (bounds_of l.case l.fn.line.0 l.fn.rooms).high l.j l.shops
