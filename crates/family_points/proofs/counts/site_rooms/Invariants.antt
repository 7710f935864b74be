use Rattle.family_points.specs.Rooms.{widths_at}
use Rattle.family_points.proofs.Rooms.{Roomed}
use Rattle.family_points.proofs.counts.site_rooms.Given as goal

abbrev pub invariant-loop-i : goal.invariant-loop-i
invariant-loop-i l = Roomed (widths_at l.case l.fn.line.0 l.fn.rooms l.fn.site.0) l.i l.sum l.shops
