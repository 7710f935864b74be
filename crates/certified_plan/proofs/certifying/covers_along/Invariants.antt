use Rattle.std.proofs.Common.{◌≡◌, map}
use Rattle.std.specs.List.{range_with_len}
use Rattle.certified_plan.specs.Certificates.{cover_at}
use Rattle.certified_plan.proofs.certifying.covers_along.Given as goal

abbrev pub invariant-loop-f : goal.invariant-loop-f
invariant-loop-f l = l.covers.items ≡ map (cover_at l.fn.case l.fn.held.list l.fn.price.p l.fn.floors) (range_with_len 0 l.f)
