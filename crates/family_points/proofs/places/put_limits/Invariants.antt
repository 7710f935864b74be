use Rattle.std.proofs.Common.{◌≡◌, ◌++◌, map, take}
use Rattle.spares_input.specs.Stocks.{limit_at}
use Rattle.family_points.proofs.places.put_limits.Given as goal

abbrev pub invariant-loop-part : goal.invariant-loop-part
invariant-loop-part l = l.list.items ≡ l.initial.list.items ++ map (λ p. limit_at l.case.parts p.0 l.fn.site.0) (take l.part-index l.members)
