use Rattle.std.proofs.Common.{◌≡◌, None, Some, take, map}
use Rattle.std.specs.Option.{option_map}
use Rattle.spares_input.specs.First.{first}
use Rattle.spares_input.specs.Building.{vacant, missing_stock_at}
use Rattle.spares_input.proofs.stocks.stocks_of_places.Given as goal

abbrev pub invariant-loop-i : goal.invariant-loop-i
invariant-loop-i l = record {
  fault : first (vacant (missing_stock_at l.sites) l.places) l.i ≡ None;
  stocks : map (λ s. Some s) l.list.items ≡ map (option_map (λ r. r.stock)) (take l.i l.places);
}
