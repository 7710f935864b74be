-- The promises of a plan about weighted backorders if nothing is held: the definitions of Bounds in the plain case.
-- There the aim is the total, the cost beyond the stocks held is the cost, and every allocation keeps the stocks held:
-- the law `words_agree`.
use Rattle.std.specs.Prelude.{ℕ, List, []}
use Rattle.spares_input.specs.Cases.{CaseRows}
use Rattle.fleet_model.specs.Aims.{weighted_backorders}
use Rattle.fleet_model.specs.Bounds.{NoneHasLess, NoPriceShowsMore, HasNoMore}

-- no allocation within the budget has fewer backorders than the bound
abbrev pub NoAllocationHasFewer : CaseRows → ℕ → ℕ → Type 0
NoAllocationHasFewer c budget bound = NoneHasLess weighted_backorders c [] budget bound

-- no price shows a bound above this one
abbrev pub NoPriceIsHigher : CaseRows → ℕ → ℕ → Type 0
NoPriceIsHigher c budget most = NoPriceShowsMore weighted_backorders c [] budget most

-- the total at these stocks is at most this
abbrev pub HasAtMost : CaseRows → List ℕ → ℕ → Type 0
HasAtMost c s most = HasNoMore weighted_backorders c s most
