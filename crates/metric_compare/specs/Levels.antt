-- The steps from level to level. No promise of the crate rests on these words.
use Rattle.std.specs.Prelude.{ℕ, List, map, flat_map}
use Rattle.fixed_interval.specs.Ends.{Ends, ends_exact}
use Rattle.spares_input.specs.Cases.{CaseRows}
use Rattle.spares_input.specs.Frames.{line_of}
use Rattle.fleet_model.specs.Rows.{all_parts, all_sites}
use Rattle.fleet_model.specs.Pairs.{by_pair}
use Rattle.metric_compare.specs.Profile.{poisson_base_shop, poisson_depot_shop, poisson_of}

-- the backorders of part p at site k if it is a shop unit, and 0 if it is a line unit
abbrev pub of_shop : CaseRows → List ℕ → ℕ → ℕ → Ends
of_shop c s p k =
    by_pair (λ l i. poisson_depot_shop 48 c s i) (λ l. ends_exact 48 0) (λ l i j. poisson_base_shop 48 c s i j)
    (λ l j. ends_exact 48 0)
    (line_of c.parts p) p k

-- a number for each site
abbrev pub by_site : CaseRows → (ℕ → Ends) → List Ends
by_site c row = map row (all_sites c)

-- a number of each pair, by part and then by site
abbrev pub by_part : CaseRows → (ℕ → ℕ → Ends) → List Ends
by_part c number = flat_map (λ p. by_site c (number p)) (all_parts c)

-- the Poisson backorders of the pairs of shop units, and 0 for the pairs of line units
abbrev pub shop_numbers : CaseRows → List ℕ → List Ends
shop_numbers c s = by_part c (of_shop c s)

-- the Poisson backorders of all pairs
abbrev pub poisson_numbers : CaseRows → List ℕ → List Ends
poisson_numbers c s = by_part c (poisson_of 48 c s)
