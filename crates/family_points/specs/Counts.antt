-- The work that a family's curve takes. A count above 2^64 - 1 is cut to it.
use Rattle.std.specs.Prelude.{ℕ, suc, ◌+◌, ◌-◌, ◌*◌, ◌^◌, nat_le, List, [], ◌∷◌, map, length, drop, get_or, sum, sum_by, Result, Ok, Err, if◌then◌else◌}
use Rattle.answers.specs.Counts.{count64}
use Rattle.spares_input.specs.Cases.{CaseRows}
use Rattle.spares_input.specs.Frames.{part_at}
use Rattle.fleet_model.specs.Rows.{bases, line_units, shop_units}
use Rattle.fleet_model.specs.Fleet.{family}
use Rattle.family_points.specs.Vectors.{site_part}

-- the product of all numbers of a list, 1 if it is empty
abbrev pub product : List ℕ → ℕ
product [] = 1
product (x ∷ xs) = x * product xs

-- the number of tables of a family's curve; the arguments are numbers of stocks: the line unit's at the depot, each
-- shop unit's there, and each shop unit's at each base. There is one table for each shop unit at the depot; for the
-- line unit there with each choice of the shop units' stocks; for each shop unit at each base with each stock at the
-- depot; and for the line unit at each base with each choice of the depot's stocks and of the shop units' stocks at
-- that base
abbrev pub tables_by : ℕ → List ℕ → List (List ℕ) → ℕ
tables_by line depot_shops base_shops =
    length depot_shops + product depot_shops + length base_shops * sum depot_shops
    + line * product depot_shops * sum_by product base_shops

-- the number of stocks of each place, from low to high
abbrev pub widths : List ℕ → List ℕ → List ℕ
widths [] high = []
widths (a ∷ low) [] = []
widths (a ∷ low) (b ∷ high) = (suc b - a) ∷ widths low high

-- the tables for the vectors from low to high
abbrev pub tables_between : CaseRows → ℕ → List ℕ → List ℕ → ℕ
tables_between c l low high =
    let at = site_part c l (widths low high) in
    tables_by (get_or (at 0) 0 0) (drop 1 (at 0)) (map (λ j. drop 1 (at j)) (bases c))

-- the number of stocks of part p at the depot
abbrev pub depot_width : CaseRows → ℕ → ℕ
depot_width c p = (part_at c.parts p).max_depot + 1

-- the number of stocks of part p at a base
abbrev pub base_width : CaseRows → ℕ → ℕ
base_width c p = (part_at c.parts p).max_base + 1

-- the number of vectors of the family
abbrev pub choices_of : CaseRows → ℕ → ℕ
choices_of c l = product (map (λ p. depot_width c p * base_width c p ^ (length c.sites - 1)) (family c l))

-- the tables for all vectors of the family
abbrev pub tables_of : CaseRows → ℕ → ℕ
tables_of c l =
    tables_by (depot_width c l) (map (depot_width c) (shop_units c l))
    (map (λ j. map (base_width c) (shop_units c l)) (bases c))

-- the most tables that a case's curves may take
abbrev pub most_tables : ℕ
most_tables = 1000000

-- the most vertices that a family's curves of bases have, over all vectors of the depot: 65 for each table
abbrev pub most_vertices : ℕ
most_vertices = 65000000

-- a number of tables, refused if it is above the limit
abbrev pub limited : ℕ → Result ℕ ℕ
limited n = if nat_le n most_tables then Ok n else Err n

-- the tables of all families of a case together, refused if they are above the limit
abbrev pub work_of : CaseRows → Result ℕ ℕ
work_of c = limited (count64 (sum_by (tables_of c) (line_units c)))
