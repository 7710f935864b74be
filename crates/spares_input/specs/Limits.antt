-- The limits of a fleet's tables.
use Rattle.std.specs.Prelude.{ℕ}

-- the most sites of a fleet: the depot and 1 to 15 bases
abbrev pub most_sites : ℕ
most_sites = 16

-- the most parts of a fleet
abbrev pub most_parts : ℕ
most_parts = 2000

-- the most shop units of a line unit
abbrev pub most_shop_units : ℕ
most_shop_units = 8

-- the most parts of a family: a line unit and its shop units
abbrev pub most_family : ℕ
most_family = 9

-- the most stock of a part at a site
abbrev pub most_stock : ℕ
most_stock = 63

-- the most pairs of a part and a site
abbrev pub most_pairs : ℕ
most_pairs = 32000

-- the most cost of a part, in whole money
abbrev pub most_part_cost : ℕ
most_part_cost = 100000000

-- the longest repair or shipment, in hundredths of days
abbrev pub most_days : ℕ
most_days = 999999
