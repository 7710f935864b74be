-- The fields of the rows of a case.
use Rattle.std.specs.Prelude.{◌≡◌, ℕ, ◌≤◌, Bool, true, false, not, ◌&&◌, List, [], Some, None, is_none}
use Rattle.spares_input.specs.Limits.{most_stock, most_part_cost, most_days}
use Rattle.spares_input.specs.Names.{is_name}
use Rattle.spares_input.specs.declared.rows.SiteRow.{SiteRow}
use Rattle.spares_input.specs.declared.rows.PartRow.{PartRow}
use Rattle.spares_input.specs.declared.rows.RateRow.{RateRow}
use Rattle.spares_input.specs.declared.rows.StockRow.{StockRow}

-- a part without a parent
abbrev pub is_line : PartRow → Bool
is_line r = is_none r.parent

-- a field that is used has a number from least to most, and one that must be empty has 0
pub record IsNumberField (used : Bool) (least most n : ℕ) : Type 0 where
  pub within : used ≡ true → (least ≤ n) × (n ≤ most)
  pub empty : used ≡ false → n ≡ 0

-- a row of sites: the fields of a base, in systems and in hundredths of days; the depot's fields are empty
pub record IsSiteRow (r : SiteRow) : Type 0 where
  pub name : is_name r.name ≡ true
  pub systems : IsNumberField (not r.depot) 1 10000 r.systems
  pub ship : IsNumberField (not r.depot) 0 most_days r.ship

-- a row of parts: line units of one kind in a system and their weight are empty for a shop unit
pub record IsPartRow (r : PartRow) : Type 0 where
  pub name : is_name r.name ≡ true
  pub parent : (name : List ℕ) → r.parent ≡ Some name → is_name name ≡ true
  pub cost : (1 ≤ r.cost) × (r.cost ≤ most_part_cost)
  pub per_system : IsNumberField (is_line r) 1 100 r.per_system
  pub max_depot : r.max_depot ≤ most_stock
  pub max_base : r.max_base ≤ most_stock
  pub weight : IsNumberField (is_line r) 1 100 r.weight

-- a row of rates of a line unit or a shop unit, at the depot or at a base: demands a year, probabilities and shares
-- in ten-thousandths, days in hundredths
pub record IsRateRow (line depot : Bool) (r : RateRow) : Type 0 where
  pub demand : IsNumberField (line && not depot) 0 1000000000 r.demand
  pub repair_here : IsNumberField (not depot) 0 10000 r.repair_here
  pub share : IsNumberField (not line) 0 10000 r.share
  pub repair_days : r.repair_days ≤ most_days

-- the value of a look-up past the last site: an empty name and zeros
abbrev pub no_site : SiteRow
no_site = record { name = []; depot = false; systems = 0; ship = 0 }

-- the value of a look-up past the last part: an empty name and zeros
abbrev pub no_part : PartRow
no_part = record { name = []; parent = None; cost = 0; per_system = 0; max_depot = 0; max_base = 0; weight = 0 }

-- the value of a look-up past the last row of rates: zeros
abbrev pub no_rate : RateRow
no_rate = record {
  part = record { 0 = 0 };
  site = record { 0 = 0 };
  demand = 0;
  repair_here = 0;
  share = 0;
  repair_days = 0;
}

-- the value of a look-up past the last row of stocks: zeros
abbrev pub no_stock : StockRow
no_stock = record { part = record { 0 = 0 }; site = record { 0 = 0 }; stock = 0 }
