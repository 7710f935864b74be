-- The tables from which the points of a family are made. No promise of the crate rests on these words.
use Rattle.std.specs.Prelude.{◌≡◌, ℕ, ◌-◌, ◌≤◌, List, drop, length, map}
use Rattle.std.specs.List.{All}
use Rattle.spares_input.specs.Limits.{most_stock}
use Rattle.moment_table.specs.Rows.{TableRows}
use Rattle.depot_pipeline.specs.declared.Moments.{Moments}
use Rattle.fleet_model.specs.Rows.{bases}
use Rattle.family_numbers.specs.declared.own_part.OwnPart.{OwnPart}
use Rattle.family_numbers.specs.Numbers.{FamilyNumbers, depot_line_table, depot_shop_table, nth_stock, numbers_of, own_part, shop_numbers, shop_part}
use Rattle.family_rows.specs.declared.depot.DepotTables.{DepotTables}
use Rattle.family_rows.specs.declared.depot.ShopParts.{ShopParts}
use Rattle.family_points.specs.Inputs.{FamilyBox, shop_vectors}

-- the numbers of the family at 48 fraction bits, from which its tables are made
abbrev pub box_numbers : FamilyBox → FamilyNumbers 48
box_numbers x = numbers_of 48 x.case x.line

-- a stock for each shop unit
pub record AreShopStocks (n : FamilyNumbers 48) (v : List ℕ) : Type 0 where
  pub count : length v ≡ length n.parts - 1
  pub small : All (λ s. s ≤ most_stock) v

-- the tables of the shop units at the depot
abbrev pub depot_shops : FamilyNumbers 48 → List (TableRows 48)
depot_shops n = map (λ i. depot_shop_table 48 n i) (shop_numbers n)

-- the shop units' part of the line unit's pipeline at base j for each vector of their stocks there, with their stocks d
-- at the depot
abbrev pub parts_at : FamilyBox → List ℕ → ℕ → List (Moments 48)
parts_at x d j = map (shop_part 48 (box_numbers x) j d) (shop_vectors x j)

-- these are the parts at each base
abbrev pub AreParts : FamilyBox → List ℕ → ShopParts → Type 0
AreParts x d p = map (λ r. r.items) p.by_base.items ≡ map (parts_at x d) (bases x.case)

-- the tables shared by all vectors with these stocks of the shop units at the depot, and the parts at each base
pub record AreTables (x : FamilyBox) (d : List ℕ) (t : DepotTables) : Type 0 where
  pub line : t.line ≡ depot_line_table 48 (box_numbers x) d
  pub shops : AreParts x d t.shops.now

-- the own part of the line unit's pipeline at base j, if the depot has the stocks d
abbrev pub own_at : FamilyNumbers 48 → List ℕ → ℕ → OwnPart 48
own_at n d j = own_part 48 n j (nth_stock d 0) (drop 1 d)
