-- The tables of the shop units at the bases. Shop unit i's table at a base depends on one stock alone: its own at the
-- depot.
use Rattle.std.specs.Prelude.{◌≡◌, ℕ, suc, ◌-◌, ◌≤◌, List, length, map, All}
use Rattle.std.specs.List.{AllZip, range_with_len}
use Rattle.spares_input.specs.Limits.{most_stock}
use Rattle.moment_table.specs.Rows.{TableRows}
use Rattle.family_numbers.specs.declared.base_shops.BaseShops.{BaseShops}
use Rattle.family_numbers.specs.Numbers.{FamilyNumbers, base_shop_table, nth_stock, shop_numbers}

-- the least and the most stock of each shop unit at the depot
pub record AreShopBounds {f : ℕ} (x : FamilyNumbers f) (low high : List ℕ) : Type 0 where
  pub count : length low ≡ length x.parts - 1
  pub order : AllZip (λ a b. a ≤ b) low high
  pub most : All (λ s. s ≤ most_stock) high

-- the tables of shop unit i at base k, for its stocks at the depot from a to b
abbrev pub tables_by_stock : (f : ℕ) → FamilyNumbers f → ℕ → ℕ → ℕ → ℕ → List (TableRows f)
tables_by_stock f x k i a b = map (λ s. base_shop_table f x i k s) (range_with_len a (suc b - a))

-- the tables of all shop units there, for their stocks at the depot from low to high
abbrev pub tables_by_shop : (f : ℕ) → FamilyNumbers f → List ℕ → List ℕ → ℕ → List (List (TableRows f))
tables_by_shop f x low high k = map (λ i. tables_by_stock f x k i (nth_stock low i) (nth_stock high i)) (shop_numbers x)

-- the tables at all bases, for these stocks
pub record AreBaseShops (f : ℕ) (x : FamilyNumbers f) (low high : List ℕ) (t : BaseShops f) : Type 0 where
  pub least : t.low ≡ low
  pub tables : t.tables ≡ map (tables_by_shop f x low high) (range_with_len 1 (x.sites - 1))

-- the tables for the stocks d at the depot are among them
pub record HaveShops (f : ℕ) (x : FamilyNumbers f) (d : List ℕ) (t : BaseShops f) : Type 0 where
  pub low : List ℕ
  pub high : List ℕ
  pub bounds : AreShopBounds x low high
  pub are : AreBaseShops f x low high t
  pub least : AllZip (λ a b. a ≤ b) low d
  pub most : AllZip (λ a b. a ≤ b) d high
