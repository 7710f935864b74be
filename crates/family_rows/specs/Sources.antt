-- The data of a family that doesn't depend on the depot's stocks. No promise of the crate rests on these words.
use Rattle.std.specs.Prelude.{◌≡◌, ℕ, ◌+◌, ◌*◌, drop, length, sum, sum_by}
use Rattle.fleet_model.specs.Rows.{bases}
use Rattle.family_numbers.specs.BaseTables.{AreBaseShops}
use Rattle.family_points.specs.Choices.{AreBases}
use Rattle.family_points.specs.Counts.{widths}
use Rattle.family_points.specs.Inputs.{IsFamilyBox, shop_high, shop_low}
use Rattle.family_points.specs.Vectors.{site_part}
use Rattle.family_rows.specs.declared.sources.Sources.{Sources}
use Rattle.family_rows.specs.Tabled.{depot_shops, box_numbers}

-- the numbers, the bases and the tables belong to the family
pub record AreSources (s : Sources) : Type 0 where
  pub numbers : s.numbers ≡ box_numbers s.family.now
  pub bases : AreBases s.family.now s.bases.items
  pub depot_shops : s.depot_shops.items ≡ depot_shops s.numbers
  pub base_shops : AreBaseShops 48 s.numbers (shop_low s.family.now 0) (shop_high s.family.now 0) s.base_shops

-- ---- the tables that they hold

-- those of the shop units at the depot and at the bases
abbrev pub tables_kept : Sources → ℕ
tables_kept s = length s.depot_shops.items + sum_by (sum_by length) s.base_shops.tables

-- They are those that the count of a family's tables names: one for each shop unit at the depot, and one for each shop
-- unit at each base with each of its stocks at the depot.
abbrev pub SourcesAreCounted : Type 0
SourcesAreCounted =
    (s : Sources) → IsFamilyBox s.family.now → AreSources s
    → let x = s.family.now in
    let stocks = drop 1 (site_part x.case x.line (widths x.low x.high) 0) in
    tables_kept s ≡ length stocks + length (bases x.case) * sum stocks
