-- The steps from the families to the figures. No promise of the crate rests on these words.
use Rattle.std.specs.Prelude.{◌≡◌, true, ℕ, ◌-◌, ◌*◌, ◌^◌, ◌<◌, ◌≤◌, List, map, length, get_or, replicate, All, slice_set, flat_map}
use Rattle.std.specs.List.{fold}
use Rattle.fixed_interval.specs.Ends.{Ends}
use Rattle.spares_input.specs.Rows.{is_line}
use Rattle.spares_input.specs.Frames.{part_at, site_at}
use Rattle.spares_input.specs.Pairs.{pair_place}
use Rattle.spares_input.specs.Cases.{CaseRows, frame_rows, pair_count}
use Rattle.spares_input.specs.Stocks.{StockList}
use Rattle.fleet_model.specs.Rows.{systems, per_system}
use Rattle.availability.specs.declared.Weighted.{Weighted}
use Rattle.availability.specs.Profile.{factor_ends, base_ends}
use Rattle.family_items.specs.declared.item.Item.{Item}
use Rattle.family_items.specs.declared.item.FamilyResult.{FamilyResult}
use Rattle.family_items.specs.Encloses.{CanEvaluate, IsSmallItem, no_item}
use Rattle.family_items.specs.Profile.{families_of}
use Rattle.availability.specs.Exact.{base_at}
use Rattle.case_figures.specs.declared.figures.BaseLine.{BaseLine}
use Rattle.case_figures.specs.declared.compact.CompactItem.{CompactItem}
use Rattle.case_figures.specs.Compact.{compact_of}
use Rattle.case_figures.specs.Spans.{span_of}

-- the item's pair is in the case, and none of its ends is above 256
pub record IsItemOf (f : ℕ) (c : CaseRows) (x : Item f) : Type 0 where
  pub part : x.part.0 < length c.parts
  pub site : x.site.0 < length c.sites
  pub most : IsSmallItem f x

-- these are the evaluations of a case's families at some stocks
pub record AreEvaluated (f : ℕ) (c : CaseRows) (families : List (FamilyResult f)) : Type 0 where
  pub stocks : StockList
  pub can : CanEvaluate f c stocks
  pub are : families ≡ families_of f c stocks

-- a family has the items of a line unit first, by site
pub record IsFamilyOf (f : ℕ) (c : CaseRows) (r : FamilyResult f) : Type 0 where
  pub items : All (IsItemOf f c) r.items
  pub enough : length c.sites ≤ length r.items
  pub lines : (k : ℕ) → k < length c.sites → is_line (part_at c.parts (get_or r.items k (no_item f)).part.0) ≡ true
  pub total_most : r.total.hi ≤ 384000 * 2 ^ f

-- each item at the place of its pair; a later item of the same pair replaces an earlier one
module _ {f : ℕ} (c : CaseRows) where
  -- the place of an item's pair, by part and then by site
  abbrev pub item_place : Item f → ℕ
  item_place x = pair_place (length c.sites) x.part.0 x.site.0

  -- the places after the items are written to them in turn
  abbrev pub placed : List (Item f) → List (Item f) → List (Item f)
  placed places items = fold (λ places x. slice_set places (item_place x) x) places items

  -- the items of all families, by pair
  abbrev pub items_by_pair : List (FamilyResult f) → List (Item f)
  items_by_pair families = placed (replicate (pair_count (frame_rows c)) (no_item f)) (flat_map (λ r. r.items) families)

  -- the same for compact items
  abbrev pub placed_compact : List CompactItem → List (Item f) → List CompactItem
  placed_compact places items = fold (λ places x. slice_set places (item_place x) (compact_of x)) places items

  -- the compact items of all families, by pair
  abbrev pub compact_by_pair : List (FamilyResult f) → List CompactItem
  compact_by_pair families =
      placed_compact (replicate (pair_count (frame_rows c)) (compact_of (no_item f))) (flat_map (λ r. r.items) families)

-- the availability factor of a family's line unit at base j
abbrev pub factor_from : (f : ℕ) → CaseRows → ℕ → FamilyResult f → Ends
factor_from f c j r =
    let x = get_or r.items j (no_item f) in
    factor_ends f x.backorders (systems c j) (per_system c x.part.0)

-- base j with the availability from all families
abbrev pub weighted_from : (f : ℕ) → CaseRows → List (FamilyResult f) → ℕ → Weighted f
weighted_from f c families j = record { systems = systems c j; value = base_ends f (map (factor_from f c j) families) }

-- the line of base j; the bases are listed from 1 on
abbrev pub base_line_from : (f : ℕ) → CaseRows → List (Weighted f) → ℕ → BaseLine
base_line_from f c weighted j = record {
  site = (site_at c.sites j).name;
  availability = span_of f (base_at weighted (j - 1)).value;
}
