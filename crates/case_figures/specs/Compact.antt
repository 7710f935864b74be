-- The compact items of a report, and their lines.
use Rattle.std.specs.Prelude.{ℕ, ◌<◌, List, [], length, get_or, All}
use Rattle.fixed_interval.specs.Widths.{IsWidth}
use Rattle.family_items.specs.declared.item.Item.{Item}
use Rattle.case_figures.specs.Spans.{span_of}
use Rattle.case_figures.specs.declared.compact.CompactItem.{CompactItem}
use Rattle.case_figures.specs.declared.figures.ItemLine.{ItemLine}

-- the compact form of an item
abbrev pub compact_of : {f : ℕ} → Item f → CompactItem
compact_of x = record {
  part = x.part;
  site = x.site;
  stock = x.stock;
  mean = x.mean;
  variance = x.variance;
  backorders = x.backorders;
  spread = x.spread;
}

-- the line of an item with these names of its part and its site, and f binary places
abbrev pub compact_line : List ℕ → List ℕ → ℕ → CompactItem → ItemLine
compact_line part site f x = record {
  part = part;
  site = site;
  stock = x.stock;
  mean = span_of f x.mean;
  variance = span_of f x.variance;
  backorders = span_of f x.backorders;
  spread = span_of f x.spread;
}

-- the line of an item with its names from these lists of all parts and sites
abbrev pub line_under : List (List ℕ) → List (List ℕ) → ℕ → CompactItem → ItemLine
line_under parts sites f x = compact_line (get_or parts x.part.0 []) (get_or sites x.site.0 []) f x

-- the item's part and site have names
pub record IsNamedPair (parts sites : List (List ℕ)) (x : CompactItem) : Type 0 where
  pub part : x.part.0 < length parts
  pub site : x.site.0 < length sites

-- items with f binary places, whose parts and sites have names
pub record AreNamed (f : ℕ) (parts sites : List (List ℕ)) (xs : List CompactItem) : Type 0 where
  pub width : IsWidth f
  pub pairs : All (IsNamedPair parts sites) xs
