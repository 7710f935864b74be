-- The vectors of a family that are counted. No promise of the crate rests on these words.
use Rattle.std.specs.Prelude.{ℕ, List}
use Rattle.spares_input.specs.Cases.{CaseRows}
use Rattle.spares_input.specs.Stocks.{AreStocksOf}
use Rattle.family_points.specs.declared.bounds.Bounds.{Bounds}
use Rattle.family_points.specs.declared.counts.Rooms.{Rooms}
use Rattle.family_points.specs.declared.counts.Rooms.TheVariants.{Held, Whole, Within}
use Rattle.family_points.specs.Counts.{widths}
use Rattle.family_points.specs.Points.{AreOrdered}
use Rattle.family_points.specs.Vectors.{box_from, limits, site_part, zeros}

-- the bounds of these vectors
abbrev pub bounds_of : CaseRows → ℕ → Rooms → Bounds
bounds_of c l Whole = record { held = zeros c l; low = zeros c l; high = limits c l }
bounds_of c l (Held s) = box_from c l s.now.list
bounds_of c l (Within b) = b.now

-- the held stocks are a list for the case, within its limits; bounds are in order
abbrev pub AreRooms : CaseRows → ℕ → Rooms → Type 0
AreRooms c l Whole = Unit {0}
AreRooms c l (Held s) = AreStocksOf c s.now
AreRooms c l (Within b) = AreOrdered c l b.now.held b.now.low b.now.high

-- the number of stocks that each part of the family can have at site k
abbrev pub widths_at : CaseRows → ℕ → Rooms → ℕ → List ℕ
widths_at c l rooms k = site_part c l (widths (bounds_of c l rooms).low (bounds_of c l rooms).high) k
