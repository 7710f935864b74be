-- Laws of the choice of curves of which only parts are known.
use Rattle.std.specs.Prelude.{◌≡◌, ℕ, ◌+◌, List, Some, slice_index}
use Rattle.hull.specs.declared.point.Point.{Point}
use Rattle.hull.specs.declared.price.Price.{Price}
use Rattle.step_walk.specs.Prefix.{HaveShapes, IsNext, IsPrefix, picked}
use Rattle.marginal_alloc.specs.declared.allocation.Chosen.{Chosen}
use Rattle.marginal_alloc.specs.Choice.{AreCurves, IsHullChoice}
use Rattle.curve_parts.specs.Cuts.{IsWindow}
use Rattle.choice_parts.specs.Parts.{AreFamilies, AreParts, ArePartsOf, IsNextOfAll, shifted}

-- a prefix of the parts' steps is one of all steps, with those before the parts
abbrev pub PartsHavePrefixes : Type 0
PartsHavePrefixes = (low high : Price) (curves parts : List (List Point)) (froms picks : List ℕ)
    → AreParts low high curves parts froms → IsPrefix parts picks → IsPrefix curves (shifted froms picks)

-- the next step of the parts is the next one of all
abbrev pub PartsHaveNext : Type 0
PartsHaveNext = (low high : Price) (curves parts : List (List Point)) (froms picks : List ℕ) (f : ℕ)
    → AreParts low high curves parts froms → IsPrefix parts picks → IsNext parts picks f
    → IsNextOfAll curves parts froms picks f

-- the vertices at the picks are the same, and so what they cost
abbrev pub PartsHavePicks : Type 0
PartsHavePicks = (low high : Price) (curves parts : List (List Point)) (froms picks : List ℕ)
    → AreParts low high curves parts froms → IsPrefix parts picks
    → picked curves (shifted froms picks) ≡ picked parts picks

-- a choice that stops at a critical step
abbrev pub stopped : List ℕ → ℕ → Price → ℕ → ℕ → Chosen
stopped picks cost price f k = record {
  picks = picks;
  cost = cost;
  price = price;
  critical = Some (record { family = f; vertex = k });
}

-- The hull choice of parts that stops at a critical step of theirs is that of the curves.
abbrev pub PartsChoose : Type 0
PartsChoose = (low high : Price) (curves parts : List (List Point)) (froms : List ℕ) (budget : ℕ) (picks : List ℕ)
    (cost : ℕ) (price : Price) (f k : ℕ) → AreParts low high curves parts froms
    → IsHullChoice parts budget (stopped picks cost price f k)
    → IsHullChoice curves budget (stopped (shifted froms picks) cost price f (slice_index froms f + k))

-- All families have curves, which are in shape.
abbrev pub CurvesExist : Type 0
CurvesExist = (families : List (List Point)) → AreFamilies families
    → (curves : List (List Point)) × AreCurves families curves × HaveShapes curves

-- Parts of families are parts of their curves.
abbrev pub PartsAreOfCurves : Type 0
PartsAreOfCurves = (low high : Price) (families curves parts : List (List Point)) → AreFamilies families
    → IsWindow low high → ArePartsOf low high families parts → AreCurves families curves
    → (froms : List ℕ) × AreParts low high curves parts froms
