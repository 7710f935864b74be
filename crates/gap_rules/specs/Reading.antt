-- The waiting boxes before and after each node; the last box is the next.
use Rattle.std.specs.Prelude.{◌≡◌, ℕ, List, ◌∷◌, reverse, Option, Some, None, if◌then◌else◌}
use Rattle.std.specs.Option.{option_map}
use Rattle.hull.specs.Curves.{Among}
use Rattle.spares_input.specs.Cases.{CaseRows}
use Rattle.family_points.specs.declared.bounds.Bounds.{Bounds}
use Rattle.gap_rules.specs.Boxes.{IsOrdered}
use Rattle.price_certificate.specs.declared.certificate.Node.{Node}
use Rattle.gap_rules.specs.declared.leaf.Leaf.{Leaf}
use Rattle.gap_rules.specs.declared.reading.Read.{Read}
use Rattle.gap_rules.specs.declared.reading.Read.TheVariants as read
use Rattle.gap_rules.specs.Covers.{leaves, box_of, fewer, as_many, has_parts}

-- the two parts of a box, if both have vectors
abbrev pub parts_at : Bounds → ℕ → ℕ → Option (Bounds × Bounds)
parts_at box at from = if has_parts box at from then Some (fewer box at from, as_many box at from) else None

-- the leaves of a node and of the nodes after it, from the latter
abbrev pub joined : Read → Option (List Leaf) → Option (List Leaf)
joined read.Gap rest = None
joined read.Inner rest = rest
joined (read.Leaf x) rest = option_map (λ ls. x ∷ ls) rest

-- reading the node changes the waiting boxes from `before` to `after`, and its kind is a leaf, a gap or a split
abbrev pub Reads : List Bounds → Node → Read → List Bounds → Type 0
Reads before node read after = (nodes : List Node)
    → leaves (node ∷ nodes) (reverse before) ≡ joined read (leaves nodes (reverse after))

-- all boxes are ordered: from the held stocks on and within the limits
abbrev pub AllOrdered : CaseRows → ℕ → List Bounds → Type 0
AllOrdered c l boxes = (box : Bounds) → Among box boxes → IsOrdered c l box

-- the box of a leaf is ordered
abbrev pub IsOrderedRead : CaseRows → ℕ → Read → Type 0
IsOrderedRead c l (read.Leaf x) = IsOrdered c l (box_of x)
IsOrderedRead c l read.Inner = Unit {0}
IsOrderedRead c l read.Gap = Unit {0}

-- if the waiting boxes are ordered before a node, so are the boxes after it and the box of its leaf
abbrev pub KeepsOrder : List Bounds → Read → List Bounds → Type 0
KeepsOrder before read after = (c : CaseRows) (l : ℕ) → AllOrdered c l before → AllOrdered c l after
    × IsOrderedRead c l read
