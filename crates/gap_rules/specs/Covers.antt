-- Covers: the vectors of a family, cut into boxes by a list of nodes.
use Rattle.std.specs.Prelude.{ℕ, ◌-◌, Bool, ◌&&◌, nat_lt, nat_le, List, [], ◌∷◌, get_or, set, Option, Some, None, if◌then◌else◌}
use Rattle.std.specs.Option.{option_map}
use Rattle.family_points.specs.declared.bounds.Bounds.{Bounds}
use Rattle.gap_rules.specs.Boxes.{AtMost}
use Rattle.price_certificate.specs.declared.certificate.Node.{Node}
use Rattle.price_certificate.specs.declared.certificate.Node.TheVariants.{Split, Cost, Whole}
use Rattle.gap_rules.specs.declared.leaf.Leaf.{Leaf}
use Rattle.gap_rules.specs.declared.leaf.Leaf.TheVariants as leaf

-- the part of a box whose vectors have fewer than `from` at this place
abbrev pub fewer : Bounds → ℕ → ℕ → Bounds
fewer box at from = record { held = box.held; low = box.low; high = set box.high at (from - 1) }

-- the part of a box whose vectors have `from` or more at this place
abbrev pub as_many : Bounds → ℕ → ℕ → Bounds
as_many box at from = record { held = box.held; low = set box.low at from; high = box.high }

-- both parts have vectors; past its last place a box has only zeros, and no such parts
abbrev pub has_parts : Bounds → ℕ → ℕ → Bool
has_parts box at from = nat_lt (get_or box.low at 0) from && nat_le from (get_or box.high at 0)

-- The leaves of nodes in preorder, for these waiting boxes, the next one first. None if a split has no parts, if a node
-- has no box, or if a box has no node.
unfoldable pub leaves : List Node → List Bounds → Option (List Leaf)
leaves [] [] = Some []
leaves [] (box ∷ boxes) = None
leaves (node ∷ nodes) [] = None
leaves (Split at from ∷ nodes) (box ∷ boxes) =
    if has_parts box at from then leaves nodes (fewer box at from ∷ as_many box at from ∷ boxes) else None
leaves (Cost ∷ nodes) (box ∷ boxes) = option_map (λ ls. leaf.Cost box ∷ ls) (leaves nodes boxes)
leaves (Whole ∷ nodes) (box ∷ boxes) = option_map (λ ls. leaf.Whole box ∷ ls) (leaves nodes boxes)

-- the box of a leaf
abbrev pub box_of : Leaf → Bounds
box_of (leaf.Cost box) = box
box_of (leaf.Whole box) = box

-- a vector of a box
pub record IsIn (v : List ℕ) (box : Bounds) : Type 0 where
  pub low : AtMost box.low v
  pub high : AtMost v box.high
