-- Trees of boxes, as an auditor draws them, and the reading of their nodes in preorder.
use Rattle.std.specs.Prelude.{◌≡◌, true, List, [], ◌∷◌, ◌++◌, Some}
use Rattle.family_points.specs.declared.bounds.Bounds.{Bounds}
use Rattle.price_certificate.specs.declared.certificate.Node.{Node}
use Rattle.price_certificate.specs.Covers as cover
use Rattle.price_certificate.specs.Covers.{Tree, nodes_of}
use Rattle.gap_rules.specs.declared.leaf.Leaf.{Leaf}
use Rattle.gap_rules.specs.declared.leaf.Leaf.TheVariants as leaf
use Rattle.gap_rules.specs.Covers.{leaves, fewer, as_many, has_parts}

-- each split has both of its parts
unfoldable pub HasBothParts : Tree → Bounds → Type 0
HasBothParts cover.Cost box = Unit {0}
HasBothParts cover.Whole box = Unit {0}
HasBothParts (cover.Cut at from one other) box = (has_parts box at from ≡ true) × HasBothParts one (fewer box at from)
    × HasBothParts other (as_many box at from)

-- the leaves of a box's tree, in the same order
unfoldable pub leaves_of : Tree → Bounds → List Leaf
leaves_of cover.Cost box = leaf.Cost box ∷ []
leaves_of cover.Whole box = leaf.Whole box ∷ []
leaves_of (cover.Cut at from one other) box = leaves_of one (fewer box at from) ++ leaves_of other (as_many box at from)

-- the nodes are the preorder of a lawful tree of the box, with these leaves
pub record IsTreeOf (nodes : List Node) (box : Bounds) (ls : List Leaf) : Type 0 where
  pub tree : Tree
  pub lawful : HasBothParts tree box
  pub nodes_are : nodes ≡ nodes_of tree
  pub leaves_are : ls ≡ leaves_of tree box

-- The nodes of a lawful tree are read as its leaves,
abbrev pub TreesAreRead : Type 0
TreesAreRead = (tree : Tree) (box : Bounds) → HasBothParts tree box
    → leaves (nodes_of tree) (box ∷ []) ≡ Some (leaves_of tree box)

-- and no other nodes are read.
abbrev pub OnlyTreesAreRead : Type 0
OnlyTreesAreRead = (nodes : List Node) (box : Bounds) (ls : List Leaf) → leaves nodes (box ∷ []) ≡ Some ls
    → IsTreeOf nodes box ls
