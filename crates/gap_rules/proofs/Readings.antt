-- What is read as leaves is the preorder of a lawful tree.
use Rattle.std.proofs.Common.{◌≡◌, ℕ, true, List, [], ◌∷◌, ◌++◌, Option, Some, None, refl, sym, ap, ◌∙◌, append_assoc}
use Rattle.std.specs.Prelude.{if◌then◌else◌}
use Rattle.std.specs.Option.{option_map}
use Rattle.std.proofs.lemmas.List.{append-nil}
use Rattle.family_points.specs.declared.bounds.Bounds.{Bounds}
use Rattle.price_certificate.specs.declared.certificate.Node.{Node}
use Rattle.price_certificate.specs.declared.certificate.Node.TheVariants.{Split, Cost, Whole}
use Rattle.gap_rules.specs.declared.leaf.Leaf.{Leaf}
use Rattle.gap_rules.specs.declared.leaf.Leaf.TheVariants as leaf
use Rattle.gap_rules.specs.Covers.{leaves, fewer, as_many, has_parts}
use Rattle.price_certificate.specs.Covers as cover
use Rattle.price_certificate.specs.Covers.{Tree, nodes_of}
use Rattle.gap_rules.specs.Trees.{HasBothParts, leaves_of, IsTreeOf, TreesAreRead, OnlyTreesAreRead}
use Rattle.gap_rules.proofs.Trees.{IsCons, cons_of, then_of}

front_twice : (xs ys : List Leaf) (o : Option (List Leaf)) → option_map (λ ls. xs ++ ls) (option_map (λ ls. ys ++ ls) o) ≡ option_map (λ ls. (xs ++ ys) ++ ls) o
front_twice xs ys None = refl
front_twice xs ys (Some ls) = ap (λ z. Some z) (sym (append_assoc xs ys ls))

read_then : (tree : Tree) (box : Bounds) (rest : List Node) (boxes : List Bounds) → HasBothParts tree box → leaves (nodes_of tree ++ rest) (box ∷ boxes) ≡ option_map (λ ls. leaves_of tree box ++ ls) (leaves rest boxes)
unfolding leaves HasBothParts leaves_of
read_then cover.Cost box rest boxes h = refl
read_then cover.Whole box rest boxes h = refl
read_then (cover.Cut at from one other) box rest boxes h =
    ap (λ t. if t then leaves ((nodes_of one ++ nodes_of other) ++ rest) (fewer box at from ∷ as_many box at from ∷ boxes) else None) h.0
    ∙ ap (λ z. leaves z (fewer box at from ∷ as_many box at from ∷ boxes)) (assoc (nodes_of one) (nodes_of other) rest)
    ∙ read_then one (fewer box at from) (nodes_of other ++ rest) (as_many box at from ∷ boxes) h.1
    ∙ ap (λ z. option_map (λ ls. leaves_of one (fewer box at from) ++ ls) z) (read_then other (as_many box at from) rest boxes h.2)
    ∙ front_twice (leaves_of one (fewer box at from)) (leaves_of other (as_many box at from)) (leaves rest boxes)
  where
    assoc : (xs ys zs : List Node) → (xs ++ ys) ++ zs ≡ xs ++ (ys ++ zs)
    assoc xs ys zs = append_assoc xs ys zs

-- the nodes of a tree are read as the leaves of that tree
pub trees_are_read : TreesAreRead
unfolding leaves
trees_are_read tree box h =
    ap (λ z. leaves z (box ∷ [])) (sym (append-nil (nodes_of tree))) ∙ read_then tree box [] [] h ∙ ap (λ z. Some z) (append-nil (leaves_of tree box))

-- a tree for each of the boxes that wait, one after the other
abbrev Grows : List Bounds → List Node → List Leaf → Type 0
Grows [] nodes ls = (nodes ≡ []) × (ls ≡ [])
Grows (box ∷ boxes) nodes ls =
    (tree : Tree) × (rest : List Node) × (more : List Leaf) × HasBothParts tree box × (nodes ≡ nodes_of tree ++ rest) × (ls ≡ leaves_of tree box ++ more) × Grows boxes rest more

leaf_grows : (x : Leaf) (node : Node) (tree : Tree) (box : Bounds) (boxes : List Bounds) (nodes : List Node) (ls : List Leaf) (o : Option (List Leaf)) → HasBothParts tree box → nodes_of tree ≡ node ∷ [] → leaves_of tree box ≡ x ∷ []
    → option_map (λ r. x ∷ r) o ≡ Some ls → ((rest : List Leaf) → o ≡ Some rest → Grows boxes nodes rest) → Grows (box ∷ boxes) (node ∷ nodes) ls
leaf_grows x node tree box boxes nodes ls o lawful p q h further =
    let r : IsCons x o ls = cons_of x o ls h in
    (tree, nodes, r.rest, lawful, sym (ap (λ z. z ++ nodes) p), r.is ∙ sym (ap (λ z. z ++ r.rest) q), further r.rest r.some)

split_grows : (at from : ℕ) (box : Bounds) (boxes : List Bounds) (nodes : List Node) (ls : List Leaf) → has_parts box at from ≡ true → Grows (fewer box at from ∷ as_many box at from ∷ boxes) nodes ls → Grows (box ∷ boxes) (Split at from ∷ nodes) ls
unfolding HasBothParts leaves_of
split_grows at from box boxes nodes ls h g =
    let k = g.6 in (
      cover.Cut at from g.0 k.0,
      k.1,
      k.2,
      (h, g.3, k.3),
      ap (λ z. Split at from ∷ z) (g.4 ∙ ap (λ z. nodes_of g.0 ++ z) k.4 ∙ back (nodes_of g.0) (nodes_of k.0) k.1),
      g.5 ∙ ap (λ z. leaves_of g.0 (fewer box at from) ++ z) k.5 ∙ back (leaves_of g.0 (fewer box at from)) (leaves_of k.0 (as_many box at from)) k.2,
      k.6,
    )
  where
    back : {A : Type 0} (xs ys zs : List A) → xs ++ (ys ++ zs) ≡ (xs ++ ys) ++ zs
    back xs ys zs = sym (append_assoc xs ys zs)

grows : (nodes : List Node) (boxes : List Bounds) (ls : List Leaf) → leaves nodes boxes ≡ Some ls → Grows boxes nodes ls
unfolding leaves HasBothParts leaves_of
grows [] [] ls h = (refl, nothing ls h)
  where
    nothing : (ls : List Leaf) → Some [] ≡ Some ls → ls ≡ []
    nothing ls h = (cc)
grows [] (box ∷ boxes) ls h = absurd (cc)
grows (node ∷ nodes) [] ls h = absurd (cc)
grows (Split at from ∷ nodes) (box ∷ boxes) ls h =
    let t = then_of (has_parts box at from) (leaves nodes (fewer box at from ∷ as_many box at from ∷ boxes)) ls h in
    split_grows at from box boxes nodes ls t.0 (grows nodes (fewer box at from ∷ as_many box at from ∷ boxes) ls t.1)
grows (Cost ∷ nodes) (box ∷ boxes) ls h = leaf_grows (leaf.Cost box) Cost cover.Cost box boxes nodes ls (leaves nodes boxes) tt refl refl h (λ rest e. grows nodes boxes rest e)
grows (Whole ∷ nodes) (box ∷ boxes) ls h = leaf_grows (leaf.Whole box) Whole cover.Whole box boxes nodes ls (leaves nodes boxes) tt refl refl h (λ rest e. grows nodes boxes rest e)

one_tree : (nodes : List Node) (box : Bounds) (ls : List Leaf) → Grows (box ∷ []) nodes ls → IsTreeOf nodes box ls
one_tree nodes box ls g = record {
  tree = g.0;
  lawful = g.3;
  nodes_are = g.4 ∙ ap (λ z. nodes_of g.0 ++ z) g.6.0 ∙ append-nil (nodes_of g.0);
  leaves_are = g.5 ∙ ap (λ z. leaves_of g.0 box ++ z) g.6.1 ∙ append-nil (leaves_of g.0 box);
}

-- what is read as leaves is a tree of them
pub only_trees_are_read : OnlyTreesAreRead
only_trees_are_read nodes box ls h = one_tree nodes box ls (grows nodes (box ∷ []) ls h)
