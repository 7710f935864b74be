-- How the tables of a cover are counted, node by node.
use Rattle.std.proofs.Common.{◌≡◌, ℕ, zero, suc, ◌+◌, ◌<◌, ◌≤◌, min, List, [], ◌∷◌, ◌++◌, inl, inr, subst, length, drop, get_or, reverse, Option, Some, None, refl, sym, ap, ◌∙◌, arith, zero-add}
use Rattle.std.specs.Option.{option_map}
use Rattle.std.proofs.lemmas.List.Sums.{sum_by-cons}
use Rattle.std.proofs.lemmas.List.{length-reverse, drop_all}
use Rattle.answers.specs.Counts.{count64}
use Rattle.spares_input.specs.Cases.{CaseRows}
use Rattle.family_points.specs.declared.bounds.Bounds.{Bounds}
use Rattle.price_certificate.specs.declared.certificate.Node.{Node}
use Rattle.price_certificate.specs.declared.certificate.Node.TheVariants.{Split}
use Rattle.gap_rules.specs.declared.leaf.Leaf.{Leaf}
use Rattle.gap_rules.specs.declared.reading.Read.{Read}
use Rattle.gap_rules.specs.declared.reading.Read.TheVariants as read
use Rattle.gap_rules.specs.Boxes.{IsOrdered}
use Rattle.gap_rules.specs.Covers.{leaves, box_of}
use Rattle.gap_rules.specs.Values.{leaf_tables, cover_tables}
use Rattle.gap_rules.specs.Reading.{joined, Reads, AllOrdered, IsOrderedRead, KeepsOrder}

-- the tables counted so far and those of the leaves to come
abbrev pub with_more : CaseRows → ℕ → ℕ → Option (List Leaf) → Option ℕ
with_more c l n o = option_map (λ ls. count64 (n + cover_tables c l ls)) o

-- what is counted when k nodes have been read
pub record Counted (c : CaseRows) (l : ℕ) (bounds : Bounds) (nodes : List Node) (k : ℕ) (waiting : List Bounds) (tables : ℕ) : Type 0 where
  pub counts : with_more c l tables (leaves (drop k nodes) (reverse waiting)) ≡ with_more c l 0 (leaves nodes (bounds ∷ []))
  pub ordered : AllOrdered c l waiting
  pub small : tables ≤ 18446744073709551615

pub next_node : (nodes : List Node) (k : ℕ) → k < length nodes → drop k nodes ≡ get_or nodes k (Split 0 0) ∷ drop (k + 1) nodes
next_node [] k h = absurd (omega arith)
next_node (x ∷ nodes) zero h = refl
next_node (x ∷ nodes) (suc k) h = rw (one k) (next_node nodes k (omega arith))
  where
    one : (k : ℕ) → suc k + 1 ≡ suc (k + 1)
    one k = omega arith

-- the leaves of what is left, when a node has been read
pub advance : (nodes : List Node) (k : ℕ) (before after : List Bounds) (r : Read) → k < length nodes → Reads before (get_or nodes k (Split 0 0)) r after
    → leaves (drop k nodes) (reverse before) ≡ joined r (leaves (drop (k + 1) nodes) (reverse after))
advance nodes k before after r h reads = ap (λ z. leaves z (reverse before)) (next_node nodes k h) ∙ reads (drop (k + 1) nodes)

pub left_over : (waiting : List Bounds) → 0 < length waiting → leaves [] waiting ≡ None
unfolding leaves
left_over [] h = absurd (omega arith)
left_over (x ∷ xs) h = refl

module _ (c : CaseRows) (l : ℕ) where
  cap_step : (t lt s : ℕ) → min (min (t + min lt 18446744073709551615) 18446744073709551615 + s) 18446744073709551615 ≡ min (t + (lt + s)) 18446744073709551615
  cap_step t lt s = omega arith

  more_leaf : (x : Leaf) (t now : ℕ) (o : Option (List Leaf)) → now ≡ min (t + count64 (leaf_tables c l x)) 18446744073709551615 → with_more c l now o ≡ with_more c l t (option_map (λ ls. x ∷ ls) o)
  more_leaf x t now None h = refl
  more_leaf x t now (Some ls) h =
      ap (λ z. Some (count64 (z + cover_tables c l ls))) h
      ∙ ap (λ z. Some z) (cap_step t (leaf_tables c l x) (cover_tables c l ls))
      ∙ ap (λ z. Some (count64 (t + z))) (sym (sum_by-cons (leaf_tables c l) x ls))

  one_ordered : (bounds : Bounds) → IsOrdered c l bounds → AllOrdered c l (bounds ∷ [])
  one_ordered bounds h box m = elim m [
    | inl e ↦ subst (λ z. IsOrdered c l z) (sym e) h
    | inr n ↦ absurd n
  ]

  -- before the first node the box alone waits
  pub counted_start : (bounds : Bounds) (nodes : List Node) (none waiting : List Bounds) → none ≡ [] → waiting ≡ none ++ bounds ∷ [] → IsOrdered c l bounds → Counted c l bounds nodes 0 waiting 0
  counted_start bounds nodes none waiting e f h =
      let all : waiting ≡ bounds ∷ [] = f ∙ ap (λ z. z ++ bounds ∷ []) e in
      record {
        counts = ap (λ z. with_more c l 0 (leaves nodes (reverse z))) all;
        ordered = subst (λ z. AllOrdered c l z) (sym all) (one_ordered bounds h);
        small = omega arith;
      }

  -- the box of a leaf that is read is ordered
  pub leaf_ordered : (before after : List Bounds) (r : Read) (x : Leaf) → AllOrdered c l before → KeepsOrder before r after → r ≡ read.Leaf x → IsOrdered c l (box_of x)
  leaf_ordered before after r x all keeps e = subst (λ z. IsOrderedRead c l z) e (keeps c l all).1

  -- a node that makes no leaf leaves the count as it was
  pub counted_inner : (bounds : Bounds) (nodes : List Node) (k : ℕ) (before after : List Bounds) (r : Read) (t now : ℕ) → Counted c l bounds nodes k before t → k < length nodes
      → Reads before (get_or nodes k (Split 0 0)) r after → KeepsOrder before r after → r ≡ read.Inner → now ≡ t → Counted c l bounds nodes (k + 1) after now
  counted_inner bounds nodes k before after r t now h b reads keeps e f = record {
    counts = ap (λ z. with_more c l z (leaves (drop (k + 1) nodes) (reverse after))) f
        ∙ sym (ap (λ z. with_more c l t z) (advance nodes k before after r b reads ∙ ap (λ z. joined z (leaves (drop (k + 1) nodes) (reverse after))) e))
        ∙ h.counts;
    ordered = (keeps c l h.ordered).0;
    small = (let s = h.small in omega (arith, s, f));
  }

  -- a node that makes a leaf adds this leaf's tables, to at most 2^64 - 1
  pub counted_leaf : (bounds : Bounds) (nodes : List Node) (k : ℕ) (before after : List Bounds) (r : Read) (x : Leaf) (t lt sum now : ℕ) → Counted c l bounds nodes k before t → k < length nodes
      → Reads before (get_or nodes k (Split 0 0)) r after → KeepsOrder before r after → r ≡ read.Leaf x → now ≡ sum → lt ≡ count64 (leaf_tables c l x) → sum ≡ min (t + lt) 18446744073709551615
      → Counted c l bounds nodes (k + 1) after now
  counted_leaf bounds nodes k before after r x t lt sum now h b reads keeps e f g i = record {
    counts = more_leaf x t now (leaves (drop (k + 1) nodes) (reverse after)) (f ∙ i ∙ ap (λ z. min (t + z) 18446744073709551615) g)
        ∙ sym (ap (λ z. with_more c l t z) (advance nodes k before after r b reads ∙ ap (λ z. joined z (leaves (drop (k + 1) nodes) (reverse after))) e))
        ∙ h.counts;
    ordered = (keeps c l h.ordered).0;
    small = omega (arith, f, i);
  }

  from_zero : (o : Option (List Leaf)) → with_more c l 0 o ≡ option_map (λ ls. count64 (cover_tables c l ls)) o
  from_zero None = refl
  from_zero (Some ls) = ap (λ z. Some (count64 z)) (zero-add (cover_tables c l ls))

  -- where a gap is read, the nodes are no tree
  pub counted_gap : (bounds : Bounds) (nodes : List Node) (k : ℕ) (before after : List Bounds) (r : Read) (t : ℕ) → Counted c l bounds nodes k before t → k < length nodes
      → Reads before (get_or nodes k (Split 0 0)) r after → r ≡ read.Gap → None ≡ option_map (λ ls. count64 (cover_tables c l ls)) (leaves nodes (bounds ∷ []))
  counted_gap bounds nodes k before after r t h b reads e =
      sym (ap (λ z. with_more c l t z) (advance nodes k before after r b reads ∙ ap (λ z. joined z (leaves (drop (k + 1) nodes) (reverse after))) e))
      ∙ h.counts ∙ from_zero (leaves nodes (bounds ∷ []))

  at_cap : (t : ℕ) → t ≤ 18446744073709551615 → t ≡ min (t + 0) 18446744073709551615
  at_cap t h = omega arith

  all_read : (waiting : List Bounds) (t : ℕ) → length waiting ≡ 0 → t ≤ 18446744073709551615 → Some t ≡ with_more c l t (leaves [] (reverse waiting))
  unfolding leaves
  all_read [] t e h = ap (λ z. Some z) (at_cap t h)
  all_read (x ∷ xs) t e h = absurd (let l : suc (length xs) ≡ 0 = e in omega arith)

  -- where no box waits behind the last node, the tables of all leaves have been counted
  pub counted_end : (bounds : Bounds) (nodes : List Node) (k : ℕ) (waiting : List Bounds) (t : ℕ) → Counted c l bounds nodes k waiting t → length nodes ≤ k → length waiting ≡ 0
      → Some t ≡ option_map (λ ls. count64 (cover_tables c l ls)) (leaves nodes (bounds ∷ []))
  counted_end bounds nodes k waiting t h b e =
      all_read waiting t e h.small ∙ sym (ap (λ z. with_more c l t (leaves z (reverse waiting))) (drop_all k nodes b)) ∙ h.counts ∙ from_zero (leaves nodes (bounds ∷ []))

  -- where a box waits behind the last node, the nodes are no tree
  pub counted_left : (bounds : Bounds) (nodes : List Node) (k : ℕ) (waiting : List Bounds) (t : ℕ) → Counted c l bounds nodes k waiting t → length nodes ≤ k → 0 < length waiting
      → None ≡ option_map (λ ls. count64 (cover_tables c l ls)) (leaves nodes (bounds ∷ []))
  counted_left bounds nodes k waiting t h b e =
      sym (ap (λ z. with_more c l t z) (left_over (reverse waiting) (omega (arith, length-reverse waiting, e))))
      ∙ sym (ap (λ z. with_more c l t (leaves z (reverse waiting))) (drop_all k nodes b)) ∙ h.counts ∙ from_zero (leaves nodes (bounds ∷ []))
