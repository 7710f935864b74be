-- How the first low leaf is found, node by node.
use Rattle.std.proofs.Common.{◌≡◌, ℕ, ◌+◌, ◌<◌, ◌≤◌, nat_lt, inl, inr, List, [], ◌∷◌, length, drop, get_or, reverse, Option, Some, None, true, refl, sym, ap, subst, ◌∙◌, arith, lt-ltb, le-ltb}
use Rattle.std.specs.Prelude.{if◌then◌else◌, is_some, unwrap_or}
use Rattle.std.proofs.lemmas.Bool.{cases_lt}
use Rattle.std.proofs.lemmas.List.Sums.{sum_by-cons}
use Rattle.std.proofs.lemmas.List.{drop_all}
use Rattle.spares_input.specs.Cases.{CaseRows}
use Rattle.family_points.specs.declared.bounds.Bounds.{Bounds}
use Rattle.price_certificate.specs.declared.certificate.Node.{Node}
use Rattle.price_certificate.specs.declared.certificate.Node.TheVariants.{Split}
use Rattle.gap_rules.specs.declared.leaf.Leaf.{Leaf}
use Rattle.gap_rules.specs.declared.reading.Read.{Read}
use Rattle.gap_rules.specs.declared.reading.Read.TheVariants as read
use Rattle.gap_rules.specs.Boxes.{IsOrdered}
use Rattle.gap_rules.specs.Covers.{leaves, box_of}
use Rattle.gap_rules.specs.Values.{below, leaf_tables, cover_tables}
use Rattle.gap_rules.specs.Reading.{joined, Reads, AllOrdered, IsOrderedRead, KeepsOrder}
use Rattle.gap_rules.specs.Refusals.{low_leaf}
use Rattle.gap_rules.proofs.Public.{IsCons, cons_of, advance}

-- the leaves of a box's nodes
abbrev pub all_leaves : List Node → Bounds → List Leaf
all_leaves nodes bounds = unwrap_or (leaves nodes (bounds ∷ [])) []

-- when k nodes have been read, the leaves to come are numbered on, and none before them is low
pub record Lowering (c : CaseRows) (l : ℕ) (value : Leaf → ℕ) (floor : ℕ) (bounds : Bounds) (nodes : List Node) (k : ℕ) (waiting : List Bounds) (number : ℕ) : Type 0 where
  pub rest : List Leaf
  pub tree : leaves (drop k nodes) (reverse waiting) ≡ Some rest
  pub low : low_leaf value floor number rest ≡ low_leaf value floor 0 (all_leaves nodes bounds)
  pub work : cover_tables c l rest ≤ 1000000
  pub ordered : AllOrdered c l waiting
  pub few : number ≤ k

-- a value that is told to be below the floor is the value, and is
pub below_some : (floor value worth : ℕ) → Some worth ≡ below floor value → (worth ≡ value) × (worth < floor)
below_some floor value worth e = elim (cases_lt value floor) [
  | inl l ↦ (let s : Some worth ≡ Some value = e ∙ ap (λ t. if t then Some value else None) (lt-ltb value floor l) in
      let w : worth ≡ value = same s in (w, omega (arith, w, l)))
  | inr l ↦ absurd (let s : Some worth ≡ None = e ∙ ap (λ t. if t then Some value else None) (le-ltb value floor l) in none s)
]
  where
    same : {a b : ℕ} → Some a ≡ Some b → a ≡ b
    same h = (cc)

    none : {a : ℕ} → Some a ≡ None → ⊥
    none h = (cc)

-- where none is told it isn't
pub below_none : (floor value : ℕ) → None ≡ below floor value → floor ≤ value
below_none floor value e = elim (cases_lt value floor) [
  | inl l ↦ absurd (let s : None ≡ Some value = e ∙ ap (λ t. if t then Some value else None) (lt-ltb value floor l) in none s)
  | inr l ↦ l
]
  where
    none : {a : ℕ} → None ≡ Some a → ⊥
    none h = (cc)

-- what is told of a value
pub below_is : (floor value : ℕ) → value < floor → Some value ≡ below floor value
below_is floor value l = sym (ap (λ t. if t then Some value else None) (lt-ltb value floor l))

-- a value of at least the floor is not below it
pub below_isnt : (floor value : ℕ) → floor ≤ value → None ≡ below floor value
below_isnt floor value l = sym (ap (λ t. if t then Some value else None) (le-ltb value floor l))

-- leaves that are there
some_leaves : (found : Option (List Leaf)) → is_some found ≡ true → found ≡ Some (unwrap_or found [])
some_leaves (Some x) h = refl
some_leaves None h = absurd cc

-- a box alone is ordered as it is
alone : (c : CaseRows) (l : ℕ) (bounds : Bounds) → IsOrdered c l bounds → AllOrdered c l (bounds ∷ [])
alone c l bounds o box (inl e) = subst (IsOrdered c l) (sym e) o
alone c l bounds o box (inr m) = absurd m

module _ (c : CaseRows) (l : ℕ) (value : Leaf → ℕ) (floor : ℕ) (bounds : Bounds) (nodes : List Node) where
  module _ (k : ℕ) (before after : List Bounds) (r : Read) (number : ℕ) (h : Lowering c l value floor bounds nodes k before number) (b : k < length nodes)
      (reads : Reads before (get_or nodes k (Split 0 0)) r after) (keeps : KeepsOrder before r after) where
    joined_is : joined r (leaves (drop (k + 1) nodes) (reverse after)) ≡ Some h.rest
    joined_is = sym (advance nodes k before after r b reads) ∙ h.tree

    -- the nodes of a tree have no gap
    pub lower_gap : r ≡ read.Gap → None ≡ low_leaf value floor 0 (all_leaves nodes bounds)
    lower_gap e = absurd (none (ap (λ z. joined z (leaves (drop (k + 1) nodes) (reverse after))) (sym e) ∙ joined_is))
      where
        none : {rest : List Leaf} → None ≡ Some rest → ⊥
        none h = (cc)

    -- behind a node that makes no leaf the next leaf has the same number
    pub lower_inner : r ≡ read.Inner → Lowering c l value floor bounds nodes (k + 1) after number
    lower_inner e = record {
      rest = h.rest;
      tree = ap (λ z. joined z (leaves (drop (k + 1) nodes) (reverse after))) (sym e) ∙ joined_is;
      low = h.low;
      work = h.work;
      ordered = (keeps c l h.ordered).0;
      few = (let f = h.few in omega (arith, f));
    }

    module _ (x : Leaf) (e : r ≡ read.Leaf x) where
      own_cons : IsCons x (leaves (drop (k + 1) nodes) (reverse after)) h.rest
      own_cons = cons_of x (leaves (drop (k + 1) nodes) (reverse after)) h.rest (ap (λ z. joined z (leaves (drop (k + 1) nodes) (reverse after))) (sym e) ∙ joined_is)

      tables_split : leaf_tables c l x + cover_tables c l own_cons.rest ≤ 1000000
      tables_split = (let w = h.work in let i = ap (cover_tables c l) own_cons.is ∙ sum_by-cons (leaf_tables c l) x own_cons.rest in omega (arith, w, i))

      -- its box is ordered
      pub leaf_ordered : IsOrdered c l (box_of x)
      leaf_ordered = subst (IsOrderedRead c l) e (keeps c l h.ordered).1

      -- a leaf has no more tables than all work may have
      pub leaf_work : leaf_tables c l x ≤ 1000000
      leaf_work = (let t = tables_split in omega (arith, t))

      own_low : (if nat_lt (value x) floor then Some (number, value x) else low_leaf value floor (number + 1) own_cons.rest) ≡ low_leaf value floor 0 (all_leaves nodes bounds)
      unfolding low_leaf
      own_low = sym (ap (low_leaf value floor number) own_cons.is) ∙ h.low

      -- a leaf below the floor is the first low one of all
      pub lower_found : (worth : ℕ) → worth ≡ value x → worth < floor → Some (number, worth) ≡ low_leaf value floor 0 (all_leaves nodes bounds)
      lower_found worth w less =
          ap (λ z. Some (number, z)) w
          ∙ sym (ap (λ t. if t then Some (number, value x) else low_leaf value floor (number + 1) own_cons.rest) (lt-ltb (value x) floor (omega (arith, w, less))))
          ∙ own_low

      -- a value that is told is that of a leaf below the floor
      pub lower_told : (worth : ℕ) → Some worth ≡ below floor (value x) → Some (number, worth) ≡ low_leaf value floor 0 (all_leaves nodes bounds)
      lower_told worth w = let r = below_some floor (value x) worth w in lower_found worth r.0 r.1

      -- behind a leaf that isn't below the floor the next leaf has the next number
      pub lower_more : (worth : ℕ) → worth ≡ value x → floor ≤ worth → Lowering c l value floor bounds nodes (k + 1) after (number + 1)
      lower_more worth w most = record {
        rest = own_cons.rest;
        tree = own_cons.some;
        low = sym (ap (λ t. if t then Some (number, value x) else low_leaf value floor (number + 1) own_cons.rest) (le-ltb (value x) floor (omega (arith, w, most)))) ∙ own_low;
        work = (let t = tables_split in omega (arith, t));
        ordered = (keeps c l h.ordered).0;
        few = (let f = h.few in omega (arith, f));
      }

      -- behind a leaf of which nothing is told the next leaf has the next number
      pub lower_untold : None ≡ below floor (value x) → Lowering c l value floor bounds nodes (k + 1) after (number + 1)
      lower_untold e = lower_more (value x) refl (below_none floor (value x) e)

  -- before the first node all leaves are to come
  pub lower_start : (waiting : List Bounds) → waiting ≡ bounds ∷ [] → is_some (leaves nodes (bounds ∷ [])) ≡ true → cover_tables c l (all_leaves nodes bounds) ≤ 1000000 → IsOrdered c l bounds
      → Lowering c l value floor bounds nodes 0 waiting 0
  lower_start waiting w t work o = record {
    rest = all_leaves nodes bounds;
    tree = ap (λ z. leaves nodes (reverse z)) w ∙ some_leaves (leaves nodes (bounds ∷ [])) t;
    low = refl;
    work = work;
    ordered = subst (AllOrdered c l) (sym w) (alone c l bounds o);
    few = omega arith;
  }

  none_rest : (waiting : List Bounds) (rest : List Leaf) → leaves [] waiting ≡ Some rest → [] ≡ rest
  unfolding leaves
  none_rest [] rest h = some_inj h
    where
      some_inj : Some [] ≡ Some rest → [] ≡ rest
      some_inj h = (cc)
  none_rest (x ∷ xs) rest h = absurd (cc)

  -- where no leaf was low up to the last node, none is
  pub lower_end : (k : ℕ) (waiting : List Bounds) (number : ℕ) → Lowering c l value floor bounds nodes k waiting number → length nodes ≤ k → None ≡ low_leaf value floor 0 (all_leaves nodes bounds)
  unfolding low_leaf
  lower_end k waiting number h b =
      ap (low_leaf value floor number) (none_rest (reverse waiting) h.rest (sym (ap (λ z. leaves z (reverse waiting)) (drop_all k nodes b)) ∙ h.tree)) ∙ h.low
