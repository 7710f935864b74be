-- What reading one node does.
use Rattle.std.proofs.Common.{◌≡◌, ℕ, suc, ◌-◌, ◌≤◌, inl, inr, Bool, true, false, List, [], ◌∷◌, ◌++◌, length, get_or, set, reverse, Option, Some, None, refl, sym, ap, ◌∙◌, subst, arith}
use Rattle.std.specs.Prelude.{if◌then◌else◌, unwrap_or}
use Rattle.std.specs.Option.{option_map}
use Rattle.std.proofs.lemmas.List.{reverse-append}
use Rattle.hull.specs.Curves.{Among}
use Rattle.hull.proofs.Public.{among_left, among_right, among_either}
use Rattle.spares_input.specs.Cases.{CaseRows}
use Rattle.family_points.specs.declared.bounds.Bounds.{Bounds}
use Rattle.gap_rules.specs.Boxes.{AtMost, IsOrdered}
use Rattle.family_points.specs.Vectors.{limits}
use Rattle.price_certificate.specs.declared.certificate.Node.{Node}
use Rattle.price_certificate.specs.declared.certificate.Node.TheVariants.{Split, Cost, Whole}
use Rattle.gap_rules.specs.declared.leaf.Leaf.TheVariants as leaf
use Rattle.gap_rules.specs.Covers.{leaves, fewer, as_many, has_parts}
use Rattle.gap_rules.specs.Reading.{AllOrdered, parts_at}
use Rattle.gap_rules.proofs.Boxes.{HasParts, parts, at_most_set_high, at_most_set_low, at_most_at}

pub last_first : {A : Type 0} (xs : List A) (x : A) → reverse (xs ++ x ∷ []) ≡ x ∷ reverse xs
last_first xs x = reverse-append xs (x ∷ [])

nothing : {A : Type 0} (xs : List A) → length xs ≡ 0 → [] ≡ xs
nothing [] h = refl
nothing (x ∷ xs) h = absurd (let l : suc (length xs) ≡ 0 = h in omega arith)

none_at : (node : Node) (nodes : List Node) → leaves (node ∷ nodes) [] ≡ None
unfolding leaves
none_at (Split at from) nodes = refl
none_at Cost nodes = refl
none_at Whole nodes = refl

-- a node that no box waits for is no part of a tree
pub reads_nothing : (before : List Bounds) (node : Node) (nodes : List Node) → length before ≡ 0 → leaves (node ∷ nodes) (reverse before) ≡ None
reads_nothing before node nodes h = subst (λ z. leaves (node ∷ nodes) (reverse z) ≡ None) (nothing before h) (none_at node nodes)

-- a node by cost makes a leaf of the box that is next, and the leaves of the others follow
pub reads_cost : (before after : List Bounds) (b : Bounds) (node : Node) (nodes : List Node) → node ≡ Cost → before ≡ after ++ b ∷ []
    → leaves (node ∷ nodes) (reverse before) ≡ option_map (λ ls. leaf.Cost b ∷ ls) (leaves nodes (reverse after))
unfolding leaves
reads_cost before after b node nodes n h =
    ap (λ z. leaves (z ∷ nodes) (reverse before)) n ∙ ap (λ z. leaves (Cost ∷ nodes) (reverse z)) h ∙ ap (λ z. leaves (Cost ∷ nodes) z) (last_first after b)

-- a whole node makes a leaf of the box that is next, and the leaves of the others follow
pub reads_whole : (before after : List Bounds) (b : Bounds) (node : Node) (nodes : List Node) → node ≡ Whole → before ≡ after ++ b ∷ []
    → leaves (node ∷ nodes) (reverse before) ≡ option_map (λ ls. leaf.Whole b ∷ ls) (leaves nodes (reverse after))
unfolding leaves
reads_whole before after b node nodes n h =
    ap (λ z. leaves (z ∷ nodes) (reverse before)) n ∙ ap (λ z. leaves (Whole ∷ nodes) (reverse z)) h ∙ ap (λ z. leaves (Whole ∷ nodes) z) (last_first after b)

split_at : (before after : List Bounds) (b : Bounds) (node : Node) (nodes : List Node) (at from : ℕ) → node ≡ Split at from → before ≡ after ++ b ∷ []
    → leaves (node ∷ nodes) (reverse before) ≡ (if has_parts b at from then leaves nodes (fewer b at from ∷ as_many b at from ∷ reverse after) else None)
unfolding leaves
split_at before after b node nodes at from n h =
    ap (λ z. leaves (z ∷ nodes) (reverse before)) n ∙ ap (λ z. leaves (Split at from ∷ nodes) (reverse z)) h ∙ ap (λ z. leaves (Split at from ∷ nodes) z) (last_first after b)

-- what the two parts are
pub record AreParts (b : Bounds) (at from : ℕ) (one other : Bounds) : Type 0 where
  pub has : has_parts b at from ≡ true
  pub first : one ≡ fewer b at from
  pub second : other ≡ as_many b at from

module _ (b : Bounds) (at from : ℕ) where
  parts_by : (t : Bool) (o : Option (Bounds × Bounds)) (one other : Bounds) → has_parts b at from ≡ t → o ≡ (if t then Some (fewer b at from, as_many b at from) else None)
      → o ≡ Some (one, other) → AreParts b at from one other
  parts_by true o one other e h k = record {
    has = e;
    first = ap (λ (z : Option (Bounds × Bounds)). (unwrap_or z (one, other)).0) (sym k ∙ h);
    second = ap (λ (z : Option (Bounds × Bounds)). (unwrap_or z (one, other)).1) (sym k ∙ h);
  }
  parts_by false o one other e h k = absurd (cc)

  -- the two parts that are answered are those of a box that has such parts
  pub parts_of : (o : Option (Bounds × Bounds)) (one other : Bounds) → o ≡ parts_at b at from → o ≡ Some (one, other) → AreParts b at from one other
  parts_of o one other h k = parts_by (has_parts b at from) o one other refl h k

  none_by : (t : Bool) (o : Option (Bounds × Bounds)) → has_parts b at from ≡ t → o ≡ (if t then Some (fewer b at from, as_many b at from) else None) → o ≡ None → has_parts b at from ≡ false
  none_by true o e h k = absurd (cc)
  none_by false o e h k = e

  -- where no parts are answered, the box has none there
  pub no_parts : (o : Option (Bounds × Bounds)) → o ≡ parts_at b at from → o ≡ None → has_parts b at from ≡ false
  no_parts o h k = none_by (has_parts b at from) o refl h k

-- a split makes no leaf: the two parts of the next box wait in its place
pub reads_split : (before after now : List Bounds) (b one other : Bounds) (node : Node) (nodes : List Node) (at from : ℕ) → node ≡ Split at from → before ≡ after ++ b ∷ [] → AreParts b at from one other
    → now ≡ (after ++ other ∷ []) ++ one ∷ [] → leaves (node ∷ nodes) (reverse before) ≡ leaves nodes (reverse now)
reads_split before after now b one other node nodes at from n h p w =
    split_at before after b node nodes at from n h
    ∙ ap (λ t. if t then leaves nodes (fewer b at from ∷ as_many b at from ∷ reverse after) else None) p.has
    ∙ ap (λ z. leaves nodes (z ∷ as_many b at from ∷ reverse after)) (sym p.first)
    ∙ ap (λ z. leaves nodes (one ∷ z ∷ reverse after)) (sym p.second)
    ∙ ap (λ z. leaves nodes (one ∷ z)) (sym (last_first after other))
    ∙ ap (λ z. leaves nodes z) (sym (last_first (after ++ other ∷ []) one))
    ∙ ap (λ z. leaves nodes (reverse z)) (sym w)

-- a split whose box has no such parts is no part of a tree
pub reads_gap : (before after : List Bounds) (b : Bounds) (node : Node) (nodes : List Node) (at from : ℕ) → node ≡ Split at from → before ≡ after ++ b ∷ [] → has_parts b at from ≡ false
    → leaves (node ∷ nodes) (reverse before) ≡ None
reads_gap before after b node nodes at from n h p =
    split_at before after b node nodes at from n h
    ∙ ap (λ t. if t then leaves nodes (fewer b at from ∷ as_many b at from ∷ reverse after) else None) p

-- ---- order

pub fewer_ordered : (c : CaseRows) (l : ℕ) (b : Bounds) (at from : ℕ) → HasParts b at from → IsOrdered c l b → IsOrdered c l (fewer b at from)
fewer_ordered c l b at from p o =
    let m = p.more in let n = p.most in
    record {
      held_least = o.held_least;
      low_least = at_most_set_high b.low b.high at (from - 1) o.low_least (omega (arith, m));
      within = limited b.high (limits c l) at (from - 1) o.within (omega (arith, n));
    }
  where
    limited : (high limit : List ℕ) (at x : ℕ) → AtMost high limit → x ≤ get_or high at 0 → AtMost (set high at x) limit
    limited high limit at x h k = (let a = at_most_at high limit at h in at_most_set_low high limit at x h (omega (arith, a, k)))

pub as_many_ordered : (c : CaseRows) (l : ℕ) (b : Bounds) (at from : ℕ) → HasParts b at from → IsOrdered c l b → IsOrdered c l (as_many b at from)
as_many_ordered c l b at from p o =
    let m = p.more in let n = p.most in
    let a = at_most_at b.held b.low at o.held_least in
    record {
      held_least = at_most_set_high b.held b.low at from o.held_least (omega (arith, a, m));
      low_least = at_most_set_low b.low b.high at from o.low_least n;
      within = o.within;
    }

-- where all waiting boxes are in order, so are those behind the next one, and it itself
pub popped_ordered : (c : CaseRows) (l : ℕ) (before after : List Bounds) (b : Bounds) → before ≡ after ++ b ∷ [] → AllOrdered c l before → AllOrdered c l after × IsOrdered c l b
popped_ordered c l before after b h all = (
  λ box m. all box (subst (λ z. Among box z) (sym h) (among_left box after (b ∷ []) m)),
  all b (subst (λ z. Among b z) (sym h) (among_right b after (b ∷ []) (inl refl))),
)

-- where all waiting boxes are in order, they are with the next one's two parts in its place
pub split_ordered : (c : CaseRows) (l : ℕ) (before after now : List Bounds) (b one other : Bounds) (at from : ℕ) → before ≡ after ++ b ∷ [] → AreParts b at from one other
    → now ≡ (after ++ other ∷ []) ++ one ∷ [] → AllOrdered c l before → AllOrdered c l now
split_ordered c l before after now b one other at from h p w all box m =
    let o = popped_ordered c l before after b h all in
    let q : HasParts b at from = parts b at from p.has in
    elim (among_either box (after ++ other ∷ []) (one ∷ []) (subst (λ z. Among box z) w m)) [
      | inl i ↦ (elim (among_either box after (other ∷ []) i) [
        | inl j ↦ o.0 box j
        | inr j ↦ subst (λ z. IsOrdered c l z) (sym (same j)) (subst (λ z. IsOrdered c l z) (sym p.second) (as_many_ordered c l b at from q o.1))
      ])
      | inr i ↦ subst (λ z. IsOrdered c l z) (sym (alone i)) (subst (λ z. IsOrdered c l z) (sym p.first) (fewer_ordered c l b at from q o.1))
    ]
  where
    same : Among box (other ∷ []) → box ≡ other
    same h = elim h [ inl e ↦ e | inr x ↦ absurd x ]

    alone : Among box (one ∷ []) → box ≡ one
    alone h = elim h [ inl e ↦ e | inr x ↦ absurd x ]
