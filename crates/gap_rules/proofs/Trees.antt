-- The leaves of a tree cover its box, and are apart.
use Rattle.std.proofs.Common.{◌≡◌, ℕ, inl, inr, Bool, true, false, List, [], ◌∷◌, map, Option, Some, None, refl, sym, ap, ◌∙◌, subst}
use Rattle.std.specs.Prelude.{if◌then◌else◌}
use Rattle.std.specs.Option.{option_map}
use Rattle.hull.specs.Curves.{Among}
use Rattle.family_points.specs.declared.bounds.Bounds.{Bounds}
use Rattle.price_certificate.specs.declared.certificate.Node.{Node}
use Rattle.price_certificate.specs.declared.certificate.Node.TheVariants.{Split, Cost, Whole}
use Rattle.gap_rules.specs.declared.leaf.Leaf.{Leaf}
use Rattle.gap_rules.specs.declared.leaf.Leaf.TheVariants as leaf
use Rattle.gap_rules.specs.Covers.{leaves, fewer, as_many, has_parts, box_of, IsIn}
use Rattle.gap_rules.specs.Laws.{AreApart}
use Rattle.gap_rules.proofs.Boxes.{HasParts, parts, split_in, split_apart, fewer_in, as_many_in}

-- a leaf that has the vector, with what is held there
pub record Finds (ls : List Leaf) (v had : List ℕ) : Type 0 where
  pub leaf : Leaf
  pub among : Among leaf ls
  pub inside : IsIn v (box_of leaf)
  pub held : (box_of leaf).held ≡ had

-- the leaves are x and then those of the rest, which are some
pub record IsCons (x : Leaf) (o : Option (List Leaf)) (ls : List Leaf) : Type 0 where
  pub rest : List Leaf
  pub some : o ≡ Some rest
  pub is : ls ≡ x ∷ rest

-- leaves that begin with a made leaf have the rest behind it
pub cons_of : (x : Leaf) (o : Option (List Leaf)) (ls : List Leaf) → option_map (λ r. x ∷ r) o ≡ Some ls → IsCons x o ls
cons_of x None ls h = absurd (cc)
cons_of x (Some rest) ls h = record { rest = rest; some = refl; is = (cc) }

-- where something is answered under a test, the test held and that is the answer
pub then_of : (t : Bool) (o : Option (List Leaf)) (ls : List Leaf) → (if t then o else None) ≡ Some ls → (t ≡ true) × (o ≡ Some ls)
then_of true o ls h = (refl, h)
then_of false o ls h = absurd (cc)

leaf_step : (x : Leaf) (box : Bounds) (boxes : List Bounds) (ls : List Leaf) (o : Option (List Leaf)) (v held : List ℕ) (own : Bounds) → box_of x ≡ box → option_map (λ r. x ∷ r) o ≡ Some ls
    → Among own (box ∷ boxes) → IsIn v own → own.held ≡ held → ((rest : List Leaf) → o ≡ Some rest → Among own boxes → Finds rest v held) → Finds ls v held
leaf_step x box boxes ls o v held own e h m i k further =
    let r : IsCons x o ls = cons_of x o ls h in
    subst (λ z. Finds z v held) (sym r.is) (elim m [
      | inl s ↦ record {
        leaf = x;
        among = inl refl;
        inside = subst (λ z. IsIn v z) (sym e) (subst (λ z. IsIn v z) s i);
        held = ap (λ z. z.held) e ∙ ap (λ z. z.held) (sym s) ∙ k;
      }
      | inr n ↦ (let f : Finds r.rest v held = further r.rest r.some n in record { leaf = f.leaf; among = inr f.among; inside = f.inside; held = f.held })
    ])

-- a vector of one of the boxes that wait lies in a leaf
pub finds : (nodes : List Node) (boxes : List Bounds) (ls : List Leaf) (v held : List ℕ) (own : Bounds) → leaves nodes boxes ≡ Some ls → Among own boxes → IsIn v own → own.held ≡ held → Finds ls v held
unfolding leaves
finds [] [] ls v held own h m i k = absurd m
finds [] (box ∷ boxes) ls v held own h m i k = absurd (cc)
finds (node ∷ nodes) [] ls v held own h m i k = absurd m
finds (Split at from ∷ nodes) (box ∷ boxes) ls v held own h m i k =
    let t = then_of (has_parts box at from) (leaves nodes (fewer box at from ∷ as_many box at from ∷ boxes)) ls h in
    let further = λ (other : Bounds) (n : Among other (fewer box at from ∷ as_many box at from ∷ boxes)) (j : IsIn v other) (e : other.held ≡ held). finds nodes (fewer box at from ∷ as_many box at from ∷ boxes) ls v held other t.1 n j e in
    elim m [
      | inl s ↦ (
          let same : box.held ≡ held = ap (λ z. z.held) (sym s) ∙ k in
          elim (split_in box at from v (parts box at from t.0) (subst (λ z. IsIn v z) s i)) [
            | inl j ↦ further (fewer box at from) (inl refl) j same
            | inr j ↦ further (as_many box at from) (inr (inl refl)) j same
          ]
          )
      | inr n ↦ further own (inr (inr n)) i k
    ]
finds (Cost ∷ nodes) (box ∷ boxes) ls v held own h m i k =
    leaf_step (leaf.Cost box) box boxes ls (leaves nodes boxes) v held own refl h m i k (λ rest e n. finds nodes boxes rest v held own e n i k)
finds (Whole ∷ nodes) (box ∷ boxes) ls v held own h m i k =
    leaf_step (leaf.Whole box) box boxes ls (leaves nodes boxes) v held own refl h m i k (λ rest e n. finds nodes boxes rest v held own e n i k)

-- ---- leaves are apart

-- a box that has the vector
record Owner (boxes : List Bounds) (v : List ℕ) : Type 0 where
  box : Bounds
  among : Among box boxes
  inside : IsIn v box

owner_among : (boxes : List Bounds) (v : List ℕ) (box : Bounds) → Owner boxes v → Owner (box ∷ boxes) v
owner_among boxes v box r = record { box = r.box; among = inr r.among; inside = r.inside }

-- a vector of a leaf is one of the boxes that waited
leaf_owner : (x : Leaf) (box : Bounds) (boxes : List Bounds) (ls : List Leaf) (o : Option (List Leaf)) (v : List ℕ) (part : Bounds) → box_of x ≡ box → option_map (λ r. x ∷ r) o ≡ Some ls
    → Among part (map box_of ls) → IsIn v part → ((rest : List Leaf) → o ≡ Some rest → Among part (map box_of rest) → Owner boxes v) → Owner (box ∷ boxes) v
leaf_owner x box boxes ls o v part e h m i further =
    let r : IsCons x o ls = cons_of x o ls h in
    elim (subst (λ z. Among part (map box_of z)) r.is m) [
      | inl s ↦ record { box = box; among = inl refl; inside = subst (λ z. IsIn v z) (s ∙ e) i }
      | inr n ↦ owner_among boxes v box (further r.rest r.some n)
    ]

owner_of : (nodes : List Node) (boxes : List Bounds) (ls : List Leaf) (v : List ℕ) (part : Bounds) → leaves nodes boxes ≡ Some ls → Among part (map box_of ls) → IsIn v part → Owner boxes v
unfolding leaves
owner_of [] [] ls v part h m i = absurd (subst (λ z. Among part (map box_of z)) (none ls h) m)
  where
    none : (ls : List Leaf) → Some [] ≡ Some ls → ls ≡ []
    none ls h = (cc)
owner_of [] (box ∷ boxes) ls v part h m i = absurd (cc)
owner_of (node ∷ nodes) [] ls v part h m i = absurd (cc)
owner_of (Split at from ∷ nodes) (box ∷ boxes) ls v part h m i =
    let t = then_of (has_parts box at from) (leaves nodes (fewer box at from ∷ as_many box at from ∷ boxes)) ls h in
    let p : HasParts box at from = parts box at from t.0 in
    let r : Owner (fewer box at from ∷ as_many box at from ∷ boxes) v = owner_of nodes (fewer box at from ∷ as_many box at from ∷ boxes) ls v part t.1 m i in
    elim r.among [
      | inl s ↦ record { box = box; among = inl refl; inside = fewer_in box at from v p (subst (λ z. IsIn v z) s r.inside) }
      | inr n ↦ (elim n [
        | inl s ↦ record { box = box; among = inl refl; inside = as_many_in box at from v p (subst (λ z. IsIn v z) s r.inside) }
        | inr k ↦ record { box = r.box; among = inr k; inside = r.inside }
      ])
    ]
owner_of (Cost ∷ nodes) (box ∷ boxes) ls v part h m i = leaf_owner (leaf.Cost box) box boxes ls (leaves nodes boxes) v part refl h m i (λ rest e n. owner_of nodes boxes rest v part e n i)
owner_of (Whole ∷ nodes) (box ∷ boxes) ls v part h m i = leaf_owner (leaf.Whole box) box boxes ls (leaves nodes boxes) v part refl h m i (λ rest e n. owner_of nodes boxes rest v part e n i)

leaf_apart : (x : Leaf) (box : Bounds) (boxes : List Bounds) (nodes : List Node) (ls : List Leaf) → box_of x ≡ box → option_map (λ r. x ∷ r) (leaves nodes boxes) ≡ Some ls
    → AreApart (box ∷ boxes) → ((rest : List Leaf) → leaves nodes boxes ≡ Some rest → AreApart (map box_of rest)) → AreApart (map box_of ls)
leaf_apart x box boxes nodes ls e h a further =
    let r : IsCons x (leaves nodes boxes) ls = cons_of x (leaves nodes boxes) ls h in
    subst (λ z. AreApart (map box_of z)) (sym r.is) (
      λ other v m i j. (let w : Owner boxes v = owner_of nodes boxes r.rest v other r.some m j in a.0 w.box v w.among (subst (λ z. IsIn v z) e i) w.inside),
      further r.rest r.some,
    )

parts_apart : (box : Bounds) (at from : ℕ) (boxes : List Bounds) → HasParts box at from → AreApart (box ∷ boxes) → AreApart (fewer box at from ∷ as_many box at from ∷ boxes)
parts_apart box at from boxes p a = (
  λ other v m i j. elim m [
    | inl s ↦ split_apart box at from v p i (subst (λ z. IsIn v z) s j)
    | inr n ↦ a.0 other v n (fewer_in box at from v p i) j
  ],
  (λ other v m i j. a.0 other v m (as_many_in box at from v p i) j, a.1),
)

-- where the waiting boxes share no vector, the leaves read from them share none
pub apart : (nodes : List Node) (boxes : List Bounds) (ls : List Leaf) → leaves nodes boxes ≡ Some ls → AreApart boxes → AreApart (map box_of ls)
unfolding leaves
apart [] [] ls h a = subst (λ z. AreApart (map box_of z)) (none ls h) tt
  where
    none : (ls : List Leaf) → Some [] ≡ Some ls → [] ≡ ls
    none ls h = (cc)
apart [] (box ∷ boxes) ls h a = absurd (cc)
apart (node ∷ nodes) [] ls h a = absurd (cc)
apart (Split at from ∷ nodes) (box ∷ boxes) ls h a =
    let t = then_of (has_parts box at from) (leaves nodes (fewer box at from ∷ as_many box at from ∷ boxes)) ls h in
    apart nodes (fewer box at from ∷ as_many box at from ∷ boxes) ls t.1 (parts_apart box at from boxes (parts box at from t.0) a)
apart (Cost ∷ nodes) (box ∷ boxes) ls h a = leaf_apart (leaf.Cost box) box boxes nodes ls refl h a (λ rest e. apart nodes boxes rest e a.1)
apart (Whole ∷ nodes) (box ∷ boxes) ls h a = leaf_apart (leaf.Whole box) box boxes nodes ls refl h a (λ rest e. apart nodes boxes rest e a.1)
