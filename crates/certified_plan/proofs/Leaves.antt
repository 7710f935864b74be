-- The leaves of a trimmed cover: none is below the floor, and together they take no more tables than the whole family.
use Rattle.std.proofs.Common.{◌≡◌, ℕ, suc, ◌+◌, ◌-◌, ◌*◌, ◌<◌, ◌≤◌, inl, inr, List, [], ◌∷◌, length, get_or, set, None, refl, sym, ap, ◌∙◌, subst, arith, le-ltb}
use Rattle.std.proofs.lemmas.List.{ext_get_or}
use Rattle.std.proofs.lemmas.List.Sums.{sum_by-cons, sum_by-append}
use Rattle.hull.specs.declared.point.Point.{Point}
use Rattle.hull.specs.declared.price.Price.{Price}
use Rattle.hull.specs.Curves.{lagrangian, Among}
use Rattle.hull.proofs.Public.{among_either, among_map, Mapped, among_mapped}
use Rattle.spares_input.specs.Cases.{CaseRows}
use Rattle.family_points.specs.declared.bounds.Bounds.{Bounds}
use Rattle.family_points.specs.Vectors.{places, limits, vectors}
use Rattle.family_points.specs.Points.{ScoreEnds, added_cost, point_at_vector, points_within}
use Rattle.family_points.specs.Counts.{tables_between}
use Rattle.price_certificate.specs.declared.place.Place.{Place}
use Rattle.price_certificate.specs.Covers as cover
use Rattle.price_certificate.specs.Covers.{Tree, Corner, put, corner_of_held, most_at, added, places_of, AllCostLeaves, AllWholeLeaves}
use Rattle.gap_rules.specs.Boxes.{AtMost}
use Rattle.gap_rules.specs.Covers.{box_of, fewer, as_many}
use Rattle.gap_rules.specs.Trees.{leaves_of}
use Rattle.family_points.specs.Least.{least}
use Rattle.gap_rules.specs.Values.{least_within, value_of_leaf, leaf_tables, cover_tables}
use Rattle.gap_rules.specs.Refusals.{low_leaf}
use Rattle.gap_rules.proofs.Public.{at_most_self, at_most_chain, at_most_unset_high, IsBetween, among_vectors, between}
use Rattle.certified_plan.proofs.Corners.{Lists, Boxed, cut_of, fewer_boxed, as_many_boxed, below_high}
use Rattle.certified_plan.proofs.Families.{added_is, held_is}
use Rattle.certified_plan.proofs.Trees.{HasOneWhole}
use Rattle.certified_plan.proofs.Tables.{tables_more}

-- what a function takes
abbrev domain : {X Y : Type 0} → (X → Y) → Type 0
domain {X} {Y} f = X

-- a leaf, which has a box
abbrev pub Leaf : Type 0
Leaf = domain box_of

-- a number that no point is below is at most the least, where there is a point
pub least_above : (f : Point → ℕ) (floor : ℕ) (points : List Point) (u : Point) → Among u points → ((w : Point) → Among w points → floor ≤ f w) → floor ≤ least f points
least_above f floor [] u m h = absurd m
least_above f floor (x ∷ []) u m h = h x (inl refl)
least_above f floor (x ∷ y ∷ rest) u m h =
    let a = h x (inl refl) in
    let b = least_above f floor (y ∷ rest) y (inl refl) (λ w n. h w (inr n)) in
    omega (arith, a, b)

-- no leaf is low
low_none : (value : Leaf → ℕ) (floor k : ℕ) (ls : List Leaf) → ((x : Leaf) → Among x ls → floor ≤ value x) → low_leaf value floor k ls ≡ None
unfolding low_leaf
low_none value floor k [] h = refl
low_none value floor k (x ∷ ls) h = rw (le-ltb (value x) floor (h x (inl refl))) (low_none value floor (k + 1) ls (λ y m. h y (inr m)))

-- where no leaf's value is below the floor, no leaf is found too low
pub none_low : (value : Leaf → ℕ) (floor : ℕ) (ls : List Leaf) → ((x : Leaf) → Among x ls → floor ≤ value x) → low_leaf value floor 0 ls ≡ None
none_low value floor ls h = low_none value floor 0 ls h

list_most : (n : ℕ) (corner top : Corner) (xs ys : List ℕ) → Lists n corner xs → Lists n top ys → ((i : ℕ) → i < n → corner i ≤ top i) → AtMost xs ys
list_most n corner top xs ys a b h = at_most_all xs ys (a.long ∙ sym b.long) (λ i l.
    let k : i < n = (let e = a.long in omega (arith, e, l)) in
    let p = a.same i k in let q = b.same i k in let r = h i k in omega (arith, p, q, r))
  where
    at_most_all : (xs ys : List ℕ) → length xs ≡ length ys → ((i : ℕ) → i < length xs → get_or xs i 0 ≤ get_or ys i 0) → AtMost xs ys
    at_most_all [] [] e h = tt
    at_most_all [] (y ∷ ys) e h = absurd (let z : 0 ≡ suc (length ys) = e in omega (arith, z))
    at_most_all (x ∷ xs) [] e h = absurd (let z : suc (length xs) ≡ 0 = e in omega (arith, z))
    at_most_all (x ∷ xs) (y ∷ ys) e h =
        (h 0 (omega arith), at_most_all xs ys (let z : suc (length xs) ≡ suc (length ys) = e in omega (arith, z)) (λ i l. h (suc i) (omega (arith, l))))

list_same : (n : ℕ) (corner : Corner) (xs ys : List ℕ) → Lists n corner xs → Lists n corner ys → xs ≡ ys
list_same n corner xs ys a b = ext_get_or 0 xs ys (a.long ∙ sym b.long) (λ i l.
    let k : i < n = (let e = a.long in omega (arith, e, l)) in
    sym (a.same i k) ∙ b.same i k)

module _ (score : ScoreEnds) (c : CaseRows) (l : ℕ) (price : Price) (floor : ℕ) (held : List ℕ) (wide : length held ≡ length (places c l))
    (floor_is : (w : Point) → Among w (points_within c l score held held (limits c l)) → floor ≤ lagrangian price.p price.q w) where
  abbrev n : ℕ
  n = length (places c l)

  abbrev ps : List Place
  ps = places_of c l held

  -- a box of the family shows no less than its floor
  whole_floor : (box : Bounds) → box.held ≡ held → box.low ≡ held → AtMost box.low box.high → AtMost box.high (limits c l) → floor ≤ least_within c l score price box
  unfolding least_within
  whole_floor box h low order most =
      least_above (lagrangian price.p price.q) floor (points_within c l score box.held box.low box.high) (point_at_vector c l score box.held box.low)
      (among_map (point_at_vector c l score box.held) (vectors box.low box.high) box.low (among_vectors box.low box.high box.low (at_most_self box.low) order))
      (λ w m.
      let r : Mapped (point_at_vector c l score box.held) (vectors box.low box.high) w = among_mapped (point_at_vector c l score box.held) (vectors box.low box.high) w m in
      let b : IsBetween box.low r.from box.high = between box.low box.high r.from r.there in
      let from : AtMost held r.from = subst (λ z. AtMost z r.from) low b.low in
      let own : Among (point_at_vector c l score held r.from) (points_within c l score held held (limits c l)) =
      among_map (point_at_vector c l score held) (vectors held (limits c l)) r.from (among_vectors held (limits c l) r.from from (at_most_chain r.from box.high (limits c l) b.high most)) in
      subst (λ z. floor ≤ lagrangian price.p price.q z) (sym (r.is ∙ ap (λ z. point_at_vector c l score z r.from) h)) (floor_is (point_at_vector c l score held r.from) own))

  held_corner : Lists n (corner_of_held ps) held
  held_corner = record { long = wide; same = held_is c l held }

  -- each leaf shows no less than the floor
  pub leaf_floor : (most : Lists (length (places c l)) (most_at (places_of c l held)) (limits c l)) (tree : Tree) (low high : Corner) (box : Bounds) → Boxed (length (places c l)) low high box → box.held ≡ held
      → cover.IsLawful (length (places c l)) tree low high
      → AllCostLeaves (λ low high. floor ≤ price.p * added (places_of c l held) low) tree low high
      → AllWholeLeaves (λ low high. (i : ℕ) → (low i ≡ corner_of_held (places_of c l held) i) × (high i ≤ most_at (places_of c l held) i)) tree low high
      → (x : Leaf) → Among x (leaves_of tree box) → floor ≤ value_of_leaf c l score price x
  unfolding leaves_of value_of_leaf
  leaf_floor most cover.Whole low high box b h lawful pays part x (inl e) =
      subst (λ z. floor ≤ value_of_leaf c l score price z) (sym e)
      (whole_floor box h
      (list_same n (corner_of_held ps) box.low held (record { long = b.low_is.long; same = λ i k. sym (part i).0 ∙ b.low_is.same i k }) held_corner)
      b.order (list_most n high (most_at ps) box.high (limits c l) b.high_is most (λ i k. (part i).1)))
  leaf_floor most cover.Whole low high box b h lawful pays part x (inr m) = absurd m
  leaf_floor most cover.Cost low high box b h lawful pays part x (inl e) =
      subst (λ z. floor ≤ value_of_leaf c l score price z) (sym e)
      (subst (λ z. floor ≤ price.p * added_cost c l z box.low) (sym h)
      (subst (λ z. floor ≤ price.p * z) (added_is c l held box.low low wide b.low_is) pays))
  leaf_floor most cover.Cost low high box b h lawful pays part x (inr m) = absurd m
  leaf_floor most (cover.Cut at from one other) low high box b h lawful pays part x m =
      let cut = cut_of n low high at from lawful.0 in
      elim (among_either x (leaves_of one (fewer box at from)) (leaves_of other (as_many box at from)) m) [
        | inl a ↦ leaf_floor most one low (put at (from - 1) high) (fewer box at from) (fewer_boxed n low high box at from b cut) h lawful.1.0 pays.0 part.0 x a
        | inr a ↦ leaf_floor most other (put at from low) high (as_many box at from) (as_many_boxed n low high box at from b cut) h lawful.1.1 pays.1 part.1 x a
      ]

-- ---- tables

module _ (c : CaseRows) (l n : ℕ) where
  one_leaf : (x : Leaf) → cover_tables c l (x ∷ []) ≡ leaf_tables c l x
  one_leaf x = sum_by-cons (leaf_tables c l) x [] ∙ none (leaf_tables c l x)
    where
      none : (k : ℕ) → k + 0 ≡ k
      none k = omega arith

  one_list : (ls : List Leaf) (x : Leaf) → ls ≡ x ∷ [] → cover_tables c l ls ≡ leaf_tables c l x
  one_list ls x e = ap (cover_tables c l) e ∙ one_leaf x

  -- a cover with one whole leaf takes at most the tables of its whole box
  pub tables_most : (tree : Tree) (low high : Corner) (box : Bounds) → HasOneWhole tree → Boxed n low high box → cover.IsLawful n tree low high
      → cover_tables c l (leaves_of tree box) ≤ tables_between c l box.low box.high
  unfolding leaves_of leaf_tables
  tables_most cover.Whole low high box one b h =
      let e : cover_tables c l (leaves_of cover.Whole box) ≡ tables_between c l box.low box.high = one_list (leaves_of cover.Whole box) _ refl in
      omega (arith, e)
  tables_most cover.Cost low high box one b h = absurd one
  tables_most (cover.Cut at from first other) low high box one b h =
      let cut = cut_of n low high at from h.0 in
      let s = sum_by-append (leaf_tables c l) (leaves_of first (fewer box at from)) (leaves_of other (as_many box at from)) in
      let none : cover_tables c l (leaves_of cover.Cost (as_many box at from)) ≡ 0 = one_list (leaves_of cover.Cost (as_many box at from)) _ refl in
      let e : cover_tables c l (leaves_of other (as_many box at from)) ≡ 0 = ap (λ t. cover_tables c l (leaves_of t (as_many box at from))) one.1 ∙ none in
      let r = tables_most first low (put at (from - 1) high) (fewer box at from) one.0 (fewer_boxed n low high box at from b cut) h.1.0 in
      let m = tables_more c l box.low (set box.high at (from - 1)) box.high
      (at_most_unset_high (set box.high at (from - 1)) box.high at (from - 1) (at_most_self (set box.high at (from - 1))) (below_high n low high box at from b cut)) in
      omega (arith, s, e, r, m)
