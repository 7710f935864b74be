-- Chains of lower bounds, one point more at a time; and the rows from which they are made.
use Rattle.std.proofs.Common.{◌≡◌, ℕ, zero, suc, ◌+◌, ◌*◌, ◌<◌, ◌≤◌, ◌⊎◌, Bool, IsTrue, inl, inr, List, [], ◌∷◌, ◌++◌, length, get_or, map, set, take, refl, sym, ap, ap₂, ◌∙◌, subst, arith, mul-le-mul_left}
use Rattle.std.specs.List.{AllZip}
use Rattle.std.proofs.lemmas.Bool.{cases_lt}
use Rattle.std.proofs.lemmas.List.{get_or_append_left, get_or_push, length-append, map-append, take_more_set}
use Rattle.std.proofs.lemmas.List.Sorted.{IsPermutation-sym}
use Rattle.list_laws.proofs.Public.{take_on, zip_push}
use Rattle.fleet_model.specs.Laws.{IsBase}
use Rattle.hull.specs.declared.point.Point.{Point}
use Rattle.hull.specs.Curves.{lagrangian, Among, StandFor}
use Rattle.hull.proofs.Public.{Flattened, LowVertex, Mapped, among_either, among_flat, among_left, among_right, among_flattened, among_mapped, among_permuted, low_vertex, same_lagrangian}
use Rattle.family_points.specs.declared.order.Choice.{Choice}
use Rattle.family_points.specs.Vectors.{between, vectors}
use Rattle.family_points.specs.Points.{ScoreEnds}
use Rattle.family_points.specs.Separation.{base_point, base_points}
use Rattle.family_points.specs.Turned.{turned_points}
use Rattle.family_points.specs.Inputs.{FamilyBox, IsFamilyBox, line_high, line_low, line_stocks, shop_high, shop_low, shop_vectors}
use Rattle.family_points.specs.Choices.{IsOrder, choice_point}
use Rattle.family_points.proofs.Public.{high_begins, low_begins, mapped_among, points_permuted, points_to}
use Rattle.family_curve.specs.LowCurves.{IsLowTo, TakesLow}
use Rattle.family_curve.specs.Under.{LieBelow, LieUnder}

-- ---- points that lie under others

-- what stands for points lies under them
pub stands_under : (points kept : List Point) → StandFor points kept → LieUnder kept points
stands_under [] kept s p q a b v m = absurd m
stands_under (x ∷ xs) kept s p q a b v m =
    let r : LowVertex p q (x ∷ xs) = low_vertex p q x xs b in
    let k = s.covers r.one r.among r.vertex in
    let same : lagrangian p q k.0 ≡ lagrangian p q r.one = same_lagrangian p q k.2 in
    elim (r.leads v m) [
      | inl less ↦ (k.0, k.1, omega (arith, same, less))
      | inr tied ↦ (k.0, k.1, omega (arith, same, tied.0))
    ]

-- what lies under points that lie under others lies under those
pub under_under : (a b c : List Point) → LieUnder a b → LieUnder b c → LieUnder a c
under_under a b c f g p q i j v m =
    let s = g p q i j v m in
    let t = f p q i j s.0 s.1 in
    (t.0, t.1, omega (arith, s.2, t.2))

-- and below those that they are below
pub under_below : (a b c : List Point) → LieUnder a b → LieBelow b c → LieBelow a c
under_below a b c f g p q i j v m =
    let s = g p q i j v m in
    let t = f p q i j s.0 s.1 in
    (t.0, t.1, omega (arith, s.2, t.2))

-- a point at no higher cost with no higher score is no higher
no_higher : (p q : ℕ) (w v : Point) → w.cost ≤ v.cost → w.lo ≤ v.lo → lagrangian p q w ≤ lagrangian p q v
no_higher p q w v e h =
    let m : q * w.lo ≤ q * v.lo = mul-le-mul_left q h in
    let n : p * w.cost ≤ p * v.cost = mul-le-mul_left p e in
    omega (arith, m, n)

-- and at a lower cost or with a lower score is lower
lower : (p q : ℕ) (w v : Point) → 0 < p → 0 < q → w.cost ≤ v.cost → w.lo ≤ v.lo → (w.cost < v.cost) ⊎ (w.lo < v.lo) → lagrangian p q w < lagrangian p q v
lower p q w v paid some e h less = elim less [
  | inl cheaper ↦ (let m : q * w.lo ≤ q * v.lo = mul-le-mul_left q h in
      let n : p * suc w.cost ≤ p * v.cost = mul-le-mul_left p cheaper in
      omega (arith, m, n, paid))
  | inr below ↦ (let m : q * suc w.lo ≤ q * v.lo = mul-le-mul_left q below in
      let n : p * w.cost ≤ p * v.cost = mul-le-mul_left p e in
      omega (arith, m, n, some))
]

-- ---- one point more

module _ (points old new : List Point) (v : Point) (taken : Bool) (t : TakesLow v old new taken) where
  abbrev all : List Point
  all = points ++ v ∷ []

  -- it costs no more
  no_dearer : t.spot.cost ≤ v.cost
  no_dearer = omega (arith, t.cost)

  more_under : LieUnder old points → LieUnder (old ++ t.spot ∷ []) all
  more_under h p q a b u m = elim (among_either u points (v ∷ []) m) [
    | inl i ↦ (let s = h p q a b u i in (s.0, among_left s.0 old (t.spot ∷ []) s.1, s.2))
    | inr i ↦ elim i [
      | inl e ↦ (t.spot, among_right t.spot old (t.spot ∷ []) (inl refl), subst (λ w. lagrangian p q t.spot ≤ lagrangian p q w) (sym e) (no_higher p q t.spot v no_dearer t.lo))
      | inr none ↦ absurd none
    ]
  ]

  more_below : LieBelow old points → (t.spot.cost < v.cost) ⊎ (t.spot.lo < v.lo) → LieBelow (old ++ t.spot ∷ []) all
  more_below h less p q a b u m = elim (among_either u points (v ∷ []) m) [
    | inl i ↦ (let s = h p q a b u i in (s.0, among_left s.0 old (t.spot ∷ []) s.1, s.2))
    | inr i ↦ elim i [
      | inl e ↦ (t.spot, among_right t.spot old (t.spot ∷ []) (inl refl), subst (λ w. lagrangian p q t.spot < lagrangian p q w) (sym e) (lower p q t.spot v a b no_dearer t.lo less))
      | inr none ↦ absurd none
    ]
  ]

  pub low_more : (so_far : Bool) → IsLowTo points old so_far → (IsTrue taken → IsTrue so_far) → IsLowTo all new taken
  low_more so_far h s = record {
    under = under_under new (old ++ t.spot ∷ []) all (stands_under (old ++ t.spot ∷ []) new t.stands) (more_under h.under);
    below = λ i. under_below new (old ++ t.spot ∷ []) all (stands_under (old ++ t.spot ∷ []) new t.stands) (more_below (h.below (s i)) (t.below i));
    costs = λ u m. elim (among_either u old (t.spot ∷ []) (t.stands.among u m)) [
      | inl i ↦ (let c = h.costs u i in (c.0, among_left c.0 points (v ∷ []) c.1, c.2))
      | inr i ↦ elim i [
        | inl e ↦ (v, among_right v points (v ∷ []) (inl refl), ap (λ (z : Point). z.cost) e ∙ t.cost)
        | inr none ↦ absurd none
      ]
    ];
    bare = λ u m. elim (among_either u old (t.spot ∷ []) (t.stands.among u m)) [
      | inl i ↦ h.bare u i
      | inr i ↦ elim i [
        | inl e ↦ ap (λ (z : Point). z.stocks) e ∙ t.bare
        | inr none ↦ absurd none
      ]
    ];
  }

-- no points have such a chain
pub low_none : (strict : Bool) → IsLowTo [] [] strict
low_none strict = record {
  under = λ p q a b v m. absurd m;
  below = λ i p q a b v m. absurd m;
  costs = λ v m. absurd m;
  bare = λ v m. absurd m;
}

-- one choice more
pub choice_low : (x : FamilyBox) (j : ℕ) (order : List Choice) (ends : ScoreEnds) (d : List ℕ) (n : ℕ) (w : Choice) (old new : List Point) (so_far taken : Bool)
    → n < length order → w ≡ get_or order n w → IsLowTo (points_to x j order ends d n) old so_far → TakesLow (choice_point ends x d j w) old new taken
    → (IsTrue taken → IsTrue so_far) → IsLowTo (points_to x j order ends d (n + 1)) new taken
choice_low x j order ends d n w old new so_far taken h e a t s =
    let p : List Point = choice_point ends x d j w ∷ [] in
    let more : points_to x j order ends d (n + 1) ≡ points_to x j order ends d n ++ p =
    ap (map (choice_point ends x d j)) (take_on order n w h e) ∙ map-append (choice_point ends x d j) (take n order) (w ∷ []) in
    subst (λ (l : List Point). IsLowTo l new taken) (sym more) (low_more (points_to x j order ends d n) old new (choice_point ends x d j w) taken t so_far a s)

-- ---- all points of a base

-- are those of its choices
pub base_choices : (x : FamilyBox) (valid : IsFamilyBox x) (j : ℕ) (order : List Choice) → IsOrder x j order → (ends : ScoreEnds) (d : List ℕ) → IsBase x.case j
    → (v : Point) → Among v (base_points ends x d j) → Among v (map (choice_point ends x d j) order)
base_choices x valid j order is ends d base v k =
    let point = base_point ends x d j in
    let vs = vectors (line_low x j ∷ shop_low x j) (line_high x j ∷ shop_high x j) in
    let there : Among v (map point vs) = subst (λ ps. Among v ps)
    (sym (ap₂ (λ low high. map point (vectors low high)) (low_begins x valid j base.1) (high_begins x valid j base.1))) k in
    let one : Mapped point vs v = among_mapped point vs v there in
    let row : ℕ → List (List ℕ) = λ s. map (λ w. s ∷ w) (shop_vectors x j) in
    let two : Flattened row (between (line_low x j) (line_high x j)) one.from = among_flattened row (between (line_low x j) (line_high x j)) one.from one.there in
    let three : Mapped (λ w. two.from ∷ w) (shop_vectors x j) one.from = among_mapped (λ w. two.from ∷ w) (shop_vectors x j) one.from two.in_it in
    let there_is : point (two.from ∷ three.from) ≡ v = sym (ap point three.is) ∙ sym one.is in
    let turned_row : List ℕ → List Point = λ shops. map (λ s. point (s ∷ shops)) (line_stocks x j) in
    let inside : Among (point (two.from ∷ three.from)) (turned_row three.from) = mapped_among (λ s. point (s ∷ three.from)) two.from (line_stocks x j) two.there in
    let turned : Among (point (two.from ∷ three.from)) (turned_points ends x d j) =
    among_flat turned_row (shop_vectors x j) three.from (point (two.from ∷ three.from)) three.there inside in
    let all : List Point = map (choice_point ends x d j) order in
    subst (λ u. Among u all) there_is
    (among_permuted all (turned_points ends x d j) (IsPermutation-sym (turned_points ends x d j) all (points_permuted x j order is ends d)) (point (two.from ∷ three.from)) turned)

-- ---- rows

-- what is so of each entry of a row by its place is so with one more
pub entry_more : (P : ℕ → ℕ → Type 0) (row made : List ℕ) (e : ℕ) → made ≡ row ++ e ∷ [] → ((i : ℕ) → i < length row → P i (get_or row i 0)) → P (length row) e
    → (i : ℕ) → i < length made → P i (get_or made i 0)
entry_more P row made e is before here i h =
    let most : i < length row + 1 = omega (arith, h, ap length is, length-append row (e ∷ [])) in
    elim (cases_lt i (length row)) [
      | inl earlier ↦ subst (P i) (sym (ap (λ (l : List ℕ). get_or l i 0) is ∙ get_or_append_left row (e ∷ []) 0 i earlier)) (before i earlier)
      | inr last ↦ (let at : length row ≡ i = omega (arith, last, most) in
          subst (P i) (sym (ap (λ (l : List ℕ). get_or l i 0) is ∙ get_or_push row e 0 i at)) (subst (λ k. P k e) at here))
    ]

-- what stands for an entry at the place of another is related to that other
pub row_read : {X Y V : Type 0} (f : V → Y) (R : X → Y → Type 0) (xs : List X) (rows : List V) (n : ℕ) (row : V) (d : X) → AllZip R xs (map f rows) → n < length xs
    → row ≡ get_or rows n row → R (get_or xs n d) (f row)
row_read f R [] rows n row d a h e = absurd (omega (arith, h))
row_read f R (x ∷ xs) [] n row d a h e = absurd a
row_read f R (x ∷ xs) (y ∷ rows) zero row d a h e = subst (λ r. R x (f r)) (sym e) a.0
row_read f R (x ∷ xs) (y ∷ rows) (suc n) row d a h e = row_read f R xs rows n row d a.1 (omega (arith, h)) e

-- one more pair of related entries, where an entry takes its place in a list
pub row_put : {X Y V : Type 0} (f : V → Y) (R : X → Y → Type 0) (xs : List X) (rows made : List V) (n : ℕ) (x : X) (row : V) → AllZip R (take n xs) (map f (take n rows))
    → n < length xs → n < length rows → x ≡ get_or xs n x → made ≡ set rows n row → R x (f row) → AllZip R (take (n + 1) xs) (map f (take (n + 1) made))
row_put {X} {Y} {V} f R xs rows made n x row a h k e g r =
    let more : take (n + 1) made ≡ take n rows ++ row ∷ [] = ap (λ (l : List V). take (n + 1) l) g ∙ take_more_set rows n row k in
    let image : map f (take (n + 1) made) ≡ map f (take n rows) ++ f row ∷ [] = ap (map f) more ∙ map-append f (take n rows) (row ∷ []) in
    subst (λ (l : List X). AllZip R l (map f (take (n + 1) made))) (sym (take_on xs n x h e))
    (subst (AllZip R (take n xs ++ x ∷ [])) (sym image) (zip_push R (take n xs) (map f (take n rows)) x (f row) a r))

-- the rows of a list that is another one
pub rows_taken : {X Y V : Type 0} (f : V → Y) (R : X → Y → Type 0) (xs : List X) (rows whole : List V) (n m : ℕ) → n ≡ m → rows ≡ whole → AllZip R xs (map f (take m whole))
    → AllZip R xs (map f (take n rows))
rows_taken {X} {Y} {V} f R xs rows whole n m e g h =
    subst (λ k. AllZip R xs (map f (take k rows))) (sym e) (subst (λ (l : List V). AllZip R xs (map f (take m l))) (sym g) h)
