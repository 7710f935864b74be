-- The points of the choices at a base that have a row of backorders, and those of the others.
use Rattle.std.proofs.Common.{◌≡◌, ◌≢◌, ◌==◌, Bool, true, false, ℕ, zero, suc, ◌+◌, ◌<◌, ◌≤◌, ◌⊎◌, inl, inr, List, [], ◌∷◌, ◌++◌, get_or, length, map, set, take, refl, sym, ap, ap₂, ◌∙◌, subst, arith, ◌↔◌}
use Rattle.std.specs.List.{AllZip}
use Rattle.std.proofs.lemmas.Bool.{cases_lt, eqb-false, eqb-true}
use Rattle.std.proofs.lemmas.List.{append-nil, get_or_append_left, get_or_push, get_or-map, get_or-set_other, get_or-set_same, get_or_default, length-map, map-append, map-set}
use Rattle.std.proofs.lemmas.List.Sorted.{IsPermutation-sym}
use Rattle.std.proofs.Math.ListN.{length-set}
use Rattle.std.proofs.lemmas.Grind.{flat_map-append}
use Rattle.list_laws.proofs.Public.{take_on}
use Rattle.fixed_interval.specs.Ends.{Ends}
use Rattle.fleet_model.specs.Laws.{IsBase}
use Rattle.hull.specs.declared.point.Point.{Point}
use Rattle.hull.specs.declared.price.Price.{Price}
use Rattle.hull.specs.Curves.{lagrangian, Among, IsCurve, StandFor}
use Rattle.hull.proofs.Public.{Flattened, Mapped, among_either, among_flat, among_flattened, among_left, among_map, among_mapped, among_permuted, among_right, stand_for_both, stand_self, stand_trans}
use Rattle.curve_parts.specs.Parts.{IsPassedOver}
use Rattle.curve_parts.specs.Beyond.{IsKnownPart}
use Rattle.curve_parts.proofs.Public.{known_left_out, known_of_members}
use Rattle.family_points.specs.declared.order.Choice.{Choice}
use Rattle.family_points.specs.Choices.{IsChoice, IsOrder, choice_point}
use Rattle.family_points.specs.Inputs.{FamilyBox, IsFamilyBox, line_high, line_low, line_stocks, shop_high, shop_low, shop_vectors}
use Rattle.family_points.specs.Points.{ScoreEnds}
use Rattle.family_points.specs.Separation.{base_point, base_points}
use Rattle.family_points.specs.Turned.{turned_points}
use Rattle.family_points.specs.Vectors.{vectors}
use Rattle.family_points.proofs.Public.{high_begins, low_begins, points_permuted, turned_among}
use Rattle.family_rows.specs.declared.base_at.BaseAt.{BaseAt}
use Rattle.family_rows.specs.Spots.{IsRowOf}
use Rattle.family_bases.specs.declared.lows.Lows.{Lows}
use Rattle.family_bases.specs.Lows.{AreLowsOf, AreUnderEach}
use Rattle.base_parts.specs.Choices.{AreKept, IsCurveWithout, IsSettled, bounds_at, if_empty, if_kept, kept_point, kept_points, other_points}

-- ---- rows

-- a row that isn't empty keeps its point
pub kept_is : (row : List Ends) (v : Point) → 0 < length row → if_kept row v ≡ v ∷ []
kept_is [] v h = absurd (let l : 0 < 0 = h in omega (arith, l))
kept_is (e ∷ row) v h = refl

-- an empty one keeps none
pub none_is : (row : List Ends) (v : Point) → length row ≡ 0 → if_kept row v ≡ []
none_is [] v h = refl
none_is (e ∷ row) v h = absurd (omega (arith, h))

kept_in : (row : List Ends) (v w : Point) → Among w (if_kept row v) → (0 < length row) × (w ≡ v)
kept_in [] v w m = absurd m
kept_in (e ∷ row) v w (inl i) = (omega arith, i)
kept_in (e ∷ row) v w (inr n) = absurd n

empty_in : (row : List Ends) (v w : Point) → Among w (if_empty row v) → (length row ≡ 0) × (w ≡ v)
empty_in [] v w (inl i) = (refl, i)
empty_in [] v w (inr n) = absurd n
empty_in (e ∷ row) v w m = absurd m

in_one : (row : List Ends) (v : Point) → Among v (if_kept row v) ⊎ Among v (if_empty row v)
in_one [] v = inr (inl refl)
in_one (e ∷ row) v = inl (inl refl)

-- what is read of the rows is the list that it stands for
pub row_is : {V : Type 0} (f : V → List Ends) (rows : List V) (n : ℕ) (row : V) → n < length rows → row ≡ get_or rows n row → f row ≡ get_or (map f rows) n []
row_is f rows n row h e = ap f e ∙ sym (get_or-map f rows n row [] h)

-- a list is empty, if that is found
pub empty_found : (n : ℕ) (b : Bool) → b ≡ (n == 0) → b ≡ true → n ≡ 0
empty_found n b e h = eqb-true n 0 (sym e ∙ h)

-- it isn't, if that is found
pub some_found : (n : ℕ) (b : Bool) → b ≡ (n == 0) → b ≡ false → 0 < n
some_found n b e h = omega (arith, eqb-false n 0 (sym e ∙ h))

module _ {V : Type 0} (f : V → List Ends) (rows made : List V) (n : ℕ) (row : V) (e : made ≡ set rows n row) (h : n < length rows) where
  put_is : map f made ≡ set (map f rows) n (f row)
  put_is = ap (map f) e ∙ map-set f rows n row

  -- what takes its place in the rows is read there
  pub put_at : get_or (map f made) n [] ≡ f row
  put_at = ap (λ (l : List V). get_or (map f l) n []) e ∙ get_or-map f (set rows n row) n row [] (omega (arith, h, length-set rows n row)) ∙ ap f (get_or-set_same rows n row row h)

  put_apart : (k : ℕ) → k ≢ n → get_or (map f made) k [] ≡ get_or (map f rows) k []
  put_apart k g = ap (λ (l : List (List Ends)). get_or l k []) put_is ∙ get_or-set_other (map f rows) n k (f row) [] g

  each_place : (P : ℕ → Type 0) (k : ℕ) → P n → (k ≢ n → P k) → P k
  each_place P k here apart = elim (cases_lt k n) [
    | inl l ↦ apart (λ g. omega (arith, l, g))
    | inr l ↦ elim (cases_lt n k) [
      | inl m ↦ apart (λ g. omega (arith, m, g))
      | inr m ↦ subst P (let s : n ≡ k = omega (arith, l, m) in s) here
    ]
  ]

  -- a row of its choice among those that are kept
  pub kept_put : (b : BaseAt) → AreKept b (map f rows) → IsRowOf b n (f row) → AreKept b (map f made)
  kept_put b kept is k = each_place (λ i. i < length (shop_vectors b.family.now b.site.0) → 0 < length (get_or (map f made) i []) → IsRowOf b i (get_or (map f made) i [])) k
      (λ l some. subst (IsRowOf b n) (sym put_at) is)
      (λ g l some. subst (IsRowOf b k) (sym (put_apart k g)) (kept k l (subst (λ (r : List Ends). 0 < length r) (put_apart k g) some)))

  -- leaves no row empty that wasn't
  pub grown_put : 0 < length (f row) → (k : ℕ) → 0 < length (get_or (map f rows) k []) → 0 < length (get_or (map f made) k [])
  grown_put some k = each_place (λ i. 0 < length (get_or (map f rows) i []) → 0 < length (get_or (map f made) i [])) k
      (λ before. subst (λ (r : List Ends). 0 < length r) (sym put_at) some)
      (λ g before. subst (λ (r : List Ends). 0 < length r) (sym (put_apart k g)) before)

  -- the first rows are empty, with an empty one in the next place
  pub empty_put : f row ≡ [] → ((k : ℕ) → k < n → get_or (map f rows) k [] ≡ []) → (k : ℕ) → k < n + 1 → get_or (map f made) k [] ≡ []
  empty_put is before k = each_place (λ i. i < n + 1 → get_or (map f made) i [] ≡ []) k (λ l. put_at ∙ is) (λ g l. put_apart k g ∙ before k (omega (arith, g, l)))

-- the first rows are empty, with an empty one behind them
pub empty_push : {V : Type 0} (f : V → List Ends) (rows made : List V) (n : ℕ) (row : V) → made ≡ rows ++ row ∷ [] → length rows ≡ n → f row ≡ []
    → ((k : ℕ) → k < n → get_or (map f rows) k [] ≡ []) → (k : ℕ) → k < n + 1 → get_or (map f made) k [] ≡ []
empty_push f rows made n row e count is before k h =
    let long : length (map f rows) ≡ n = length-map rows f ∙ count in
    let all : map f made ≡ map f rows ++ f row ∷ [] = ap (map f) e ∙ map-append f rows (row ∷ []) in
    ap (λ (l : List (List Ends)). get_or l k []) all
    ∙ elim (cases_lt k n) as (λ _. get_or (map f rows ++ f row ∷ []) k [] ≡ []) [
      | inl b ↦ get_or_append_left (map f rows) (f row ∷ []) [] k (omega (arith, b, long)) ∙ before k b
      | inr b ↦ get_or_push (map f rows) (f row) [] k (omega (arith, b, h, long)) ∙ is
    ]

-- a place that is settled stays so with more rows, and if the others lie higher
pub settled_grows : (low high : Price) (vertices : List Point) (old new : List (List Ends)) (lows : List Lows) (before after k : ℕ)
    → (0 < length (get_or old k []) → 0 < length (get_or new k [])) → after ≤ before → IsSettled low high vertices old lows before k → IsSettled low high vertices new lows after k
settled_grows low high vertices old new lows before after k grow less (inl some) = inl (grow some)
settled_grows low high vertices old new lows before after k grow less (inr by) = inr (record { above = by.above; high_enough = (let l = by.high_enough in omega (arith, l, less)) })

-- no row is one of another choice, where all are empty
pub none_kept : (b : BaseAt) (rows : List (List Ends)) → ((k : ℕ) → k < length (shop_vectors b.family.now b.site.0) → get_or rows k [] ≡ []) → AreKept b rows
none_kept b rows h n l some = absurd (let e : length (get_or rows n []) ≡ 0 = ap length (h n l) in omega (arith, e, some))

-- ---- points

module _ (ends : ScoreEnds) (b : BaseAt) (rows : List (List Ends)) (order : List Choice) where
  abbrev point : Choice → Point
  point v = choice_point ends b.family.now b.depot.now b.site.0 v

  -- a point with a row is that of a choice
  pub kept_among : (n : ℕ) (w : Point) → Among w (kept_points ends b rows (take n order)) → Among w (map (choice_point ends b.family.now b.depot.now b.site.0) (take n order))
  kept_among n w m =
      let r : Flattened (kept_point ends b rows) (take n order) w = among_flattened (kept_point ends b rows) (take n order) w m in
      let k = kept_in (get_or rows r.from.shops []) (point r.from) w r.in_it in
      subst (λ u. Among u (map point (take n order))) (sym k.1) (among_map point (take n order) r.from r.there)

  -- one choice more
  pub kept_on : (n : ℕ) (v : Choice) → n < length order → v ≡ get_or order n v
      → kept_points ends b rows (take (n + 1) order) ≡ kept_points ends b rows (take n order) ++ kept_point ends b rows v
  kept_on n v h e =
      ap (kept_points ends b rows) (take_on order n v h e) ∙ flat_map-append (kept_point ends b rows) (take n order) (v ∷ [])
      ∙ ap (λ (l : List Point). kept_points ends b rows (take n order) ++ l) (append-nil (kept_point ends b rows v))

  -- none of the first choices has a row
  pub kept_none : (n : ℕ) → n ≤ length order → ((k : ℕ) (v : Choice) → k < n → v ≡ get_or order k v → length (get_or rows v.shops []) ≡ 0) → kept_points ends b rows (take n order) ≡ []
  kept_none zero l h = refl
  kept_none (suc n) l h =
      let d : Choice = record { cost = 0; shops = 0; line = 0 } in
      let v : Choice = get_or order n d in
      let inside : n < length order = omega (arith, l) in
      let e : v ≡ get_or order n v = get_or_default order n d v inside in
      let next : suc n ≡ n + 1 = omega arith in
      ap (λ k. kept_points ends b rows (take k order)) next ∙ kept_on n v inside e
      ∙ ap₂ (λ (xs ys : List Point). xs ++ ys) (kept_none n (omega (arith, l)) (λ k u i g. h k u (omega (arith, i)) g)) (none_is (get_or rows v.shops []) (point v) (h n v (omega arith) e))

  -- the first choice with a row alone
  pub kept_first : (n : ℕ) (v : Choice) → n < length order → v ≡ get_or order n v → 0 < length (get_or rows v.shops [])
      → ((k : ℕ) (v : Choice) → k < n → v ≡ get_or order k v → length (get_or rows v.shops []) ≡ 0)
      → kept_points ends b rows (take (n + 1) order) ≡ choice_point ends b.family.now b.depot.now b.site.0 v ∷ []
  kept_first n v h e some none =
      kept_on n v h e ∙ ap₂ (λ (xs ys : List Point). xs ++ ys) (kept_none n (omega (arith, h)) none) (kept_is (get_or rows v.shops []) (point v) some)

  -- what stands for the points so far and one more
  pub stands_kept : (n : ℕ) (v : Choice) (old new : List Point) → n < length order → v ≡ get_or order n v → StandFor (kept_points ends b rows (take n order)) old
      → StandFor (old ++ kept_point ends b rows v) new → StandFor (kept_points ends b rows (take (n + 1) order)) new
  stands_kept n v old new h e a c =
      let before : List Point = kept_points ends b rows (take n order) in
      let p : List Point = kept_point ends b rows v in
      subst (λ (l : List Point). StandFor l new) (sym (kept_on n v h e)) (stand_trans (before ++ p) (old ++ p) new (stand_for_both before p old p a (stand_self p)) c)

-- with more rows no point is lost
pub kept_grown : (ends : ScoreEnds) (b : BaseAt) (old new : List (List Ends)) (order : List Choice) → ((k : ℕ) → 0 < length (get_or old k []) → 0 < length (get_or new k []))
    → (w : Point) → Among w (kept_points ends b old order) → Among w (kept_points ends b new order)
kept_grown ends b old new order grow w m =
    let r : Flattened (kept_point ends b old) order w = among_flattened (kept_point ends b old) order w m in
    let v = choice_point ends b.family.now b.depot.now b.site.0 r.from in
    let k = kept_in (get_or old r.from.shops []) v w r.in_it in
    among_flat (kept_point ends b new) order r.from w r.there
    (subst (λ (l : List Point). Among w l) (sym (kept_is (get_or new r.from.shops []) v (grow r.from.shops k.0))) (inl k.1))

-- ---- the points of a base

-- they are those of the choices in order
points_ordered : (x : FamilyBox) (valid : IsFamilyBox x) (j : ℕ) (order : List Choice) → IsOrder x j order → (ends : ScoreEnds) (d : List ℕ) → IsBase x.case j → (v : Point)
    → Among v (map (choice_point ends x d j) order) ↔ Among v (base_points ends x d j)
points_ordered x valid j order is ends d base v = (there, back)
  where
    same : map (base_point ends x d j) (vectors (line_low x j ∷ shop_low x j) (line_high x j ∷ shop_high x j)) ≡ base_points ends x d j
    same = ap₂ (λ low high. map (base_point ends x d j) (vectors low high)) (low_begins x valid j base.1) (high_begins x valid j base.1)

    there : Among v (map (choice_point ends x d j) order) → Among v (base_points ends x d j)
    there m = subst (λ (ps : List Point). Among v ps) same
        (turned_among ends x d j v (among_permuted (turned_points ends x d j) (map (choice_point ends x d j) order) (points_permuted x j order is ends d) v m))

    back : Among v (base_points ends x d j) → Among v (map (choice_point ends x d j) order)
    back m =
        let vs : List (List ℕ) = vectors (line_low x j ∷ shop_low x j) (line_high x j ∷ shop_high x j) in
        let one : Mapped (base_point ends x d j) vs v = among_mapped (base_point ends x d j) vs v (subst (λ (ps : List Point). Among v ps) (sym same) m) in
        let row : ℕ → List (List ℕ) = λ s. map (λ w. s ∷ w) (shop_vectors x j) in
        let two : Flattened row (line_stocks x j) one.from = among_flattened row (line_stocks x j) one.from one.there in
        let three : Mapped (λ w. two.from ∷ w) (shop_vectors x j) one.from = among_mapped (λ w. two.from ∷ w) (shop_vectors x j) one.from two.in_it in
        let stock : List ℕ → ℕ → Point = λ shops s. base_point ends x d j (s ∷ shops) in
        let at : Among (stock three.from two.from) (turned_points ends x d j) =
        among_flat (λ shops. map (stock shops) (line_stocks x j)) (shop_vectors x j) three.from (stock three.from two.from) three.there
        (among_map (stock three.from) (line_stocks x j) two.from two.there) in
        among_permuted (map (choice_point ends x d j) order) (turned_points ends x d j)
        (IsPermutation-sym (turned_points ends x d j) (map (choice_point ends x d j) order) (points_permuted x j order is ends d)) v
        (subst (λ (u : Point). Among u (turned_points ends x d j)) (sym (one.is ∙ ap (base_point ends x d j) three.is)) at)

-- where a choice stands in the order
record At (order : List Choice) (v : Choice) : Type 0 where
  at : ℕ
  within : at < length order
  is : get_or order at v ≡ v

place_at : (order : List Choice) (v : Choice) → Among v order → At order v
place_at [] v m = absurd m
place_at (w ∷ order) v (inl e) = record { at = 0; within = omega arith; is = sym e }
place_at (w ∷ order) v (inr m) = (let p = place_at order v m in record { at = suc p.at; within = (let l = p.within in omega (arith, l)); is = p.is })

-- what is read of two lists that are related place by place
zip_at : {X Y : Type 0} (R : X → Y → Type 0) (xs : List X) (ys : List Y) (n : ℕ) (d : X) (e : Y) → AllZip R xs ys → n < length xs → R (get_or xs n d) (get_or ys n e)
zip_at R [] ys n d e a h = absurd (omega (arith, h))
zip_at R (x ∷ xs) [] n d e a h = absurd a
zip_at R (x ∷ xs) (y ∷ ys) zero d e a h = a.0
zip_at R (x ∷ xs) (y ∷ ys) (suc n) d e a h = zip_at R xs ys n d e a.1 (omega (arith, h))

-- If each choice of the shop units' stocks has a row or is passed over by vertices that are points of those with rows,
-- the curve of those with rows is all that counts.
pub curve_without : (ends : ScoreEnds) (b : BaseAt) → IsFamilyBox b.family.now → IsBase b.family.now.case b.site.0 → (order : List Choice) → IsOrder b.family.now b.site.0 order
    → (low high : Price) (rows : List (List Ends)) (lows : List Lows) (vertices made : List Point) (passed : ℕ)
    → AreLowsOf ends b low high lows
    → ((k : ℕ) → k < length (shop_vectors b.family.now b.site.0) → IsSettled low high vertices rows lows passed k)
    → ((v : Point) → Among v vertices → Among v (kept_points ends b rows order))
    → IsCurve (kept_points ends b rows order) made
    → IsCurveWithout low high (base_points ends b.family.now b.depot.now b.site.0) made passed
curve_without ends b valid base order is low high rows lows vertices made passed under settled among curve = record {
  kept = kept_points ends b rows order;
  others = other_points ends b rows order;
  curve = curve;
  all = λ v. (there v, back v);
  over = λ w m. (let o = settled_above w m in (let p = o.0 in (p.0, among p.0 p.1, p.2, p.3)));
  high_enough = λ w m. (settled_above w m).1;
}
  where
    there : (v : Point) → Among v (kept_points ends b rows order ++ other_points ends b rows order) → Among v (base_points ends b.family.now b.depot.now b.site.0)
    there v m = (points_ordered b.family.now valid b.site.0 order is ends b.depot.now base v).0 (elim (among_either v (kept_points ends b rows order) (other_points ends b rows order) m) [
      | inl i ↦ (let r : Flattened (kept_point ends b rows) order v = among_flattened (kept_point ends b rows) order v i in
          let k = kept_in (get_or rows r.from.shops []) (choice_point ends b.family.now b.depot.now b.site.0 r.from) v r.in_it in
          subst (λ (u : Point). Among u (map (choice_point ends b.family.now b.depot.now b.site.0) order)) (sym k.1) (among_map (choice_point ends b.family.now b.depot.now b.site.0) order r.from r.there))
      | inr i ↦ (let f : Choice → List Point = λ v. if_empty (get_or rows v.shops []) (choice_point ends b.family.now b.depot.now b.site.0 v) in
          let r : Flattened f order v = among_flattened f order v i in
          let k = empty_in (get_or rows r.from.shops []) (choice_point ends b.family.now b.depot.now b.site.0 r.from) v r.in_it in
          subst (λ (u : Point). Among u (map (choice_point ends b.family.now b.depot.now b.site.0) order)) (sym k.1) (among_map (choice_point ends b.family.now b.depot.now b.site.0) order r.from r.there))
    ])

    back : (v : Point) → Among v (base_points ends b.family.now b.depot.now b.site.0) → Among v (kept_points ends b rows order ++ other_points ends b rows order)
    back v m =
        let r : Mapped (choice_point ends b.family.now b.depot.now b.site.0) order v =
        among_mapped (choice_point ends b.family.now b.depot.now b.site.0) order v ((points_ordered b.family.now valid b.site.0 order is ends b.depot.now base v).1 m) in
        let f : Choice → List Point = λ v. if_empty (get_or rows v.shops []) (choice_point ends b.family.now b.depot.now b.site.0 v) in
        let u : Point = choice_point ends b.family.now b.depot.now b.site.0 r.from in
        subst (λ (u : Point). Among u (kept_points ends b rows order ++ other_points ends b rows order)) (sym r.is) (elim (in_one (get_or rows r.from.shops []) u) [
          | inl i ↦ among_left u (kept_points ends b rows order) (other_points ends b rows order) (among_flat (kept_point ends b rows) order r.from u r.there i)
          | inr i ↦ among_right u (kept_points ends b rows order) (other_points ends b rows order) (among_flat f order r.from u r.there i)
        ])

    settled_above : (w : Point) → Among w (other_points ends b rows order) → IsPassedOver low high vertices w × (passed ≤ lagrangian low.p low.q w)
    settled_above w m =
        let f : Choice → List Point = λ v. if_empty (get_or rows v.shops []) (choice_point ends b.family.now b.depot.now b.site.0 v) in
        let r : Flattened f order w = among_flattened f order w m in
        let v : Choice = r.from in
        let k = empty_in (get_or rows v.shops []) (choice_point ends b.family.now b.depot.now b.site.0 v) w r.in_it in
        let p : At order v = place_at order v r.there in
        let choice : IsChoice b.family.now b.site.0 v = subst (IsChoice b.family.now b.site.0) p.is (is.choices p.at v p.within) in
        let each : AreUnderEach ends b.family.now b.depot.now b.site.0 low high (get_or (shop_vectors b.family.now b.site.0) v.shops []) (bounds_at lows v.shops) =
        zip_at (AreUnderEach ends b.family.now b.depot.now b.site.0 low high) (shop_vectors b.family.now b.site.0) lows v.shops [] (record { at_low = 0; at_high = 0 }) under choice.place in
        let at = each v.line choice.least choice.most in
        let empty : length (get_or rows v.shops []) ≡ 0 = k.0 in
        subst (λ (u : Point). IsPassedOver low high vertices u × (passed ≤ lagrangian low.p low.q u)) (sym k.1)
        (elim (settled v.shops choice.place) [
          | inl some ↦ absurd (omega (arith, empty, some))
          | inr by ↦ (
            by.above (choice_point ends b.family.now b.depot.now b.site.0 v) at.at_low at.at_high,
            (let l = by.high_enough in let a = at.at_low in omega (arith, l, a)),
          )
        ])

-- all points of a whole curve
pub curve_with_all : (low high : Price) (points curve : List Point) (passed : ℕ) → IsCurve points curve → IsCurveWithout low high points curve passed
curve_with_all low high points curve passed is = record {
  kept = points;
  others = [];
  curve = is;
  all = λ v. (λ m. subst (λ (l : List Point). Among v l) (append-nil points) m, λ m. subst (λ (l : List Point). Among v l) (sym (append-nil points)) m);
  over = λ w m. absurd m;
  high_enough = λ w m. absurd m;
}

-- the known part of the kept points is one of all
pub known_without : (low high : Price) (points curve part : List Point) (passed before beyond : ℕ) → (h : IsCurveWithout low high points curve passed) → beyond ≤ before → beyond ≤ passed
    → IsKnownPart low high h.kept part before → IsKnownPart low high points part beyond
known_without low high points curve part passed before beyond h a b k =
    known_of_members low high (h.kept ++ h.others) points part beyond h.all
    (known_left_out low high h.kept part h.others before beyond a h.over (λ w m. (let l = h.high_enough w m in omega (arith, l, b))) k)
