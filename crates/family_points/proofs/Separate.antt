-- The points of a family are made of the points of its sites.
use Rattle.std.proofs.Common.{◌≡◌, ◌==◌, ℕ, zero, suc, ◌+◌, ◌-◌, ◌*◌, ◌<◌, Bool, cond, List, [], ◌∷◌, ◌++◌, length, map, flat_map, take, drop, refl, sym, ap, ap₂, ◌∙◌, arith, length-append}
use Rattle.std.specs.List.{range_with_len, fold}
use Rattle.std.proofs.lemmas.List.{append-nil, append_assoc, map-id}
use Rattle.std.proofs.lemmas.List.Concat.{flat_map-append}
use Rattle.std.proofs.lemmas.List.Sums.{fold-append}
use Rattle.std.proofs.lemmas.Simd.{map-map}
use Rattle.std.proofs.lemmas.Bool.{ne_eqb, eq-eqb}
use Rattle.list_laws.proofs.Public.{each_any, map_flat, range_more, same_flat, same_length, same_map}
use Rattle.fixed_interval.specs.Ends.{Ends, ends_exact, ends_add}
use Rattle.depot_pipeline.specs.Profile.{added}
use Rattle.spares_input.specs.Frames.{part_at}
use Rattle.spares_input.specs.Cases.{CaseRows, IsCase}
use Rattle.fleet_model.specs.Fleet.{family}
use Rattle.family_items.specs.Inputs.{IsLine}
use Rattle.family_items.proofs.Public.{added_same}
use Rattle.hull.specs.declared.point.Point.{Point}
use Rattle.hull.specs.Curves.{plus, plus_each, sums}
use Rattle.family_points.specs.Vectors.{Pair, limits, places_at, site_part, stocks_with, vectors}
use Rattle.family_points.specs.Points.{ScoreEnds, scored, cost_above, point_at_vector, AreOrdered}
use Rattle.family_points.specs.Inputs.{FamilyBox, box_points, held_at, high_at, low_at}
use Rattle.family_points.specs.Separation.{depot_and_base, depot_point, base_stocks, base_point, base_points, depot_points, separated}
use Rattle.family_points.proofs.Bounded.{limits_long}
use Rattle.family_points.proofs.Depend.{scored_same}
use Rattle.family_points.proofs.Boxes.{each_long, vectors_joined}
use Rattle.family_points.proofs.Sites.{agree, all_joined, joined, part_before, part_behind, part_long, size}

-- ---- sums of mapped points

plus_each_map : {Y : Type 0} (v : Point) (g : Y → Point) (ys : List Y) → plus_each v (map g ys) ≡ map (λ y. plus v (g y)) ys
plus_each_map v g [] = refl
plus_each_map v g (y ∷ ys) = ap (λ (vs : List Point). plus v (g y) ∷ vs) (plus_each_map v g ys)

sums_map : {X Y : Type 0} (f : X → Point) (g : Y → Point) (xs : List X) (ys : List Y) → sums (map f xs) (map g ys) ≡ flat_map (λ x. map (λ y. plus (f x) (g y)) ys) xs
sums_map f g [] ys = refl
sums_map f g (x ∷ xs) ys = ap₂ (λ (a b : List Point). a ++ b) (plus_each_map (f x) g ys) (sums_map f g xs ys)

-- ---- costs

cost_joined : (c : CaseRows) (ps qs held v u : List ℕ) → length v ≡ length ps
    → cost_above c (ps ++ qs) held (v ++ u) ≡ cost_above c ps held v + cost_above c qs (drop (length ps) held) u
cost_joined c [] qs held [] u e = omega arith
cost_joined c [] qs held (s ∷ v) u e = absurd (omega (arith, e))
cost_joined c (p ∷ ps) qs held [] u e = absurd (omega (arith, e))
cost_joined c (p ∷ ps) qs [] (s ∷ v) u e = none qs u
  where
    none : (qs u : List ℕ) → 0 ≡ 0 + cost_above c qs [] u
    none [] u = refl
    none (q ∷ qs) u = refl
cost_joined c (p ∷ ps) qs (h ∷ held) (s ∷ v) u e = omega (arith, cost_joined c ps qs held v u (omega (arith, e)))

cost_taken : (c : CaseRows) (ps held v : List ℕ) → cost_above c ps (take (length ps) held) v ≡ cost_above c ps held v
cost_taken c [] held v = refl
cost_taken c (p ∷ ps) [] v = refl
cost_taken c (p ∷ ps) (h ∷ held) [] = refl
cost_taken c (p ∷ ps) (h ∷ held) (s ∷ v) = ap (λ n. (s - h) * (part_at c.parts p).cost + n) (cost_taken c ps held v)

-- ---- members of several sites

members_of : CaseRows → ℕ → ℕ → ℕ → List ℕ
members_of c l a n = flat_map (λ k. family c l) (range_with_len a n)

members_long : (c : CaseRows) (l a n : ℕ) → length (members_of c l a n) ≡ n * size c l
unfolding members_of
members_long c l a zero = omega arith
members_long c l a (suc n) = omega (arith, length-append (family c l) (members_of c l (a + 1) n), members_long c l (a + 1) n)

members_more : (c : CaseRows) (l n : ℕ) → members_of c l 0 (suc n) ≡ members_of c l 0 n ++ family c l
unfolding members_of
members_more c l n =
    ap (flat_map (λ k. family c l)) (range_more 0 n n (omega arith)) ∙ flat_map-append (λ k. family c l) (range_with_len 0 n) (n ∷ [])
    ∙ ap (λ (r : List ℕ). flat_map (λ k. family c l) (range_with_len 0 n) ++ r) (append-nil (family c l))

-- the members at all places
members_all : (c : CaseRows) (l n a : ℕ) → map (λ (x : Pair). x.part) (flat_map (places_at c l) (range_with_len a n)) ≡ members_of c l a n
unfolding members_of
members_all c l n a =
    map_flat (λ (x : Pair). x.part) (places_at c l) (range_with_len a n)
    ∙ same_flat (λ k. Unit {0}) (λ k. map (λ (x : Pair). x.part) (places_at c l k)) (λ k. family c l) (range_with_len a n)
    (λ k _. map-map (λ (x : Pair). x.part) (λ p. record { part = p; site = k }) (family c l) ∙ map-id (family c l)) (each_any (range_with_len a n))

-- ---- one base more

-- of the stocks of the depot and of base j, those at j are the base's
pub at_base : (d : List ℕ) (j : ℕ) (b : List ℕ) → 0 < j → depot_and_base d j b j ≡ b
at_base d j b h =
    ap (λ (t : Bool). cond t d (cond (j == j) b [])) (ne_eqb j 0 (λ e. omega (arith, e, h)))
    ∙ ap (λ (t : Bool). cond t b []) (eq-eqb j j refl)

module _ (ends : ScoreEnds) (x : FamilyBox) where
  abbrev c : CaseRows
  c = x.case

  abbrev l : ℕ
  l = x.line

  -- the score of the first n bases
  abbrev scored_by : List ℕ → ℕ → Ends
  scored_by v n = added (ends_exact 48 0) (λ j. scored c l ends (stocks_with c l v) (j + 1)) n

  -- the point of a vector of the depot and the first n bases
  abbrev point_by : ℕ → List ℕ → Point
  point_by n v = record {
    cost = cost_above c (members_of c l 0 (suc n)) x.held v;
    lo = (scored_by v n).lo;
    hi = (scored_by v n).hi;
    stocks = v;
  }

  module _ (valid : IsCase c) (line : IsLine c l) where
    scored_more : (d v b : List ℕ) (n : ℕ) → n + 1 < length c.sites → length v ≡ (n + 1) * size c l → length b ≡ size c l → site_part c l v 0 ≡ d
        → ends_add (scored_by v n) (scored c l ends (base_stocks x d (n + 1) b) (n + 1)) ≡ scored_by (v ++ b) (suc n)
    unfolding added
    scored_more d v b n m e h at =
        ap₂ ends_add
        (added_same (ends_exact 48 0) (λ j. scored c l ends (stocks_with c l v) (j + 1)) (λ j. scored c l ends (stocks_with c l (v ++ b)) (j + 1)) n
        (λ j k. scored_same c l ends (stocks_with c l v) (stocks_with c l (v ++ b)) (j + 1) line (omega arith)
        (agree c l (site_part c l v) (site_part c l (v ++ b)) 0 valid line (omega (arith, m)) (sym (part_before c l v b 0 (n + 1) e (omega arith))))
        (agree c l (site_part c l v) (site_part c l (v ++ b)) (j + 1) valid line (omega (arith, m, k))
        (sym (part_before c l v b (j + 1) (n + 1) e (omega (arith, k)))))))
        (scored_same c l ends (base_stocks x d (n + 1) b) (stocks_with c l (v ++ b)) (n + 1) line (omega arith)
        (agree c l (depot_and_base d (n + 1) b) (site_part c l (v ++ b)) 0 valid line (omega (arith, m))
        (sym (part_before c l v b 0 (n + 1) e (omega arith) ∙ at)))
        (agree c l (depot_and_base d (n + 1) b) (site_part c l (v ++ b)) (n + 1) valid line m
        (at_base d (n + 1) b (omega arith) ∙ sym (part_behind c l v b (n + 1) e h))))

    cost_more : (v b : List ℕ) (n : ℕ) → length v ≡ (n + 1) * size c l
        → cost_above c (members_of c l 0 (suc n)) x.held v + cost_above c (family c l) (held_at x (n + 1)) b
        ≡ cost_above c (members_of c l 0 (suc (suc n))) x.held (v ++ b)
    cost_more v b n e =
        let long : length (members_of c l 0 (suc n)) ≡ (n + 1) * size c l = omega (arith, members_long c l 0 (suc n)) in
        ap (λ k. cost_above c (members_of c l 0 (suc n)) x.held v + k)
        (cost_taken c (family c l) (drop ((n + 1) * size c l) x.held) b ∙ ap (λ k. cost_above c (family c l) (drop k x.held) b) (sym long))
        ∙ sym (cost_joined c (members_of c l 0 (suc n)) (family c l) x.held v b (e ∙ sym long))
        ∙ ap (λ (ps : List ℕ). cost_above c ps x.held (v ++ b)) (sym (members_more c l (suc n)))

    point_more : (d v b : List ℕ) (n : ℕ) → n + 1 < length c.sites → length v ≡ (n + 1) * size c l → length b ≡ size c l → site_part c l v 0 ≡ d
        → plus (point_by n v) (base_point ends x d (n + 1) b) ≡ point_by (suc n) (v ++ b)
    point_more d v b n m e h at =
        let made : ℕ → Ends → Point = λ x y. record { cost = x; lo = y.lo; hi = y.hi; stocks = v ++ b } in
        ap₂ made (cost_more v b n e) (scored_more d v b n m e h at)

    -- ---- all bases

    joined_more : (v : List ℕ) (n : ℕ) → joined c l v 1 (suc n) ≡ joined c l v 1 n ++ site_part c l v (n + 1)
    joined_more v n =
        ap (flat_map (site_part c l v)) (range_more 1 n (n + 1) (omega arith)) ∙ flat_map-append (site_part c l v) (range_with_len 1 n) ((n + 1) ∷ [])
        ∙ ap (λ (r : List ℕ). flat_map (site_part c l v) (range_with_len 1 n) ++ r) (append-nil (site_part c l v (n + 1)))

    joined_long : (v : List ℕ) (n : ℕ) → n < length c.sites → length v ≡ length c.sites * size c l → length (joined c l v 1 n) ≡ n * size c l
    joined_long v zero m e = omega arith
    joined_long v (suc n) m e =
        ap length (joined_more v n) ∙ length-append (joined c l v 1 n) (site_part c l v (n + 1))
        ∙ ap₂ (λ a b. a + b) (joined_long v n (omega (arith, m)) e) (part_long c l v (n + 1) (length c.sites) e (omega (arith, m))) ∙ next n (size c l)
      where
        next : (n w : ℕ) → n * w + w ≡ suc n * w
        next n w = omega arith

    module _ (low_long : length x.low ≡ length c.sites * size c l) (high_long : length x.high ≡ length c.sites * size c l) where
      -- the sums over the first n bases
      abbrev summed : List ℕ → ℕ → List Point
      summed d n = fold (λ points j. sums points (base_points ends x d j)) (depot_point x d ∷ []) (range_with_len 1 n)

      summed_none : (d : List ℕ) → depot_point x d ≡ point_by 0 (d ++ [])
      unfolding members_of added
      summed_none d =
          let made : ℕ → List ℕ → Point = λ x v. record { cost = x; lo = 0; hi = 0; stocks = v } in
          let start : 0 * size c l ≡ 0 = omega arith in
          ap₂ made
          (ap (λ k. cost_above c (family c l) (take (size c l) (drop k x.held)) d) start
          ∙ cost_taken c (family c l) x.held d
          ∙ ap₂ (λ (ps v : List ℕ). cost_above c ps x.held v) (sym (append-nil (family c l))) (sym (append-nil d)))
          (sym (append-nil d))

      summed_is : (d : List ℕ) (n : ℕ) → length d ≡ size c l → n < length c.sites
          → summed d n ≡ map (λ u. point_by n (d ++ u)) (vectors (joined c l x.low 1 n) (joined c l x.high 1 n))
      summed_is d zero h m = ap (λ (v : Point). v ∷ []) (summed_none d)
      summed_is d (suc n) h m =
          let us = vectors (joined c l x.low 1 n) (joined c l x.high 1 n) in
          let bs = vectors (low_at x (n + 1)) (high_at x (n + 1)) in
          let base = base_point ends x d (n + 1) in
          let us_long = each_long (joined c l x.low 1 n) (joined c l x.high 1 n)
          (joined_long x.low n (omega (arith, m)) low_long ∙ sym (joined_long x.high n (omega (arith, m)) high_long)) in
          let bs_long = each_long (low_at x (n + 1)) (high_at x (n + 1))
          (part_long c l x.low (n + 1) (length c.sites) low_long (omega (arith, m)) ∙ sym (part_long c l x.high (n + 1) (length c.sites) high_long (omega (arith, m)))) in
          ap (fold (λ points j. sums points (base_points ends x d j)) (depot_point x d ∷ [])) (range_more 1 n (n + 1) (omega arith))
          ∙ fold-append (λ points j. sums points (base_points ends x d j)) (depot_point x d ∷ []) (range_with_len 1 n) ((n + 1) ∷ [])
          ∙ ap (λ (ps : List Point). sums ps (base_points ends x d (n + 1))) (summed_is d n h (omega (arith, m)))
          ∙ sums_map (λ u. point_by n (d ++ u)) base us bs
          ∙ same_flat (λ (u : List ℕ). length u ≡ length (joined c l x.low 1 n)) (λ u. map (λ b. plus (point_by n (d ++ u)) (base b)) bs)
          (λ u. map (λ w. point_by (suc n) (d ++ w)) (map (λ b. u ++ b) bs)) us
          (λ u k. same_map (λ (b : List ℕ). length b ≡ length (low_at x (n + 1))) (λ b. plus (point_by n (d ++ u)) (base b))
          (λ b. point_by (suc n) (d ++ (u ++ b))) bs
          (λ b g. point_more d (d ++ u) b n (omega (arith, m))
          (length-append d u ∙ ap₂ (λ x y. x + y) h (k ∙ joined_long x.low n (omega (arith, m)) low_long) ∙ first_more n (size c l))
          (g ∙ part_long c l x.low (n + 1) (length c.sites) low_long (omega (arith, m)))
          (part_before c l d u 0 1 (one (size c l) h) (omega arith) ∙ part_behind c l [] d 0 (omega arith) h)
          ∙ ap (point_by (suc n)) (append_assoc d u b)) bs_long
          ∙ sym (map-map (λ w. point_by (suc n) (d ++ w)) (λ b. u ++ b) bs)) us_long
          ∙ sym (map_flat (λ w. point_by (suc n) (d ++ w)) (λ u. map (λ b. u ++ b) bs) us)
          ∙ ap (map (λ w. point_by (suc n) (d ++ w)))
          (sym (vectors_joined (joined c l x.low 1 n) (joined c l x.high 1 n) (low_at x (n + 1)) (high_at x (n + 1))
          (joined_long x.low n (omega (arith, m)) low_long ∙ sym (joined_long x.high n (omega (arith, m)) high_long)))
          ∙ ap₂ vectors (sym (joined_more x.low n)) (sym (joined_more x.high n)))
        where
          first_more : (n w : ℕ) → w + n * w ≡ (n + 1) * w
          first_more n w = omega arith

          one : (w : ℕ) → length d ≡ w → length d ≡ 1 * w
          one w e = omega (arith, e)

      whole : (v : List ℕ) (n : ℕ) → length c.sites ≡ suc n → length v ≡ length c.sites * size c l → site_part c l v 0 ++ joined c l v 1 n ≡ v
      whole v n e h = all_joined c l v (suc n) (h ∙ ap (λ k. k * size c l) e)

      point_whole : (n : ℕ) (v : List ℕ) → length c.sites ≡ suc n → point_by n v ≡ point_at_vector c l ends x.held v
      point_whole n v e =
          let made : ℕ → ℕ → Point = λ x k. record { cost = x; lo = (scored_by v k).lo; hi = (scored_by v k).hi; stocks = v } in
          let count : n ≡ length c.sites - 1 = omega (arith, e) in
          ap₂ made
          (ap (λ (ps : List ℕ). cost_above c ps x.held v) (ap (members_of c l 0) (sym e) ∙ sym (members_all c l (length c.sites) 0)))
          count

      separated_by : (n : ℕ) → length c.sites ≡ suc n → separated ends x ≡ box_points ends x
      separated_by n e =
          let fronts = vectors (low_at x 0) (high_at x 0) in
          let rest = vectors (joined c l x.low 1 n) (joined c l x.high 1 n) in
          let low_front = part_long c l x.low 0 (length c.sites) low_long (omega (arith, e)) in
          let high_front = part_long c l x.high 0 (length c.sites) high_long (omega (arith, e)) in
          same_flat (λ (d : List ℕ). length d ≡ length (low_at x 0)) (depot_points ends x) (λ d. map (point_by n) (map (λ u. d ++ u) rest)) fronts
          (λ d h. ap (summed d) (last n e) ∙ summed_is d n (h ∙ low_front) (omega (arith, e)) ∙ sym (map-map (point_by n) (λ u. d ++ u) rest))
          (each_long (low_at x 0) (high_at x 0) (low_front ∙ sym high_front))
          ∙ sym (map_flat (point_by n) (λ d. map (λ u. d ++ u) rest) fronts)
          ∙ ap (map (point_by n))
          (sym (vectors_joined (low_at x 0) (high_at x 0) (joined c l x.low 1 n) (joined c l x.high 1 n) (low_front ∙ sym high_front))
          ∙ ap₂ vectors (whole x.low n e low_long) (whole x.high n e high_long))
          ∙ same_map (λ (v : List ℕ). Unit {0}) (point_by n) (point_at_vector c l ends x.held) (vectors x.low x.high) (λ v _. point_whole n v e) (each_any (vectors x.low x.high))
        where
          last : (n : ℕ) → length c.sites ≡ suc n → length c.sites - 1 ≡ n
          last n e = omega (arith, e)

-- the points made for each choice at the depot are all points of the box
pub separated_is : (ends : ScoreEnds) (x : FamilyBox) → IsCase x.case → IsLine x.case x.line → AreOrdered x.case x.line x.held x.low x.high → separated ends x ≡ box_points ends x
separated_is ends x valid line ordered =
    let some = valid.frame.fewest_sites in
    let top = sym (same_length x.high (limits x.case x.line) ordered.within) ∙ limits_long x.case x.line in
    separated_by ends x valid line (sym (same_length x.low x.high ordered.low_least) ∙ top) top (length x.case.sites - 1) (omega (arith, some))
