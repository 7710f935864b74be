-- The choices of stocks at a base in order of cost, and their points.
use Rattle.std.proofs.Common.{◌≡◌, ℕ, zero, suc, ◌+◌, ◌*◌, ◌<◌, ◌≤◌, List, [], ◌∷◌, ◌++◌, length, get_or, map, take, sym, ap, ◌∙◌, subst, arith}
use Rattle.std.specs.List.Sorted.{IsPermutation}
use Rattle.std.proofs.lemmas.List.{get_or-take, length-map, map-append}
use Rattle.std.proofs.lemmas.List.Sorted.{IsPermutation-map, length_permutation}
use Rattle.std.proofs.lemmas.Simd.{map-map}
use Rattle.list_laws.proofs.Public.{at_each, each_any, map_flat, same_flat, take_on}
use Rattle.fleet_model.specs.Laws.{IsBase}
use Rattle.hull.specs.declared.point.Point.{Point}
use Rattle.hull.specs.Curves.{Among, InRange, StandFor}
use Rattle.hull.specs.Scores.{LeavesRoom}
use Rattle.hull.proofs.Public.{Origin, origin_of, permuted_stands, stand_for_both, stand_self, stand_trans}
use Rattle.family_points.specs.declared.order.Choice.{Choice}
use Rattle.family_points.specs.Points.{ScoreEnds}
use Rattle.family_points.specs.Separation.{base_point}
use Rattle.family_points.specs.Turned.{turned_points}
use Rattle.family_points.specs.Inputs.{AreShopsAt, FamilyBox, IsAt, IsFamilyBox, line_stocks, shop_vectors, vector_count}
use Rattle.family_points.specs.Choices.{IsChoice, IsOrder, choice_point, choice_stocks, turned_stocks}
use Rattle.family_points.proofs.Points.{base_small, joined_at, shops_between, small_range, turned_count}
use Rattle.family_points.proofs.Sites.{size}

-- ---- places of lists

take_below : {X : Type 0} (n : ℕ) (xs : List X) (k : ℕ) → k < length (take n xs) → k < n
take_below zero xs k h = absurd (let l : k < 0 = h in omega (arith, l))
take_below (suc n) [] k h = absurd (let l : k < 0 = h in omega (arith, l))
take_below (suc n) (x ∷ xs) zero h = omega arith
take_below (suc n) (x ∷ xs) (suc k) h = let l = take_below n xs k (omega (arith, h)) in omega (arith, l)

-- ---- a choice is within its bounds

module _ (x : FamilyBox) (valid : IsFamilyBox x) (j : ℕ) (v : Choice) (is : IsChoice x j v) (base : IsBase x.case j) where
  pub choice_shops : AreShopsAt x j (get_or (shop_vectors x j) v.shops [])
  choice_shops = at_each (AreShopsAt x j) (shop_vectors x j) (shops_between x valid j base.1) v.shops [] is.place

  -- the stocks of a choice are within the bounds of its base
  pub choice_at : IsAt x j (choice_stocks x j v)
  choice_at = joined_at x valid j v.line (get_or (shop_vectors x j) v.shops []) base.1 choice_shops is.least is.most

  -- the point of a choice is in range
  pub choice_range : (ends : ScoreEnds) → LeavesRoom ends → (d : List ℕ) → IsAt x 0 d → InRange (choice_point ends x d j v)
  choice_range ends room d at_depot =
      small_range (size x.case x.line) 1 (choice_point ends x d j v) (omega arith) (omega arith)
      (base_small x valid ends room d at_depot j (choice_stocks x j v) base choice_at)

-- ---- the points in order

-- those of the first n choices
abbrev pub points_to : FamilyBox → ℕ → List Choice → ScoreEnds → List ℕ → ℕ → List Point
points_to x j order ends d n = map (choice_point ends x d j) (take n order)

module _ (x : FamilyBox) (j : ℕ) (order : List Choice) (is : IsOrder x j order) (ends : ScoreEnds) (d : List ℕ) where
  abbrev before : ℕ → List Point
  before n = points_to x j order ends d n

  -- no earlier point costs more
  pub earlier_cheaper : (n : ℕ) (w : Choice) (v : Point) → n < length order → w ≡ get_or order n w → Among v (before n) → v.cost ≤ w.cost
  earlier_cheaper n w v h e m =
      let r : Origin (choice_point ends x d j) (take n order) v = origin_of (choice_point ends x d j) (take n order) v m in
      let below : r.at < n = take_below n order r.at r.below in
      let u : Choice = get_or order r.at w in
      let point : choice_point ends x d j u ≡ v = ap (choice_point ends x d j) (sym (get_or-take n order r.at w below)) ∙ r.is w in
      let cost : u.cost ≡ v.cost = (is.choices r.at w (omega (arith, below, h))).cost ∙ ap (λ (p : Point). p.cost) point in
      let rises : u.cost ≤ (get_or order n w).cost = is.rises r.at n w (omega (arith, below)) h in
      let same : w.cost ≡ (get_or order n w).cost = ap (λ (c : Choice). c.cost) e in
      omega (arith, cost, rises, same)

  -- each earlier point has as many stocks as another choice
  pub earlier_wide : IsFamilyBox x → LeavesRoom ends → IsAt x 0 d → IsBase x.case j → (n : ℕ) (w : Choice) (v : Point) → n ≤ length order → IsChoice x j w → Among v (before n)
      → length v.stocks ≡ length (choice_stocks x j w)
  earlier_wide valid room at_depot base n w v h is_choice m =
      let r : Origin (choice_point ends x d j) (take n order) v = origin_of (choice_point ends x d j) (take n order) v m in
      let below : r.at < n = take_below n order r.at r.below in
      let u : Choice = get_or order r.at w in
      let point : choice_point ends x d j u ≡ v = ap (choice_point ends x d j) (sym (get_or-take n order r.at w below)) ∙ r.is w in
      let wide : (c : Choice) → IsChoice x j c → length (choice_point ends x d j c).stocks ≡ 1 * size x.case x.line =
      λ c i. (base_small x valid ends room d at_depot j (choice_stocks x j c) base (choice_at x valid j c i base)).width in
      sym (ap (λ (p : Point). length p.stocks) point) ∙ wide u (is.choices r.at w (omega (arith, below, h))) ∙ sym (wide w is_choice)

  -- what stands for the points so far and one more
  pub stands_on : (n : ℕ) (w : Choice) (old new : List Point) → n < length order → w ≡ get_or order n w → StandFor (before n) old
      → StandFor (old ++ choice_point ends x d j w ∷ []) new → StandFor (before (n + 1)) new
  stands_on n w old new h e a b =
      let p : List Point = choice_point ends x d j w ∷ [] in
      let more : before (n + 1) ≡ before n ++ p =
      ap (map (choice_point ends x d j)) (take_on order n w h e) ∙ map-append (choice_point ends x d j) (take n order) (w ∷ []) in
      subst (λ (l : List Point). StandFor l new) (sym more) (stand_trans (before n ++ p) (old ++ p) new (stand_for_both (before n) p old p a (stand_self p)) b)

  abbrev turned : List Point
  turned = turned_points ends x d j

  turned_is : map (base_point ends x d j) (turned_stocks x j) ≡ turned
  turned_is =
      map_flat (base_point ends x d j) (λ shops. map (λ s. s ∷ shops) (line_stocks x j)) (shop_vectors x j)
      ∙ same_flat (λ (v : List ℕ). Unit {0}) (λ shops. map (base_point ends x d j) (map (λ s. s ∷ shops) (line_stocks x j)))
      (λ shops. map (λ s. base_point ends x d j (s ∷ shops)) (line_stocks x j)) (shop_vectors x j)
      (λ shops _. map-map (base_point ends x d j) (λ s. s ∷ shops) (line_stocks x j)) (each_any (shop_vectors x j))

  -- they are the points of the base
  pub points_permuted : IsPermutation turned (map (choice_point ends x d j) order)
  points_permuted =
      subst (λ (l : List Point). IsPermutation l (map (choice_point ends x d j) order)) turned_is
      (subst (IsPermutation (map (base_point ends x d j) (turned_stocks x j))) (map-map (base_point ends x d j) (choice_stocks x j) order)
      (IsPermutation-map (base_point ends x d j) (turned_stocks x j) (map (choice_stocks x j) order) is.all))

  -- what stands for the points of the choices in order stands for the points of the base
  pub ordered_stands : (made : List Point) → StandFor (map (choice_point ends x d j) order) made → StandFor turned made
  ordered_stands made h = permuted_stands turned (map (choice_point ends x d j) order) made points_permuted h

  -- there are as many choices as the base has vectors
  pub order_count : IsFamilyBox x → LeavesRoom ends → IsAt x 0 d → IsBase x.case j → length order ≡ vector_count x j
  order_count valid room at_depot base =
      sym (length-map order (choice_point ends x d j)) ∙ length_permutation turned (map (choice_point ends x d j) order) points_permuted
      ∙ turned_count x valid ends room d at_depot j base
