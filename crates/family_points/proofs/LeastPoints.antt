-- The least Lagrangian of a family's points: of a base by its choices, of the depot's stocks by their bases.
use Rattle.std.proofs.Common.{◌≡◌, ℕ, zero, suc, ◌+◌, ◌-◌, ◌*◌, ◌<◌, ◌≤◌, min, Bool, true, false, List, [], ◌∷◌, ◌++◌, length, get_or, map, flat_map, take, sum_by, refl, sym, ap, ap₂, ◌∙◌, subst, arith}
use Rattle.std.specs.List.{range_with_len, AllZip}
use Rattle.std.proofs.lemmas.List.{length-map, map-append, take_all}
use Rattle.std.proofs.lemmas.List.Folds.{flat_map-map}
use Rattle.std.proofs.lemmas.List.Sums.{sum_by-append}
use Rattle.std.proofs.lemmas.Simd.{map-map}
use Rattle.list_laws.proofs.Public.{each_any, flat_flat, map_flat, range_more, same_flat, take_on}
use Rattle.spares_input.specs.Cases.{CaseRows, IsCase}
use Rattle.fleet_model.specs.Laws.{IsBase}
use Rattle.family_items.specs.Inputs.{IsLine}
use Rattle.hull.specs.declared.point.Point.{Point}
use Rattle.hull.specs.Curves.{lagrangian, Among, sums}
use Rattle.hull.proofs.Public.{among_flat, in_range, among_at}
use Rattle.family_points.specs.declared.order.Choice.{Choice}
use Rattle.family_points.specs.Vectors.{between, vectors}
use Rattle.family_points.specs.Points.{AreOrdered, ScoreEnds, point_at_vector, points_within}
use Rattle.family_points.specs.Separation.{base_point, base_points, depot_point, depot_points, points_over, separated}
use Rattle.family_points.specs.Inputs.{FamilyBox, IsFamilyBox, box_points, high_at, line_high, line_low, line_stocks, low_at, shop_high, shop_low, shop_vectors}
use Rattle.family_points.specs.Least.{AreAtLeast, IsLeast, Decides, base_least, depot_least, least, least_of}
use Rattle.family_points.specs.Choices.{IsOrder, choice_point}
use Rattle.family_points.specs.Turned.{turned_points}
use Rattle.family_points.proofs.Bounded.{box_of}
use Rattle.family_points.proofs.Leasts.{at_least_both, is_least_some, least_flat, least_is, least_more, least_one, least_permuted, least_same, least_sums, decides_false, decides_same, decides_true}
use Rattle.family_points.proofs.Numbers.{product_some, vectors_count}
use Rattle.family_points.proofs.Ordered.{points_permuted, points_to}
use Rattle.family_points.proofs.Points.{flat_next, flat_stock_behind, high_begins, low_begins, over_more}
use Rattle.family_points.proofs.Separate.{separated_is}
use Rattle.family_points.proofs.Turns.{turn, turn_lists}

-- one choice more
pub choice_more : (x : FamilyBox) (j : ℕ) (order : List Choice) (ends : ScoreEnds) (d : List ℕ) (p q n : ℕ) (w : Choice) (m k : ℕ) → n < length order → w ≡ get_or order n w
    → IsLeast p q (points_to x j order ends d n) m → k ≡ lagrangian p q (choice_point ends x d j w) → IsLeast p q (points_to x j order ends d (n + 1)) (min m k)
choice_more x j order ends d p q n w m k h e a v =
    let more : points_to x j order ends d (n + 1) ≡ points_to x j order ends d n ++ choice_point ends x d j w ∷ [] =
    ap (map (choice_point ends x d j)) (take_on order n w h e) ∙ map-append (choice_point ends x d j) (take n order) (w ∷ []) in
    subst (λ (l : List Point). IsLeast p q l (min m k)) (sym more) (least_more p q (points_to x j order ends d n) (choice_point ends x d j w) m k a v)

-- the first choice alone
pub choice_first : (x : FamilyBox) (j : ℕ) (order : List Choice) (ends : ScoreEnds) (d : List ℕ) (p q : ℕ) (w : Choice) (m : ℕ) → 0 < length order → w ≡ get_or order 0 w
    → m ≡ lagrangian p q (choice_point ends x d j w) → IsLeast p q (points_to x j order ends d 1) m
choice_first x j order ends d p q w m h e v =
    let one : points_to x j order ends d 1 ≡ choice_point ends x d j w ∷ [] = ap (map (choice_point ends x d j)) (take_on order 0 w h e) in
    subst (λ (l : List Point). IsLeast p q l m) (sym one) (least_one p q (choice_point ends x d j w) m v)

-- all choices
pub choice_all : (x : FamilyBox) (j : ℕ) (order : List Choice) (ends : ScoreEnds) (d : List ℕ) (p q n m : ℕ) → length order ≤ n
    → IsLeast p q (points_to x j order ends d n) m → IsLeast p q (map (choice_point ends x d j) order) m
choice_all x j order ends d p q n m h a = subst (λ (l : List Choice). IsLeast p q (map (choice_point ends x d j) l) m) (take_all n order h) a

-- ---- a base

-- a base's points, taken with the shop units' stocks first
module _ (ends : ScoreEnds) (x : FamilyBox) (d : List ℕ) (j : ℕ) where
  abbrev straight : List Point
  straight = map (base_point ends x d j) (vectors (line_low x j ∷ shop_low x j) (line_high x j ∷ shop_high x j))

  straight_is : flat_map (λ s. map (λ shops. base_point ends x d j (s ∷ shops)) (shop_vectors x j)) (line_stocks x j) ≡ straight
  straight_is =
      sym (map_flat (base_point ends x d j) (λ s. map (λ v. s ∷ v) (shop_vectors x j)) (line_stocks x j)
      ∙ same_flat (λ s. Unit {0}) (λ s. map (base_point ends x d j) (map (λ v. s ∷ v) (shop_vectors x j)))
      (λ s. map (λ shops. base_point ends x d j (s ∷ shops)) (shop_vectors x j)) (line_stocks x j)
      (λ s _. map-map (base_point ends x d j) (λ v. s ∷ v) (shop_vectors x j)) (each_any (line_stocks x j)))

  -- are points of the base
  pub turned_among : (v : Point) → Among v (turned_points ends x d j) → Among v straight
  turned_among v k =
      subst (λ ps. Among v ps) straight_is (turn (λ shops s. base_point ends x d j (s ∷ shops)) v (shop_vectors x j) (line_stocks x j) k)

  -- have the least of the base's
  least_turned : (p q m : ℕ) → IsLeast p q (turned_points ends x d j) m → IsLeast p q straight m
  least_turned p q m h =
      least_same p q (turned_points ends x d j) straight m turned_among
      (λ v k. turn (λ s shops. base_point ends x d j (s ∷ shops)) v (line_stocks x j) (shop_vectors x j) (subst (λ ps. Among v ps) (sym straight_is) k)) h

-- the least of a base's choices is that of its vectors
pub base_least_is : (x : FamilyBox) (valid : IsFamilyBox x) (j : ℕ) (order : List Choice) → IsOrder x j order → (ends : ScoreEnds) (d : List ℕ) → IsBase x.case j → (p q m : ℕ)
    → IsLeast p q (map (choice_point ends x d j) order) m → IsLeast p q (base_points ends x d j) m
base_least_is x valid j order is ends d base p q m h =
    let turned : List Point = turned_points ends x d j in
    let a : IsLeast p q turned m = least_permuted p q turned (map (choice_point ends x d j) order) m (points_permuted x j order is ends d) h in
    subst (λ ps. IsLeast p q ps m)
    (ap₂ (λ low high. map (base_point ends x d j) (vectors low high)) (low_begins x valid j base.1) (high_begins x valid j base.1))
    (least_turned ends x d j p q m a)

-- ---- stocks at the depot

-- what they cost, before any base
pub depot_begins : (x : FamilyBox) (d : List ℕ) (p q n : ℕ) → n ≡ (depot_point x d).cost → IsLeast p q (depot_point x d ∷ []) (p * n)
depot_begins x d p q n e = least_one p q (depot_point x d) (p * n) (ap (λ k. p * k) e ∙ none p q (depot_point x d).cost)
  where
    none : (p q k : ℕ) → p * k ≡ q * 0 + p * k
    none p q k = omega arith

-- one base more
pub base_added : (x : FamilyBox) (ends : ScoreEnds) (d : List ℕ) (p q j a b : ℕ) → 0 < j
    → IsLeast p q (points_over ends x d (range_with_len 1 (j - 1))) a
    → IsLeast p q (base_points ends x d j) b
    → IsLeast p q (points_over ends x d (range_with_len 1 (j + 1 - 1))) (a + b)
base_added x ends d p q j a b some h k =
    let over : ℕ → List Point = λ n. points_over ends x d (range_with_len 1 n) in
    let base : ℕ → List Point = base_points ends x d in
    let next : suc (j - 1) ≡ j + 1 - 1 = omega (arith, some) in
    let here : j - 1 + 1 ≡ j = omega (arith, some) in
    let more : over (suc (j - 1)) ≡ sums (over (j - 1)) (base j) = over_more ends x d (j - 1) ∙ ap (λ i. sums (over (j - 1)) (base i)) here in
    subst (λ n. IsLeast p q (over n) (a + b)) next (subst (λ ps. IsLeast p q ps (a + b)) (sym more) (least_sums p q a b (over (j - 1)) (base j) h k))

-- ---- the depot's stocks in turn

module _ (p q floor : ℕ) (f : ℕ → List Point) (a : ℕ) where
  -- one stock more reaches the floor
  pub stock_more : (s : ℕ) → a ≤ s → AreAtLeast p q floor (flat_map f (range_with_len a (s - a))) → Decides p q floor (f s) true
      → AreAtLeast p q floor (flat_map f (range_with_len a (s + 1 - a)))
  stock_more s h so_far decides =
      let next : s - a + 1 ≡ s + 1 - a = omega (arith, h) in
      subst (λ n. AreAtLeast p q floor (flat_map f (range_with_len a n))) next
      (subst (AreAtLeast p q floor) (sym (flat_stock_behind f a (s - a) s (omega (arith, h))))
      (at_least_both p q floor (flat_map f (range_with_len a (s - a))) (f s) so_far (decides.yes refl)))

  -- one stock is below the floor
  pub stock_below : (s n : ℕ) → a ≤ s → s < a + n → Decides p q floor (f s) false → Decides p q floor (flat_map f (range_with_len a n)) false
  stock_below s n h top decides =
      let r = decides.no refl in
      decides_false p q floor (flat_map f (range_with_len a n)) r.0 (among_flat f (range_with_len a n) s r.0 (in_range s a n h top) r.1) r.2

module _ (p q floor : ℕ) (f : List ℕ → List Point) (vs : List (List ℕ)) where
  -- one choice of the shop units' stocks more reaches the floor
  pub shops_more : (n : ℕ) (d : List ℕ) → n < length vs → d ≡ get_or vs n [] → AreAtLeast p q floor (flat_map f (take n vs)) → Decides p q floor (f d) true
      → AreAtLeast p q floor (flat_map f (take (n + 1) vs))
  shops_more n d h e so_far decides =
      subst (AreAtLeast p q floor) (sym (flat_next f vs n d h e)) (at_least_both p q floor (flat_map f (take n vs)) (f d) so_far (decides.yes refl))

  -- one choice of the shop units' stocks is below the floor
  pub shops_below : (n : ℕ) (d : List ℕ) → n < length vs → d ≡ get_or vs n [] → Decides p q floor (f d) false → Decides p q floor (flat_map f vs) false
  shops_below n d h e decides =
      let r = decides.no refl in
      decides_false p q floor (flat_map f vs) r.0 (among_flat f vs d r.0 (subst (λ w. Among w vs) (sym e) (among_at vs n [] h)) r.1) r.2

  -- all choices reach the floor
  pub shops_all : (n : ℕ) → length vs ≤ n → AreAtLeast p q floor (flat_map f (take n vs)) → Decides p q floor (flat_map f vs) true
  shops_all n h a = decides_true p q floor (flat_map f vs) (subst (λ (l : List (List ℕ)). AreAtLeast p q floor (flat_map f l)) (take_all n vs h) a)

-- what is decided of all stocks at the depot, the shop units' first
decides_turned : (at : List ℕ → List Point) (a b : ℕ) (low high : List ℕ) (p q floor : ℕ) (answer : Bool)
    → Decides p q floor (flat_map (λ shops. flat_map (λ s. at (s ∷ shops)) (between a b)) (vectors low high)) answer
    → Decides p q floor (flat_map at (vectors (a ∷ low) (b ∷ high))) answer
decides_turned at a b low high p q floor answer h =
    let points : ℕ → List ℕ → List Point = λ s shops. at (s ∷ shops) in
    let back : List ℕ → ℕ → List Point = λ shops s. at (s ∷ shops) in
    subst (λ ps. Decides p q floor ps answer)
    (sym (flat_flat at (λ s. map (λ v. s ∷ v) (vectors low high)) (between a b)
    ∙ same_flat (λ s. Unit {0}) (λ s. flat_map at (map (λ v. s ∷ v) (vectors low high))) (λ s. flat_map (points s) (vectors low high)) (between a b)
    (λ s _. flat_map-map at (λ v. s ∷ v) (vectors low high)) (each_any (between a b))))
    (decides_same p q floor (flat_map (λ shops. flat_map (back shops) (between a b)) (vectors low high)) (flat_map (λ s. flat_map (points s) (vectors low high)) (between a b)) answer
    (λ v k. turn_lists back v (vectors low high) (between a b) k) (λ v k. turn_lists points v (between a b) (vectors low high) k) h)

-- is decided of all vectors of the box
pub decides_all : (x : FamilyBox) (valid : IsFamilyBox x) (ends : ScoreEnds) (p q floor : ℕ) (answer : Bool)
    → Decides p q floor (flat_map (λ d. flat_map (λ s. depot_points ends x (s ∷ d)) (line_stocks x 0)) (shop_vectors x 0)) answer
    → Decides p q floor (box_points ends x) answer
decides_all x valid ends p q floor answer a =
    let some = valid.valid.frame.fewest_sites in
    let inside : 0 < length x.case.sites = omega (arith, some) in
    let at : List ℕ → List Point = depot_points ends x in
    subst (λ ps. Decides p q floor ps answer)
    (ap₂ (λ low high. flat_map at (vectors low high)) (low_begins x valid 0 inside) (high_begins x valid 0 inside)
    ∙ separated_is ends x valid.valid valid.is_line valid.ordered)
    (decides_turned at (line_low x 0) (line_high x 0) (shop_low x 0) (shop_high x 0) p q floor answer a)

-- ---- the law

module _ (ends : ScoreEnds) (x : FamilyBox) (p q : ℕ) (valid : IsCase x.case) (line : IsLine x.case x.line) (ordered : AreOrdered x.case x.line x.held x.low x.high) where
  site_some : (k : ℕ) → k < length x.case.sites → 0 < length (vectors (low_at x k) (high_at x k))
  site_some k m =
      let order = (box_of x.case x.line x.held x.low x.high k valid line ordered m).ordered in
      subst (λ n. 0 < n) (sym (vectors_count (low_at x k) (high_at x k) order)) (product_some (low_at x k) (high_at x k) order)

  one_base : (d : List ℕ) (j : ℕ) → j < length x.case.sites → IsLeast p q (base_points ends x d j) (base_least ends x p q d j)
  one_base d j m =
      let vs = vectors (low_at x j) (high_at x j) in
      let some = site_some j m in
      is_least_some p q (base_points ends x d j) (omega (arith, some, length-map vs (base_point ends x d j)))

  over_least : (d : List ℕ) (n : ℕ) → n < length x.case.sites
      → IsLeast p q (points_over ends x d (range_with_len 1 n)) (p * (depot_point x d).cost + sum_by (base_least ends x p q d) (range_with_len 1 n))
  over_least d zero m = least_one p q (depot_point x d) (p * (depot_point x d).cost + 0) (none p q (depot_point x d).cost)
    where
      none : (p q k : ℕ) → p * k + 0 ≡ q * 0 + p * k
      none p q k = omega arith
  over_least d (suc n) m =
      let f : ℕ → ℕ = base_least ends x p q d in
      let so_far : ℕ = p * (depot_point x d).cost + sum_by f (range_with_len 1 n) in
      let both : IsLeast p q (points_over ends x d (range_with_len 1 (suc n))) (so_far + f (n + 1)) =
      subst (λ ps. IsLeast p q ps (so_far + f (n + 1))) (sym (over_more ends x d n))
      (least_sums p q so_far (f (n + 1)) (points_over ends x d (range_with_len 1 n)) (base_points ends x d (n + 1)) (over_least d n (omega (arith, m)))
      (one_base d (n + 1) (omega (arith, m)))) in
      let more : sum_by f (range_with_len 1 (suc n)) ≡ sum_by f (range_with_len 1 n) + f (n + 1) =
      ap (sum_by f) (range_more 1 n (n + 1) (omega arith)) ∙ sum_by-append f (range_with_len 1 n) ((n + 1) ∷ []) ∙ one (sum_by f (range_with_len 1 n)) (f (n + 1)) in
      subst (IsLeast p q (points_over ends x d (range_with_len 1 (suc n)))) (omega (arith, more)) both
    where
      one : (a b : ℕ) → a + (0 + b) ≡ a + b
      one a b = omega arith

  one_depot : (d : List ℕ) → IsLeast p q (depot_points ends x d) (depot_least ends x p q d)
  one_depot d = let some = valid.frame.fewest_sites in over_least d (length x.case.sites - 1) (omega (arith, some))

  -- the least of a box is the least over the depot's stocks
  pub box_least : least (lagrangian p q) (box_points ends x)
      ≡ least_of (map (depot_least ends x p q) (vectors (low_at x 0) (high_at x 0)))
  box_least =
      let some = valid.frame.fewest_sites in
      let ds = vectors (low_at x 0) (high_at x 0) in
      let m : ℕ = least_of (map (depot_least ends x p q) ds) in
      let all : IsLeast p q (separated ends x) m =
      least_flat p q (depot_points ends x) (depot_least ends x p q) ds (site_some 0 (omega (arith, some))) (λ d _. one_depot d) in
      sym (least_is p q (box_points ends x) m
      (subst (λ ps. IsLeast p q ps m) (separated_is ends x valid line ordered) all))

-- a box has a vector
pub box_some : (c : CaseRows) (l : ℕ) (ends : ScoreEnds) (held low high : List ℕ) → AllZip (λ x y. x ≤ y) low high → 0 < length (points_within c l ends held low high)
box_some c l ends held low high ordered =
    subst (λ n. 0 < n) (sym (length-map (vectors low high) (point_at_vector c l ends held)))
    (subst (λ n. 0 < n) (sym (vectors_count low high ordered)) (product_some low high ordered))
