-- The points of a box, one by one.
use Rattle.std.proofs.Common.{◌≡◌, ℕ, zero, suc, ◌+◌, ◌-◌, ◌*◌, ◌^◌, ◌<◌, ◌≤◌, inl, inr, List, [], ◌∷◌, ◌++◌, length, get_or, map, flat_map, take, drop, not, refl, sym, ap, ap₂, ◌∙◌, subst, arith, add-one, length-append, sum_by, ◌⊎◌}
use Rattle.std.specs.List.{range_with_len, AllZip, AllByRecursion}
use Rattle.std.proofs.Math.Nat.{mul_assoc, mul_comm}
use Rattle.std.proofs.lemmas.List.{length-map, append-nil}
use Rattle.std.proofs.lemmas.List.Concat.{flat_map-append}
use Rattle.std.proofs.lemmas.List.FromFn.{length-range_with_len}
use Rattle.std.proofs.lemmas.List.Sums.{fold-append, sum_by-cons, sum_by-append}
use Rattle.list_laws.proofs.Public.{at_each, begins_with_first, each_append, each_in_range, each_mapped, range_more, take_next}
use Rattle.fixed_interval.specs.Ends.{Ends}
use Rattle.hull.specs.declared.point.Point.{Point}
use Rattle.hull.specs.Curves.{Among, InRange, IsCurve, plus, sums, point_at}
use Rattle.hull.proofs.Public.{begins_cheapest, among_left, Parts, parts_of}
use Rattle.hull.specs.Scores.{InLimits, LeavesRoom}
use Rattle.spares_input.specs.Rows.{no_part, no_site}
use Rattle.spares_input.specs.Frames.{part_at}
use Rattle.spares_input.specs.Cases.{CaseRows}
use Rattle.fleet_model.specs.Rows.{systems, per_system, weight, bases}
use Rattle.fleet_model.specs.Fleet.{family}
use Rattle.fleet_model.specs.Laws.{IsBase}
use Rattle.family_items.specs.Profile.{item_of}
use Rattle.family_points.specs.Vectors.{Pair, places, between, vectors, IsBetween}
use Rattle.family_points.specs.Points.{ScoreEnds, cost_above, added_cost, point_at_vector, points_within}
use Rattle.family_points.specs.Counts.{product, widths}
use Rattle.family_points.specs.Boxes.{nth}
use Rattle.family_points.specs.Separation.{base_point, base_points, base_stocks, depot_point, points_over, depot_points}
use Rattle.family_points.specs.Turned.{turned_points}
use Rattle.family_points.specs.Inputs.{AreShopsAt, FamilyBox, IsFamilyBox, IsAt, box_points, held_at, high_at, line_high, line_low, line_stocks, low_at, shop_high, shop_low, shop_vectors, vector_count}
use Rattle.family_points.proofs.Numbers.{block_length, nth_is, product_some, vectors_count}
use Rattle.family_points.proofs.Bounded.{Costs, at_long, box_at, cost_end, costs_on, few_members, low_long, high_long}
use Rattle.family_points.proofs.Separate.{separated_is}
use Rattle.family_points.proofs.Scores.{backorders_small, backorders_ordered}
use Rattle.family_points.proofs.Sites.{part_long, size}
use Rattle.family_points.proofs.Turns.{curve_of_turned, curve_turned}

-- ---- something of each

-- what is true of each element is true of a member
pub of_each : {X : Type 0} (P : X → Type 0) (xs : List X) → AllByRecursion P xs → (x : X) → Among x xs → P x
of_each P [] a x m = absurd m
of_each P (y ∷ ys) a x m = elim m [ inl e ↦ subst P (sym e) a.0 | inr n ↦ of_each P ys a.1 x n ]

-- ---- each vector of a box is within it

-- what is true of all members of each row, for rows of members that have something in common, is so of the rows put one after another
pub each_flat_in : {X Y : Type 0} (Q : X → Type 0) (P : Y → Type 0) (f : X → List Y) (xs : List X) → ((x : X) → Q x → AllByRecursion P (f x)) → AllByRecursion Q xs
    → AllByRecursion P (flat_map f xs)
each_flat_in Q P f [] h a = tt
each_flat_in Q P f (x ∷ xs) h a = each_append P (f x) (flat_map f xs) (h x a.0) (each_flat_in Q P f xs h a.1)

-- each vector of a box is in it
pub each_between : (low high : List ℕ) → AllZip (λ x y. x ≤ y) low high → AllByRecursion (IsBetween low high) (vectors low high)
each_between [] [] h = (record { least = tt; most = tt }, tt)
each_between [] (b ∷ high) h = absurd h
each_between (a ∷ low) [] h = absurd h
each_between (a ∷ low) (b ∷ high) h =
    each_flat_in (λ x. (a ≤ x) × (x ≤ b)) (IsBetween (a ∷ low) (b ∷ high)) (λ x. map (λ v. x ∷ v) (vectors low high)) (between a b)
    (λ x m. each_mapped (IsBetween low high) (IsBetween (a ∷ low) (b ∷ high)) (λ v. x ∷ v) (vectors low high)
    (λ v g. record { least = (m.0, g.least); most = (m.1, g.most) }) (each_between low high h.1))
    (each_in_range (λ x. (a ≤ x) × (x ≤ b)) (suc b - a) a (λ x l m. (l, omega (arith, m, h.0))))

-- the vector at a number is within its box
pub nth_between : (low high : List ℕ) (n : ℕ) → AllZip (λ x y. x ≤ y) low high → n < product (widths low high) → IsBetween low high (nth low high n)
nth_between low high n h m =
    subst (IsBetween low high) (nth_is low high n h m) (at_each (IsBetween low high) (vectors low high) (each_between low high h) n [] (omega (arith, m, vectors_count low high h)))

-- ---- one base more

-- the points with given depot stocks over one base more are the sums of those so far with that base's points
pub over_more : (ends : ScoreEnds) (x : FamilyBox) (d : List ℕ) (n : ℕ)
    → points_over ends x d (range_with_len 1 (suc n)) ≡ sums (points_over ends x d (range_with_len 1 n)) (base_points ends x d (n + 1))
over_more ends x d n =
    ap (points_over ends x d) (range_more 1 n (n + 1) (omega arith))
    ∙ fold-append (λ points j. sums points (base_points ends x d j)) (depot_point x d ∷ []) (range_with_len 1 n) ((n + 1) ∷ [])

-- ---- what is true of each point

-- the points of n sites: cost, ends and stocks
pub record IsSmall (w n : ℕ) (v : Point) : Type 0 where
  pub cost : v.cost ≤ n * 56700000000
  pub ends : v.lo ≤ v.hi
  pub room : v.hi + n ≤ n * 2 ^ 70
  pub width : length v.stocks ≡ n * w

pub small_plus : (w m n : ℕ) (u v : Point) → IsSmall w m u → IsSmall w n v → IsSmall w (m + n) (plus u v)
small_plus w m n u v a b = record {
  cost = omega (arith, a.cost, b.cost);
  ends = omega (arith, a.ends, b.ends);
  room = omega (arith, a.room, b.room);
  width = length-append u.stocks v.stocks ∙ ap₂ (λ x y. x + y) a.width b.width ∙ both m n w;
}
  where
    both : (m n w : ℕ) → m * w + n * w ≡ (m + n) * w
    both m n w = omega arith

-- a sum of at most 16 small points keeps the limits that a point's numbers have
pub small_range : (w n : ℕ) (v : Point) → 0 < n → n ≤ 16 → IsSmall w n v → InRange v
small_range w n v some few h = record {
  cost = omega (arith, h.cost, few);
  ends = h.ends;
  hi = omega (arith, h.room, some, few);
}

module _ (x : FamilyBox) (valid : IsFamilyBox x) where
  -- the costs of the first i parts
  cost_so_far : (k : ℕ) (v : List ℕ) → k < length x.case.sites → IsAt x k v → (i : ℕ) → i ≤ size x.case x.line → (n : ℕ) × Costs x k v i n
  cost_so_far k v m h zero l = (0, record { goes_on = omega arith; most = omega arith })
  cost_so_far k v m h (suc i) l =
      let r = cost_so_far k v m h i (omega (arith, l)) in
      let next = costs_on x valid k i r.0 v m h (omega (arith, l)) r.1 in
      let cost = r.0 + (get_or v i 0 - get_or (held_at x k) i 0) * (part_at x.case.parts (get_or (family x.case x.line) i 0)).cost in
      (cost, subst (λ j. Costs x k v j cost) (add-one i) next)

  -- stocks within the bounds of a site cost at most 56,700,000,000 beyond what is held there
  pub site_cost_most : (k : ℕ) (v : List ℕ) → k < length x.case.sites → IsAt x k v
      → cost_above x.case (family x.case x.line) (held_at x k) v ≤ 56700000000
  site_cost_most k v m h =
      let w = size x.case x.line in
      let r = cost_so_far k v m h w (omega arith) in
      omega (
        arith,
        r.1.goes_on,
        r.1.most,
        few_members x.case x.line valid.valid valid.is_line,
        cost_end x.case (family x.case x.line) (drop w (held_at x k)) (drop w v) w (omega arith),
      )

  pub depot_small : (d : List ℕ) → IsAt x 0 d → IsSmall (size x.case x.line) 1 (depot_point x d)
  depot_small d h =
      let some = valid.valid.frame.fewest_sites in
      record {
        cost = omega (arith, site_cost_most 0 d (omega (arith, some)) h);
        ends = omega arith;
        room = omega arith;
        width = omega (arith, at_long x valid 0 d (omega (arith, some)) h);
      }

  -- the numbers of a base are those that a score takes
  pub limits_hold : (b : Ends) (j : ℕ) → IsBase x.case j → b.hi ≤ 2 ^ 56 → InLimits (systems x.case j) (per_system x.case x.line) (weight x.case x.line) b
  limits_hold b j base small =
      let site = valid.valid.frame.site_rows j no_site base.1 in
      let part = valid.valid.frame.part_rows x.line no_part valid.is_line.is_part in
      let systems = site.systems.within (ap not (valid.valid.frame.bases j base.0 base.1)) in
      let per_system = part.per_system.within valid.is_line.no_parent in
      let weight = part.weight.within valid.is_line.no_parent in
      record {
        some_systems = systems.0;
        most_systems = systems.1;
        some_per_system = per_system.0;
        most_per_system = per_system.1;
        some_weight = weight.0;
        most_weight = weight.1;
        room = small;
      }

  module _ (ends : ScoreEnds) (room : LeavesRoom ends) (d : List ℕ) (at_depot : IsAt x 0 d) where
    -- the point of stocks within the bounds of a base is as small as that of one site
    pub base_small : (j : ℕ) (b : List ℕ) → IsBase x.case j → IsAt x j b → IsSmall (size x.case x.line) 1 (base_point ends x d j b)
    base_small j b base h =
        let item = item_of 48 x.case (base_stocks x d j b) x.line j in
        let r = room (systems x.case j) (per_system x.case x.line) (weight x.case x.line) item.backorders
        (limits_hold item.backorders j base (backorders_small x valid j d b at_depot h base)) (backorders_ordered x valid j d b at_depot h base) in
        record {
          cost = omega (arith, site_cost_most j b base.1 h);
          ends = r.0;
          room = omega (arith, r.1);
          width = omega (arith, at_long x valid j b base.1 h);
        }

    pub each_base_small : (j : ℕ) → IsBase x.case j
        → AllByRecursion (IsSmall (size x.case x.line) 1) (base_points ends x d j)
    each_base_small j base =
        each_mapped (IsAt x j) (IsSmall (size x.case x.line) 1) (base_point ends x d j) (vectors (low_at x j) (high_at x j))
        (λ b h. base_small j b base h) (each_between (low_at x j) (high_at x j) (box_at x j valid base.1).ordered)

    -- the points over the first n bases are as small as those of n + 1 sites
    pub over_small : (n : ℕ) → n < length x.case.sites → (v : Point)
        → Among v (points_over ends x d (range_with_len 1 n)) → IsSmall (size x.case x.line) (n + 1) v
    over_small zero m v h = elim h [ inl e ↦ subst (IsSmall (size x.case x.line) 1) (sym e) (depot_small d at_depot) | inr none ↦ absurd none ]
    over_small (suc n) m v h =
        let r : Parts (points_over ends x d (range_with_len 1 n)) (base_points ends x d (n + 1)) v =
        parts_of _ _ v (subst (Among v) (over_more ends x d n) h) in
        let base : IsBase x.case (n + 1) = (omega arith, omega (arith, m)) in
        let both : n + 1 + 1 ≡ suc n + 1 = omega arith in
        subst (λ k. IsSmall (size x.case x.line) k v) both (subst (IsSmall (size x.case x.line) (n + 1 + 1)) (sym r.is)
        (small_plus (size x.case x.line) (n + 1) 1 r.first r.second (over_small n (omega (arith, m)) r.first r.first_in)
        (of_each (IsSmall (size x.case x.line) 1) (base_points ends x d (n + 1)) (each_base_small (n + 1) base) r.second r.second_in)))

-- ---- the steps of the loops

module _ (x : FamilyBox) (valid : IsFamilyBox x) (ends : ScoreEnds) (room : LeavesRoom ends) (d : List ℕ) (at_depot : IsAt x 0 d) where
  -- the points over all bases are as small as those of all sites
  pub depot_points_small : (v : Point) → Among v (depot_points ends x d) → IsSmall (size x.case x.line) (length x.case.sites) v
  depot_points_small v m =
      let some = valid.valid.frame.fewest_sites in
      let all : length x.case.sites - 1 + 1 ≡ length x.case.sites = omega (arith, some) in
      subst (λ n. IsSmall (size x.case x.line) n v) all (over_small x valid ends room d at_depot (length x.case.sites - 1) (omega (arith, some)) v m)

-- ---- all stocks at the depot

flat_one : {X Y : Type 0} (f : X → List Y) (xs : List X) (x : X) → flat_map f (xs ++ x ∷ []) ≡ flat_map f xs ++ f x
flat_one {X} {Y} f xs x = flat_map-append f xs (x ∷ []) ∙ ap (λ (r : List Y). flat_map f xs ++ r) (append-nil (f x))

-- the points of the first n + 1 vectors are those of the first n and those of the one at n
pub flat_next : {Y : Type 0} (f : List ℕ → List Y) (vs : List (List ℕ)) (n : ℕ) (d : List ℕ) → n < length vs → d ≡ get_or vs n []
    → flat_map f (take (n + 1) vs) ≡ flat_map f (take n vs) ++ f d
flat_next f vs n d h e = ap (flat_map f) (take_next vs n h) ∙ flat_one f (take n vs) (get_or vs n []) ∙ ap (λ v. flat_map f (take n vs) ++ f v) (sym e)

-- the points of n + 1 numbers up to b are those of the first, and those of the n after it
pub flat_stock_before : (f : ℕ → List Point) (b n s : ℕ) → n ≤ b → s ≡ b - n → flat_map f (range_with_len (b + 1 - (n + 1)) (n + 1)) ≡ f s ++ flat_map f (range_with_len (b + 1 - n) n)
flat_stock_before f b n s h e =
    let first : b + 1 - (n + 1) ≡ s = omega (arith, e) in
    let next : s + 1 ≡ b + 1 - n = omega (arith, e, h) in
    let more : n + 1 ≡ suc n = omega arith in
    ap (λ k. flat_map f (range_with_len k (n + 1))) first ∙ ap (λ k. flat_map f (range_with_len s k)) more ∙ ap (λ k. f s ++ flat_map f (range_with_len k n)) next

-- the same of n + 1 numbers from a on
pub flat_stock_behind : (f : ℕ → List Point) (a n s : ℕ) → s ≡ a + n → flat_map f (range_with_len a (n + 1)) ≡ flat_map f (range_with_len a n) ++ f s
flat_stock_behind f a n s e =
    let more : n + 1 ≡ suc n = omega arith in
    ap (λ k. flat_map f (range_with_len a k)) more ∙ ap (flat_map f) (range_more a n s (omega (arith, e))) ∙ flat_one f (range_with_len a n) s

module _ (x : FamilyBox) (valid : IsFamilyBox x) where
  -- the low bounds of a site are the line unit's and then the shop units'
  pub low_begins : (k : ℕ) → k < length x.case.sites → line_low x k ∷ shop_low x k ≡ low_at x k
  low_begins k m = begins_with_first (low_at x k) (omega (arith, part_long x.case x.line x.low k (length x.case.sites) (low_long x valid) m))

  -- the high bounds of a site are the line unit's and then the shop units'
  pub high_begins : (k : ℕ) → k < length x.case.sites → line_high x k ∷ shop_high x k ≡ high_at x k
  high_begins k m = begins_with_first (high_at x k) (omega (arith, part_long x.case x.line x.high k (length x.case.sites) (high_long x valid) m))

  -- the low bounds of a site are not empty
  pub low_some : (k : ℕ) → k < length x.case.sites → 0 < length (low_at x k)
  low_some k m = subst (λ (v : List ℕ). 0 < length v) (low_begins k m) (omega arith)

  -- the high bounds of a site are not empty
  pub high_some : (k : ℕ) → k < length x.case.sites → 0 < length (high_at x k)
  high_some k m = subst (λ (v : List ℕ). 0 < length v) (high_begins k m) (omega arith)

  -- stocks of the line unit and of the shop units within their bounds
  pub joined_at : (k s : ℕ) (v : List ℕ) → k < length x.case.sites → AreShopsAt x k v → line_low x k ≤ s → s ≤ line_high x k → IsAt x k (s ∷ v)
  joined_at k s v m h a b =
      subst (λ low. IsBetween low (high_at x k) (s ∷ v)) (low_begins k m) (subst (λ high. IsBetween (line_low x k ∷ shop_low x k) high (s ∷ v)) (high_begins k m)
      (record { least = (a, h.least); most = (b, h.most) }))

  -- the low bounds of a site, the line unit's first, are at most the high ones
  pub box_begins : (k : ℕ) → k < length x.case.sites → AllZip (λ x y. x ≤ y) (line_low x k ∷ shop_low x k) (line_high x k ∷ shop_high x k)
  box_begins k m =
      subst (λ low. AllZip (λ x y. x ≤ y) low (line_high x k ∷ shop_high x k)) (sym (low_begins k m))
      (subst (λ high. AllZip (λ x y. x ≤ y) (low_at x k) high) (sym (high_begins k m)) (box_at x k valid m).ordered)

  -- each vector of the shop units at a site is within their bounds
  pub shops_between : (k : ℕ) → k < length x.case.sites → AllByRecursion (AreShopsAt x k) (shop_vectors x k)
  shops_between k m = each_between (shop_low x k) (shop_high x k) (box_begins k m).1

  -- the line unit has a stock for each number from its least to its most
  pub stocks_count : (k : ℕ) → length (line_stocks x k) ≡ suc (line_high x k) - line_low x k
  stocks_count k = length-range_with_len (line_low x k) (suc (line_high x k) - line_low x k)

  -- each site has a vector
  pub some_vectors : (k : ℕ) → k < length x.case.sites → 0 < vector_count x k
  some_vectors k m =
      let order = (box_at x k valid m).ordered in
      subst (λ n. 0 < n) (sym (vectors_count (low_at x k) (high_at x k) order)) (product_some (low_at x k) (high_at x k) order)

  -- how many vectors a site has
  pub vectors_by_line : (k : ℕ) → k < length x.case.sites → vector_count x k ≡ length (line_stocks x k) * length (shop_vectors x k)
  vectors_by_line k m =
      ap₂ (λ low high. length (vectors low high)) (sym (low_begins k m)) (sym (high_begins k m))
      ∙ block_length (shop_vectors x k) (line_low x k) (suc (line_high x k) - line_low x k)
      ∙ ap (λ n. n * length (shop_vectors x k)) (sym (length-range_with_len (line_low x k) (suc (line_high x k) - line_low x k)))

  -- room for each vector of the depot is room for each of the shop units' vectors with each stock of the line unit
  pub whole_room : (v m : ℕ) → vector_count x 0 * v ≤ m → length (shop_vectors x 0) * (length (line_stocks x 0) * v) ≤ m
  whole_room v m h =
      let some = valid.valid.frame.fewest_sites in
      let a : ℕ = length (line_stocks x 0) in
      let b : ℕ = length (shop_vectors x 0) in
      subst (λ n. n ≤ m) (ap (λ n. n * v) (vectors_by_line 0 (omega (arith, some)) ∙ mul_comm a b) ∙ mul_assoc b a v) h

  module _ (ends : ScoreEnds) (room : LeavesRoom ends) where
    abbrev at_depots : List ℕ → List Point
    at_depots = depot_points ends x

    -- a curve of the points for all stocks of the shop units at the depot is one of all points of the box
    pub all_depots : (k : ℕ) (curve : List Point) → k ≡ 0
        → IsCurve (flat_map (λ d. flat_map (λ s. at_depots (s ∷ d)) (line_stocks x 0)) (drop k (shop_vectors x 0))) curve
        → IsCurve (box_points ends x) curve
    all_depots k curve h a =
        let some = valid.valid.frame.fewest_sites in
        let inside : 0 < length x.case.sites = omega (arith, some) in
        let own : List ℕ → List Point = λ d. flat_map (λ s. at_depots (s ∷ d)) (line_stocks x 0) in
        subst (λ ps. IsCurve ps curve)
        (ap₂ (λ low high. flat_map at_depots (vectors low high)) (low_begins 0 inside) (high_begins 0 inside)
        ∙ separated_is ends x valid.valid valid.is_line valid.ordered)
        (curve_of_turned at_depots (line_low x 0) (line_high x 0) (shop_low x 0) (shop_high x 0) curve
        (subst (λ n. IsCurve (flat_map own (drop n (shop_vectors x 0))) curve) h a))

    -- ---- the points of a base

    module _ (d : List ℕ) (at_depot : IsAt x 0 d) (j : ℕ) (base : IsBase x.case j) where
      abbrev turned : List Point
      turned = turned_points ends x d j

      -- a curve of a base's points by the shop units' stocks is a curve of the base's points
      pub turned_curve : (curve : List Point) → IsCurve turned curve → IsCurve (base_points ends x d j) curve
      turned_curve curve h =
          subst (λ ps. IsCurve ps curve)
          (ap₂ (λ low high. map (base_point ends x d j) (vectors low high)) (low_begins j base.1) (high_begins j base.1))
          (curve_turned ends x d j curve h)

      turned_length : (vs : List (List ℕ)) (ss : List ℕ)
          → length (flat_map (λ shops. map (λ s. base_point ends x d j (s ∷ shops)) ss) vs) ≡ length ss * length vs
      turned_length [] ss = omega arith
      turned_length (v ∷ vs) ss =
          let point : ℕ → Point = λ s. base_point ends x d j (s ∷ v) in
          omega (
            arith,
            length-append (map point ss) (flat_map (λ shops. map (λ s. base_point ends x d j (s ∷ shops)) ss) vs),
            length-map ss point,
            turned_length vs ss,
          )

      -- a base has as many points as vectors
      pub turned_count : length turned ≡ vector_count x j
      turned_count = turned_length (shop_vectors x j) (line_stocks x j) ∙ sym (vectors_by_line j base.1)

-- ---- what a curve promises

-- each vertex of the curve of a box has stocks from the least to the most
pub stocks_between : (c : CaseRows) (l : ℕ) (ends : ScoreEnds) (held low high : List ℕ) (curve : List Point) → AllZip (λ x y. x ≤ y) low high
    → IsCurve (points_within c l ends held low high) curve → (v : Point) → Among v curve → IsBetween low high v.stocks
stocks_between c l ends held low high curve h is v m =
    of_each (λ (v : Point). IsBetween low high v.stocks) (points_within c l ends held low high)
    (each_mapped (IsBetween low high) (λ (v : Point). IsBetween low high v.stocks) (point_at_vector c l ends held) (vectors low high) (λ v g. g) (each_between low high h)) v (is.among v m)

-- the least vector is one of the box
pub first_vector : (low high : List ℕ) → AllZip (λ x y. x ≤ y) low high → Among low (vectors low high)
first_vector [] [] h = inl refl
first_vector [] (b ∷ high) h = absurd h
first_vector (a ∷ low) [] h = absurd h
first_vector (a ∷ low) (b ∷ high) h = some (suc b - a) (omega (arith, h.0)) (first_vector low high h.1)
  where
    mapped : (vs : List (List ℕ)) → Among low vs → Among (a ∷ low) (map (λ v. a ∷ v) vs)
    mapped [] m = absurd m
    mapped (v ∷ vs) m = elim m [ inl e ↦ inl (ap (λ w. a ∷ w) e) | inr n ↦ inr (mapped vs n) ]

    some : (n : ℕ) → 0 < n → Among low (vectors low high) → Among (a ∷ low) (flat_map (λ x. map (λ v. x ∷ v) (vectors low high)) (range_with_len a n))
    some zero g m = absurd (omega (arith, g))
    some (suc n) g m =
        among_left (a ∷ low) (map (λ v. a ∷ v) (vectors low high)) (flat_map (λ x. map (λ v. x ∷ v) (vectors low high)) (range_with_len (a + 1) n))
        (mapped (vectors low high) m)

-- the point of a member is among the points of the members
pub mapped_among : {X : Type 0} (f : X → Point) (x : X) (xs : List X) → Among x xs → Among (f x) (map f xs)
mapped_among f x [] m = absurd m
mapped_among f x (y ∷ ys) m = elim m [ inl e ↦ inl (ap f e) | inr n ↦ inr (mapped_among f x ys n) ]

-- what is held costs nothing more
pub nothing_above : (c : CaseRows) (ps v : List ℕ) → cost_above c ps v v ≡ 0
nothing_above c [] v = refl
nothing_above c (p ∷ ps) [] = refl
nothing_above c (p ∷ ps) (s ∷ v) = omega (arith, ap (λ n. n * (part_at c.parts p).cost) (same s), nothing_above c ps v)
  where
    same : (s : ℕ) → s - s ≡ 0
    same s = omega arith

-- where the least that a box allows is what is held, its curve begins at the cost 0
pub begins_at_none : (c : CaseRows) (l : ℕ) (ends : ScoreEnds) (held low high : List ℕ) (curve : List Point) → AllZip (λ x y. x ≤ y) low high → held ≡ low
    → 0 < length curve → IsCurve (points_within c l ends held low high) curve → (point_at curve 0).cost ≡ 0
begins_at_none c l ends held low high [] h e some is = absurd (omega (arith, some))
begins_at_none c l ends held low high (v ∷ rest) h e some is =
    let point = point_at_vector c l ends held low in
    let first = begins_cheapest (points_within c l ends held low high) rest v point is (mapped_among (point_at_vector c l ends held) low (vectors low high) (first_vector low high h)) in
    let none : point.cost ≡ 0 = ap (λ (w : List ℕ). added_cost c l w low) e ∙ nothing_above c (map (λ (x : Pair). x.part) (places c l)) low in
    omega (arith, first, none)

-- ---- how many vertices

-- no base has more vectors than all bases together
pub room_at : (x : FamilyBox) (j : ℕ) → 0 < j → j < length x.case.sites → vector_count x j ≤ sum_by (vector_count x) (bases x.case)
room_at x j some m = within 1 (length x.case.sites - 1) (omega (arith, some)) (omega (arith, some, m))
  where
    first_or_later : (a : ℕ) → a ≤ j → (j ≡ a) ⊎ (a + 1 ≤ j)
    first_or_later a h = grind arith

    within : (a n : ℕ) → a ≤ j → j < a + n → vector_count x j ≤ sum_by (vector_count x) (range_with_len a n)
    within a zero h g = absurd (omega (arith, h, g))
    within a (suc n) h g = elim (first_or_later a h) [
      | inl e ↦ omega (arith, sum_by-cons (vector_count x) a (range_with_len (a + 1) n), ap (vector_count x) e)
      | inr l ↦ omega (arith, sum_by-cons (vector_count x) a (range_with_len (a + 1) n), within (a + 1) n l (omega (arith, g)))
    ]

-- the vertices over the bases before j, and what is left of the whole
abbrev pub over_count : FamilyBox → ℕ → ℕ
over_count x j = 1 + sum_by (vector_count x) (range_with_len 1 (j - 1))

-- one base more adds its vectors to the count of the vertices so far
pub over_count_more : (x : FamilyBox) (j : ℕ) → 1 ≤ j → over_count x (j + 1) ≡ over_count x j + vector_count x j
over_count_more x j some =
    let next : suc (j - 1) ≡ j + 1 - 1 = omega (arith, some) in
    ap (λ n. 1 + sum_by (vector_count x) (range_with_len 1 n)) (sym next)
    ∙ ap (λ (xs : List ℕ). 1 + sum_by (vector_count x) xs) (range_more 1 (j - 1) j (omega (arith, some)))
    ∙ ap (λ n. 1 + n) (sum_by-append (vector_count x) (range_with_len 1 (j - 1)) (j ∷ [])) ∙ one (sum_by (vector_count x) (range_with_len 1 (j - 1))) (vector_count x j)
  where
    one : (n y : ℕ) → 1 + (n + (0 + y)) ≡ 1 + n + y
    one n y = omega arith
