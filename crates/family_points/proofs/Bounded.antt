-- Facts of a family and of the bounds of its vectors.
use Rattle.std.proofs.Common.{◌≡◌, ◌==◌, ℕ, zero, suc, ◌+◌, ◌-◌, ◌*◌, ◌<◌, ◌≤◌, Bool, true, false, cond, ltb-true, List, [], ◌∷◌, ◌++◌, length, get_or, map, flat_map, take, drop, position, nat_lt, Option, Some, None, refl, sym, ap, ◌∙◌, subst, arith, length-append}
use Rattle.std.specs.List.{position_or_len, range_with_len, All, AllZip, AllByRecursion}
use Rattle.std.proofs.lemmas.List.{length-map, get_or-map, drop_all}
use Rattle.std.proofs.lemmas.Nat.{mul-le}
use Rattle.std.proofs.lemmas.List.Sums.{passes_at_first}
use Rattle.std.proofs.lemmas.Simd.{map-map}
use Rattle.std.proofs.lemmas.Bool.{eqb-true}
use Rattle.std.proofs.Math.Seq.{take-append_seam, drop-append-add}
use Rattle.std.specs.Option.{option_map_or}
use Rattle.std.proofs.lemmas.List.FromFn.{length-range_with_len}
use Rattle.list_laws.proofs.Public.{each_mapped, flat_length, map_flat, same_length}
use Rattle.spares_input.specs.declared.rows.PartId.{PartId}
use Rattle.spares_input.specs.Rows.{no_part}
use Rattle.spares_input.specs.Frames.{part_at}
use Rattle.spares_input.specs.Stocks.{limit_at, IsFor, IsWithinLimits}
use Rattle.spares_input.specs.Cases.{CaseRows, IsCase}
use Rattle.fleet_model.specs.Rows.{all_sites}
use Rattle.fleet_model.specs.Fleet.{family}
use Rattle.fleet_model.proofs.Public.{limit_most}
use Rattle.family_items.specs.Inputs.{IsLine}
use Rattle.family_items.proofs.Public.{few_shops, shop_at}
use Rattle.family_points.specs.Vectors.{Pair, limits, places, places_at, site_part, stock_in, stocks_in, stock_list}
use Rattle.family_points.specs.Points.{AreOrdered, cost_above}
use Rattle.family_points.specs.Boxes.{IsBox}
use Rattle.family_points.specs.Separation.{depot_and_base, base_stocks}
use Rattle.family_points.specs.Inputs.{FamilyBox, IsFamilyBox, low_at, high_at, held_at, IsAt}
use Rattle.family_points.proofs.Boxes.{each_flat}
use Rattle.family_points.proofs.Sites.{stock_is, members, part_long, size}
use Rattle.family_points.proofs.Numbers.{ordered_at}

-- ---- the members, one by one

-- a family of a valid case has at most 9 parts
pub few_members : (c : CaseRows) (l : ℕ) → IsCase c → IsLine c l → size c l ≤ 9
few_members c l valid line = omega (arith, few_shops c l valid line)

-- ---- lengths

flat_long : (c : CaseRows) (l a n : ℕ) → length (flat_map (places_at c l) (range_with_len a n)) ≡ n * size c l
flat_long c l a zero = omega arith
flat_long c l a (suc n) =
    let at : ℕ → Pair = λ p. record { part = p; site = a } in
    omega (arith, length-append (places_at c l a) (flat_map (places_at c l) (range_with_len (a + 1) n)), length-map (family c l) at, flat_long c l (a + 1) n)

-- the limits of a family have one entry for each of its parts at each site
pub limits_long : (c : CaseRows) (l : ℕ) → length (limits c l) ≡ length c.sites * size c l
limits_long c l = length-map (places c l) (λ (x : Pair). limit_at c.parts x.part x.site) ∙ flat_long c l 0 (length c.sites)

module _ (x : FamilyBox) (valid : IsFamilyBox x) where
  -- the high bounds have one number for each part of the family at each site
  pub high_long : length x.high ≡ length x.case.sites * size x.case x.line
  high_long = sym (same_length x.high (limits x.case x.line) valid.ordered.within) ∙ limits_long x.case x.line

  -- the low bounds have one number for each part of the family at each site
  pub low_long : length x.low ≡ length x.case.sites * size x.case x.line
  low_long = sym (same_length x.low x.high valid.ordered.low_least) ∙ high_long

  -- what is held has one number for each part of the family at each site
  pub held_long : length x.held ≡ length x.case.sites * size x.case x.line
  held_long = sym (same_length x.held x.low valid.ordered.held_least) ∙ low_long

-- ---- parts of lists that go together

zip_drop : (n : ℕ) (xs ys : List ℕ) → AllZip (λ x y. x ≤ y) xs ys → AllZip (λ x y. x ≤ y) (drop n xs) (drop n ys)
zip_drop zero xs ys h = h
zip_drop (suc n) [] [] h = tt
zip_drop (suc n) [] (y ∷ ys) h = absurd h
zip_drop (suc n) (x ∷ xs) [] h = absurd h
zip_drop (suc n) (x ∷ xs) (y ∷ ys) h = zip_drop n xs ys h.1

zip_take : (n : ℕ) (xs ys : List ℕ) → AllZip (λ x y. x ≤ y) xs ys → AllZip (λ x y. x ≤ y) (take n xs) (take n ys)
zip_take zero xs ys h = tt
zip_take (suc n) [] [] h = tt
zip_take (suc n) [] (y ∷ ys) h = absurd h
zip_take (suc n) (x ∷ xs) [] h = absurd h
zip_take (suc n) (x ∷ xs) (y ∷ ys) h = (h.0, zip_take n xs ys h.1)

pub zip_part : (c : CaseRows) (l k : ℕ) (xs ys : List ℕ) → AllZip (λ x y. x ≤ y) xs ys → AllZip (λ x y. x ≤ y) (site_part c l xs k) (site_part c l ys k)
zip_part c l k xs ys h = zip_take (size c l) (drop (k * size c l) xs) (drop (k * size c l) ys) (zip_drop (k * size c l) xs ys h)

each_at_most : (m : ℕ) (xs ys : List ℕ) → AllZip (λ x y. x ≤ y) xs ys → AllByRecursion (λ y. y ≤ m) ys → AllByRecursion (λ x. x ≤ m) xs
each_at_most m [] [] h a = tt
each_at_most m [] (y ∷ ys) h a = absurd h
each_at_most m (x ∷ xs) [] h a = absurd h
each_at_most m (x ∷ xs) (y ∷ ys) h a = (omega (arith, h.0, a.0), each_at_most m xs ys h.1 a.1)

each_drop : (m n : ℕ) (xs : List ℕ) → AllByRecursion (λ x. x ≤ m) xs → AllByRecursion (λ x. x ≤ m) (drop n xs)
each_drop m zero xs a = a
each_drop m (suc n) [] a = tt
each_drop m (suc n) (x ∷ xs) a = each_drop m n xs a.1

each_take : (m n : ℕ) (xs : List ℕ) → AllByRecursion (λ x. x ≤ m) xs → AllByRecursion (λ x. x ≤ m) (take n xs)
each_take m zero xs a = tt
each_take m (suc n) [] a = tt
each_take m (suc n) (x ∷ xs) a = (a.0, each_take m n xs a.1)

at_index : (m : ℕ) (xs : List ℕ) → AllByRecursion (λ x. x ≤ m) xs → All (λ x. x ≤ m) xs
at_index m [] a i d h = absurd (omega (arith, h))
at_index m (x ∷ xs) a zero d h = a.0
at_index m (x ∷ xs) a (suc i) d h = at_index m xs a.1 i d (omega (arith, h))

limits_small : (c : CaseRows) (l : ℕ) → IsCase c → IsLine c l → AllByRecursion (λ x. x ≤ 63) (limits c l)
limits_small c l valid line =
    each_mapped (λ (x : Pair). x.part < length c.parts) (λ x. x ≤ 63) (λ (x : Pair). limit_at c.parts x.part x.site) (places c l)
    (λ x h. limit_most c x.part x.site valid h)
    (each_flat (λ (x : Pair). x.part < length c.parts) (places_at c l) (all_sites c)
    (λ k. each_mapped (λ p. p < length c.parts) (λ (x : Pair). x.part < length c.parts) (λ p. record { part = p; site = k }) (family c l) (λ p h. h) (members c l valid line)))

-- what ordered bounds of a family's vectors leave for one site is a box of that site
pub box_of : (c : CaseRows) (l : ℕ) (held low high : List ℕ) (k : ℕ) → IsCase c → IsLine c l → AreOrdered c l held low high → k < length c.sites
    → IsBox (site_part c l low k) (site_part c l high k)
box_of c l held low high k valid line ordered m =
    let top : length high ≡ length c.sites * size c l = sym (same_length high (limits c l) ordered.within) ∙ limits_long c l in
    let long : length low ≡ length c.sites * size c l = sym (same_length low high ordered.low_least) ∙ top in
    record {
      few = omega (arith, part_long c l low k (length c.sites) long m, few_members c l valid line);
      ordered = zip_part c l k low high ordered.low_least;
      small = at_index 63 (site_part c l high k) (each_take 63 (size c l) (drop (k * size c l) high) (each_drop 63 (k * size c l) high
          (each_at_most 63 high (limits c l) ordered.within (limits_small c l valid line))));
    }

-- at each site of a family's box the bounds are a box
pub box_at : (x : FamilyBox) (k : ℕ) → IsFamilyBox x → k < length x.case.sites → IsBox (low_at x k) (high_at x k)
box_at x k valid m = box_of x.case x.line x.held x.low x.high k valid.valid valid.is_line valid.ordered m

-- a site's part is within a vector
pub part_within : (k n w m : ℕ) → k < n → m ≡ n * w → k * w + w ≤ m
part_within k zero w m h e = absurd (omega (arith, h))
part_within zero (suc n) w m h e = omega (arith, e)
part_within (suc k) (suc n) w m h e = omega (arith, e, part_within k n w (n * w) (omega (arith, h)) refl)

-- ---- the members as ids

-- the ids of a family's parts are as many as its parts
pub ids_long : (c : CaseRows) (l : ℕ) (ids : List PartId) → map (λ (p : PartId). p.0) ids ≡ family c l → length ids ≡ size c l
ids_long c l ids h = let id : PartId → ℕ = λ p. p.0 in sym (length-map ids id) ∙ ap length h

-- the i-th id is that of the family's i-th part
pub id_at : (c : CaseRows) (l : ℕ) (ids : List PartId) (i : ℕ) (d : PartId) → map (λ (p : PartId). p.0) ids ≡ family c l → i < length ids
    → (get_or ids i d).0 ≡ get_or (family c l) i 0
id_at c l ids i d h m =
    let id : PartId → ℕ = λ p. p.0 in
    sym (get_or-map id ids i d 0 m) ∙ ap (λ (r : List ℕ). get_or r i 0) h

module _ (x : FamilyBox) (valid : IsFamilyBox x) where
  -- stocks within the bounds of a site have one number for each part of the family
  pub at_long : (k : ℕ) (v : List ℕ) → k < length x.case.sites → IsAt x k v → length v ≡ size x.case x.line
  at_long k v m h = same_length (low_at x k) v h.least ∙ part_long x.case x.line x.low k (length x.case.sites) (low_long x valid) m

  -- what is held at a site has one number for each part of the family
  pub held_part_long : (k : ℕ) → k < length x.case.sites → length (held_at x k) ≡ size x.case x.line
  held_part_long k m = part_long x.case x.line x.held k (length x.case.sites) (held_long x valid) m

  -- what is held at a place is at most each stock there
  pub held_most : (k i : ℕ) (v : List ℕ) → k < length x.case.sites → IsAt x k v → i < size x.case x.line → get_or (held_at x k) i 0 ≤ get_or v i 0
  held_most k i v m h l =
      omega (
        arith,
        ordered_at (held_at x k) (low_at x k) (zip_part x.case x.line k x.held x.low valid.ordered.held_least) i (omega (arith, l, held_part_long k m)),
        ordered_at (low_at x k) v h.least i (omega (arith, l, at_long k v m h, same_length (low_at x k) v h.least)),
      )

  -- stocks within the bounds of a site are at most 63
  pub stock_small : (k i : ℕ) (v : List ℕ) → k < length x.case.sites → IsAt x k v → i < size x.case x.line → get_or v i 0 ≤ 63
  stock_small k i v m h l =
      let long = at_long k v m h in
      omega (arith, ordered_at v (high_at x k) h.most i (omega (arith, l, long)), (box_at x k valid m).small i 0 (omega (arith, l, long, same_length v (high_at x k) h.most)))

-- ---- costs, part by part

cost_at : (c : CaseRows) (ps held v : List ℕ) (i : ℕ) → i < length ps → i < length held → i < length v
    → cost_above c (drop i ps) (drop i held) (drop i v)
    ≡ (get_or v i 0 - get_or held i 0) * (part_at c.parts (get_or ps i 0)).cost + cost_above c (drop (i + 1) ps) (drop (i + 1) held) (drop (i + 1) v)
cost_at c [] held v i a b d = absurd (omega (arith, a))
cost_at c (p ∷ ps) [] v i a b d = absurd (omega (arith, b))
cost_at c (p ∷ ps) (h ∷ held) [] i a b d = absurd (omega (arith, d))
cost_at c (p ∷ ps) (h ∷ held) (s ∷ v) zero a b d = refl
cost_at c (p ∷ ps) (h ∷ held) (s ∷ v) (suc i) a b d =
    cost_at c ps held v i (omega (arith, a)) (omega (arith, b)) (omega (arith, d))
    ∙ ap (λ n. (get_or v i 0 - get_or held i 0) * (part_at c.parts (get_or ps i 0)).cost + cost_above c (drop n (p ∷ ps)) (drop n (h ∷ held)) (drop n (s ∷ v))) (next i)
  where
    next : (i : ℕ) → suc (i + 1) ≡ suc i + 1
    next i = omega arith

-- behind the last part nothing is left to pay
pub cost_end : (c : CaseRows) (ps held v : List ℕ) (i : ℕ) → length ps ≤ i → cost_above c (drop i ps) held v ≡ 0
cost_end c ps held v i h = ap (λ (r : List ℕ). cost_above c r held v) (drop_all i ps h)

-- the cost of the first i parts
pub record Costs (x : FamilyBox) (k : ℕ) (v : List ℕ) (i cost : ℕ) : Type 0 where
  pub goes_on : cost + cost_above x.case (drop i (family x.case x.line)) (drop i (held_at x k)) (drop i v) ≡ cost_above x.case (family x.case x.line) (held_at x k) v
  pub most : cost ≤ i * 6300000000

module _ (x : FamilyBox) (valid : IsFamilyBox x) where
  -- each part of the family is a part of the case
  pub member_is : (i : ℕ) → i < size x.case x.line → get_or (family x.case x.line) i 0 < length x.case.parts
  member_is zero h = valid.is_line.is_part
  member_is (suc i) h = (shop_at x.case x.line i valid.valid valid.is_line (omega (arith, h))).is_part

  pub each_most : (k i : ℕ) (v : List ℕ) → k < length x.case.sites → IsAt x k v → i < size x.case x.line
      → (get_or v i 0 - get_or (held_at x k) i 0) * (part_at x.case.parts (get_or (family x.case x.line) i 0)).cost ≤ 6300000000
  each_most k i v m h l =
      let cost = (valid.valid.frame.part_rows (get_or (family x.case x.line) i 0) no_part (member_is i l)).cost.1 in
      omega (
        arith,
        mul-le (get_or v i 0 - get_or (held_at x k) i 0) (part_at x.case.parts (get_or (family x.case x.line) i 0)).cost 63 100000000
            (omega (arith, stock_small x valid k i v m h l)) cost,
      )

  -- with what the next part costs, the cost is that of one part more
  pub costs_on : (k i cost : ℕ) (v : List ℕ) → k < length x.case.sites → IsAt x k v → i < size x.case x.line → Costs x k v i cost
      → Costs x k v (i + 1) (cost + (get_or v i 0 - get_or (held_at x k) i 0) * (part_at x.case.parts (get_or (family x.case x.line) i 0)).cost)
  costs_on k i cost v m h l at = record {
    goes_on = omega (arith, cost_at x.case (family x.case x.line) (held_at x k) v i l (omega (arith, l, held_part_long x valid k m)) (omega (arith, l, at_long x valid k v m h)), at.goes_on);
    most = omega (arith, at.most, each_most k i v m h l);
  }

-- ---- they are within the limits

-- row k of rows of w numbers each, one after another
pub part_of_flat : (f : ℕ → List ℕ) (w : ℕ) → ((k : ℕ) → length (f k) ≡ w) → (a n k j : ℕ) → k < n → a + k ≡ j
    → take w (drop (k * w) (flat_map f (range_with_len a n))) ≡ f j
part_of_flat f w long a zero k j h e = absurd (omega (arith, h))
part_of_flat f w long a (suc n) zero j h e =
    let rest : List ℕ = flat_map f (range_with_len (a + 1) n) in
    let start : 0 * w ≡ 0 = omega arith in
    let same : a ≡ j = omega (arith, e) in
    ap (λ i. take w (drop i (f a ++ rest))) start ∙ ap (λ i. take i (f a ++ rest)) (sym (long a)) ∙ take-append_seam (f a) rest ∙ ap f same
part_of_flat f w long a (suc n) (suc k) j h e =
    let rest : List ℕ = flat_map f (range_with_len (a + 1) n) in
    let at : suc k * w ≡ length (f a) + k * w = omega (arith, long a) in
    ap (λ i. take w (drop i (f a ++ rest))) at ∙ ap (take w) (drop-append-add (f a) rest (k * w)) ∙ part_of_flat f w long (a + 1) n k j (omega (arith, h)) (omega (arith, e))

-- what the limits hold for site k are the limits of the family's parts at that site
pub limits_at : (c : CaseRows) (l k : ℕ) → k < length c.sites → site_part c l (limits c l) k ≡ map (λ p. limit_at c.parts p k) (family c l)
limits_at c l k h =
    let limit : Pair → ℕ = λ x. limit_at c.parts x.part x.site in
    let at : ℕ → List ℕ = λ k. map limit (places_at c l k) in
    let own : ℕ → ℕ → Pair = λ k p. record { part = p; site = k } in
    ap (λ (v : List ℕ). site_part c l v k) (map_flat limit (places_at c l) (range_with_len 0 (length c.sites)))
    ∙ part_of_flat at (size c l) (λ k. length-map (places_at c l k) limit ∙ length-map (family c l) (own k)) 0 (length c.sites) k k h (omega arith)
    ∙ map-map limit (own k) (family c l)

module _ (x : FamilyBox) (valid : IsFamilyBox x) where
  -- stocks within the bounds of a site are at most their parts' limits there
  pub at_limit : (k i : ℕ) (v : List ℕ) → k < length x.case.sites → IsAt x k v → i < size x.case x.line
      → get_or v i 0 ≤ limit_at x.case.parts (get_or (family x.case x.line) i 0) k
  at_limit k i v m h l =
      let long = at_long x valid k v m h in
      let limit : ℕ → ℕ = λ p. limit_at x.case.parts p k in
      let top = zip_part x.case x.line k x.high (limits x.case x.line) valid.ordered.within in
      omega (
        arith,
        ordered_at v (high_at x k) h.most i (omega (arith, l, long)),
        ordered_at (high_at x k) (site_part x.case x.line (limits x.case x.line) k) top i (omega (arith, l, long, same_length v (high_at x k) h.most)),
        ap (λ (r : List ℕ). get_or r i 0) (limits_at x.case x.line k m) ∙ get_or-map limit (family x.case x.line) i 0 0 l,
      )

  stock_limit : (k p : ℕ) (v : List ℕ) → k < length x.case.sites → IsAt x k v → option_map_or (λ i. get_or v i 0) (position (λ q. q == p) (family x.case x.line)) 0 ≤ limit_at x.case.parts p k
  stock_limit k p v m h = decided (nat_lt at (size x.case x.line)) (λ e. found (ltb-true at (size x.case x.line) e))
    where
      at : ℕ
      at = position_or_len (λ q. q == p) (family x.case x.line)

      found : at < size x.case x.line → get_or v at 0 ≤ limit_at x.case.parts p k
      found l =
          subst (λ n. get_or v at 0 ≤ limit_at x.case.parts n k) (eqb-true (get_or (family x.case x.line) at 0) p (passes_at_first (λ q. q == p) (family x.case x.line) 0 l))
          (at_limit k at v m h l)

      decided : (b : Bool) → (b ≡ true → get_or v at 0 ≤ limit_at x.case.parts p k) → option_map_or (λ i. get_or v i 0) (cond b (Some at) None) 0 ≤ limit_at x.case.parts p k
      decided true g = g refl
      decided false g = omega arith

  none_limit : (o : Option ℕ) (n : ℕ) → option_map_or (λ i. get_or [] i 0) o 0 ≤ n
  none_limit None n = omega arith
  none_limit (Some i) n = omega arith

  own_limit : (j p k : ℕ) (d b : List ℕ) → k < length x.case.sites → IsAt x 0 d → IsAt x j b → 0 < length x.case.sites
      → stock_in x.case x.line (depot_and_base d j b) p k ≤ limit_at x.case.parts p k
  own_limit j p k d b m hd hb some = first (k == 0) refl
    where
      o : Option ℕ
      o = position (λ q. q == p) (family x.case x.line)

      second : (t : Bool) → k == j ≡ t → option_map_or (λ i. get_or (cond t b []) i 0) o 0 ≤ limit_at x.case.parts p k
      second true e = stock_limit k p b m (subst (λ n. IsAt x n b) (sym (eqb-true k j e)) hb)
      second false e = none_limit o (limit_at x.case.parts p k)

      first : (t : Bool) → k == 0 ≡ t → option_map_or (λ i. get_or (cond t d (cond (k == j) b [])) i 0) o 0 ≤ limit_at x.case.parts p k
      first true e = stock_limit k p d m (subst (λ n. IsAt x n d) (sym (eqb-true k 0 e)) hd)
      first false e = second (k == j) refl

  -- the stocks at the depot and at one base, and none elsewhere, are within the case's limits
  pub stocks_within : (j : ℕ) (d b : List ℕ) → IsAt x 0 d → IsAt x j b → IsWithinLimits x.case (stock_list x.case (base_stocks x d j b))
  stocks_within j d b hd hb p k h m =
      subst (λ n. n ≤ limit_at x.case.parts p k) (sym (stock_is x.case x.line (depot_and_base d j b) p k h m)) (own_limit j p k d b m hd hb (omega (arith, m)))

  -- a family's stocks, listed by pair, have a number for each pair of the case
  pub stocks_for : (own : ℕ → List ℕ) → IsFor x.case (stock_list x.case (stocks_in x.case x.line own))
  stocks_for own = record {
    sites = refl;
    pairs = flat_length (stock_in x.case x.line own) (length x.case.sites) (range_with_len 0 (length x.case.parts))
        ∙ ap (λ n. n * length x.case.sites) (length-range_with_len 0 (length x.case.parts));
  }
