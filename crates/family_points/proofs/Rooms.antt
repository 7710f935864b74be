-- The numbers of stocks that the parts of a family can have, and their sums and products.
use Rattle.std.proofs.Common.{◌≡◌, ℕ, zero, suc, ◌+◌, ◌-◌, ◌*◌, ◌^◌, ◌<◌, ◌≤◌, List, [], ◌∷◌, ◌++◌, length, get_or, map, flat_map, take, drop, sum, refl, sym, ap, ap₂, ◌∙◌, subst, arith, add-one}
use Rattle.std.specs.List.{range_with_len, AllZip, AllByRecursion}
use Rattle.std.proofs.Math.Nat.{mul_assoc, pow-suc, pow-le-pow_right}
use Rattle.std.proofs.lemmas.List.{drop_all, length-map, get_or-map, append-nil}
use Rattle.std.proofs.lemmas.List.Concat.{flat_map-append}
use Rattle.std.proofs.lemmas.Nat.{mul-le}
use Rattle.std.proofs.lemmas.Simd.{map-map}
use Rattle.list_laws.proofs.Public.{each_in_range, each_mapped, map_flat, no_more_than_self, range_more}
use Rattle.answers.specs.Counts.{count64}
use Rattle.spares_input.specs.declared.rows.PartId.{PartId}
use Rattle.spares_input.specs.Cases.{CaseRows, IsCase}
use Rattle.spares_input.specs.Stocks.{StockList, IsFor, IsWithinLimits, limit_at, stock_at}
use Rattle.fleet_model.specs.Fleet.{family}
use Rattle.fleet_model.specs.Rows.{stock}
use Rattle.fleet_model.proofs.Public.{stock_holds}
use Rattle.family_items.specs.Inputs.{IsLine}
use Rattle.family_points.specs.declared.counts.Rooms.{Rooms}
use Rattle.family_points.specs.declared.counts.Rooms.TheVariants.{Held, Whole, Within}
use Rattle.family_points.specs.Counts.{choices_of, product, widths}
use Rattle.family_points.specs.Boxes.{IsBox}
use Rattle.family_points.specs.Points.{AreOrdered}
use Rattle.family_points.specs.Rooms.{AreRooms, bounds_of, widths_at}
use Rattle.family_points.specs.Vectors.{Pair, limits, places, places_at, site_part, vector_of, zeros}
use Rattle.family_points.proofs.Bounded.{id_at, part_of_flat}
use Rattle.family_points.proofs.Counting.{counted_times}
use Rattle.family_points.proofs.Numbers.{ordered_at, sum_from, vectors_count, widths_long, width_at}
use Rattle.family_points.proofs.Points.{each_flat_in}
use Rattle.family_points.proofs.Products.{choices_counted, product_append}
use Rattle.family_points.proofs.Sites.{all_joined, joined, members, part_long, size}
use Rattle.family_points.proofs.TableFacts.{least_long, part_box, part_widths, top_long}
use Rattle.family_points.proofs.Whole.{ids_within, whole_ordered}

-- ---- the bounds are in order

zip_maps : (f g : Pair → ℕ) (Q : Pair → Type 0) → ((x : Pair) → Q x → f x ≤ g x) → (xs : List Pair) → AllByRecursion Q xs → AllZip (λ x y. x ≤ y) (map f xs) (map g xs)
zip_maps f g Q h [] a = tt
zip_maps f g Q h (x ∷ xs) a = (h x a.0, zip_maps f g Q h xs a.1)

-- each place of a family is a pair of the case
places_in : (c : CaseRows) (l : ℕ) → IsCase c → IsLine c l → AllByRecursion (λ (x : Pair). (x.part < length c.parts) × (x.site < length c.sites)) (places c l)
places_in c l valid line =
    each_flat_in (λ k. k < length c.sites) (λ (x : Pair). (x.part < length c.parts) × (x.site < length c.sites)) (places_at c l) (range_with_len 0 (length c.sites))
    (λ k m. each_mapped (λ p. p < length c.parts) (λ (x : Pair). (x.part < length c.parts) × (x.site < length c.sites)) (λ p. record { part = p; site = k }) (family c l)
    (λ p h. (h, m)) (members c l valid line))
    (each_in_range (λ k. k < length c.sites) (length c.sites) 0 (λ k a m. omega (arith, m)))

-- the bounds from what is held to the limits are in order
pub held_ordered : (c : CaseRows) (l : ℕ) (held : StockList) → IsCase c → IsLine c l → IsFor c held → IsWithinLimits c held
    → AreOrdered c l (vector_of c l held.list) (vector_of c l held.list) (limits c l)
held_ordered c l held valid line is_for within = record {
  held_least = no_more_than_self (vector_of c l held.list);
  low_least = zip_maps (λ (x : Pair). stock c held.list x.part x.site) (λ (x : Pair). limit_at c.parts x.part x.site)
      (λ (x : Pair). (x.part < length c.parts) × (x.site < length c.sites))
      (λ x h. subst (λ n. n ≤ limit_at c.parts x.part x.site) (sym (stock_holds c held x.part x.site is_for)) (within x.part x.site h.0 h.1)) (places c l) (places_in c l valid line);
  within = no_more_than_self (limits c l);
}

-- the bounds of all that is counted are in order
pub rooms_ordered : (c : CaseRows) (l : ℕ) (rooms : Rooms) → IsCase c → IsLine c l → AreRooms c l rooms
    → AreOrdered c l (bounds_of c l rooms).held (bounds_of c l rooms).low (bounds_of c l rooms).high
rooms_ordered c l Whole valid line h = whole_ordered c l
rooms_ordered c l (Held s) valid line h = held_ordered c l s.now valid line h.is_for h.limits
rooms_ordered c l (Within b) valid line h = h

-- ---- the number of a part

-- a number of each place, at site k
site_of : (f : Pair → ℕ) (c : CaseRows) (l k : ℕ) → k < length c.sites → site_part c l (map f (places c l)) k ≡ map (λ p. f (record { part = p; site = k })) (family c l)
site_of f c l k h =
    let at : ℕ → List ℕ = λ k. map f (places_at c l k) in
    let own : ℕ → ℕ → Pair = λ k p. record { part = p; site = k } in
    ap (λ (v : List ℕ). site_part c l v k) (map_flat f (places_at c l) (range_with_len 0 (length c.sites)))
    ∙ part_of_flat at (size c l) (λ k. length-map (places_at c l k) f ∙ length-map (family c l) (own k)) 0 (length c.sites) k k h (omega arith)
    ∙ map-map f (own k) (family c l)

widths_maps : (f g : Pair → ℕ) (xs : List Pair) → widths (map f xs) (map g xs) ≡ map (λ x. suc (g x) - f x) xs
widths_maps f g [] = refl
widths_maps f g (x ∷ xs) = ap (λ (ns : List ℕ). (suc (g x) - f x) ∷ ns) (widths_maps f g xs)

-- the width between numbers of each place, for the i-th part at site k
width_of : (f g : Pair → ℕ) (c : CaseRows) (l k i p : ℕ) → k < length c.sites → i < length (family c l) → p ≡ get_or (family c l) i 0
    → get_or (site_part c l (widths (map f (places c l)) (map g (places c l))) k) i 0 ≡ suc (g (record { part = p; site = k })) - f (record { part = p; site = k })
width_of f g c l k i p h m e =
    let one : Pair → ℕ = λ x. suc (g x) - f x in
    let own : ℕ → ℕ = λ q. one (record { part = q; site = k }) in
    ap (λ (v : List ℕ). get_or (site_part c l v k) i 0) (widths_maps f g (places c l))
    ∙ ap (λ (v : List ℕ). get_or v i 0) (site_of one c l k h)
    ∙ get_or-map own (family c l) i 0 0 m ∙ ap own (sym e)

-- up to its limit
pub room_whole : (c : CaseRows) (l k i n : ℕ) (ids : List PartId) (d : PartId) → map (λ (p : PartId). p.0) ids ≡ family c l → k < length c.sites → i < length (family c l)
    → i < length ids → n ≡ limit_at c.parts (get_or ids i d).0 k → n + 1 ≡ get_or (widths_at c l Whole k) i 0
room_whole c l k i n ids d h inside m m' e =
    let at = width_of (λ (x : Pair). 0) (λ (x : Pair). limit_at c.parts x.part x.site) c l k i (get_or ids i d).0 inside m (id_at c l ids i d h m') in
    omega (arith, e, at)

-- from what is held to its limit
pub room_held : (c : CaseRows) (l k i n s : ℕ) (held : StockList) (ids : List PartId) (d : PartId) → map (λ (p : PartId). p.0) ids ≡ family c l → k < length c.sites
    → i < length (family c l) → i < length ids → (valid : IsCase c) → IsLine c l → IsFor c held → IsWithinLimits c held → n ≡ limit_at c.parts (get_or ids i d).0 k
    → s ≡ stock_at held (get_or ids i d).0 k → n - s + 1 ≡ get_or (site_part c l (widths (vector_of c l held.list) (limits c l)) k) i 0
room_held c l k i n s held ids d h inside m m' valid line is_for within e g =
    let p : ℕ = (get_or ids i d).0 in
    let at = width_of (λ (x : Pair). stock c held.list x.part x.site) (λ (x : Pair). limit_at c.parts x.part x.site) c l k i p inside m (id_at c l ids i d h m') in
    let own : stock c held.list p k ≡ stock_at held p k = stock_holds c held p k is_for in
    let few : stock_at held p k ≤ limit_at c.parts p k = within p k (ids_within c l ids valid line h i d m') inside in
    omega (arith, e, g, few, at, own)

-- the part of a list of numbers that belongs to a site, as it is read
pub part_read : (c : CaseRows) (l n k : ℕ) (v list part : List ℕ) → n ≡ size c l → list ≡ v → part ≡ take n (drop (k * n) list) → part ≡ site_part c l v k
part_read c l n k v list part e g h = h ∙ ap (λ (r : List ℕ). take n (drop (k * n) r)) g ∙ ap (λ m. take m (drop (k * m) v)) e

-- within bounds
module _ (c : CaseRows) (l : ℕ) (held low high : List ℕ) (valid : IsCase c) (line : IsLine c l) (ordered : AreOrdered c l held low high) (k i : ℕ) (inside : k < length c.sites)
    (m : i < length (family c l)) (a b : List ℕ) (e : a ≡ site_part c l low k) (g : b ≡ site_part c l high k) where
  box : IsBox a b
  box = part_box c l held low high valid line ordered k a b e g inside

  -- there is a low bound for the part
  pub low_inside : i < length a
  low_inside = omega (arith, m, ap length e, part_long c l low k (length c.sites) (least_long c l held low high valid line ordered) inside)

  -- there is a high bound for the part
  pub high_inside : i < length b
  high_inside = omega (arith, m, ap length g, part_long c l high k (length c.sites) (top_long c l held low high valid line ordered) inside)

  -- the low bound is at most the high one
  pub room_ordered : get_or a i 0 ≤ get_or b i 0
  room_ordered = ordered_at a b box.ordered i low_inside

  -- the high bound is at most 63
  pub room_small : get_or b i 0 ≤ 63
  room_small = box.small i 0 high_inside

  -- the number is the high bound less the low one, and one
  pub room_within : get_or b i 0 - get_or a i 0 + 1 ≡ get_or (site_part c l (widths low high) k) i 0
  room_within =
      sym (width_at a b i box.ordered low_inside)
      ∙ ap (λ (ws : List ℕ). get_or ws i 0) (part_widths c l held low high valid line ordered k a b e g)

-- ---- the numbers of a site

-- the numbers of the parts from 1 to i - 1 are in the sum and the product, and the rest is to come
pub record Roomed (ws : List ℕ) (i total shops : ℕ) : Type 0 where
  pub sum_goes_on : total + sum (drop i ws) ≡ sum (drop 1 ws)
  pub product_goes_on : shops * product (drop i ws) ≡ product (drop 1 ws)
  pub sum_most : total ≤ i * 64
  pub product_most : shops ≤ 64 ^ i

-- the product of the numbers from the i-th on is the i-th times the product of those behind it
product_from : (ws : List ℕ) (i : ℕ) → i < length ws → product (drop i ws) ≡ get_or ws i 0 * product (drop (i + 1) ws)
product_from [] i m = absurd (omega (arith, m))
product_from (w ∷ ws) zero m = refl
product_from (w ∷ ws) (suc i) m = product_from ws i (omega (arith, m)) ∙ ap (λ n. get_or ws i 0 * product (drop n (w ∷ ws))) (next i)
  where
    next : (i : ℕ) → suc (i + 1) ≡ suc i + 1
    next i = omega arith

-- one part more
pub roomed_more : (ws : List ℕ) (i total shops w : ℕ) → i < length ws → w ≡ get_or ws i 0 → w ≤ 64 → Roomed ws i total shops → Roomed ws (i + 1) (total + w) (shops * w)
roomed_more ws i total shops w m e small h = record {
  sum_goes_on = omega (arith, h.sum_goes_on, sum_from ws i m, e);
  product_goes_on = mul_assoc shops w (product (drop (i + 1) ws)) ∙ ap (λ n. shops * (n * product (drop (i + 1) ws))) e
      ∙ ap (λ n. shops * n) (sym (product_from ws i m)) ∙ h.product_goes_on;
  sum_most = omega (arith, h.sum_most, small);
  product_most = omega (arith, mul-le shops w (64 ^ i) 64 h.product_most small, pow-suc 64 i, ap (λ k. 64 ^ k) (add-one i));
}

-- a product of numbers of at most 9 parts
pub roomed_fits : (ws : List ℕ) (i total shops : ℕ) → i ≤ 9 → Roomed ws i total shops → shops ≤ 64 ^ 9
roomed_fits ws i total shops m h =
    let top : 64 ^ i ≤ 64 ^ 9 = pow-le-pow_right {n = 64} (omega arith) {i = i} {j = 9} m in
    omega (arith, h.product_most, top)

-- behind the last part the sum is that of all but the first number
pub roomed_sum : (ws : List ℕ) (i total shops : ℕ) → length ws ≤ i → Roomed ws i total shops → total ≡ sum (drop 1 ws)
roomed_sum ws i total shops m h = let none : sum (drop i ws) ≡ 0 = ap sum (drop_all i ws m) in omega (arith, h.sum_goes_on, none)

-- and the product is that of all but the first number
pub roomed_product : (ws : List ℕ) (i total shops : ℕ) → length ws ≤ i → Roomed ws i total shops → shops ≡ product (drop 1 ws)
roomed_product ws i total shops m h = one shops ∙ ap (λ (r : List ℕ). shops * product r) (sym (drop_all i ws m)) ∙ h.product_goes_on
  where
    one : (n : ℕ) → n ≡ n * 1
    one n = omega arith

-- there is a number for each part of the family
pub rooms_long : (c : CaseRows) (l k : ℕ) (rooms : Rooms) → IsCase c → IsLine c l → AreRooms c l rooms → k < length c.sites → length (widths_at c l rooms k) ≡ length (family c l)
rooms_long c l k rooms valid line h inside =
    let x = bounds_of c l rooms in
    let ordered = rooms_ordered c l rooms valid line h in
    part_long c l (widths x.low x.high) k (length c.sites) (widths_long x.low x.high ordered.low_least ∙ least_long c l x.held x.low x.high valid line ordered) inside

-- ---- all choices

product_first : (ws : List ℕ) → 0 < length ws → get_or ws 0 0 * product (drop 1 ws) ≡ product ws
product_first [] h = absurd (omega (arith, h))
product_first (w ∷ ws) h = refl

-- the product of the numbers of the first n sites
abbrev pub sites_product : CaseRows → ℕ → ℕ → ℕ
sites_product c l n = product (joined c l (widths (zeros c l) (limits c l)) 0 n)

-- one site more
pub choices_more : (c : CaseRows) (l k choices line' shops next : ℕ) → IsCase c → IsLine c l → k < length c.sites → line' ≡ get_or (widths_at c l Whole k) 0 0
    → shops ≡ product (drop 1 (widths_at c l Whole k)) → next ≡ count64 (choices * (line' * shops)) → choices ≡ count64 (sites_product c l k)
    → next ≡ count64 (sites_product c l (k + 1))
choices_more c l k choices line' shops next valid line inside e g h so_far =
    let ws : List ℕ = widths (zeros c l) (limits c l) in
    let some : 0 < length (widths_at c l Whole k) = omega (arith, rooms_long c l k Whole valid line tt inside) in
    let own : line' * shops ≡ product (site_part c l ws k) = ap₂ (λ x y. x * y) e g ∙ product_first (site_part c l ws k) some in
    let grown : joined c l ws 0 (k + 1) ≡ joined c l ws 0 k ++ site_part c l ws k =
    ap (λ n. joined c l ws 0 n) (add-one k) ∙ ap (flat_map (site_part c l ws)) (range_more 0 k k (omega arith)) ∙ flat_map-append (site_part c l ws) (range_with_len 0 k) (k ∷ [])
    ∙ ap (λ (r : List ℕ). joined c l ws 0 k ++ r) (append-nil (site_part c l ws k)) in
    h ∙ ap₂ (λ m n. count64 (m * n)) so_far own ∙ counted_times (sites_product c l k) (product (site_part c l ws k))
    ∙ ap count64 (sym (ap product grown ∙ product_append (joined c l ws 0 k) (site_part c l ws k)))

-- all sites together
pub choices_all : (c : CaseRows) (l k choices : ℕ) → IsCase c → IsLine c l → k ≡ length c.sites → choices ≡ count64 (sites_product c l k) → choices ≡ count64 (choices_of c l)
choices_all c l k choices valid line all h =
    let ordered = whole_ordered c l in
    let ws : List ℕ = widths (zeros c l) (limits c l) in
    let long : length ws ≡ k * size c l =
    widths_long (zeros c l) (limits c l) ordered.low_least ∙ least_long c l (zeros c l) (zeros c l) (limits c l) valid line ordered ∙ ap (λ n. n * size c l) (sym all) in
    h ∙ ap count64 (ap product (all_joined c l ws k long) ∙ sym (vectors_count (zeros c l) (limits c l) ordered.low_least) ∙ sym (choices_counted c l valid))
