-- The lists of items that the loops make.
use Rattle.std.proofs.Common.{◌≡◌, ℕ, zero, suc, ◌+◌, ◌-◌, ◌*◌, ◌^◌, ◌<◌, ◌≤◌, List, [], ◌∷◌, ◌++◌, length, get_or, map, flat_map, take, Option, Some, refl, sym, ap, ap₂, ◌∙◌, subst, arith, mul-le-mul_left, mul-le-mul_right}
use Rattle.std.specs.List.{All, AllByRecursion}
use Rattle.std.proofs.lemmas.List.{get_or-map, get_or_default, length-map, map_more}
use Rattle.std.proofs.lemmas.List.Folds.{flat_map-map}
use Rattle.std.proofs.lemmas.List.FromFn.{get_or-map-range_with_len, length-map-range_with_len}
use Rattle.list_laws.proofs.Public.{flat_at, flat_length, place_fits}
use Rattle.fixed_interval.specs.Ends.{Ends, ends_add, ends_exact, ends_times}
use Rattle.fixed_interval.proofs.Public.{unit_most}
use Rattle.depot_pipeline.specs.declared.Feed.{Feed}
use Rattle.depot_pipeline.specs.Exact.{IsSmallFeed}
use Rattle.depot_pipeline.specs.Profile.{added, depot_line_ends, depot_shop_ends}
use Rattle.base_pipeline.specs.declared.Held.{Held}
use Rattle.base_pipeline.specs.Exact.{IsSmallDelay}
use Rattle.base_pipeline.specs.Profile.{base_line_ends, base_shop_ends}
use Rattle.spares_input.specs.Frames.{line_of}
use Rattle.spares_input.specs.Cases.{CaseRows, IsCase}
use Rattle.spares_input.specs.Stocks.{StockList}
use Rattle.spares_input.specs.declared.rows.PartId.{PartId}
use Rattle.fleet_model.specs.Rows.{shop_units, weight}
use Rattle.fleet_model.specs.Pairs.{by_pair}
use Rattle.demand_rates.specs.Rates.{pair_rates}
use Rattle.demand_rates.proofs.Public.{no_line_there}
use Rattle.family_items.specs.declared.pipeline.Pipeline.{Pipeline}
use Rattle.family_items.specs.declared.item.Item.{Item}
use Rattle.family_items.specs.Profile.{base_line, base_shop, depot_feed, depot_line, depot_shop, family_of, feed_of, delay_of, item_of, pipeline_of, part_items, share_of, stocked, total_of, weighed}
use Rattle.family_items.specs.Encloses.{IsSmallItem, no_item}
use Rattle.family_items.specs.Inputs.{IsLine, IsShop, IsSound}
use Rattle.family_items.proofs.Ranges.{share_most}
use Rattle.family_items.proofs.Units.{few_shops, shop_at, shops_all}
use Rattle.family_items.proofs.Enclosed.{item_small, small_i0, small_ij}

-- ---- lists

-- the same function of the numbers
pub same_maps : {X : Type 0} (P : ℕ → Type 0) (g : PartId → X) (h : ℕ → X) (xs : List PartId) → AllByRecursion P (map (λ (p : PartId). p.0) xs)
    → ((p : PartId) → P p.0 → g p ≡ h p.0) → map g xs ≡ map h (map (λ (p : PartId). p.0) xs)
same_maps P g h [] a e = refl
same_maps P g h (x ∷ xs) a e = ap₂ (λ y ys. y ∷ ys) (e x a.0) (same_maps P g h xs a.1 e)

-- ---- which level's item a pair has

abbrev item_by : (f : ℕ) → CaseRows → List ℕ → Option ℕ → ℕ → ℕ → Item f
item_by f c s o p k = by_pair (λ l i. depot_shop f c s i) (depot_line f c s) (λ l i j. base_shop f c s i j) (base_line f c s) o p k

-- the item of a shop unit at the depot is that of the first level
pub depot_shop_item : (f : ℕ) (c : CaseRows) (s : List ℕ) (l p : ℕ) → line_of c.parts p ≡ Some l → depot_shop f c s p ≡ item_of f c s p 0
depot_shop_item f c s l p e = ap (λ o. item_by f c s o p 0) (sym e)

-- the item of a shop unit at a base is that of the third level
pub base_shop_item : (f : ℕ) (c : CaseRows) (s : List ℕ) (l p k : ℕ) → line_of c.parts p ≡ Some l → 0 < k → base_shop f c s p k ≡ item_of f c s p k
base_shop_item f c s l p zero e h = absurd (omega arith)
base_shop_item f c s l p (suc j) e h = ap (λ o. item_by f c s o p (suc j)) (sym e)

-- the item of a line unit at the depot is that of the second level
pub depot_line_item : (f : ℕ) (c : CaseRows) (s : List ℕ) (l : ℕ) → IsLine c l → depot_line f c s l ≡ item_of f c s l 0
depot_line_item f c s l line = ap (λ o. item_by f c s o l 0) (sym (no_line_there c.parts l line.no_parent))

-- the item of a line unit at a base is that of the fourth level
pub base_line_item : (f : ℕ) (c : CaseRows) (s : List ℕ) (l k : ℕ) → IsLine c l → 0 < k → base_line f c s l k ≡ item_of f c s l k
base_line_item f c s l zero line h = absurd (omega arith)
base_line_item f c s l (suc j) line h = ap (λ o. item_by f c s o l (suc j)) (sym (no_line_there c.parts l line.no_parent))

-- ---- what a step computed is the definition's

-- what is computed from the pipeline of a shop unit at the depot is its item
pub depot_shop_is : (f : ℕ) (c : CaseRows) (s : List ℕ) (p : ℕ) (x : Pipeline f) (y : Item f) → x ≡ pipeline_of f c s p 0
    → y ≡ stocked f x (depot_shop_ends f x.direct x.cap) → y ≡ depot_shop f c s p
unfolding depot_shop
depot_shop_is f c s p x y hx h = h ∙ ap (λ (z : Pipeline f). stocked f z (depot_shop_ends f z.direct z.cap)) hx

-- what is computed from the pipeline of a shop unit at a base and the depot's feed is its item
pub base_shop_is : (f : ℕ) (c : CaseRows) (s : List ℕ) (p k : ℕ) (x : Pipeline f) (feed : Feed f) (share : Ends) (depot y : Item f) → x ≡ pipeline_of f c s p k
    → feed ≡ feed_of f share depot → share ≡ share_of f c p k → depot ≡ depot_shop f c s p
    → y ≡ stocked f x (base_shop_ends f x.direct x.cap feed) → y ≡ base_shop f c s p k
unfolding base_shop
base_shop_is f c s p k x feed share depot y hx hf hs hd h =
    h ∙ ap₂ (λ (z : Pipeline f) (w : Feed f). stocked f z (base_shop_ends f z.direct z.cap w)) hx (hf ∙ ap₂ (feed_of f) hs hd)

-- what is computed from the pipeline of a line unit at the depot and the feeds of its shop units is its item
pub depot_line_is : (f : ℕ) (c : CaseRows) (s : List ℕ) (l : ℕ) (x : Pipeline f) (feeds list : List (Feed f)) (y : Item f) → x ≡ pipeline_of f c s l 0
    → list ≡ feeds → feeds ≡ map (depot_feed f c s) (shop_units c l)
    → y ≡ stocked f x (depot_line_ends f x.direct x.cap list) → y ≡ depot_line f c s l
unfolding depot_line
depot_line_is f c s l x feeds list y hx hl hf h =
    h ∙ ap₂ (λ (z : Pipeline f) (w : List (Feed f)). stocked f z (depot_line_ends f z.direct z.cap w)) hx (hl ∙ hf)

-- what is computed from the pipeline of a line unit at a base, the depot's feed and what its shop units
-- hold back there is its item
pub base_line_is : (f : ℕ) (c : CaseRows) (s : List ℕ) (l k : ℕ) (x : Pipeline f) (feed : Feed f) (share : Ends) (depot y : Item f) (held list : List (Held f)) → x ≡ pipeline_of f c s l k
    → feed ≡ feed_of f share depot → share ≡ share_of f c l k → depot ≡ depot_line f c s l
    → list ≡ held → held ≡ map (λ i. delay_of f (base_shop f c s i k)) (shop_units c l)
    → y ≡ stocked f x (base_line_ends f x.direct x.cap feed list) → y ≡ base_line f c s l k
unfolding base_line
base_line_is f c s l k x feed share depot y held list hx hf hs hd hl hh h =
    h ∙ ap (λ (z : Pipeline f). stocked f z (base_line_ends f z.direct z.cap feed list)) hx
    ∙ ap₂ (λ (v : Feed f) (w : List (Held f)). stocked f (pipeline_of f c s l k) (base_line_ends f (pipeline_of f c s l k).direct (pipeline_of f c s l k).cap v w))
    (hf ∙ ap₂ (feed_of f) hs hd) (hl ∙ hh)

-- ---- ranges of what is passed on

-- a small item fed by a share of at most 1 is a small feed
pub feed_small : (f : ℕ) (share : Ends) (x : Item f) (feed : Feed f) → feed ≡ feed_of f share x → share.hi ≤ 2 ^ f → IsSmallItem f x → IsSmallFeed f feed
feed_small f share x feed e h small =
    subst (IsSmallFeed f) (sym e) (record { share = h; backorders = small.backorders_most; spread = small.spread_most })

pub delay_small : (f : ℕ) (x : Item f) → IsSmallItem f x → IsSmallDelay f (delay_of f x)
delay_small f x small = record { backorders = small.backorders_most; spread = small.spread_most }

pub all_mapped : {X Y : Type 0} (Q : Y → Type 0) (g : X → Y) (xs : List X) → ((k : ℕ) (d : X) → k < length xs → Q (g (get_or xs k d))) → All Q (map g xs)
all_mapped Q g [] h k d l = absurd (omega arith)
all_mapped Q g (x ∷ xs) h zero d l = h zero x (omega arith)
all_mapped Q g (x ∷ xs) h (suc k) d l = all_mapped Q g xs (λ j e i. h (suc j) e (omega arith)) k d (omega arith)

-- ---- the shop units by their ids

-- the items of all shop units at the depot, each by its share, are the feeds of the line unit there
pub feeds_are : (f : ℕ) (c : CaseRows) (s : List ℕ) (l : ℕ) (xs : List PartId) → IsCase c → IsLine c l → map (λ (p : PartId). p.0) xs ≡ shop_units c l
    → map (λ (p : PartId). feed_of f (share_of f c p.0 0) (item_of f c s p.0 0)) xs ≡ map (depot_feed f c s) (shop_units c l)
feeds_are f c s l xs valid line e =
    same_maps (IsShop c l) (λ p. feed_of f (share_of f c p.0 0) (item_of f c s p.0 0)) (depot_feed f c s) xs
    (subst (AllByRecursion (IsShop c l)) (sym e) (shops_all c l valid line))
    (λ p shop. ap (feed_of f (share_of f c p.0 0)) (sym (depot_shop_item f c s l p.0 shop.line_is)))
    ∙ ap (map (depot_feed f c s)) e

-- the items of all shop units at a base are what holds back the line unit there
pub delays_are : (f : ℕ) (c : CaseRows) (s : List ℕ) (l k : ℕ) (xs : List PartId) → 0 < k → IsCase c → IsLine c l → map (λ (p : PartId). p.0) xs ≡ shop_units c l
    → map (λ (p : PartId). delay_of f (item_of f c s p.0 k)) xs ≡ map (λ i. delay_of f (base_shop f c s i k)) (shop_units c l)
delays_are f c s l k xs base valid line e =
    same_maps (IsShop c l) (λ p. delay_of f (item_of f c s p.0 k)) (λ i. delay_of f (base_shop f c s i k)) xs
    (subst (AllByRecursion (IsShop c l)) (sym e) (shops_all c l valid line))
    (λ p shop. ap (delay_of f) (sym (base_shop_item f c s l p.0 k shop.line_is base)))
    ∙ ap (map (λ i. delay_of f (base_shop f c s i k))) e

-- ---- reading the items of shop units, which stand by unit and then by site

abbrev unit_items : (f : ℕ) → CaseRows → List ℕ → List PartId → List (Item f)
unit_items f c s xs = flat_map (λ (p : PartId). part_items f c s p.0) xs

-- the items of collected units are those of their ids
pub by_ids : (f : ℕ) (c : CaseRows) (s : List ℕ) (xs : List PartId) → unit_items f c s xs ≡ flat_map (part_items f c s) (map (λ (p : PartId). p.0) xs)
by_ids f c s xs = sym (flat_map-map (part_items f c s) (λ (p : PartId). p.0) xs)

-- the items of shop units, by unit and then by site, have one for each such pair
pub index_within : (f : ℕ) (c : CaseRows) (s : List ℕ) (xs : List PartId) (items : List (Item f)) (i k : ℕ) → items ≡ unit_items f c s xs → i < length xs → k < length c.sites
    → i * length c.sites + k < length items
index_within f c s xs items i k e h l =
    let all : length items ≡ length xs * length c.sites =
    ap (λ (ys : List (Item f)). length ys) (e ∙ by_ids f c s xs) ∙ flat_length (item_of f c s) (length c.sites) (map (λ (p : PartId). p.0) xs)
    ∙ ap (λ n. n * length c.sites) (length-map xs (λ (p : PartId). p.0)) in
    omega (arith, all, place_fits i k (length xs) (length c.sites) h l)

-- the item found at the place of a unit and a site is that of this pair
pub item_read : (f : ℕ) (c : CaseRows) (s : List ℕ) (xs : List PartId) (items : List (Item f)) (i k place : ℕ) (d : PartId) (x : Item f) → items ≡ unit_items f c s xs
    → i < length xs → k < length c.sites → place ≡ i * length c.sites + k → x ≡ get_or items place x → x ≡ item_of f c s (get_or xs i d).0 k
item_read f c s xs items i k place d x e h l p r =
    let w : place < length items = omega (arith, p, index_within f c s xs items i k e h l) in
    r ∙ get_or_default items place x (no_item f) w ∙ ap (λ j. get_or items j (no_item f)) p ∙ ap (λ (ys : List (Item f)). get_or ys (i * length c.sites + k) (no_item f)) (e ∙ by_ids f c s xs)
    ∙ flat_at (item_of f c s) (length c.sites) (no_item f) (map (λ (p : PartId). p.0) xs) i k (omega (arith, h, length-map xs (λ (p : PartId). p.0))) l
    ∙ ap (λ j. item_of f c s j k) (get_or-map (λ (p : PartId). p.0) xs i d 0 h)

-- with the next shop unit's feed appended, the feeds are those of one more shop unit
pub feeds_more : (f : ℕ) (c : CaseRows) (s : List ℕ) (xs : List PartId) (fs gs : List (Feed f)) (i : ℕ) (d : PartId) (share : Ends) (x : Item f) (feed : Feed f) → i < length xs
    → x ≡ item_of f c s (get_or xs i d).0 0 → share ≡ share_of f c (get_or xs i d).0 0 → feed ≡ feed_of f share x → gs ≡ fs ++ feed ∷ []
    → fs ≡ map (λ (p : PartId). feed_of f (share_of f c p.0 0) (item_of f c s p.0 0)) (take i xs)
    → gs ≡ map (λ (p : PartId). feed_of f (share_of f c p.0 0) (item_of f c s p.0 0)) (take (i + 1) xs)
feeds_more f c s xs fs gs i d share x feed l hx hs hf hg h =
    hg ∙ ap₂ (λ (a : List (Feed f)) (b : Feed f). a ++ b ∷ []) h (hf ∙ ap₂ (feed_of f) hs hx)
    ∙ sym (map_more (λ (p : PartId). feed_of f (share_of f c p.0 0) (item_of f c s p.0 0)) xs i d l)

-- with the next shop unit appended, what holds back the line unit is of one more shop unit
pub delays_more : (f : ℕ) (c : CaseRows) (s : List ℕ) (xs : List PartId) (fs gs : List (Held f)) (i k : ℕ) (d : PartId) (x : Item f) (held : Held f) → i < length xs
    → x ≡ item_of f c s (get_or xs i d).0 k → held ≡ delay_of f x → gs ≡ fs ++ held ∷ []
    → fs ≡ map (λ (p : PartId). delay_of f (item_of f c s p.0 k)) (take i xs) → gs ≡ map (λ (p : PartId). delay_of f (item_of f c s p.0 k)) (take (i + 1) xs)
delays_more f c s xs fs gs i k d x held l hx hf hg h =
    hg ∙ ap₂ (λ (a : List (Held f)) (b : Held f). a ++ b ∷ []) h (hf ∙ ap (delay_of f) hx)
    ∙ sym (map_more (λ (p : PartId). delay_of f (item_of f c s p.0 k)) xs i d l)

-- ---- shop units by their ids

-- each of the collected ids of a line unit's shop units is one of its shop units
pub shop_of : (c : CaseRows) (l : ℕ) (xs : List PartId) → IsCase c → IsLine c l → map (λ (p : PartId). p.0) xs ≡ shop_units c l
    → (k : ℕ) (d : PartId) → k < length xs → IsShop c l (get_or xs k d).0
shop_of c l xs valid line e k d h =
    let m = length-map xs (λ (p : PartId). p.0) in
    let n = ap (λ (ys : List ℕ). length ys) e in
    subst (IsShop c l) (sym (ap (λ ys. get_or ys k 0) e) ∙ get_or-map (λ (p : PartId). p.0) xs k d 0 h) (shop_at c l k valid line (omega (arith, h, m, n)))

-- at most 8 ids are collected of a line unit's shop units
pub ids_few : (c : CaseRows) (l : ℕ) (xs : List PartId) → IsCase c → IsLine c l → map (λ (p : PartId). p.0) xs ≡ shop_units c l → length xs ≤ 8
ids_few c l xs valid line e = omega (arith, length-map xs (λ (p : PartId). p.0), ap (λ (ys : List ℕ). length ys) e, few_shops c l valid line)

-- ---- the total

-- the weighted backorders of base j are the term of place j - 1 in the sum over the bases
pub total_term : (f : ℕ) (items : List (Item f)) (w j : ℕ) (d : Item f) (t : Ends) → 1 ≤ j → j < length items → t ≡ ends_times (get_or items j d).backorders w
    → t ≡ ends_times (get_or items (j - 1 + 1) (no_item f)).backorders w
total_term f items w j d t p l e =
    let back : j ≡ j - 1 + 1 = omega (arith, p) in
    e ∙ ap (λ (y : Item f). ends_times y.backorders w) (get_or_default items j d (no_item f) l ∙ ap (λ i. get_or items i (no_item f)) back)

-- backorders of at most 256 at a weight of at most 100 come to at most 25,600
pub weighed_most : (a w o : ℕ) → a ≤ 256 * o → w ≤ 100 → a * w ≤ 25600 * o
weighed_most a w o h l =
    let p : a * w ≤ a * 100 = mul-le-mul_left a l in
    let q : a * 100 ≤ 256 * o * 100 = mul-le-mul_right 100 h in
    omega (arith, p, q)

-- the upper end of a small item's weighted backorders is at most 25,600
pub times_most : (f w : ℕ) (x : Item f) (t : Ends) → IsSmallItem f x → w ≤ 100 → t ≡ ends_times x.backorders w → t.hi ≤ 25600 * 2 ^ f
times_most f w x t small l e = rw e (weighed_most x.backorders.hi w (2 ^ f) small.backorders_most l)

-- there is room below 2^127 for one more term of a total over at most 15 bases
pub total_room : (f j n sum t : ℕ) → f ≤ 52 → j < n → n ≤ 16 → sum ≤ (j - 1 + 1) * (25600 * 2 ^ f) → t ≤ 25600 * 2 ^ f → sum + t < 2 ^ 127
total_room f j n sum t s l few h k =
    let m : (j - 1 + 1) * (25600 * 2 ^ f) ≤ 16 * (25600 * 2 ^ f) = mul-le-mul_right (25600 * 2 ^ f) (omega (arith, l, few)) in
    omega (arith, m, unit_most f s)

-- sums of ends that agree term by term are the same
pub added_same : (first : Ends) (p q : ℕ → Ends) (n : ℕ) → ((k : ℕ) → k < n → p k ≡ q k) → added first p n ≡ added first q n
unfolding added
added_same first p q zero h = refl
added_same first p q (suc n) h = ap₂ ends_add (added_same first p q n (λ k l. h k (omega arith))) (h n (omega arith))

-- the weighted backorders added up base by base are the family's total
pub total_is : (f : ℕ) (c : CaseRows) (s : List ℕ) (l w : ℕ) (items list : List (Item f)) (t : Ends) → list ≡ items → items ≡ part_items f c s l → w ≡ weight c l
    → t ≡ added (ends_exact f 0) (λ j. ends_times (get_or list (j + 1) (no_item f)).backorders w) (length list - 1) → t ≡ total_of f c s l
total_is f c s l w items list t hl hi hw h =
    h ∙ ap₂ (λ (xs : List (Item f)) (v : ℕ). added (ends_exact f 0) (λ j. ends_times (get_or xs (j + 1) (no_item f)).backorders v) (length xs - 1)) (hl ∙ hi) hw
    ∙ ap (λ n. added (ends_exact f 0) (λ j. ends_times (get_or (part_items f c s l) (j + 1) (no_item f)).backorders (weight c l)) (n - 1)) (length-map-range_with_len (item_of f c s l) 0 (length c.sites))
    ∙ added_same (ends_exact f 0) _ (weighed f c s l) (length c.sites - 1)
    (λ k h. ap (λ (x : Item f). ends_times x.backorders (weight c l)) (get_or-map-range_with_len (item_of f c s l) 0 (length c.sites) (k + 1) (k + 1) (no_item f) (omega (arith, h)) (omega arith)))

-- ---- whole families

-- a part has one item for each site
pub row_length : (f : ℕ) (c : CaseRows) (s : List ℕ) (p : ℕ) (items list : List (Item f)) → list ≡ items → items ≡ part_items f c s p → length list ≡ length c.sites
row_length f c s p items list h e = ap (λ (xs : List (Item f)). length xs) (h ∙ e) ∙ length-map-range_with_len (item_of f c s p) 0 (length c.sites)

-- the items of a part of a sound case are small
pub row_small : (f : ℕ) (c : CaseRows) (s : List ℕ) (p : ℕ) (items list : List (Item f)) → 24 ≤ f → IsSound c s → p < length c.parts → list ≡ items → items ≡ part_items f c s p
    → All (IsSmallItem f) list
row_small f c s p items list least sound l h e k d i =
    let n : k < length c.sites = omega (arith, i, row_length f c s p items list h e) in
    subst (IsSmallItem f)
    (sym (ap (λ xs. get_or xs k d) (h ∙ e) ∙ get_or-map-range_with_len (item_of f c s p) 0 (length c.sites) k k d n (omega arith)))
    (item_small f c s least sound p k l n)

-- the items of a line unit, those of its shop units and the total make the family's result
pub family_is : (f : ℕ) (c : CaseRows) (s : StockList) (l : ℕ) (rows shops all items : List (Item f)) (total : Ends) → rows ≡ part_items f c s.list l
    → shops ≡ flat_map (part_items f c s.list) (shop_units c l) → all ≡ rows ++ shops → items ≡ all → total ≡ total_of f c s.list l
    → record { items = items; total = total } ≡ family_of f c l s
family_is f c s l rows shops all items total hr hs ha hi ht =
    ap₂ (λ (a : List (Item f)) (b : Ends). record { items = a; total = b }) (hi ∙ ha ∙ ap₂ (λ (a b : List (Item f)). a ++ b) hr hs) ht

-- ---- what the shop units pass on is few and small

-- at most 8 feeds come to a line unit at the depot
pub feeds_few : (f : ℕ) (c : CaseRows) (s : List ℕ) (l : ℕ) (feeds : List (Feed f)) → IsSound c s → IsLine c l → feeds ≡ map (depot_feed f c s) (shop_units c l) → length feeds ≤ 8
feeds_few f c s l feeds sound line e =
    omega (arith, ap (λ (xs : List (Feed f)). length xs) e, length-map (shop_units c l) (depot_feed f c s), few_shops c l sound.valid line)

-- at most 8 shop units hold back a line unit at a base
pub delays_few : (f : ℕ) (c : CaseRows) (s : List ℕ) (l k : ℕ) (held : List (Held f)) → IsSound c s → IsLine c l
    → held ≡ map (λ i. delay_of f (base_shop f c s i k)) (shop_units c l) → length held ≤ 8
delays_few f c s l k held sound line e =
    omega (arith, ap (λ (xs : List (Held f)). length xs) e, length-map (shop_units c l) (λ i. delay_of f (base_shop f c s i k)), few_shops c l sound.valid line)

-- an element of the shop units, whatever stands past their end
shop_in : (c : CaseRows) (l k d : ℕ) → IsCase c → IsLine c l → k < length (shop_units c l) → get_or (shop_units c l) k d < length c.parts
shop_in c l k d valid line h = subst (λ i. i < length c.parts) (get_or_default (shop_units c l) k 0 d h) (shop_at c l k valid line h).is_part

-- the feeds of a line unit at the depot are small
pub depot_feeds_small : (f : ℕ) (c : CaseRows) (s : List ℕ) (l : ℕ) (feeds : List (Feed f)) → 24 ≤ f → IsSound c s → IsLine c l
    → feeds ≡ map (depot_feed f c s) (shop_units c l) → All (IsSmallFeed f) feeds
depot_feeds_small f c s l feeds least sound line e =
    subst (All (IsSmallFeed f)) (sym e)
    (all_mapped (IsSmallFeed f) (depot_feed f c s) (shop_units c l)
    (λ k d h. (let i = shop_in c l k d sound.valid line h in
    let r = sound.pairs (get_or (shop_units c l) k d) 0 i (omega (arith, sound.valid.frame.fewest_sites)) in
    feed_small f (share_of f c (get_or (shop_units c l) k d) 0) (depot_shop f c s (get_or (shop_units c l) k d)) _ refl
    (share_most f (pair_rates c (get_or (shop_units c l) k d) 0) r.share_most r.some_share)
    (small_i0 f c s least sound (get_or (shop_units c l) k d) i))))

-- what holds back a line unit at a site is small
pub all_delays_small : (f : ℕ) (c : CaseRows) (s : List ℕ) (l k : ℕ) (held : List (Held f)) → 24 ≤ f → IsSound c s → IsLine c l → k < length c.sites
    → held ≡ map (λ i. delay_of f (base_shop f c s i k)) (shop_units c l) → All (IsSmallDelay f) held
all_delays_small f c s l k held least sound line lk e =
    subst (All (IsSmallDelay f)) (sym e)
    (all_mapped (IsSmallDelay f) (λ i. delay_of f (base_shop f c s i k)) (shop_units c l)
    (λ j d h. delay_small f (base_shop f c s (get_or (shop_units c l) j d) k)
    (small_ij f c s least sound (get_or (shop_units c l) j d) k (shop_in c l j d sound.valid line h) lk)))
