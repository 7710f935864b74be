-- The box of all vectors of a family, and its tables.
use Rattle.std.proofs.Common.{◌≡◌, ℕ, zero, suc, ◌+◌, ◌-◌, ◌*◌, ◌<◌, ◌≤◌, Bool, cond, List, [], ◌∷◌, length, get_or, map, flat_map, take, drop, refl, sym, ap, ap₂, ◌∙◌, subst, arith}
use Rattle.std.specs.List.{range_with_len, All, AllZip, AllByRecursion}
use Rattle.std.proofs.lemmas.List.{get_or-map, get_or-replicate, length-replicate}
use Rattle.std.proofs.lemmas.Simd.{map-map}
use Rattle.std.proofs.lemmas.Bool.{ne_eqb}
use Rattle.list_laws.proofs.Public.{at_each, each_any, map_flat, no_more_than_self, same_flat, same_map}
use Rattle.spares_input.specs.declared.rows.PartId.{PartId}
use Rattle.spares_input.specs.Frames.{part_at}
use Rattle.spares_input.specs.Stocks.{StockList, limit_at, nothing_held}
use Rattle.spares_input.specs.Pairs.{pair_place}
use Rattle.spares_input.specs.Cases.{CaseRows, IsCase, frame_rows, pair_count}
use Rattle.fleet_model.specs.Rows.{bases, shop_units, stock}
use Rattle.fleet_model.specs.Fleet.{family}
use Rattle.family_items.specs.Inputs.{IsLine}
use Rattle.family_points.specs.declared.bounds.Bounds.{Bounds}
use Rattle.family_points.specs.Vectors.{Pair, box_from, limits, places, places_at, site_part, vector_of, zeros}
use Rattle.family_points.specs.Points.{AreOrdered}
use Rattle.family_points.specs.Counts.{widths, base_width, tables_by, tables_of, tables_between}
use Rattle.family_points.proofs.Bounded.{limits_at, ids_long}
use Rattle.family_points.proofs.Sites.{size, members}

-- the widths from no stock up to given numbers are these numbers and one
pub widths_all : (f : Pair → ℕ) (xs : List Pair) → widths (map (λ (x : Pair). 0) xs) (map f xs) ≡ map (λ n. n + 1) (map f xs)
widths_all f [] = refl
widths_all f (x ∷ xs) = ap₂ (λ (n : ℕ) (ns : List ℕ). n ∷ ns) (one (f x)) (widths_all f xs)
  where
    one : (n : ℕ) → suc n - 0 ≡ n + 1
    one n = omega arith

take_map : (f : ℕ → ℕ) (n : ℕ) (xs : List ℕ) → take n (map f xs) ≡ map f (take n xs)
take_map f zero xs = refl
take_map f (suc n) [] = refl
take_map f (suc n) (x ∷ xs) = ap (λ (ns : List ℕ). f x ∷ ns) (take_map f n xs)

drop_map : (f : ℕ → ℕ) (n : ℕ) (xs : List ℕ) → drop n (map f xs) ≡ map f (drop n xs)
drop_map f zero xs = refl
drop_map f (suc n) [] = refl
drop_map f (suc n) (x ∷ xs) = drop_map f n xs

-- the widths of site k
whole_at : (c : CaseRows) (l k : ℕ) → k < length c.sites
    → site_part c l (widths (zeros c l) (limits c l)) k ≡ map (λ p. limit_at c.parts p k + 1) (family c l)
whole_at c l k m =
    let limit : Pair → ℕ = λ x. limit_at c.parts x.part x.site in
    let more : ℕ → ℕ = λ n. n + 1 in
    let own : ℕ → ℕ = λ p. limit_at c.parts p k in
    ap (λ (v : List ℕ). site_part c l v k) (widths_all limit (places c l))
    ∙ ap (take (size c l)) (drop_map more (k * size c l) (limits c l)) ∙ take_map more (size c l) (drop (k * size c l) (limits c l))
    ∙ ap (map more) (limits_at c l k m) ∙ map-map more own (family c l)

-- the limit of a part at a base and one is its width there
pub base_limit : (c : CaseRows) (p j : ℕ) → 0 < j → limit_at c.parts p j + 1 ≡ base_width c p
base_limit c p j h = ap (λ (t : Bool). cond t (part_at c.parts p).max_depot (part_at c.parts p).max_base + 1) (ne_eqb j 0 (λ e. omega (arith, e, h)))

from_one : (n a : ℕ) → 0 < a → AllByRecursion (λ j. (0 < j) × (j < a + n)) (range_with_len a n)
from_one zero a h = tt
from_one (suc n) a h = ((h, omega arith), onward (range_with_len (a + 1) n) (from_one n (a + 1) (omega arith)))
  where
    onward : (xs : List ℕ) → AllByRecursion (λ j. (0 < j) × (j < a + 1 + n)) xs → AllByRecursion (λ j. (0 < j) × (j < a + suc n)) xs
    onward [] g = tt
    onward (x ∷ xs) g = ((g.0.0, omega (arith, g.0.1)), onward xs g.1)

-- the tables for all vectors are those of the box from no stock to the limits
pub tables_whole : (c : CaseRows) (l : ℕ) → IsCase c → tables_of c l ≡ tables_between c l (zeros c l) (limits c l)
tables_whole c l valid =
    let some = valid.frame.fewest_sites in
    let depot = whole_at c l 0 (omega (arith, some)) in
    let all : List ℕ → ℕ → List ℕ = λ v j. drop 1 (site_part c l v j) in
    ap₂ (λ (d : List ℕ) (bs : List (List ℕ)). tables_by (get_or d 0 0) (drop 1 d) bs) (sym depot)
    (same_map (λ j. (0 < j) × (j < 1 + (length c.sites - 1))) (λ j. map (base_width c) (shop_units c l)) (all (widths (zeros c l) (limits c l))) (bases c)
    (λ j h. sym (ap (drop 1) (whole_at c l j (omega (arith, h.1, some)))
    ∙ same_map (λ p. Unit {0}) (λ p. limit_at c.parts p j + 1) (base_width c) (shop_units c l) (λ p _. base_limit c p j h.0) (each_any (shop_units c l))))
    (from_one (length c.sites - 1) 1 (omega arith)))

-- the bounds as lists, site by site
pub limits_rows : (c : CaseRows) (l : ℕ) → limits c l ≡ flat_map (λ k. map (λ p. limit_at c.parts p k) (family c l)) (range_with_len 0 (length c.sites))
limits_rows c l =
    let limit : Pair → ℕ = λ x. limit_at c.parts x.part x.site in
    let own : ℕ → ℕ → Pair = λ k p. record { part = p; site = k } in
    map_flat limit (places_at c l) (range_with_len 0 (length c.sites))
    ∙ same_flat (λ k. Unit {0}) (λ k. map limit (places_at c l k)) (λ k. map (λ p. limit_at c.parts p k) (family c l)) (range_with_len 0 (length c.sites))
    (λ k _. map-map limit (own k) (family c l)) (each_any (range_with_len 0 (length c.sites)))

-- no stock is at most any number, at each place
pub none_zip : (f : Pair → ℕ) (xs : List Pair) → AllZip (λ x y. x ≤ y) (map (λ (x : Pair). 0) xs) (map f xs)
none_zip f [] = tt
none_zip f (x ∷ xs) = (omega arith, none_zip f xs)

-- with nothing held, the bounds from no stock to the limits are in order
pub whole_ordered : (c : CaseRows) (l : ℕ) → AreOrdered c l (zeros c l) (zeros c l) (limits c l)
whole_ordered c l = record {
  held_least = no_more_than_self (zeros c l);
  low_least = none_zip (λ (x : Pair). limit_at c.parts x.part x.site) (places c l);
  within = no_more_than_self (limits c l);
}

nothing_at : (xs : List ℕ) → All (λ n. n ≡ 0) xs → (i : ℕ) → get_or xs i 0 ≡ 0
nothing_at [] h i = refl
nothing_at (x ∷ xs) h zero = h 0 0 (omega arith)
nothing_at (x ∷ xs) h (suc i) = nothing_at xs (λ j d b. h (suc j) d (omega (arith, b))) i

-- a list of zeros has zeros at the places of every family
pub no_vector : (c : CaseRows) (l : ℕ) (held : List ℕ) → All (λ n. n ≡ 0) held → vector_of c l held ≡ zeros c l
no_vector c l held h =
    same_map (λ (x : Pair). Unit {0}) (λ (x : Pair). stock c held x.part x.site) (λ (x : Pair). 0) (places c l)
    (λ x _. nothing_at held h (pair_place (length c.sites) x.part x.site)) (each_any (places c l))

-- nothing held is a list of zeros
pub all_zeros : (c : CaseRows) → All (λ n. n ≡ 0) (nothing_held c).list
all_zeros c i d b = get_or-replicate (pair_count (frame_rows c)) i 0 d (subst (λ n. i < n) (length-replicate {A = ℕ} (pair_count (frame_rows c)) 0) b)

-- so the bounds from nothing held have all vectors
pub box_of_nothing : (c : CaseRows) (l : ℕ) (held : StockList) (b : Bounds) → held ≡ nothing_held c → b ≡ box_from c l held.list
    → b ≡ record { held = zeros c l; low = zeros c l; high = limits c l }
box_of_nothing c l held b none is =
    let from : List ℕ → Bounds = λ v. record { held = v; low = v; high = limits c l } in
    is ∙ ap (λ (h : StockList). box_from c l h.list) none ∙ ap from (no_vector c l (nothing_held c).list (all_zeros c))

-- the members are parts
pub ids_within : (c : CaseRows) (l : ℕ) (ids : List PartId) → IsCase c → IsLine c l → map (λ (p : PartId). p.0) ids ≡ family c l
    → (k : ℕ) (d : PartId) → k < length ids → (get_or ids k d).0 < length c.parts
ids_within c l ids valid line h k d m =
    let id : PartId → ℕ = λ p. p.0 in
    let e : get_or (family c l) k 0 ≡ (get_or ids k d).0 = ap (λ (r : List ℕ). get_or r k 0) (sym h) ∙ get_or-map id ids k d 0 m in
    subst (λ n. n < length c.parts) e (at_each (λ p. p < length c.parts) (family c l) (members c l valid line) k 0 (omega (arith, m, ids_long c l ids h)))

-- the limits read by the ids of a family's parts at a site are those of its parts there
pub ids_limits : (c : CaseRows) (l k : ℕ) (ids : List PartId) → map (λ (p : PartId). p.0) ids ≡ family c l
    → map (λ (p : PartId). limit_at c.parts p.0 k) ids ≡ map (λ p. limit_at c.parts p k) (family c l)
ids_limits c l k ids h =
    let id : PartId → ℕ = λ p. p.0 in
    let limit : ℕ → ℕ = λ p. limit_at c.parts p k in
    sym (map-map limit id ids) ∙ ap (map limit) h
