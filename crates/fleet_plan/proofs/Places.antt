-- The places of a family: its vectors against the stocks of a case.
use Rattle.std.proofs.Common.{◌≡◌, ℕ, zero, suc, ◌+◌, ◌*◌, ◌<◌, ◌⊎◌, ◌==◌, nat_lt, inl, inr, Bool, true, false, cond, List, [], ◌∷◌, ◌++◌, length, map, flat_map, filter, get_or, position, Option, Some, None, refl, sym, ap, ap₂, ◌∙◌, subst, arith, eq-eqb, ne_eqb, eqb-true, lt-ltb, ◌/◌, ◌%◌, bytes_eq, is_none, IfSome, zero-lt-suc}
use Rattle.std.specs.List.{range_with_len, AllZip, position_or_len}
use Rattle.std.specs.Option.{option_map_or}
use Rattle.std.proofs.lemmas.Bool.{false≢true}
use Rattle.std.proofs.lemmas.Simd.{map-map}
use Rattle.std.proofs.lemmas.List.{ext_get_or, get_or-map, length-map, length-append}
use Rattle.std.proofs.lemmas.List.Quantifiers.{position-Some}
use Rattle.std.proofs.lemmas.List.Sums.{position_or_len_is}
use Rattle.std.proofs.lemmas.Nat.{div-add-mod'}
use Rattle.std.proofs.Math.Nat.{mod-lt, div-lt_iff_lt-mul}
use Rattle.std.proofs.lemmas.List.FromFn.{length-range_with_len, get_or-range_with_len}
use Rattle.list_laws.proofs.Public.{flat_at, flat_length, map_flat}
use Rattle.hull.specs.Curves.{Among}
use Rattle.hull.proofs.Public.{among_at, among_map, among_mapped, among_flat, among_flattened, in_range, range_has}
use Rattle.spares_input.specs.Rows.{is_line}
use Rattle.spares_input.specs.Frames.{part_at, is_shop_of}
use Rattle.spares_input.specs.Cases.{CaseRows, IsCase, frame_rows, pair_count}
use Rattle.fleet_model.specs.Rows.{all_parts, all_sites, stock, shop_units, line_units}
use Rattle.fleet_model.specs.Fleet.{family}
use Rattle.fleet_model.proofs.Public.{HasLine, HasFamilies, has_families}
use Rattle.demand_rates.proofs.Public.{no_line_there}
use Rattle.family_items.specs.Inputs.{IsLine, IsShop}
use Rattle.family_items.proofs.Public.{shops_all}
use Rattle.family_points.proofs.Public.{all_joined, members, part_long}
use Rattle.family_points.specs.Vectors.{Pair, places_at, places, vector_of, site_part}
use Rattle.fleet_model.specs.Laws.{AgreeOnFamily}
use Rattle.fleet_plan.specs.Families.{HasWidth}
use Rattle.fleet_plan.proofs.Lists.{all_from_among, among_all, maps_agree, map_among}

-- ---- what a test keeps

kept_step : (t : ℕ → Bool) (y : ℕ) (ys : List ℕ) (b : Bool) (x : ℕ) → t y ≡ b → (Among x (filter t ys) → Among x ys × (t x ≡ true)) → Among x (cond b (y ∷ filter t ys) (filter t ys)) → Among x (y ∷ ys) × (t x ≡ true)
kept_step t y ys true x e h (inl i) = (inl i, ap t i ∙ e)
kept_step t y ys true x e h (inr a) = (let r = h a in (inr r.0, r.1))
kept_step t y ys false x e h a = (let r = h a in (inr r.0, r.1))

-- what is kept of a list by a test is in the list and passes the test
pub kept : (t : ℕ → Bool) (xs : List ℕ) (x : ℕ) → Among x (filter t xs) → Among x xs × (t x ≡ true)
kept t [] x a = absurd a
kept t (y ∷ ys) x a = kept_step t y ys (t y) x refl (λ b. kept t ys x b) a

keeps_step : (t : ℕ → Bool) (y : ℕ) (ys : List ℕ) (b : Bool) (x : ℕ) → t y ≡ b → t x ≡ true → (x ≡ y) ⊎ Among x (filter t ys) → Among x (cond b (y ∷ filter t ys) (filter t ys))
keeps_step t y ys true x e h a = a
keeps_step t y ys false x e h (inl i) = absurd (false≢true (sym e ∙ sym (ap t i) ∙ h))
keeps_step t y ys false x e h (inr a) = a

pub keeps : (t : ℕ → Bool) (xs : List ℕ) (x : ℕ) → Among x xs → t x ≡ true → Among x (filter t xs)
keeps t [] x a h = absurd a
keeps t (y ∷ ys) x (inl i) h = keeps_step t y ys (t y) x refl h (inl i)
keeps t (y ∷ ys) x (inr a) h = keeps_step t y ys (t y) x refl h (inr (keeps t ys x a h))

-- ---- lists without repetition

-- no number stands twice in the list
abbrev pub IsApart : List ℕ → Type 0
IsApart [] = Unit {0}
IsApart (x ∷ xs) = (Among x xs → ⊥) × IsApart xs

apart_step : (t : ℕ → Bool) (a n : ℕ) (b : Bool) → IsApart (filter t (range_with_len (a + 1) n)) → IsApart (cond b (a ∷ filter t (range_with_len (a + 1) n)) (filter t (range_with_len (a + 1) n)))
apart_step t a n true h = (λ m. (let r = range_has a (a + 1) n (kept t (range_with_len (a + 1) n) a m).0 in absurd (omega (arith, r.0))), h)
apart_step t a n false h = h

pub kept_apart : (t : ℕ → Bool) (a n : ℕ) → IsApart (filter t (range_with_len a n))
kept_apart t a zero = tt
kept_apart t a (suc n) = apart_step t a n (t a) (kept_apart t (a + 1) n)

-- the number at a place of a list is among its numbers
pub at_among : (xs : List ℕ) (i : ℕ) → i < length xs → Among (get_or xs i 0) xs
at_among xs i h = among_at xs i 0 h

-- in a list without repetitions, two places have two numbers
pub apart_at : (xs : List ℕ) (k i : ℕ) → IsApart xs → k < i → i < length xs → get_or xs k 0 ≡ get_or xs i 0 → ⊥
apart_at [] k i a l h e = absurd (omega arith)
apart_at (x ∷ xs) k zero a l h e = absurd (omega arith)
apart_at (x ∷ xs) zero (suc i) a l h e = a.0 (subst (λ y. Among y xs) (sym e) (among_at xs i 0 (omega arith)))
apart_at (x ∷ xs) (suc k) (suc i) a l h e = apart_at xs k i a.1 (omega arith) (omega arith) e

first_place : (xs : List ℕ) (i : ℕ) → IsApart xs → i < length xs → position_or_len (λ q. q == get_or xs i 0) xs ≡ i
first_place xs i a h =
    position_or_len_is (λ q. q == get_or xs i 0) xs i 0 (omega arith)
    (λ k l. ne_eqb (get_or xs k 0) (get_or xs i 0) (λ e. apart_at xs k i a l h e)) (λ l. eq-eqb (get_or xs i 0) (get_or xs i 0) refl)

found_step : (j i n : ℕ) → j ≡ i → i < n → cond (nat_lt j n) (Some j) None ≡ Some i
found_step j i n e h = ap (λ b. cond b (Some j) None) (lt-ltb j n (omega arith)) ∙ ap (λ m. Some m) e

pub found : (xs : List ℕ) (i : ℕ) → IsApart xs → i < length xs → position (λ q. q == get_or xs i 0) xs ≡ Some i
found xs i a h = found_step (position_or_len (λ q. q == get_or xs i 0) xs) i (length xs) (first_place xs i a h) h

-- ---- families

module _ (c : CaseRows) (valid : IsCase c) where
  -- what is listed as a line unit is one
  pub lines_are : (l : ℕ) → Among l (line_units c) → IsLine c l
  lines_are l a =
      let k = kept (λ p. is_line (part_at c.parts p)) (all_parts c) l a in
      record { is_part = (let r = range_has l 0 (length c.parts) k.0 in omega (arith, r.1)); no_parent = k.1 }

  -- each line unit is listed
  pub line_among : (l : ℕ) → IsLine c l → Among l (line_units c)
  line_among l line = keeps (λ p. is_line (part_at c.parts p)) (all_parts c) l (in_range l 0 (length c.parts) (omega arith) (omega (arith, line.is_part))) line.no_parent

  -- no line unit is listed twice
  pub lines_apart : IsApart (line_units c)
  lines_apart = kept_apart (λ p. is_line (part_at c.parts p)) 0 (length c.parts)

  pub shop_is : (l p : ℕ) → IsLine c l → Among p (shop_units c l) → IsShop c l p
  shop_is l p line a = among_all (IsShop c l) (shop_units c l) p (shops_all c l valid line) a

  -- each part of a family is a part of the case
  pub in_case : (l p : ℕ) → IsLine c l → Among p (family c l) → p < length c.parts
  in_case l p line a = among_all (λ q. q < length c.parts) (family c l) p (members c l valid line) a

  abbrev unwrapped : Option ℕ → ℕ
  unwrapped None = 0
  unwrapped (Some x) = x

  abbrev is_there : Option ℕ → Bool
  is_there None = false
  is_there (Some x) = true

  not_both : (l m : ℕ) → IsLine c l → IsShop c m l → ⊥
  not_both l m line shop = false≢true (ap is_there (sym (no_line_there c.parts l line.no_parent) ∙ shop.line_is))

  -- a part is of one family
  pub one_family : (l m p : ℕ) → IsLine c l → IsLine c m → Among p (family c l) → Among p (family c m) → l ≡ m
  one_family l m p ll lm (inl e) (inl i) = sym e ∙ i
  one_family l m p ll lm (inl e) (inr b) = absurd (not_both l m ll (subst (IsShop c m) e (shop_is m p lm b)))
  one_family l m p ll lm (inr a) (inl i) = absurd (not_both m l lm (subst (IsShop c l) i (shop_is l p ll a)))
  one_family l m p ll lm (inr a) (inr b) = ap unwrapped (sym (shop_is l p ll a).line_is ∙ (shop_is m p lm b).line_is)

  -- no part of a family is listed twice
  pub family_apart : (l : ℕ) → IsLine c l → IsApart (family c l)
  family_apart l line = (λ a. not_both l l line (shop_is l l line a), kept_apart (λ p. is_shop_of (part_at c.parts l) (part_at c.parts p)) 0 (length c.parts))

-- ---- stocks by part and site

abbrev pub listed : CaseRows → (ℕ → ℕ → ℕ) → List ℕ
listed c σ = flat_map (λ p. map (σ p) (all_sites c)) (all_parts c)

-- stocks listed by part and then by site are read back for each pair
pub stock_listed : (c : CaseRows) (σ : ℕ → ℕ → ℕ) (p k : ℕ) → p < length c.parts → k < length c.sites → stock c (listed c σ) p k ≡ σ p k
stock_listed c σ p k lp lk =
    flat_at σ (length c.sites) 0 (all_parts c) p k (omega (arith, lp, length-range_with_len 0 (length c.parts))) lk
    ∙ ap (λ q. σ q k) (get_or-range_with_len 0 (length c.parts) p 0 lp ∙ omega arith)

-- a listed stock is there for each pair of the case
pub length_listed : (c : CaseRows) (σ : ℕ → ℕ → ℕ) → length (listed c σ) ≡ pair_count (frame_rows c)
length_listed c σ = flat_length σ (length c.sites) (all_parts c) ∙ ap (λ n. n * length c.sites) (length-range_with_len 0 (length c.parts))

-- ---- vectors

-- a part of the family at a site of the case is a place of the family
pub is_place : (c : CaseRows) (l p k : ℕ) → Among p (family c l) → k < length c.sites → Among (record { part = p; site = k }) (places c l)
is_place c l p k a h =
    among_flat (places_at c l) (all_sites c) k (record { part = p; site = k }) (in_range k 0 (length c.sites) (omega arith) (omega (arith, h)))
    (among_map (λ q. let x : Pair = record { part = q; site = k } in x) (family c l) p a)

-- a place of a family is one of its parts at a site of the case
pub place_has : (c : CaseRows) (l : ℕ) (x : Pair) → Among x (places c l) → Among x.part (family c l) × (x.site < length c.sites)
place_has c l x a =
    let f = among_flattened (places_at c l) (all_sites c) x a in
    let m = among_mapped (λ q. let y : Pair = record { part = q; site = f.from } in y) (family c l) x f.in_it in (
      subst (λ q. Among q (family c l)) (sym (ap (λ (y : Pair). y.part) m.is)) m.there,
      (let r = range_has f.from 0 (length c.sites) f.there in let e = ap (λ (y : Pair). y.site) m.is in omega (arith, r.1, e)),
    )

-- two lists of stocks with one vector agree on the family
pub agrees : (c : CaseRows) (l : ℕ) (s t : List ℕ) → vector_of c l s ≡ vector_of c l t → (p k : ℕ) → Among p (family c l) → k < length c.sites → stock c s p k ≡ stock c t p k
agrees c l s t e p k a h = maps_agree (λ (x : Pair). stock c s x.part x.site) (λ (x : Pair). stock c t x.part x.site) (places c l) e (record { part = p; site = k }) (is_place c l p k a h)

-- stocks with the same vector of a family agree at all of its pairs
pub agree_on : (c : CaseRows) (l : ℕ) (s t : List ℕ) → vector_of c l s ≡ vector_of c l t → AgreeOnFamily c s t l
agree_on c l s t e = all_from_among (λ p. (k : ℕ) → k < length c.sites → stock c s p k ≡ stock c t p k) (family c l) (λ p a k h. agrees c l s t e p k a h)

-- a vector is what it has for each site, one after another
flat_each : {X : Type 0} (f g : ℕ → List X) (xs : List ℕ) → ((x : ℕ) → Among x xs → f x ≡ g x) → flat_map f xs ≡ flat_map g xs
flat_each f g [] h = refl
flat_each f g (x ∷ xs) h = ap₂ (λ a b. a ++ b) (h x (inl refl)) (flat_each f g xs (λ y a. h y (inr a)))

-- a vector by its sites
pub by_site : {Y : Type 0} (c : CaseRows) (l : ℕ) (f : Pair → Y) → map f (places c l) ≡ flat_map (λ k. map (λ p. f (record { part = p; site = k })) (family c l)) (all_sites c)
by_site c l f = map_flat f (places_at c l) (all_sites c)
    ∙ flat_each _ _ (all_sites c) (λ k a. map-map f (λ p. let x : Pair = record { part = p; site = k } in x) (family c l))

-- a family has a place for each of its parts at each site
pub length_places : (c : CaseRows) (l : ℕ) → length (places c l) ≡ length c.sites * length (family c l)
length_places c l = counted (range_with_len 0 (length c.sites)) ∙ ap (λ n. n * length (family c l)) (length-range_with_len 0 (length c.sites))
  where
    counted : (ks : List ℕ) → length (flat_map (places_at c l) ks) ≡ length ks * length (family c l)
    counted [] = omega arith
    counted (k ∷ ks) =
        length-append (places_at c l k) (flat_map (places_at c l) ks)
        ∙ ap₂ (λ a b. a + b) (length-map (family c l) (λ p. let x : Pair = record { part = p; site = k } in x)) (counted ks) ∙ more (length (family c l)) (length ks)
      where
        more : (w n : ℕ) → w + n * w ≡ suc n * w
        more w n = omega arith

-- stocks that have a vector's numbers for each site have that vector
pub vector_by : (c : CaseRows) (l : ℕ) (s v : List ℕ) → length v ≡ length (places c l)
    → ((k : ℕ) → k < length c.sites → map (λ p. stock c s p k) (family c l) ≡ site_part c l v k) → vector_of c l s ≡ v
vector_by c l s v e own =
    by_site c l (λ (x : Pair). stock c s x.part x.site)
    ∙ flat_each _ (site_part c l v) (all_sites c) (λ k a. own k (omega (arith, (range_has k 0 (length c.sites) a).1)))
    ∙ all_joined c l v (length c.sites) (e ∙ length_places c l)

pub vector_listed : (c : CaseRows) (l : ℕ) (σ : ℕ → ℕ → ℕ) (v : List ℕ) → ((p : ℕ) → Among p (family c l) → p < length c.parts) → length v ≡ length (places c l)
    → ((k : ℕ) → k < length c.sites → map (λ p. σ p k) (family c l) ≡ site_part c l v k) → vector_of c l (listed c σ) ≡ v
vector_listed c l σ v parts e own =
    vector_by c l (listed c σ) v e (λ k h. map_among _ _ (family c l) (λ p b. stock_listed c σ p k (parts p b) h) ∙ own k h)

-- ---- look-ups

-- the number at the place that p has in a list, and d where it has none
abbrev pub looked_up : List ℕ → List ℕ → ℕ → ℕ → ℕ
looked_up xs ys d p = option_map_or (λ i. get_or ys i 0) (position (λ q. q == p) xs) d

looked_up_all : (xs ys : List ℕ) (d : ℕ → ℕ) → IsApart xs → length ys ≡ length xs → map (λ p. looked_up xs ys (d p) p) xs ≡ ys
looked_up_all xs ys d a e =
    ext_get_or 0 (map (λ p. looked_up xs ys (d p) p) xs) ys (length-map xs (λ p. looked_up xs ys (d p) p) ∙ sym e) (λ i h.
    let l : i < length xs = omega (arith, h, length-map xs (λ p. looked_up xs ys (d p) p)) in
    get_or-map (λ p. looked_up xs ys (d p) p) xs i 0 0 l ∙ ap (λ o. option_map_or (λ j. get_or ys j 0) o (d (get_or xs i 0))) (found xs i a l))

missing_at : (xs : List ℕ) (p : ℕ) (o : Option ℕ) → position (λ q. q == p) xs ≡ o → (Among p xs → ⊥) → o ≡ None
missing_at xs p None e h = refl
missing_at xs p (Some i) e h =
    let f = position-Some (λ q. q == p) xs i 0 e in
    absurd (h (subst (λ q. Among q xs) (eqb-true (get_or xs i 0) p f.1) (among_at xs i 0 f.0)))

pub missing : (xs : List ℕ) (p : ℕ) → (Among p xs → ⊥) → position (λ q. q == p) xs ≡ None
missing xs p h = missing_at xs p (position (λ q. q == p) xs) refl h

-- what stands in a vector for a site has an entry for each part of the family
pub length_part : (c : CaseRows) (l : ℕ) (v : List ℕ) (k : ℕ) → length v ≡ length (places c l) → k < length c.sites → length (site_part c l v k) ≡ length (family c l)
length_part c l v k e h = part_long c l v k (length c.sites) (e ∙ length_places c l) h

-- the vector of any stocks has an entry for each place of the family
pub length_vector : (c : CaseRows) (l : ℕ) (s : List ℕ) → length (vector_of c l s) ≡ length (places c l)
length_vector c l s = length-map (places c l) (λ (x : Pair). stock c s x.part x.site)

-- ---- stocks that are made of a vector of each family

-- the stock of part p at site k from a vector of each family, 0 where no family has the part
abbrev pub from_families : CaseRows → List ℕ → List (List ℕ) → ℕ → ℕ → ℕ
from_families c [] vs p k = 0
from_families c (l ∷ ls) [] p k = 0
from_families c (l ∷ ls) (v ∷ vs) p k = looked_up (family c l) (site_part c l v k) (from_families c ls vs p k) p

-- the stocks of the case that these vectors make together
abbrev pub stocks_from : CaseRows → List (List ℕ) → List ℕ
stocks_from c vs = listed c (from_families c (line_units c) vs)

abbrev AreOwn : CaseRows → (ℕ → ℕ → ℕ) → ℕ → List ℕ → Type 0
AreOwn c σ l v = (k : ℕ) → k < length c.sites → map (λ p. σ p k) (family c l) ≡ site_part c l v k

-- two lists in one relation are in another where that follows from the first for each member
pub zip_each : {X Y : Type 0} (R S : X → Y → Type 0) (xs : List X) (ys : List Y) → ((x : X) (y : Y) → Among x xs → R x y → S x y) → AllZip R xs ys → AllZip S xs ys
zip_each R S [] [] h a = tt
zip_each R S [] (y ∷ ys) h a = absurd a
zip_each R S (x ∷ xs) [] h a = absurd a
zip_each R S (x ∷ xs) (y ∷ ys) h a = (h x y (inl refl) a.0, zip_each R S xs ys (λ z w b r. h z w (inr b) r) a.1)

pub zip_map : {X Y : Type 0} (g : X → Y) (xs : List X) (ys : List Y) → AllZip (λ x y. g x ≡ y) xs ys → map g xs ≡ ys
zip_map g [] [] a = refl
zip_map g [] (y ∷ ys) a = absurd a
zip_map g (x ∷ xs) [] a = absurd a
zip_map g (x ∷ xs) (y ∷ ys) a = ap₂ (λ b c. b ∷ c) a.0 (zip_map g xs ys a.1)

module _ (c : CaseRows) (valid : IsCase c) where
  own_parts : (ls : List ℕ) (vs : List (List ℕ)) → IsApart ls → ((l : ℕ) → Among l ls → IsLine c l) → AllZip (HasWidth c) ls vs → AllZip (AreOwn c (from_families c ls vs)) ls vs
  own_parts [] [] apart lines widths = tt
  own_parts [] (v ∷ vs) apart lines widths = absurd widths
  own_parts (l ∷ ls) [] apart lines widths = absurd widths
  own_parts (l ∷ ls) (v ∷ vs) apart lines widths = (
    (λ k h. looked_up_all (family c l) (site_part c l v k) (λ p. from_families c ls vs p k) (family_apart c valid l (lines l (inl refl))) (length_part c l v k widths.0 h)),
    zip_each (AreOwn c (from_families c ls vs)) (AreOwn c (from_families c (l ∷ ls) (v ∷ vs))) ls vs (λ m w b own k h. passed_by m k b ∙ own k h)
        (own_parts ls vs apart.1 (λ m b. lines m (inr b)) widths.1),
  )
    where
      passed_by : (m k : ℕ) → Among m ls → map (λ p. from_families c (l ∷ ls) (v ∷ vs) p k) (family c m) ≡ map (λ p. from_families c ls vs p k) (family c m)
      passed_by m k b =
          map_among _ _ (family c m) (λ p a. ap (λ o. option_map_or (λ i. get_or (site_part c l v k) i 0) o (from_families c ls vs p k))
          (missing (family c l) p (λ d. apart.0 (subst (λ z. Among z ls) (sym (one_family c valid l m p (lines l (inl refl)) (lines m (inr b)) d a)) b))))

  -- these have the vectors that they are made of
  pub vectors_from : (vs : List (List ℕ)) → AllZip (HasWidth c) (line_units c) vs → map (λ l. vector_of c l (stocks_from c vs)) (line_units c) ≡ vs
  vectors_from vs widths =
      zip_map (λ l. vector_of c l (stocks_from c vs)) (line_units c) vs
      (both (line_units c) vs (lines_are c valid) widths (own_parts (line_units c) vs (lines_apart c valid) (lines_are c valid) widths))
    where
      both : (ls : List ℕ) (ws : List (List ℕ)) → ((l : ℕ) → Among l ls → IsLine c l) → AllZip (HasWidth c) ls ws → AllZip (AreOwn c (from_families c (line_units c) vs)) ls ws
          → AllZip (λ l w. vector_of c l (stocks_from c vs) ≡ w) ls ws
      both [] [] lines a b = tt
      both [] (w ∷ ws) lines a b = absurd a
      both (l ∷ ls) [] lines a b = absurd a
      both (l ∷ ls) (w ∷ ws) lines a b =
          (vector_listed c l (from_families c (line_units c) vs) w (λ p m. in_case c valid l p (lines l (inl refl)) m) a.0 b.0, both ls ws (λ m n. lines m (inr n)) a.1 b.1)

  -- ---- each part has a family

  -- each part is of some family
  pub family_of_part : (p : ℕ) → p < length c.parts → (l : ℕ) × IsLine c l × Among p (family c l)
  family_of_part p h = by_parent (part_at c.parts p).parent refl (HasFamilies.parent_of (has_families c valid) p h)
    where
      by_parent : (o : Option (List ℕ)) → (part_at c.parts p).parent ≡ o → IfSome o (λ name. HasLine c name) → (l : ℕ) × IsLine c l × Among p (family c l)
      by_parent None e i = (p, record { is_part = h; no_parent = ap is_none e }, inl refl)
      by_parent (Some name) e i = (
        i.line,
        record { is_part = i.is_part; no_parent = ap is_none i.no_parent },
        inr (keeps (λ q. is_shop_of (part_at c.parts i.line) (part_at c.parts q)) (all_parts c) p (in_range p 0 (length c.parts) (omega arith) (omega (arith, h)))
            (ap (λ o. option_map_or (bytes_eq (part_at c.parts i.line).name) o false) e ∙ i.named)),
      )

  -- stocks of one count whose vectors are the same are the same
  pub one_list : (s t : List ℕ) → length s ≡ pair_count (frame_rows c) → length t ≡ pair_count (frame_rows c)
      → map (λ l. vector_of c l s) (line_units c) ≡ map (λ l. vector_of c l t) (line_units c) → s ≡ t
  one_list s t hs ht e = ext_get_or 0 s t (hs ∙ sym ht) (λ i h. at i (omega (arith, h, hs)))
    where
      some_site : (i p n : ℕ) → i < p * n → 0 < n
      some_site i p zero h = absurd (omega arith)
      some_site i p (suc n) h = zero-lt-suc n

      at : (i : ℕ) → i < length c.parts * length c.sites → get_or s i 0 ≡ get_or t i 0
      at i h =
          let some = some_site i (length c.parts) (length c.sites) h in
          let part : i / length c.sites < length c.parts = (div-lt_iff_lt-mul some).1 h in
          let f = family_of_part (i / length c.sites) part in
          ap (λ j. get_or s j 0) (sym (div-add-mod' i (length c.sites)))
          ∙ agrees c f.0 s t (maps_agree (λ l. vector_of c l s) (λ l. vector_of c l t) (line_units c) e f.0 (line_among c valid f.0 f.1)) (i / length c.sites) (i % length c.sites) f.2 (mod-lt i some)
          ∙ ap (λ j. get_or t j 0) (div-add-mod' i (length c.sites))
