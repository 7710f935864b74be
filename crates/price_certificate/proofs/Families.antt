-- The parts of a family, and its places.
use Rattle.std.proofs.Common.{◌≡◌, ℕ, zero, suc, ◌+◌, ◌*◌, ◌/◌, ◌%◌, ◌<◌, ◌≤◌, List, [], ◌∷◌, ◌++◌, length, map, get_or, sym, ap, ap₂, subst, ◌∙◌, arith}
use Rattle.std.specs.List.{All, range_with_len}
use Rattle.std.proofs.lemmas.List.{length-map, get_or-map}
use Rattle.std.proofs.lemmas.List.Elements.{All-from_get_or, All-filter}
use Rattle.std.proofs.lemmas.List.FromFn.{map-range_with_len_more, get_or-range_with_len, get_or-map-range_with_len, length-range_with_len}
use Rattle.std.proofs.lemmas.Nat.{div_below, mod_below, mul-le}
use Rattle.spares_input.specs.Rows.{no_part}
use Rattle.spares_input.specs.Frames.{part_at, is_shop_of}
use Rattle.spares_input.specs.Cases.{CaseRows, IsCase}
use Rattle.price_certificate.specs.declared.place.Place.{Place}
use Rattle.price_certificate.specs.Covers.{parts_of_family, place_count, place_for, place_at, places_of, no_place, IsPlace, AreWithinMost}
use Rattle.spares_input.specs.declared.rows.PartId.{PartId}

-- a family has as many parts as ids
pub same_length : (parts : List PartId) (fam : List ℕ) → map (λ p. p.0) parts ≡ fam → length fam ≡ length parts
same_length parts fam e = ap length (sym e) ∙ length-map parts (λ (p : PartId). p.0)

part_is : (parts : List PartId) (fam : List ℕ) (m : ℕ) (d : PartId) → map (λ p. p.0) parts ≡ fam → 0 < length parts → (get_or parts (m % length parts) d).0 ≡ get_or fam (m % length fam) 0
part_is parts fam m d e some =
    let n = same_length parts fam e in
    let lt = mod_below m (length parts) some in
    sym (ap (λ (k : ℕ). get_or fam (m % k) 0) n ∙ ap (λ (xs : List ℕ). get_or xs (m % length parts) 0) (sym e) ∙ get_or-map (λ (p : PartId). p.0) parts (m % length parts) d 0 lt)

-- place m of a family's ids with its stock on hand is place m of the family
pub place_is : (c : CaseRows) (l : ℕ) (parts : List PartId) (held : List ℕ) (m : ℕ) (d : PartId) → map (λ p. p.0) parts ≡ parts_of_family c l
    → place_for c (get_or parts (m % length parts) d).0 (m / length parts) (get_or held m 0) ≡ place_at c l held m
place_is c l parts held m d e =
    let n = same_length parts (parts_of_family c l) e in
    let some : 0 < length parts = omega (arith, n) in
    ap (λ (p : ℕ). place_for c p (m / length parts) (get_or held m 0)) (part_is parts (parts_of_family c l) m d e some)
    ∙ ap (λ (k : ℕ). place_for c (get_or (parts_of_family c l) (m % length (parts_of_family c l)) 0) (m / k) (get_or held m 0)) (sym n)

-- a place of a family is at one of the case's sites
pub site_below : (c : CaseRows) (l : ℕ) (parts : List PartId) (m : ℕ) → map (λ p. p.0) parts ≡ parts_of_family c l → m < place_count c l → m / length parts < length c.sites
site_below c l parts m e lt =
    let n = same_length parts (parts_of_family c l) e in
    let some : 0 < length parts = omega (arith, n) in
    div_below m (length parts) (length c.sites) some (subst (λ (k : ℕ). m < length c.sites * k) n lt)

-- with the next place appended, the places are those of a vector up to there
pub places_more : (c : CaseRows) (l : ℕ) (held : List ℕ) (m : ℕ) (found new : List Place) (x : Place) → found ≡ map (place_at c l held) (range_with_len 0 m) → x ≡ place_at c l held m → new ≡ found ++ x ∷ []
    → new ≡ map (place_at c l held) (range_with_len 0 (m + 1))
places_more c l held m found new x h e n =
    n ∙ ap₂ (λ (a : List Place) (b : Place). a ++ b ∷ []) h e ∙ sym (map-range_with_len_more (place_at c l held) 0 m m (omega arith))

in_range : (n : ℕ) → All (λ (p : ℕ). p < n) (range_with_len 0 n)
in_range n = All-from_get_or (λ (p : ℕ). p < n) (range_with_len 0 n) 0 (λ k h. let short : k < n = omega (arith, h, length-range_with_len 0 n) in omega (arith, get_or-range_with_len 0 n k 0 short, short))

-- a family has at most so many places
pub few_places : (c : CaseRows) (l : ℕ) (held : List ℕ) (places : List Place) → places ≡ places_of c l held → length c.sites ≤ 16 → length (parts_of_family c l) ≤ 9 → length places ≤ 144
few_places c l held places e h g =
    let n : length places ≡ place_count c l = ap (λ (xs : List Place). length xs) e ∙ length-map (range_with_len 0 (place_count c l)) (place_at c l held) ∙ length-range_with_len 0 (place_count c l) in
    omega (arith, n, mul-le (length c.sites) (length (parts_of_family c l)) 16 9 h g)

-- each part of a family is one of the case
member : (c : CaseRows) (l : ℕ) → l < length c.parts → (i : ℕ) → i < length (parts_of_family c l) → get_or (parts_of_family c l) i 0 < length c.parts
member c l lt zero h = lt
member c l lt (suc i) h = All-filter (λ p. is_shop_of (part_at c.parts l) (part_at c.parts p)) (λ (p : ℕ). p < length c.parts) (range_with_len 0 (length c.parts)) (in_range (length c.parts)) i 0 (omega (arith, h))

-- the ids of a family are parts of the case
pub ids_below : (c : CaseRows) (l : ℕ) (parts : List PartId) → l < length c.parts → map (λ p. p.0) parts ≡ parts_of_family c l → All (λ (p : PartId). p.0 < length c.parts) parts
ids_below c l parts lt e = All-from_get_or (λ (p : PartId). p.0 < length c.parts) parts (record { 0 = 0 }) (λ i within.
    subst (λ (k : ℕ). k < length c.parts) (get_or-map (λ (p : PartId). p.0) parts i (record { 0 = 0 }) 0 within)
    (subst (λ (xs : List ℕ). get_or xs i 0 < length c.parts) (sym e) (member c l lt i (omega (arith, within, same_length parts (parts_of_family c l) e)))))

-- the places of a case's family are places
pub are_places : (c : CaseRows) (l : ℕ) (held : List ℕ) → IsCase c → l < length c.parts → AreWithinMost c l held → All IsPlace (places_of c l held)
are_places c l held v lt h = All-from_get_or IsPlace (places_of c l held) no_place (λ i within.
    let n : i < place_count c l = omega (arith, within, length-map (range_with_len 0 (place_count c l)) (place_at c l held), length-range_with_len 0 (place_count c l)) in
    let is : get_or (places_of c l held) i no_place ≡ place_at c l held i = get_or-map-range_with_len (place_at c l held) 0 (place_count c l) i i no_place n (omega arith) in
    subst IsPlace (sym is) (record { within = h i n; cost = costs i n }))
  where
    costs : (i : ℕ) → i < place_count c l → 1 ≤ (place_at c l held i).cost
    costs i n = (v.frame.part_rows (get_or (parts_of_family c l) (i % length (parts_of_family c l)) 0) no_part (member c l lt (i % length (parts_of_family c l)) (mod_below i (length (parts_of_family c l)) (omega arith)))).cost.0
