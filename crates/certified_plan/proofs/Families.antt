-- The places of a family as a cover sees them, and as its vectors list them.
use Rattle.std.proofs.Common.{◌≡◌, ℕ, zero, suc, ◌+◌, ◌-◌, ◌*◌, ◌/◌, ◌%◌, ◌<◌, List, [], ◌∷◌, ◌++◌, length, map, flat_map, get_or, All, refl, sym, ap, ap₂, ◌∙◌, arith}
use Rattle.std.specs.List.{range_with_len}
use Rattle.std.proofs.lemmas.Nat.{div-add-mod', div_below, mod_below}
use Rattle.std.proofs.lemmas.List.{length-map, get_or-map, get_or_append_left, get_or-append-add}
use Rattle.std.proofs.lemmas.List.FromFn.{length-range_with_len, get_or-range_with_len, get_or-map-range_with_len}
use Rattle.spares_input.specs.Frames.{part_at}
use Rattle.spares_input.specs.Stocks.{limit_at}
use Rattle.spares_input.specs.Cases.{CaseRows, IsCase}
use Rattle.fleet_model.specs.Rows.{all_sites}
use Rattle.fleet_model.specs.Fleet.{family}
use Rattle.family_items.specs.Inputs.{IsLine}
use Rattle.family_points.specs.Vectors.{Pair, places, limits}
use Rattle.family_points.specs.Points.{cost_above, added_cost}
use Rattle.fleet_plan.proofs.Public.{length_places}
use Rattle.price_certificate.specs.declared.place.Place.{Place}
use Rattle.price_certificate.specs.Covers.{Corner, no_place, corner_of_held, most_at, IsPlace, AreWithinMost, added_from, added, place_at, place_count, places_of}
use Rattle.price_certificate.proofs.Public.{are_places}
use Rattle.gap_rules.specs.Boxes.{AtMost}
use Rattle.gap_rules.proofs.Public.{at_most_at}
use Rattle.certified_plan.proofs.Corners.{Lists}

-- no pair
abbrev nowhere : Pair
nowhere = record { part = 0; site = 0 }

-- ---- lists of lists of one length

flat_at : {X : Type 0} (g : ℕ → ℕ → X) (fam : List ℕ) (d : X) (xs : List ℕ) (i k : ℕ) → i < length xs → k < length fam
    → get_or (flat_map (λ s. map (g s) fam) xs) (i * length fam + k) d ≡ g (get_or xs i 0) (get_or fam k 0)
flat_at g fam d [] i k h b = absurd (omega arith)
flat_at g fam d (x ∷ xs) zero k h b =
    let here : 0 * length fam + k ≡ k = omega arith in
    ap (λ j. get_or (map (g x) fam ++ flat_map (λ s. map (g s) fam) xs) j d) here
    ∙ get_or_append_left (map (g x) fam) (flat_map (λ s. map (g s) fam) xs) d k (omega (arith, b, length-map fam (g x)))
    ∙ get_or-map (g x) fam k 0 d b
flat_at g fam d (x ∷ xs) (suc i) k h b =
    let on : suc i * length fam + k ≡ length (map (g x) fam) + (i * length fam + k) = omega (arith, length-map fam (g x)) in
    ap (λ j. get_or (map (g x) fam ++ flat_map (λ s. map (g s) fam) xs) j d) on
    ∙ get_or-append-add (map (g x) fam) (flat_map (λ s. map (g s) fam) xs) (i * length fam + k) d
    ∙ flat_at g fam d xs i k (omega arith) b

module _ (c : CaseRows) (l : ℕ) where
  abbrev width : ℕ
  width = length (family c l)

  abbrev pair_of : ℕ → ℕ → Pair
  pair_of k p = record { part = p; site = k }

  -- the pair at place j of the vectors
  pair_at : (j : ℕ) → j < length (places c l) → get_or (places c l) j nowhere ≡ pair_of (j / width) (get_or (family c l) (j % width) 0)
  pair_at j h =
      let within : j < length c.sites * width = (let e = length_places c l in omega (arith, h, e)) in
      let some : 0 < width = omega arith in
      let site = div_below j width (length c.sites) some within in
      ap (λ m. get_or (places c l) m nowhere) (sym (div-add-mod' j width))
      ∙ flat_at pair_of (family c l) nowhere (all_sites c) (j / width) (j % width) (let e = length-range_with_len 0 (length c.sites) in omega (arith, site, e)) (mod_below j width some)
      ∙ ap (λ k. pair_of k (get_or (family c l) (j % width) 0)) (get_or-range_with_len 0 (length c.sites) (j / width) 0 site ∙ none (j / width))
    where
      none : (k : ℕ) → 0 + k ≡ k
      none k = omega arith

  module _ (held : List ℕ) where
    place_in : (j : ℕ) → j < length (places c l) → get_or (places_of c l held) j no_place ≡ place_at c l held j
    place_in j h =
        let within : j < place_count c l = (let e = length_places c l in omega (arith, h, e)) in
        get_or-map-range_with_len (place_at c l held) 0 (place_count c l) j j no_place within (omega arith)

    -- what is held at each place of a family is the number listed for it
    pub held_is : (j : ℕ) → j < length (places c l) → corner_of_held (places_of c l held) j ≡ get_or held j 0
    held_is j h = ap (λ (x : Place). x.held) (place_in j h)

    pub cost_is : (j : ℕ) → j < length (places c l) → (get_or (places_of c l held) j no_place).cost ≡ (part_at c.parts (get_or (places c l) j nowhere).part).cost
    cost_is j h = ap (λ (x : Place). x.cost) (place_in j h) ∙ ap (λ (x : Pair). (part_at c.parts x.part).cost) (sym (pair_at j h))

    -- the most of each place of a family is its limit
    pub most_is : (j : ℕ) → j < length (places c l) → most_at (places_of c l held) j ≡ get_or (limits c l) j 0
    most_is j h =
        ap (λ (x : Place). x.most) (place_in j h) ∙ ap (λ (x : Pair). limit_at c.parts x.part x.site) (sym (pair_at j h))
        ∙ sym (get_or-map (λ (x : Pair). limit_at c.parts x.part x.site) (places c l) j nowhere 0 h)

    -- a family has a place for each of its pairs
    pub count_is : length (places_of c l held) ≡ length (places c l)
    count_is =
        length-map (range_with_len 0 (place_count c l)) (place_at c l held) ∙ length-range_with_len 0 (place_count c l) ∙ sym (length_places c l)

    -- what is held, and the limits, as corners of the family's box
    pub held_lists : length held ≡ length (places c l) → Lists (length (places c l)) (corner_of_held (places_of c l held)) held
    held_lists e = record { long = e; same = held_is }

    -- the limits list the most of each place of a family
    pub most_lists : Lists (length (places c l)) (most_at (places_of c l held)) (limits c l)
    most_lists = record { long = length-map (places c l) (λ (x : Pair). limit_at c.parts x.part x.site); same = most_is }

    -- what is held within a family's limits is within the most of each place
    pub within_most : AtMost held (limits c l) → AreWithinMost c l held
    within_most within m b =
        let h : m < length (places c l) = (let e = length_places c l in omega (arith, b, e)) in
        let p = ap (λ (x : Place). x.most) (place_in m h) in
        let q = most_is m h in
        let r = at_most_at held (limits c l) m within in
        omega (arith, p, q, r)

    -- each place of a family of a valid case is valid, where what is held is within the limits
    pub valid_places : IsCase c → IsLine c l → AtMost held (limits c l) → All IsPlace (places_of c l held)
    valid_places valid line within = are_places c l held valid line.is_part (within_most within)

-- ---- what a corner costs

-- these places are those of the pairs, with what is held there
record ArePlaces (c : CaseRows) (ps : List Place) (xs : List Pair) (held : List ℕ) : Type 0 where
  count : length ps ≡ length xs
  held_count : length held ≡ length xs
  held_same : (j : ℕ) → j < length xs → corner_of_held ps j ≡ get_or held j 0
  cost_same : (j : ℕ) → j < length xs → (get_or ps j no_place).cost ≡ (part_at c.parts (get_or xs j nowhere).part).cost

rest_places : (c : CaseRows) (p : Place) (ps : List Place) (x : Pair) (xs : List Pair) (h : ℕ) (held : List ℕ) → ArePlaces c (p ∷ ps) (x ∷ xs) (h ∷ held) → ArePlaces c ps xs held
rest_places c p ps x xs h held a = record {
  count = (let e : suc (length ps) ≡ suc (length xs) = a.count in omega (arith, e));
  held_count = (let e : suc (length held) ≡ suc (length xs) = a.held_count in omega (arith, e));
  held_same = λ j b. a.held_same (suc j) (omega (arith, b));
  cost_same = λ j b. a.cost_same (suc j) (omega (arith, b));
}

added_same : (c : CaseRows) (i : ℕ) (ps : List Place) (xs : List Pair) (held v : List ℕ) (corner : Corner) → ArePlaces c ps xs held → length v ≡ length xs
    → ((j : ℕ) → j < length xs → corner (i + j) ≡ get_or v j 0) → added_from i ps corner ≡ cost_above c (map (λ (x : Pair). x.part) xs) held v
added_same c i [] [] held v corner a e h = refl
added_same c i [] (x ∷ xs) held v corner a e h = absurd (let z : 0 ≡ suc (length xs) = a.count in omega (arith, z))
added_same c i (p ∷ ps) [] held v corner a e h = absurd (let z : suc (length ps) ≡ 0 = a.count in omega (arith, z))
added_same c i (p ∷ ps) (x ∷ xs) [] v corner a e h = absurd (let z : 0 ≡ suc (length xs) = a.held_count in omega (arith, z))
added_same c i (p ∷ ps) (x ∷ xs) (b ∷ held) [] corner a e h = absurd (let z : 0 ≡ suc (length xs) = e in omega (arith, z))
added_same c i (p ∷ ps) (x ∷ xs) (b ∷ held) (s ∷ v) corner a e h =
    let here : i + 0 ≡ i = omega arith in
    let first : corner i ≡ s = ap corner (sym here) ∙ h 0 (omega arith) in
    let had : p.held ≡ b = a.held_same 0 (omega arith) in
    let each : p.cost ≡ (part_at c.parts x.part).cost = a.cost_same 0 (omega arith) in
    ap₂ (λ m n. m + n)
    (ap₂ (λ m n. (m - n) * p.cost) first had ∙ ap (λ m. (s - b) * m) each)
    (added_same c (suc i) ps xs held v corner (rest_places c p ps x xs b held a) (let z : suc (length v) ≡ suc (length xs) = e in omega (arith, z))
    (λ j k. ap corner (on i j) ∙ h (suc j) (omega (arith, k))))
  where
    on : (i j : ℕ) → suc i + j ≡ i + suc j
    on i j = omega arith

-- what a corner adds to what is held costs what the vector that lists it costs the family
pub added_is : (c : CaseRows) (l : ℕ) (held v : List ℕ) (corner : Corner) → length held ≡ length (places c l) → Lists (length (places c l)) corner v
    → added (places_of c l held) corner ≡ added_cost c l held v
added_is c l held v corner e h =
    added_same c 0 (places_of c l held) (places c l) held v corner
    (record { count = count_is c l held; held_count = e; held_same = held_is c l held; cost_same = cost_is c l held })
    h.long (λ j b. ap corner (none j) ∙ h.same j b)
  where
    none : (j : ℕ) → 0 + j ≡ j
    none j = omega arith
