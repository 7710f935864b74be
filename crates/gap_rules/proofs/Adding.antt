-- How the cost of a vector above what is held is added up, place by place.
use Rattle.std.proofs.Common.{◌≡◌, ℕ, zero, suc, ◌+◌, ◌-◌, ◌*◌, ◌<◌, ◌≤◌, inl, inr, List, [], ◌∷◌, map, length, drop, get_or, refl, sym, ap, ◌∙◌, arith, mul-le-mul_left, length-append}
use Rattle.std.specs.List.{flat_map}
use Rattle.std.proofs.lemmas.List.{drop_all, length-map}
use Rattle.std.proofs.lemmas.List.FromFn.{length-range_with_len}
use Rattle.spares_input.specs.declared.rows.PartId.{PartId}
use Rattle.spares_input.specs.declared.rows.PartRow.{PartRow}
use Rattle.hull.specs.Curves.{Among}
use Rattle.spares_input.specs.Frames.{part_at}
use Rattle.spares_input.specs.Cases.{CaseRows, IsCase}
use Rattle.fleet_model.specs.Rows.{all_sites}
use Rattle.fleet_model.specs.Fleet.{family}
use Rattle.family_items.specs.Inputs.{IsLine}
use Rattle.gap_rules.specs.Boxes.{AtMost}
use Rattle.family_points.specs.Vectors.{Pair, places, limits}
use Rattle.gap_rules.proofs.Added.{added_at}
use Rattle.family_points.specs.Points.{added_cost}
use Rattle.gap_rules.proofs.Boxes.{at_most_length}
use Rattle.gap_rules.proofs.Places.{place_pair}

-- what has been added at the first k places
pub record Added (c : CaseRows) (l : ℕ) (held v : List ℕ) (k cost : ℕ) : Type 0 where
  pub sum : cost + added_at c (drop k (places c l)) (drop k held) (drop k v) ≡ added_cost c l held v
  pub most : cost ≤ k * 25500000000

added_next : (c : CaseRows) (xs : List Pair) (held v : List ℕ) (k : ℕ) → k < length xs → length xs ≡ length held → length xs ≡ length v
    → added_at c (drop k xs) (drop k held) (drop k v)
    ≡ (get_or v k 0 - get_or held k 0) * (part_at c.parts (get_or (map (λ x. x.part) xs) k 0)).cost + added_at c (drop (k + 1) xs) (drop (k + 1) held) (drop (k + 1) v)
added_next c [] held v k b e f = absurd (omega arith)
added_next c (x ∷ xs) [] v k b e f = absurd (let l : suc (length xs) ≡ 0 = e in omega arith)
added_next c (x ∷ xs) (h ∷ held) [] k b e f = absurd (let l : suc (length xs) ≡ 0 = f in omega arith)
added_next c (x ∷ xs) (h ∷ held) (s ∷ v) zero b e f = refl
added_next c (x ∷ xs) (h ∷ held) (s ∷ v) (suc k) b e f =
    added_next c xs held v k (omega arith) (let l : suc (length xs) ≡ suc (length held) = e in omega arith) (let l : suc (length xs) ≡ suc (length v) = f in omega arith)
    ∙ ap (λ n. (get_or v k 0 - get_or held k 0) * (part_at c.parts (get_or (map (λ x. x.part) xs) k 0)).cost + added_at c (drop n (x ∷ xs)) (drop n (h ∷ held)) (drop n (s ∷ v))) (one k)
  where
    one : (k : ℕ) → suc (k + 1) ≡ suc k + 1
    one k = omega arith

length_flat : {A B : Type 0} (g : A → List B) (n : ℕ) (xs : List A) → ((x : A) → length (g x) ≡ n) → length (flat_map g xs) ≡ length xs * n
length_flat g n [] h = omega arith
length_flat g n (x ∷ xs) h =
    let e = length-append (g x) (flat_map g xs) in let f = h x in let i = length_flat g n xs h in
    omega (arith, e, f, i)

pub length_limits : (c : CaseRows) (l : ℕ) → length (limits c l) ≡ length (places c l)
length_limits c l = length-map (places c l) _

product_most : (a b : ℕ) → a ≤ 16 → b ≤ 9 → a * b ≤ 144
product_most a b h k = (let e : b * a ≤ b * 16 = mul-le-mul_left b h in omega (arith, e, k))

-- a family of a valid case has at most 144 places
pub few_places : (c : CaseRows) (l : ℕ) → IsCase c → IsLine c l → length (places c l) ≤ 144
few_places c l valid line =
    let e = length_flat {A = ℕ} {B = Pair} (λ k. map (λ p. record { part = p; site = k }) (family c l)) (length (family c l)) (all_sites c) (λ k. length-map {A = ℕ} {B = Pair} (family c l) (λ p. record { part = p; site = k })) in
    let s = length-range_with_len 0 (length c.sites) in
    let few = valid.frame.few_shop_units l line.is_part in
    let most = valid.frame.most_sites in
    let p = product_most (length (all_sites c)) (length (family c l)) (omega (arith, s, most)) (omega (arith, few)) in
    omega (arith, e, p)

module _ (c : CaseRows) (l : ℕ) (held v : List ℕ) (order : AtMost held v) (limit : AtMost v (limits c l)) where
  -- a vector within the limits has a stock for each place of the family
  pub length_vector : length v ≡ length (places c l)
  length_vector = at_most_length v (limits c l) limit ∙ length_limits c l

  -- what is held has a stock for each place of the family
  pub length_held : length held ≡ length (places c l)
  length_held = at_most_length held v order ∙ length_vector

  next_step : (old added each now : ℕ) (rest more all k : ℕ) → old ≤ k * 25500000000 → added ≤ 255 → each ≤ 100000000 → rest ≡ added * each + more → old + rest ≡ all → now ≡ old + added * each
      → (now + more ≡ all) × (now ≤ (k + 1) * 25500000000)
  next_step old added each now rest more all k a b d e f g =
      let m : added * each ≤ added * 100000000 = mul-le-mul_left added d in
      (omega (arith, e, f, g), omega (arith, a, b, m, g))

  -- with what is bought at place k added, at its part's cost, the cost is that of one place more
  pub added_more : (k cost added each now : ℕ) (parts : List PartId) → Added c l held v k cost → k < length parts → map (λ (p : PartId). p.0) parts ≡ map (λ x. x.part) (places c l)
      → added ≡ get_or v k 0 - get_or held k 0 → each ≡ (part_at c.parts (get_or (map (λ (p : PartId). p.0) parts) k 0)).cost → added ≤ 255 → each ≤ 100000000 → now ≡ cost + added * each
      → Added c l held v (k + 1) now
  added_more k cost added each now parts h b same e f small cheap g =
      let n : length parts ≡ length (places c l) = sym (length-map parts (λ (p : PartId). p.0)) ∙ ap length same ∙ length-map (places c l) (λ (x : Pair). x.part) in
      let s = added_next c (places c l) held v k (omega (arith, b, n)) (sym length_held) (sym length_vector) in
      let each_is : each ≡ (part_at c.parts (get_or (map (λ (x : Pair). x.part) (places c l)) k 0)).cost = f ∙ ap (λ xs. (part_at c.parts (get_or xs k 0)).cost) same in
      let r = next_step cost added each now _ (added_at c (drop (k + 1) (places c l)) (drop (k + 1) held) (drop (k + 1) v)) _ k h.most small cheap
      (s ∙ ap (λ z. z * (part_at c.parts (get_or (map (λ (x : Pair). x.part) (places c l)) k 0)).cost + added_at c (drop (k + 1) (places c l)) (drop (k + 1) held) (drop (k + 1) v)) (sym e)
      ∙ ap (λ z. added * z + added_at c (drop (k + 1) (places c l)) (drop (k + 1) held) (drop (k + 1) v)) (sym each_is)) h.sum g in
      record { sum = r.0; most = r.1 }

  nothing_left : (held v : List ℕ) → added_at c [] held v ≡ 0
  nothing_left held v = refl

  -- behind the last place the cost is that of all that the vector adds to what is held
  pub added_all : (k cost : ℕ) (parts : List PartId) → Added c l held v k cost → length parts ≤ k → map (λ (p : PartId). p.0) parts ≡ map (λ x. x.part) (places c l) → cost ≡ added_cost c l held v
  added_all k cost parts h b same =
      let n : length parts ≡ length (places c l) = sym (length-map parts (λ (p : PartId). p.0)) ∙ ap length same ∙ length-map (places c l) (λ (x : Pair). x.part) in
      let e = ap (λ xs. added_at c xs (drop k held) (drop k v)) (drop_all k (places c l) (omega (arith, b, n))) ∙ nothing_left (drop k held) (drop k v) in
      let s = h.sum in
      omega (arith, e, s)

  -- a list of the parts at the places has one for each place
  pub length_parts : (parts : List PartId) → map (λ (p : PartId). p.0) parts ≡ map (λ x. x.part) (places c l) → length parts ≡ length (places c l)
  length_parts parts same = sym (length-map parts (λ (p : PartId). p.0)) ∙ ap length same ∙ length-map (places c l) (λ (x : Pair). x.part)

-- the number of the id at a place is the number at this place; past the end both are 0
pub part_first : (parts : List PartId) (i : ℕ) → (get_or parts i (record { 0 = 0 })).0 ≡ get_or (map (λ (p : PartId). p.0) parts) i 0
part_first [] i = refl
part_first (x ∷ parts) zero = refl
part_first (x ∷ parts) (suc i) = part_first parts i

all_parts_in : (c : CaseRows) (xs : List Pair) (i : ℕ) → ((x : Pair) → Among x xs → x.part < length c.parts) → i < length xs → get_or (map (λ x. x.part) xs) i 0 < length c.parts
all_parts_in c [] i h b = absurd (omega arith)
all_parts_in c (x ∷ xs) zero h b = h x (inl refl)
all_parts_in c (x ∷ xs) (suc i) h b = all_parts_in c xs i (λ y m. h y (inr m)) (omega arith)

-- the part read at a place of a family is a part of the case
pub part_in : (c : CaseRows) (l : ℕ) (parts : List PartId) (i : ℕ) → l < length c.parts → map (λ (p : PartId). p.0) parts ≡ map (λ x. x.part) (places c l) → i < length parts → (get_or parts i (record { 0 = 0 })).0 < length c.parts
part_in c l parts i b same h =
    let n : length parts ≡ length (places c l) = sym (length-map parts (λ (p : PartId). p.0)) ∙ ap length same ∙ length-map (places c l) (λ (x : Pair). x.part) in
    let e = part_first parts i ∙ ap (λ xs. get_or xs i 0) same in
    let f = all_parts_in c (places c l) i (λ x m. (place_pair c l x b m).part) (omega (arith, n, h)) in
    omega (arith, e, f)

-- the cost read from the row of the part at a place is the cost of that part
pub part_cost : (c : CaseRows) (parts : List PartId) (i each : ℕ) (row : PartRow) → each ≡ row.cost → row ≡ part_at c.parts (get_or parts i (record { 0 = 0 })).0 → each ≡ (part_at c.parts (get_or (map (λ (p : PartId). p.0) parts) i 0)).cost
part_cost c parts i each row e f = e ∙ ap (λ (r : PartRow). r.cost) f ∙ ap (λ k. (part_at c.parts k).cost) (part_first parts i)
