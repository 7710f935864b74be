-- The trimmed cover is lawful, and its boxes cost the floor.
use Rattle.std.proofs.Common.{◌≡◌, inl, inr, ℕ, zero, suc, ◌+◌, ◌-◌, ◌*◌, ◌<◌, ◌≤◌, max, Bool, true, false, cond, List, [], ◌∷◌, ◌++◌, length, get_or, drop, replicate, append_assoc, refl, sym, ap, subst, ◌∙◌, arith}
use Rattle.std.specs.Prelude.{◌==◌, nat_le}
use Rattle.std.specs.List.{All}
use Rattle.std.specs.Int.{div_ceil}
use Rattle.std.proofs.lemmas.Bool.{leb-true, eqb-true, eq-eqb, ne_eqb, false≢true}
use Rattle.std.proofs.lemmas.Grind.{div_ceil_times}
use Rattle.std.proofs.lemmas.Nat.{mul-le}
use Rattle.list_laws.proofs.Public.{rest_begins}
use Rattle.price_certificate.specs.declared.certificate.Node.{Node}
use Rattle.price_certificate.specs.declared.certificate.Node.TheVariants as node
use Rattle.price_certificate.specs.declared.place.Place.{Place}
use Rattle.price_certificate.specs.Covers.{nodes_of, CutsAt, Tree, Whole, Cost, Cut, Corner, put, IsLawful, AllCostLeaves, AllWholeLeaves, no_place, corner_of_held, most_at, IsPlace, added_from, added, reach, trimmed_from, trimmed, IsTrim}

-- a corner with a place put holds there what was put
pub put_here : (at v : ℕ) (f : Corner) → put at v f at ≡ v
put_here at v f = rw (eq-eqb at at refl) refl

-- a corner with a place put holds elsewhere what it held
pub put_there : (at v : ℕ) (f : Corner) (i : ℕ) → (i ≡ at → ⊥) → put at v f i ≡ f i
put_there at v f i h = rw (ne_eqb i at h) refl

-- ---- lawful

-- the box has what is held and the most at the places from this one on
record Box (at : ℕ) (xs : List Place) (low high : Corner) : Type 0 where
  low_is : (j : ℕ) → j < length xs → low (at + j) ≡ corner_of_held xs j
  high_is : (j : ℕ) → j < length xs → high (at + j) ≡ most_at xs j

here : (at : ℕ) → at + 0 ≡ at
here at = omega arith

later : (at j : ℕ) → suc at + j ≡ at + suc j
later at j = omega arith

smaller : (at : ℕ) (x : Place) (xs : List Place) (low high : Corner) → Box at (x ∷ xs) low high → Box (suc at) xs low high
smaller at x xs low high b = record {
  low_is = λ j lt. ap low (later at j) ∙ b.low_is (suc j) (omega (arith, lt));
  high_is = λ j lt. ap high (later at j) ∙ b.high_is (suc j) (omega (arith, lt));
}

cut_box : (at v : ℕ) (x : Place) (xs : List Place) (low high : Corner) → Box at (x ∷ xs) low high → Box (suc at) xs low (put at v high)
cut_box at v x xs low high b =
    let s = smaller at x xs low high b in record {
      low_is = s.low_is;
      high_is = λ j lt. put_there at v high (suc at + j) (λ e. omega (arith, e)) ∙ s.high_is j lt;
    }

abbrev split : ℕ → ℕ → ℕ → Place → List Place → Bool → Tree
split p floor at x xs b = cond b (Cut at (reach p floor x) (trimmed_from p floor (suc at) xs) Cost) (trimmed_from p floor (suc at) xs)

above : (held n : ℕ) → held < held + max 1 n
above held n = grind arith

-- what is lawful of the places after this one is lawful with it
lawful_at : (p floor n at : ℕ) (x : Place) (xs : List Place) (low high : Corner) (b : Bool) → nat_le (reach p floor x) x.most ≡ b → at + suc (length xs) ≡ n → Box at (x ∷ xs) low high
    → ((top : Corner) → Box (suc at) xs low top → IsLawful n (trimmed_from p floor (suc at) xs) low top) → IsLawful n (split p floor at x xs b) low high
lawful_at p floor n at x xs low high true h e b rest =
    let l : low at ≡ x.held = ap low (sym (here at)) ∙ b.low_is 0 (omega arith) in
    let m : high at ≡ x.most = ap high (sym (here at)) ∙ b.high_is 0 (omega arith) in
    let k = reach p floor x in (
      (omega (arith, e), (omega (arith, l, above x.held (div_ceil floor (p * x.cost))), omega (arith, m, leb-true k x.most h))),
      (rest (put at (k - 1) high) (cut_box at (k - 1) x xs low high b), tt),
    )
lawful_at p floor n at x xs low high false h e b rest = rest high (smaller at x xs low high b)

lawful_from : (p floor n at : ℕ) (xs : List Place) (low high : Corner) → at + length xs ≡ n → Box at xs low high → IsLawful n (trimmed_from p floor at xs) low high
lawful_from p floor n at [] low high e b = tt
lawful_from p floor n at (x ∷ xs) low high e b =
    lawful_at p floor n at x xs low high (nat_le (reach p floor x) x.most) refl e b
    (λ top c. lawful_from p floor n (suc at) xs low top (omega (arith, e)) c)

swap : (p m c : ℕ) → p * (m * c) ≡ m * (p * c)
swap p m c = grind arith

-- ---- boxes that cost the floor

-- a corner costs at least what stands at one place
one_place : (i j : ℕ) (xs : List Place) (corner : Corner) → j < length xs → (corner (i + j) - corner_of_held xs j) * (get_or xs j no_place).cost ≤ added_from i xs corner
one_place i j [] corner lt = absurd (omega (arith, lt))
one_place i zero (x ∷ xs) corner lt =
    let e : (corner (i + 0) - x.held) * x.cost ≡ (corner i - x.held) * x.cost = ap (λ (k : ℕ). (corner k - x.held) * x.cost) (here i) in
    omega (arith, e)
one_place i (suc j) (x ∷ xs) corner lt =
    let rest = one_place (suc i) j xs corner (omega (arith, lt)) in
    let e : (corner (suc i + j) - corner_of_held xs j) * (get_or xs j no_place).cost ≡ (corner (i + suc j) - corner_of_held xs j) * (get_or xs j no_place).cost = ap (λ (k : ℕ). (corner k - corner_of_held xs j) * (get_or xs j no_place).cost) (later i j) in
    omega (arith, rest, e)

-- the stock that a place alone costs the floor with
pays : (p floor held cost : ℕ) → 1 ≤ p → 1 ≤ cost → floor ≤ p * ((held + max 1 (div_ceil floor (p * cost)) - held) * cost)
pays p floor held cost a b =
    let some : 0 < p * cost = omega (arith, mul-le 1 1 p cost a b) in
    let up = (div_ceil_times floor (p * cost) some).0 in
    let q = div_ceil floor (p * cost) in
    let m = max 1 q in
    let step : held + m - held ≡ m = omega arith in
    let more : q * (p * cost) ≤ m * (p * cost) = mul-le q (p * cost) m (p * cost) (grind arith) (omega arith) in
    let same : p * ((held + m - held) * cost) ≡ m * (p * cost) = ap (λ (x : ℕ). p * (x * cost)) step ∙ swap p m cost in
    omega (arith, up, more, same)

cut_pays : (p floor at : ℕ) (all : List Place) (x : Place) → 1 ≤ p → at < length all → x ≡ get_or all at no_place → IsPlace x → floor ≤ p * added all (put at (reach p floor x) (corner_of_held all))
cut_pays p floor at all x some lt e v =
    let corner = put at (reach p floor x) (corner_of_held all) in
    let zero_at : 0 + at ≡ at = omega arith in
    let stands : corner (0 + at) ≡ reach p floor x = ap corner zero_at ∙ put_here at (reach p floor x) (corner_of_held all) in
    let there : (reach p floor x - x.held) * x.cost ≤ added all corner =
    subst (λ (y : Place). (reach p floor x - y.held) * y.cost ≤ added all corner) (sym e)
    (subst (λ (k : ℕ). (k - corner_of_held all at) * (get_or all at no_place).cost ≤ added all corner) stands (one_place 0 at all corner lt)) in
    let enough = pays p floor x.held x.cost some v.cost in
    let times = mul-le p ((reach p floor x - x.held) * x.cost) p (added all corner) (omega arith) there in
    omega (arith, enough, times)

module _ (p floor : ℕ) (all : List Place) (some : 1 ≤ p) (valid : All IsPlace all) where
  abbrev Paid : Corner → Corner → Type 0
  Paid low high = floor ≤ p * added all low

  abbrev Left : Corner → Corner → Type 0
  Left low high = (i : ℕ) → (low i ≡ corner_of_held all i) × (high i ≤ most_at all i)

  -- these are the places from this one on
  record Rest (at : ℕ) (xs : List Place) : Type 0 where
    each : (j : ℕ) → j < length xs → get_or xs j no_place ≡ get_or all (at + j) no_place
    whole : at + length xs ≡ length all

  rest_of : (at : ℕ) (x : Place) (xs : List Place) → Rest at (x ∷ xs) → Rest (suc at) xs
  rest_of at x xs r = record {
    each = λ j lt. r.each (suc j) (omega (arith, lt)) ∙ ap (λ (k : ℕ). get_or all k no_place) (sym (later at j));
    whole = omega (arith, r.whole);
  }

  paid_at : (at : ℕ) (x : Place) (xs : List Place) (high : Corner) (b : Bool) → Rest at (x ∷ xs) → ((top : Corner) → AllCostLeaves Paid (trimmed_from p floor (suc at) xs) (corner_of_held all) top)
      → AllCostLeaves Paid (split p floor at x xs b) (corner_of_held all) high
  paid_at at x xs high true r rest =
      let e : x ≡ get_or all at no_place = r.each 0 (omega arith) ∙ ap (λ (k : ℕ). get_or all k no_place) (here at) in
      let lt : at < length all = omega (arith, r.whole) in
      (rest (put at (reach p floor x - 1) high), cut_pays p floor at all x some lt e (subst (λ (y : Place). IsPlace y) (sym e) (valid at no_place lt)))
  paid_at at x xs high false r rest = rest high

  paid_from : (at : ℕ) (xs : List Place) (high : Corner) → Rest at xs → AllCostLeaves Paid (trimmed_from p floor at xs) (corner_of_held all) high
  paid_from at [] high r = tt
  paid_from at (x ∷ xs) high r = paid_at at x xs high (nat_le (reach p floor x) x.most) r (λ top. paid_from (suc at) xs top (rest_of at x xs r))

  lower : (at v : ℕ) (high : Corner) → v ≤ most_at all at → ((i : ℕ) → high i ≤ most_at all i) → (i : ℕ) → put at v high i ≤ most_at all i
  lower at v high le h i = below (i == at) refl
    where
      below : (b : Bool) → (i == at) ≡ b → cond b v (high i) ≤ most_at all i
      below true e = subst (λ (k : ℕ). v ≤ most_at all k) (sym (eqb-true i at e)) le
      below false e = h i

  left_at : (at : ℕ) (x : Place) (xs : List Place) (high : Corner) (b : Bool) → nat_le (reach p floor x) x.most ≡ b → Rest at (x ∷ xs) → ((i : ℕ) → high i ≤ most_at all i)
      → ((top : Corner) → ((i : ℕ) → top i ≤ most_at all i) → AllWholeLeaves Left (trimmed_from p floor (suc at) xs) (corner_of_held all) top) → AllWholeLeaves Left (split p floor at x xs b) (corner_of_held all) high
  left_at at x xs high true h r most rest =
      let e : x ≡ get_or all at no_place = r.each 0 (omega arith) ∙ ap (λ (k : ℕ). get_or all k no_place) (here at) in
      let le : reach p floor x - 1 ≤ most_at all at = omega (arith, leb-true (reach p floor x) x.most h, ap (λ (y : Place). y.most) e) in
      (rest (put at (reach p floor x - 1) high) (lower at (reach p floor x - 1) high le most), tt)
  left_at at x xs high false h r most rest = rest high most

  left_from : (at : ℕ) (xs : List Place) (high : Corner) → Rest at xs → ((i : ℕ) → high i ≤ most_at all i) → AllWholeLeaves Left (trimmed_from p floor at xs) (corner_of_held all) high
  left_from at [] high r most = λ i. (refl, most i)
  left_from at (x ∷ xs) high r most = left_at at x xs high (nat_le (reach p floor x) x.most) refl r most (λ top m. left_from (suc at) xs top (rest_of at x xs r) m)

  pub trim_from : IsTrim p floor all (trimmed_from p floor 0 all)
  trim_from =
      let start : Rest 0 all = record { each = λ j lt. ap (λ (k : ℕ). get_or all k no_place) (let z : j ≡ 0 + j = omega arith in z); whole = omega arith } in
      record {
        lawful = lawful_from p floor (length all) 0 all (corner_of_held all) (most_at all) (omega arith)
            (record { low_is = λ j lt. ap (corner_of_held all) (let z : 0 + j ≡ j = omega arith in z); high_is = λ j lt. ap (most_at all) (let z : 0 + j ≡ j = omega arith in z) });
        cost = paid_from 0 all (most_at all) start;
        whole = left_from 0 all (most_at all) start (λ i. omega arith);
      }

-- with price 0 the whole box is left
trim_at : (p floor : ℕ) (all : List Place) (b : Bool) → (p == 0) ≡ b → All IsPlace all → IsTrim p floor all (cond b Whole (trimmed_from p floor 0 all))
trim_at p floor all true e valid = record { lawful = tt; cost = tt; whole = λ i. (refl, omega arith) }
trim_at zero floor all false e valid = absurd (false≢true (sym e))
trim_at (suc p) floor all false e valid = trim_from (suc p) floor all (omega arith) valid

-- the trimmed cover of a family's places trims at this price and floor
pub trim_is : (p floor : ℕ) (all : List Place) → All IsPlace all → IsTrim p floor all (trimmed p floor all)
trim_is p floor all valid = trim_at p floor all (p == 0) refl valid

-- ---- the nodes that are written

-- the cuts before this place, the places from it on, and the boxes of the cuts
abbrev pub rest_nodes : ℕ → ℕ → List Place → ℕ → ℕ → List Node
rest_nodes p floor all at cuts = nodes_of (trimmed_from p floor at (drop at all)) ++ replicate cuts node.Cost

one_cost : (n : ℕ) → node.Cost ∷ replicate n node.Cost ≡ replicate (n + 1) node.Cost
one_cost n = ap (λ (k : ℕ). replicate k node.Cost) (let e : suc n ≡ n + 1 = omega arith in e)

-- with one place tried, the nodes written and those still to come are the same cover
pub cut_step : (p floor : ℕ) (all : List Place) (at cuts n : ℕ) (found new : List Node) (total : List Node) → at < length all → CutsAt p floor at (get_or all at no_place) found new n
    → found ++ rest_nodes p floor all at cuts ≡ total → new ++ rest_nodes p floor all (at + 1) (cuts + n) ≡ total
cut_step p floor all at cuts n found new total lt cut so_far =
    let x = get_or all at no_place in
    let xs = drop (at + 1) all in
    let parts : drop at all ≡ x ∷ xs = rest_begins all at no_place lt in
    let next : trimmed_from p floor (suc at) xs ≡ trimmed_from p floor (at + 1) xs = ap (λ (k : ℕ). trimmed_from p floor k xs) (let e : suc at ≡ at + 1 = omega arith in e) in
    let before : found ++ (nodes_of (trimmed_from p floor at (x ∷ xs)) ++ replicate cuts node.Cost) ≡ total = ap (λ (ys : List Place). found ++ (nodes_of (trimmed_from p floor at ys) ++ replicate cuts node.Cost)) (sym parts) ∙ so_far in
    elim cut [
      | inl c ↦
          let tree : trimmed_from p floor at (x ∷ xs) ≡ Cut at (reach p floor x) (trimmed_from p floor (at + 1) xs) Cost = ap (λ (b : Bool). split p floor at x xs b) c.1.0 ∙ ap (λ (t : Tree). Cut at (reach p floor x) t Cost) next in
          let one = node.Split at (reach p floor x) in
          let rest = nodes_of (trimmed_from p floor (at + 1) xs) in
          let more : replicate (cuts + n) node.Cost ≡ replicate (cuts + 1) node.Cost = ap (λ (k : ℕ). replicate (cuts + k) node.Cost) c.0 in
          ap (λ (ns : List Node). new ++ (rest ++ ns)) (more ∙ sym (one_cost cuts))
          ∙ ap (λ (ns : List Node). ns ++ (rest ++ (node.Cost ∷ replicate cuts node.Cost))) c.1.1
          ∙ append_assoc found (one ∷ []) (rest ++ (node.Cost ∷ replicate cuts node.Cost))
          ∙ ap (λ (ns : List Node). found ++ (one ∷ ns)) (sym (append_assoc rest (node.Cost ∷ []) (replicate cuts node.Cost)))
          ∙ ap (λ (t : Tree). found ++ (nodes_of t ++ replicate cuts node.Cost)) (sym tree)
          ∙ before
      | inr c ↦
          let tree : trimmed_from p floor at (x ∷ xs) ≡ trimmed_from p floor (at + 1) xs = ap (λ (b : Bool). split p floor at x xs b) c.1.0 ∙ next in
          let same : cuts + n ≡ cuts = omega (arith, c.0) in
          ap (λ (k : ℕ). new ++ (nodes_of (trimmed_from p floor (at + 1) xs) ++ replicate k node.Cost)) same
          ∙ ap (λ (ns : List Node). ns ++ (nodes_of (trimmed_from p floor (at + 1) xs) ++ replicate cuts node.Cost)) c.1.1
          ∙ ap (λ (t : Tree). found ++ (nodes_of t ++ replicate cuts node.Cost)) (sym tree)
          ∙ before
    ]

-- there are at most as many cuts as places tried
pub cut_few : (p floor : ℕ) (all : List Place) (at cuts n : ℕ) (found new : List Node) → CutsAt p floor at (get_or all at no_place) found new n → cuts ≤ at → cuts + n ≤ at + 1
cut_few p floor all at cuts n found new cut le =
    elim cut [
      | inl c ↦ omega (arith, c.0, le)
      | inr c ↦ omega (arith, c.0, le)
    ]
