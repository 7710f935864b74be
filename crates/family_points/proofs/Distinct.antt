-- No part stands twice in a family, so a stock that is put in for a member is the one that is read for it.
use Rattle.std.proofs.Common.{◌≡◌, ◌≢◌, ◌==◌, ℕ, zero, suc, ◌+◌, ◌<◌, ◌≤◌, Bool, true, false, cond, not, List, [], ◌∷◌, length, get_or, map, filter, position, nat_lt, Option, Some, None, is_none, refl, sym, ap, ap₂, ◌∙◌, arith}
use Rattle.std.specs.List.{position_or_len, range_with_len}
use Rattle.std.specs.Option.{option_and_then, option_map_or}
use Rattle.std.proofs.lemmas.Bool.{eq-eqb, lt-ltb, ne_eqb}
use Rattle.list_laws.proofs.Public.{same_map}
use Rattle.spares_input.specs.Frames.{is_shop_of, line_of, part_at, part_names, place_of}
use Rattle.spares_input.specs.Cases.{CaseRows, IsCase}
use Rattle.fleet_model.specs.Rows.{stock}
use Rattle.fleet_model.specs.Fleet.{family}
use Rattle.family_items.specs.Inputs.{IsLine}
use Rattle.family_items.proofs.Public.{shop_at}
use Rattle.family_points.specs.Vectors.{stock_in, stocks_in}
use Rattle.family_points.proofs.Sites.{members, size, stock_is}

-- no element stands twice
Apart : List ℕ → Type 0
Apart [] = Unit {0}
Apart (x ∷ xs) = ((i : ℕ) → i < length xs → get_or xs i 0 ≢ x) × Apart xs

-- ---- a family

head_or_rest : (b : Bool) (a i : ℕ) (rest : List ℕ) → ((k : ℕ) → k < length rest → a + 1 ≤ get_or rest k 0) → i < length (cond b (a ∷ rest) rest)
    → a ≤ get_or (cond b (a ∷ rest) rest) i 0
head_or_rest true a zero rest more h = omega arith
head_or_rest true a (suc i) rest more h = omega (arith, more i (omega (arith, h)))
head_or_rest false a i rest more h = omega (arith, more i h)

filter_least : (t : ℕ → Bool) (n a i : ℕ) → i < length (filter t (range_with_len a n)) → a ≤ get_or (filter t (range_with_len a n)) i 0
filter_least t zero a i h = absurd (omega (arith, h))
filter_least t (suc n) a i h = head_or_rest (t a) a i (filter t (range_with_len (a + 1) n)) (λ k m. filter_least t n (a + 1) k m) h

apart_or_rest : (b : Bool) (a : ℕ) (rest : List ℕ) → ((k : ℕ) → k < length rest → a + 1 ≤ get_or rest k 0) → Apart rest → Apart (cond b (a ∷ rest) rest)
unfolding Apart
apart_or_rest true a rest more h = (λ i m e. omega (arith, more i m, e), h)
apart_or_rest false a rest more h = h

filter_apart : (t : ℕ → Bool) (n a : ℕ) → Apart (filter t (range_with_len a n))
unfolding Apart
filter_apart t zero a = tt
filter_apart t (suc n) a = apart_or_rest (t a) a (filter t (range_with_len (a + 1) n)) (λ k m. filter_least t n (a + 1) k m) (filter_apart t n (a + 1))

-- a line unit isn't a shop unit of its own
not_own : (c : CaseRows) (l : ℕ) (o : Option (List ℕ)) → is_none o ≡ true → option_and_then (λ name. place_of name (part_names c.parts)) o ≡ Some l → ⊥
not_own c l None h e = cc
not_own c l (Some name) h e = cc

family_apart : (c : CaseRows) (l : ℕ) → IsCase c → IsLine c l → Apart (family c l)
unfolding Apart
family_apart c l valid line = (
  λ i h e. not_own c l (part_at c.parts l).parent line.no_parent (ap (line_of c.parts) (sym e) ∙ (shop_at c l i valid line h).line_is),
  filter_apart (λ p. is_shop_of (part_at c.parts l) (part_at c.parts p)) (length c.parts) 0,
)

-- ---- what is read

place_at : (xs : List ℕ) (i : ℕ) → Apart xs → i < length xs → position_or_len (λ q. q == get_or xs i 0) xs ≡ i
unfolding Apart
place_at [] i a h = absurd (omega (arith, h))
place_at (x ∷ xs) zero a h = ap (λ t. cond (not t) (1 + position_or_len (λ q. q == x) xs) 0) (eq-eqb x x refl)
place_at (x ∷ xs) (suc i) a h =
    let inside : i < length xs = omega (arith, h) in
    let e : ℕ = get_or xs i 0 in
    let next : 1 + i ≡ suc i = omega arith in
    ap (λ t. cond (not t) (1 + position_or_len (λ q. q == e) xs) 0) (ne_eqb x e (λ s. a.0 i inside (sym s))) ∙ ap (λ n. 1 + n) (place_at xs i a.1 inside) ∙ next

read_at : (xs v : List ℕ) (i : ℕ) → Apart xs → i < length xs → option_map_or (λ k. get_or v k 0) (position (λ q. q == get_or xs i 0) xs) 0 ≡ get_or v i 0
read_at xs v i a h =
    ap (λ m. option_map_or (λ k. get_or v k 0) (cond (nat_lt m (length xs)) (Some m) None) 0) (place_at xs i a h)
    ∙ ap (λ t. option_map_or (λ k. get_or v k 0) (cond t (Some i) None) 0) (lt-ltb i (length xs) h)

by_place : (f : ℕ → ℕ) (xs v : List ℕ) → length v ≡ length xs → ((i : ℕ) → i < length xs → f (get_or xs i 0) ≡ get_or v i 0) → map f xs ≡ v
by_place f [] [] e h = refl
by_place f [] (s ∷ v) e h = absurd (omega (arith, e))
by_place f (x ∷ xs) [] e h = absurd (omega (arith, e))
by_place f (x ∷ xs) (s ∷ v) e h = ap₂ (λ (y : ℕ) (ys : List ℕ). y ∷ ys) (h 0 (omega arith)) (by_place f xs v (omega (arith, e)) (λ i l. h (suc i) (omega (arith, l))))

-- the stocks of a family at a site are those that were put in
pub family_stocks_in : (c : CaseRows) (l : ℕ) (own : ℕ → List ℕ) (k : ℕ) → IsCase c → IsLine c l → k < length c.sites → length (own k) ≡ size c l
    → map (λ p. stock c (stocks_in c l own) p k) (family c l) ≡ own k
family_stocks_in c l own k valid line m e =
    same_map (λ p. p < length c.parts) (λ p. stock c (stocks_in c l own) p k) (λ p. stock_in c l own p k) (family c l) (λ p h. stock_is c l own p k h m)
    (members c l valid line)
    ∙ by_place (λ p. stock_in c l own p k) (family c l) (own k) e (λ i h. read_at (family c l) (own k) i (family_apart c l valid line) h)
