-- Numbers and their texts.
use Rattle.std.proofs.Common.{◌≡◌, ℕ, zero, suc, ◌+◌, ◌-◌, ◌*◌, ◌/◌, ◌%◌, ◌^◌, ◌<◌, ◌≤◌, Bool, true, false, cond, ◌&&◌, List, [], ◌∷◌, ◌++◌, length, get_or, take, Some, None, refl, sym, ap, subst, ◌∙◌, arith, lit<, inl, inr}
use Rattle.std.specs.List.{AllByRecursion}
use Rattle.std.specs.Prelude.{nat_le, bytes_eq}
use Rattle.std.specs.Fmt.{decimal}
use Rattle.std.specs.Str.Parse.{digits_value, digits_value_after}
use Rattle.std.proofs.lemmas.Bool.{and_parts, leb-true, le-leb, cases_eq, cases_lt}
use Rattle.std.proofs.lemmas.Nat.{mod_below}
use Rattle.std.proofs.lemmas.Str.{digit_value_digit}
use Rattle.std.proofs.lemmas.Fmt.{decimal_by_steps_wide, decimal_step_wide, decimal_digit}
use Rattle.std.proofs.lemmas.Grind.{take_at_read}
use Rattle.std.proofs.lemmas.Slice.Eq.{bytes_eq-Decides}
use Rattle.std.proofs.Math.Numerals.{add-one}
use Rattle.list_laws.proofs.Public.{after_append, first_digit, part_below}
use Rattle.line_text.specs.Texts.{AreDigits, IsShort, number, in_range}

-- the digits up to i + 1
pub value_more : (m i : ℕ) (xs : List ℕ) → i < length xs → AreDigits xs → digits_value_after 10 m (take (i + 1) xs) ≡ digits_value_after 10 m (take i xs) * 10 + (get_or xs i 0 - 48)
value_more m i xs h d =
    let t = (take_at_read xs i 0 h).1 in
    let v = digit_value_digit (get_or xs i 0) (d i h) in
    ap (digits_value_after 10 m) t ∙ after_append m (take i xs) (get_or xs i 0 ∷ []) ∙ omega (arith, v)

value_suc : (i : ℕ) (xs : List ℕ) → i < length xs → AreDigits xs → digits_value 10 (take (suc i) xs) ≡ digits_value 10 (take i xs) * 10 + (get_or xs i 0 - 48)
value_suc i xs h d = ap (λ (k : ℕ). digits_value 10 (take k xs)) (sym (add-one i)) ∙ value_more 0 i xs h d

first_value : (xs : List ℕ) → 0 < length xs → AreDigits xs → digits_value 10 (take 1 xs) ≡ get_or xs 0 0 - 48
first_value xs h d = omega (arith, value_suc 0 xs h d)

take_one : (xs : List ℕ) → 0 < length xs → take 1 xs ≡ get_or xs 0 0 ∷ []
take_one [] h = absurd (omega (arith, h))
take_one (x ∷ xs) h = refl

first_below : (i : ℕ) (xs : List ℕ) → i < length xs → AreDigits xs → digits_value 10 (take 1 xs) ≤ digits_value 10 (take (suc i) xs)
first_below zero xs h d = omega arith
first_below (suc i) xs h d = omega (arith, first_below i xs (omega (arith, h)) d, value_suc (suc i) xs h d)

not_zero : (xs : List ℕ) → IsShort xs → 1 < length xs → (48 ≤ get_or xs 0 0) × (get_or xs 0 0 ≤ 57) → 1 ≤ get_or xs 0 0 - 48
not_zero xs s h d =
    elim (cases_eq (get_or xs 0 0) 48) as (λ _. 1 ≤ get_or xs 0 0 - 48) [
      | inl e ↦ absurd (omega (arith, s.1 e, h))
      | inr n ↦ elim (cases_lt 48 (get_or xs 0 0)) as (λ _. 1 ≤ get_or xs 0 0 - 48) [
        | inl lt ↦ omega (arith, lt)
        | inr le ↦ absurd (n (omega (arith, le, d.0)))
      ]
    ]

again : (i : ℕ) (xs : List ℕ) → suc i < length xs → take (suc i) xs ++ (get_or xs (suc i) 0 ∷ []) ≡ take (suc (suc i)) xs
again i xs h = sym (take_at_read xs (suc i) 0 h).1 ∙ ap (λ (k : ℕ). take k xs) (add-one (suc i))

all_taken : (xs : List ℕ) → take (length xs) xs ≡ xs
all_taken [] = refl
all_taken (x ∷ xs) = ap (λ (ys : List ℕ). x ∷ ys) (all_taken xs)

whole_taken : (xs : List ℕ) → 0 < length xs → take (suc (length xs - 1)) xs ≡ xs
whole_taken xs h = let e : suc (length xs - 1) ≡ length xs = omega (arith, h) in ap (λ (n : ℕ). take n xs) e ∙ all_taken xs

-- digits with no needless 0 are the text of their value
front_canonical : (i : ℕ) (xs : List ℕ) → i < length xs → AreDigits xs → IsShort xs → digits_value 10 xs < 10 ^ 64 → decimal (digits_value 10 (take (suc i) xs)) ≡ take (suc i) xs
front_canonical zero xs h d s lt =
    let v = first_value xs h d in
    let b = d 0 h in
    ap decimal v ∙ decimal_digit (get_or xs 0 0 - 48) (omega (arith, b.0, b.1)) ∙ ap (λ (c : ℕ). c ∷ []) (omega (arith, b.0)) ∙ sym (take_one xs h)
front_canonical (suc i) xs h d s lt =
    let n = digits_value 10 (take (suc (suc i)) xs) in
    let m = digits_value 10 (take (suc i) xs) in
    let c = get_or xs (suc i) 0 in
    let b = d (suc i) h in
    let v : n ≡ m * 10 + (c - 48) = value_suc (suc i) xs h d in
    let one : digits_value 10 (take 1 xs) ≤ m = first_below i xs (omega (arith, h)) d in
    let f = first_value xs s.0 d in
    let z = not_zero xs s (omega (arith, h)) (d 0 s.0) in
    let big : 10 ≤ n = omega (arith, v, one, f, z) in
    let fits : n < 10 ^ 64 = omega (arith, part_below 0 (suc (suc i)) xs, lt) in
    let q = front_canonical i xs (omega (arith, h)) d s lt in
    let tens : n / 10 ≡ m = omega (arith, v, b.0, b.1) in
    let units : n % 10 ≡ c - 48 = omega (arith, v, b.0, b.1) in
    let digit : 48 + n % 10 ≡ c = omega (arith, units, b.0) in
    decimal_step_wide n big fits
    ∙ ap (λ (k : ℕ). decimal k ++ ((48 + n % 10) ∷ [])) tens
    ∙ ap (λ (t : List ℕ). t ++ ((48 + n % 10) ∷ [])) q
    ∙ ap (λ (k : ℕ). take (suc i) xs ++ (k ∷ [])) digit
    ∙ again i xs h

pub canonical : (xs : List ℕ) → AreDigits xs → IsShort xs → digits_value 10 xs < 10 ^ 64 → decimal (digits_value 10 xs) ≡ xs
canonical xs d s lt = subst (λ (t : List ℕ). decimal (digits_value 10 t) ≡ t) (whole_taken xs s.0) (front_canonical (length xs - 1) xs (omega (arith, s.0)) d s lt)

-- ---- the text of a number is short, and digits

-- a byte from 0 to 9
abbrev pub IsDig : ℕ → Type 0
IsDig c = (48 ≤ c) × (c ≤ 57)

digs_append : (xs ys : List ℕ) → AllByRecursion IsDig xs → AllByRecursion IsDig ys → AllByRecursion IsDig (xs ++ ys)
digs_append [] ys a b = b
digs_append (x ∷ xs) ys a b = (a.0, digs_append xs ys a.1 b)

-- the decimal text of a number below 10^64 has digits alone
pub decimal_digs : (n : ℕ) → n < 10 ^ 64 → AllByRecursion IsDig (decimal n)
decimal_digs n h =
    decimal_by_steps_wide (λ m ds. AllByRecursion IsDig ds)
    (λ m s. ((omega arith, omega (arith, s)), tt))
    (λ m ds t i. let b = mod_below m 10 (lit< tt) in digs_append ds ((48 + m % 10) ∷ []) i ((omega arith, omega (arith, b)), tt))
    n h

-- digits one by one are digits at each place
pub digs_at : (xs : List ℕ) → AllByRecursion IsDig xs → AreDigits xs
digs_at [] h k lt = absurd (omega (arith, lt))
digs_at (x ∷ xs) h zero lt = h.0
digs_at (x ∷ xs) h (suc k) lt = digs_at xs h.1 k (omega (arith, lt))

pub decimal_digits : (n : ℕ) → n < 10 ^ 64 → AreDigits (decimal n)
decimal_digits n h = digs_at (decimal n) (decimal_digs n h)

pub decimal_short : (n : ℕ) → n < 10 ^ 64 → IsShort (decimal n)
decimal_short zero h = let e = decimal_digit 0 (lit< tt) in (omega (arith, ap length e), λ _. ap length e)
decimal_short (suc n) h = let f = first_digit (suc n) h (omega arith) in (f.0, λ e. absurd (omega (arith, e, f.1)))

-- ---- reading

read_at : (least most n : ℕ) (text : List ℕ) (x y : Bool) → in_range least most n ≡ x → bytes_eq (decimal n) text ≡ y → (least ≤ n → n ≤ most → decimal n ≡ text → ⊥) → None ≡ cond (in_range least most n && bytes_eq (decimal n) text) (Some n) None
read_at least most n text true true a b h =
    let p = and_parts (nat_le least n) (nat_le n most) a in
    absurd (h (leb-true least n p.0) (leb-true n most p.1) ((bytes_eq-Decides (decimal n) text).0 b))
read_at least most n text true false a b h = rw (a, b) refl
read_at least most n text false y a b h = rw a refl

refused : (text : List ℕ) (least most : ℕ) → ((n : ℕ) → n ≡ digits_value 10 text → least ≤ n → n ≤ most → decimal n ≡ text → ⊥) → None ≡ (number least most).read text
refused text least most h = read_at least most (digits_value 10 text) text (in_range least most (digits_value 10 text)) (bytes_eq (decimal (digits_value 10 text)) text) refl refl (h (digits_value 10 text) refl)

pub not_short : (text : List ℕ) (least most : ℕ) → most < 2 ^ 128 → (IsShort text → ⊥) → None ≡ (number least most).read text
not_short text least most m h = refused text least most (λ n e a b k. h (subst (λ (t : List ℕ). IsShort t) k (decimal_short n (omega (arith, b, m)))))

pub not_digits : (text : List ℕ) (least most : ℕ) → most < 2 ^ 128 → (AreDigits text → ⊥) → None ≡ (number least most).read text
not_digits text least most m h = refused text least most (λ n e a b k. h (subst (λ (t : List ℕ). AreDigits t) k (decimal_digits n (omega (arith, b, m)))))

pub too_large : (text : List ℕ) (least most : ℕ) → most < 2 ^ 128 → 2 ^ 128 ≤ digits_value 10 text → None ≡ (number least most).read text
too_large text least most m h = refused text least most (λ n e a b k. absurd (omega (arith, e, b, m, h)))

pub too_low : (text : List ℕ) (least most n : ℕ) → n ≡ digits_value 10 text → n < least → None ≡ (number least most).read text
too_low text least most n v h = refused text least most (λ m e a b k. absurd (omega (arith, e, v, a, h)))

pub too_high : (text : List ℕ) (least most n : ℕ) → n ≡ digits_value 10 text → most < n → None ≡ (number least most).read text
too_high text least most n v h = refused text least most (λ m e a b k. absurd (omega (arith, e, v, b, h)))

pub read_found : (text : List ℕ) (least most n : ℕ) → AreDigits text → IsShort text → n ≡ digits_value 10 text → n < 2 ^ 128 → least ≤ n → n ≤ most → Some n ≡ (number least most).read text
read_found text least most n d s v f a b =
    let c : decimal n ≡ text = ap decimal v ∙ canonical text d s (omega (arith, v, f)) in
    rw (← v, le-leb least n a, le-leb n most b, (bytes_eq-Decides (decimal n) text).1 c) refl
