-- Where the first element stands that passes a test, and what a key's place says.
use Rattle.std.proofs.Common.{◌≡◌, ◌==◌, ◌&&◌, ℕ, ◌+◌, ◌<◌, ◌⊎◌, inl, inr, Bool, true, false, cond, List, [], ◌∷◌, ◌++◌, length, get_or, take, drop, ◌||◌, position, nat_lt, bytes_eq, Some, None, is_some, refl, sym, ap, ap₂, ◌∙◌, subst, arith, lt-ltb, le-ltb}
use Rattle.std.specs.List.{All, list_any, position_or_len}
use Rattle.std.proofs.lemmas.Bool.{false≢true, cases_lt, and_parts}
use Rattle.std.proofs.lemmas.List.{take-append-drop, take_more}
use Rattle.std.proofs.lemmas.List.Quantifiers.{position-Some}
use Rattle.std.proofs.lemmas.List.Sums.{position_or_len_is, fails_before_first, passes_at_first}
use Rattle.std.proofs.lemmas.List.Folds.{list_any-append, list_any_at, list_any_none}
use Rattle.std.proofs.lemmas.Slice.Eq.{bytes_eq-Decides}
use Rattle.list_laws.proofs.Public.{bytes_same, same_number}
use Rattle.family_tables.specs.declared.keys.Key.{Key}
use Rattle.family_tables.specs.declared.keys.Kept.{Kept}
use Rattle.family_tables.specs.Kept.{Grows, Has, IsKept, is_among, is_key, moments_at, table_at, with_key, with_keys}
use Rattle.family_numbers.specs.Numbers.{FamilyNumbers}

not_below : (n : ℕ) → nat_lt n n ≡ false
not_below n = grind arith

-- the first entry that passes a test is at the place before which none passes it
pub position_found : {X : Type 0} (p : X → Bool) (xs : List X) (i : ℕ) (x : X) → x ≡ get_or xs i x → i < length xs → p x ≡ true
    → ((k : ℕ) (d : X) → k < i → p (get_or xs k d) ≡ false) → position p xs ≡ Some i
position_found p xs i x r l t before =
    let e : position_or_len p xs ≡ i = position_or_len_is p xs i x (omega (arith, l)) (λ k b. before k x b) (λ _. ap p (sym r) ∙ t) in
    ap (λ n. cond (nat_lt n (length xs)) (Some n) None) e ∙ ap (λ b. cond b (Some i) None) (lt-ltb i (length xs) l)

-- where no entry passes a test, none is found
pub position_missed : {X : Type 0} (p : X → Bool) (xs : List X) → ((k : ℕ) (d : X) → k < length xs → p (get_or xs k d) ≡ false) → position p xs ≡ None
position_missed p [] h = refl
position_missed p (y ∷ ys) h =
    let xs = y ∷ ys in
    let e : position_or_len p xs ≡ length xs = position_or_len_is p xs (length xs) y (omega arith) (λ k b. h k y b) (λ b. absurd (omega (arith, b))) in
    ap (λ n. cond (nat_lt n (length xs)) (Some n) None) e ∙ ap (λ b. cond b (Some (length xs)) None) (not_below (length xs))

-- whether there is a first one is whether any passes
pub position_any : {X : Type 0} (p : X → Bool) (xs : List X) → is_some (position p xs) ≡ list_any p xs
position_any p [] = refl
position_any p (y ∷ ys) = elim (cases_lt (position_or_len p (y ∷ ys)) (length (y ∷ ys))) [
  | inl l ↦
      ap (λ b. is_some (cond b (Some (position_or_len p (y ∷ ys))) None)) (lt-ltb _ _ l)
      ∙ sym (list_any_at p (y ∷ ys) (position_or_len p (y ∷ ys)) y l (passes_at_first p (y ∷ ys) y l))
  | inr h ↦
      ap (λ b. is_some (cond b (Some (position_or_len p (y ∷ ys))) None)) (le-ltb _ _ h)
      ∙ sym (list_any_none p (y ∷ ys) (λ k d b. fails_before_first p (y ∷ ys) k d (omega (arith, h, b))))
]

-- ---- keys

-- what is kept under the first such key is of the pipeline of this place, this site and these stocks
pub kept_found : (f : ℕ) (x : FamilyNumbers f) (kept : List (Kept f)) (n i k : ℕ) (s : List ℕ) (y : Kept f) → All (IsKept f x) kept → y ≡ get_or kept n y
    → position (λ (z : Kept f). is_key z.key i k s) kept ≡ Some n → (y.moments ≡ moments_at f x i k s) × (y.table ≡ table_at f x i k s)
kept_found f x kept n i k s y all r found =
    let at = position-Some (λ (z : Kept f). is_key z.key i k s) kept n y found in
    let same : is_key y.key i k s ≡ true = ap (λ (z : Kept f). is_key z.key i k s) r ∙ at.1 in
    let rest = and_parts ((y.key.place == i) && (y.key.site.0 == k)) (bytes_eq y.key.stocks s) same in
    let first = and_parts (y.key.place == i) (y.key.site.0 == k) rest.0 in
    let is = subst (IsKept f x) (sym r) (all n y at.0) in
    let triple : (y.key.place, (y.key.site.0, y.key.stocks)) ≡ (i, (k, s)) =
    ap₂ (λ (a : ℕ) (z : ℕ × List ℕ). (a, z)) (same_number y.key.place i first.0)
    (ap₂ (λ (b : ℕ) (v : List ℕ). (b, v)) (same_number y.key.site.0 k first.1) (bytes_same y.key.stocks s rest.1)) in
    (is.moments ∙ ap (λ (z : ℕ × (ℕ × List ℕ)). moments_at f x z.0 z.1.0 z.1.1) triple, is.table ∙ ap (λ (z : ℕ × (ℕ × List ℕ)). table_at f x z.0 z.1.0 z.1.1) triple)

-- ---- keys that come

either_true : (a b : Bool) → (a || b) ≡ true → (a ≡ true) ⊎ (b ≡ true)
either_true true b h = inl refl
either_true false b h = inr h

left_true : (a b : Bool) → a ≡ true → (a || b) ≡ true
left_true a b h = ap (λ c. c || b) h

right_true : (a b : Bool) → b ≡ true → (a || b) ≡ true
right_true true b h = refl
right_true false b h = h

or_same : (a b : Bool) → (b ≡ true → a ≡ true) → a ≡ (a || b)
or_same true b h = refl
or_same false true h = absurd (false≢true (h refl))
or_same false false h = refl

or_last : (a b c : Bool) → ((a || (b || false)) || c) ≡ (a || (b || c))
or_last true b c = refl
or_last false true c = refl
or_last false false c = refl

key_same : (key : Key) (i k : ℕ) (s : List ℕ) → is_key key i k s ≡ true → (keys : List Key) → is_among keys key.place key.site.0 key.stocks ≡ is_among keys i k s
key_same key i k s same keys =
    let rest = and_parts ((key.place == i) && (key.site.0 == k)) (bytes_eq key.stocks s) same in
    let first = and_parts (key.place == i) (key.site.0 == k) rest.0 in
    ap₂ (λ (a : ℕ) (z : ℕ × List ℕ). is_among keys a z.0 z.1) (same_number key.place i first.0)
    (ap₂ (λ (b : ℕ) (v : List ℕ). (b, v)) (same_number key.site.0 k first.1) (bytes_same key.stocks s rest.1))

own_key : (key : Key) → is_key key key.place key.site.0 key.stocks ≡ true
own_key key = grind (arith, bytes_eq-Decides key.stocks key.stocks)

-- the n-th of some keys is among them
pub key_among : (keys : List Key) (n : ℕ) (key : Key) → n < length keys → key ≡ get_or keys n key → is_among keys key.place key.site.0 key.stocks ≡ true
key_among keys n key l r = list_any_at (λ (y : Key). is_key y key.place key.site.0 key.stocks) keys n key l (ap (λ (y : Key). is_key y key.place key.site.0 key.stocks) (sym r) ∙ own_key key)

-- a key is there once it is added
among_by : (keys : List Key) (key : Key) (i k : ℕ) (s : List ℕ) (found : Bool) → is_among keys key.place key.site.0 key.stocks ≡ found
    → is_among (cond found keys (keys ++ key ∷ [])) i k s ≡ (is_among keys i k s || (is_key key i k s || false))
among_by keys key i k s true h = or_same (is_among keys i k s) (is_key key i k s || false) (λ t. elim (either_true (is_key key i k s) false t) [
  | inl y ↦ sym (key_same key i k s y keys) ∙ h
  | inr n ↦ absurd (false≢true n)
])
among_by keys key i k s false h = list_any-append (λ (y : Key). is_key y i k s) keys (key ∷ [])

-- a key is there once all given ones are, exactly if it was there or is among them
pub among_with : (old given : List Key) (i k : ℕ) (s : List ℕ) → is_among (with_keys old given) i k s ≡ (is_among old i k s || is_among given i k s)
among_with old [] i k s = or_same (is_among old i k s) false (λ h. absurd (false≢true h))
among_with old (key ∷ rest) i k s =
    among_with (with_key old key) rest i k s
    ∙ ap (λ b. b || is_among rest i k s) (among_by old key i k s (is_among old key.place key.site.0 key.stocks) refl)
    ∙ or_last (is_among old i k s) (is_key key i k s) (is_among rest i k s)

-- all given keys are there
pub has_all : (old given : List Key) → Has given (with_keys old given)
has_all old given i k s h = among_with old given i k s ∙ right_true (is_among old i k s) (is_among given i k s) h

first_among : (given : List Key) (n i k : ℕ) (s : List ℕ) → is_among (take n given) i k s ≡ true → is_among given i k s ≡ true
first_among given n i k s h =
    ap (λ z. is_among z i k s) (sym (take-append-drop n given)) ∙ list_any-append (λ (y : Key). is_key y i k s) (take n given) (drop n given)
    ∙ left_true (is_among (take n given) i k s) (list_any (λ (y : Key). is_key y i k s) (drop n given)) h

-- with the first n of them, no key goes and only given ones come
pub first_grow : (old given : List Key) (n : ℕ) → Grows given old (with_keys old (take n given))
first_grow old given n i k s =
    let is = among_with old (take n given) i k s in (
      λ h. is ∙ left_true (is_among old i k s) (is_among (take n given) i k s) h,
      λ h. elim (either_true (is_among old i k s) (is_among (take n given) i k s) (sym is ∙ h)) [
        | inl x ↦ inl x
        | inr y ↦ inr (first_among given n i k s y)
      ],
    )

with_last : (old xs : List Key) (key : Key) → with_keys old (xs ++ key ∷ []) ≡ with_key (with_keys old xs) key
with_last old [] key = refl
with_last old (x ∷ xs) key = with_last (with_key old x) xs key

-- one more of them added
pub with_next : (old given now new : List Key) (n : ℕ) (key : Key) → n < length given → key ≡ get_or given n key → now ≡ with_keys old (take n given) → new ≡ with_key now key
    → new ≡ with_keys old (take (n + 1) given)
with_next old given now new n key l r h e =
    e ∙ ap (λ z. with_key z key) h ∙ sym (with_last old (take n given) key)
    ∙ ap (with_keys old) (ap (λ y. take n given ++ y ∷ []) r ∙ sym (take_more given n key l))
