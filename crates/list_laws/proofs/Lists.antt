-- Lists: what holds of each entry, their ends, joined lists and those of rows.
use Rattle.std.proofs.Common.{◌≡◌, ℕ, zero, suc, ◌+◌, ◌<◌, ◌≤◌, Bool, true, ◌⊎◌, not, List, inl, [], cond, nat_lt, inr, ◌∷◌, ◌++◌, length, take, map, Some, drop, get_or, None, flat_map, set, position, All, refl, slice_index, bytes_eq, sym, ap, ◌∙◌, ap₂, subst, arith, append_assoc}
use Rattle.std.proofs.lemmas.Bool.{cases_lt}
use Rattle.std.proofs.lemmas.List.{flat_map_more, map_more, take_more, map-append, length-map, take_all}
use Rattle.std.proofs.lemmas.List.Concat.{flat_map-append}
use Rattle.std.proofs.lemmas.List.Elements.{All-nil, All-cons}
use Rattle.std.proofs.lemmas.Slice.Eq.{bytes_eq-Decides}
use Rattle.std.specs.List.{AllZip, AllByRecursion, position_or_len}
use Rattle.list_laws.proofs.Numbers.{below_or}

-- what holds of everything holds along a list
pub all_are : {K : Type 0} (Q : K → Type 0) (keys : List K) → ((k : K) → Q k) → AllByRecursion Q keys
all_are Q [] h = tt
all_are Q (k ∷ ks) h = (h k, all_are Q ks h)

-- what is left of a list from an entry on begins with that entry
pub rest_begins : {X : Type 0} (xs : List X) (i : ℕ) (d : X) → i < length xs → drop i xs ≡ get_or xs i d ∷ drop (i + 1) xs
rest_begins [] i d h = absurd (omega (arith, h))
rest_begins (x ∷ xs) zero d h = refl
rest_begins (x ∷ xs) (suc i) d h = let p : suc (i + 1) ≡ suc i + 1 = omega arith in rest_begins xs i d (omega (arith, h)) ∙ ap (λ (n : ℕ). get_or xs i d ∷ drop n (x ∷ xs)) p

-- where one fact gives another of each number, it gives it along a list of numbers
pub all_follow : (P Q : ℕ → Type 0) (xs : List ℕ) → ((i : ℕ) → P i → Q i) → AllByRecursion P xs → AllByRecursion Q xs
all_follow P Q [] h a = a
all_follow P Q (x ∷ xs) h a = (h x a.0, all_follow P Q xs h a.1)

-- a value for one entry more of a list
pub pushed_next : {A B : Type 0} (h : A → B) (xs : List A) (n : ℕ) (d : A) (old new : List B) (y : B) → n < length xs → new ≡ old ++ y ∷ [] → old ≡ map h (take n xs)
    → y ≡ h (get_or xs n d) → new ≡ map h (take (n + 1) xs)
pushed_next h xs n d old new y l e f v = e ∙ ap₂ (λ (ys : List _) (z : _). ys ++ z ∷ []) f v ∙ sym (map_more h xs n d l)

-- the values for all entries of a list
pub pushed_all : {A B : Type 0} (h : A → B) (xs : List A) (n : ℕ) (made : List B) → length xs ≤ n → made ≡ map h (take n xs) → made ≡ map h xs
pushed_all h xs n made l e = e ∙ ap (map h) (take_all n xs l)

-- what is true of all members of two lists is so of the two joined
pub each_append : {X : Type 0} (P : X → Type 0) (xs ys : List X) → AllByRecursion P xs → AllByRecursion P ys → AllByRecursion P (xs ++ ys)
each_append P [] ys a b = b
each_append P (x ∷ xs) ys a b = (a.0, each_append P xs ys a.1 b)

-- what follows of two facts of each holds of each
pub each_both : {X : Type 0} (P Q R : X → Type 0) (xs : List X) → ((x : X) → P x → Q x → R x) → AllByRecursion P xs → AllByRecursion Q xs → AllByRecursion R xs
each_both P Q R [] h a b = a
each_both P Q R (x ∷ xs) h a b = (h x a.0 b.0, each_both P Q R xs h a.1 b.1)

-- equal values at each element
pub map_each : {A B : Type 0} (f g : A → B) (xs : List A) → AllByRecursion (λ x. f x ≡ g x) xs → map f xs ≡ map g xs
map_each f g [] h = refl
map_each f g (x ∷ xs) h = ap₂ (λ (y : _) (ys : List _). y ∷ ys) h.0 (map_each f g xs h.1)

-- the same test of what the elements have
places_same : {X Y : Type 0} (g : X → Y) (p : Y → Bool) (xs : List X) → position_or_len p (map g xs) ≡ position_or_len (λ x. p (g x)) xs
places_same g p [] = refl
places_same g p (x ∷ xs) = ap (λ n. cond (not (p (g x))) (1 + n) 0) (places_same g p xs)

-- the first image that passes a test is at the place of the first entry whose image does
pub position_mapped : {X Y : Type 0} (g : X → Y) (p : Y → Bool) (xs : List X) → position p (map g xs) ≡ position (λ x. p (g x)) xs
position_mapped g p xs =
    ap₂ (λ (n m : ℕ). cond (nat_lt n m) (Some n) None) (places_same g p xs) (length-map xs g)

-- bytes that compare as equal are equal
pub bytes_same : (xs ys : List ℕ) → bytes_eq xs ys ≡ true → xs ≡ ys
bytes_same xs ys h = grind (arith, bytes_eq-Decides xs ys)

-- two lists in a relation place by place stay so with a related pair put behind them
pub zip_push : {X Y : Type 0} (R : X → Y → Type 0) (xs : List X) (ys : List Y) (x : X) (y : Y) → AllZip R xs ys → R x y → AllZip R (xs ++ x ∷ []) (ys ++ y ∷ [])
zip_push R [] [] x y a h = (h, tt)
zip_push R [] (b ∷ ys) x y a h = absurd a
zip_push R (c ∷ xs) [] x y a h = absurd a
zip_push R (c ∷ xs) (b ∷ ys) x y a h = (a.0, zip_push R xs ys x y a.1 h)

-- what a map makes of members with one property all has the other, where the map leads from the one to the other
pub each_mapped : {X Y : Type 0} (P : X → Type 0) (Q : Y → Type 0) (g : X → Y) (xs : List X) → ((x : X) → P x → Q (g x)) → AllByRecursion P xs
    → AllByRecursion Q (map g xs)
each_mapped P Q g [] h a = tt
each_mapped P Q g (x ∷ xs) h a = (h x a.0, each_mapped P Q g xs h a.1)

-- two maps that agree on what all members have in common give the same list
pub same_map : {X Y : Type 0} (P : X → Type 0) (g h : X → Y) (xs : List X) → ((x : X) → P x → g x ≡ h x) → AllByRecursion P xs → map g xs ≡ map h xs
same_map P g h [] e a = refl
same_map {X} {Y} P g h (x ∷ xs) e a = ap₂ (λ (y : Y) (ys : List Y). y ∷ ys) (e x a.0) (same_map P g h xs e a.1)

-- two maps to lists that agree on what all members have in common give the same rows
pub same_flat : {X Y : Type 0} (P : X → Type 0) (g h : X → List Y) (xs : List X) → ((x : X) → P x → g x ≡ h x) → AllByRecursion P xs → flat_map g xs ≡ flat_map h xs
same_flat P g h [] e a = refl
same_flat {X} {Y} P g h (x ∷ xs) e a = ap₂ (λ (y : List Y) (ys : List Y). y ++ ys) (e x a.0) (same_flat P g h xs e a.1)

-- nothing is asked of any member
pub each_any : {X : Type 0} (xs : List X) → AllByRecursion (λ (x : X). Unit {0}) xs
each_any [] = tt
each_any (x ∷ xs) = (tt, each_any xs)

-- to map rows that stand one after another is to map each row
pub map_flat : {X Y Z : Type 0} (g : Y → Z) (f : X → List Y) (xs : List X) → map g (flat_map f xs) ≡ flat_map (λ x. map g (f x)) xs
map_flat g f [] = refl
map_flat {X} {Y} {Z} g f (x ∷ xs) = map-append g (f x) (flat_map f xs) ∙ ap (λ (r : List Z). map g (f x) ++ r) (map_flat g f xs)

-- rows made of the members of rows may be made row by row
pub flat_flat : {X Y Z : Type 0} (g : Y → List Z) (f : X → List Y) (xs : List X) → flat_map g (flat_map f xs) ≡ flat_map (λ x. flat_map g (f x)) xs
flat_flat g f [] = refl
flat_flat {X} {Y} {Z} g f (x ∷ xs) = flat_map-append g (f x) (flat_map f xs) ∙ ap (λ (r : List Z). flat_map g (f x) ++ r) (flat_flat g f xs)

-- a list that is at least another place by place is as long
pub same_length : (low high : List ℕ) → AllZip (λ x y. x ≤ y) low high → length high ≡ length low
same_length [] [] h = refl
same_length [] (b ∷ high) h = absurd h
same_length (a ∷ low) [] h = absurd h
same_length (a ∷ low) (b ∷ high) h = ap suc (same_length low high h.1)

-- the first of a list and the one at the place behind them
pub take_on : {X : Type 0} (xs : List X) (n : ℕ) (x : X) → n < length xs → x ≡ get_or xs n x → take (n + 1) xs ≡ take n xs ++ x ∷ []
take_on [] n x h e = absurd (omega (arith, h))
take_on {X} (y ∷ ys) zero x h e = ap (λ (z : X). z ∷ []) (sym e)
take_on {X} (y ∷ ys) (suc n) x h e = ap (λ k. take k (y ∷ ys)) (next n) ∙ ap (λ (zs : List X). y ∷ zs) (take_on ys n x (omega (arith, h)) e)
  where
    next : (n : ℕ) → suc n + 1 ≡ suc (n + 1)
    next n = omega arith

-- what is true of all members is true of the one at a place
pub at_each : {X : Type 0} (P : X → Type 0) (xs : List X) → AllByRecursion P xs → (n : ℕ) (d : X) → n < length xs → P (get_or xs n d)
at_each P [] a n d h = absurd (omega (arith, h))
at_each P (x ∷ xs) a zero d h = a.0
at_each P (x ∷ xs) a (suc n) d h = at_each P xs a.1 n d (omega (arith, h))

-- the first n + 1 lists are the first n and the one at n
pub take_next : (vs : List (List ℕ)) (n : ℕ) → n < length vs → take (n + 1) vs ≡ take n vs ++ get_or vs n [] ∷ []
take_next [] n h = absurd (omega (arith, h))
take_next (v ∷ vs) zero h = refl
take_next (v ∷ vs) (suc n) h = ap (λ k. take k (v ∷ vs)) (next n) ∙ ap (λ (ps : List (List ℕ)). v ∷ ps) (take_next vs n (omega (arith, h)))
  where
    next : (n : ℕ) → suc n + 1 ≡ suc (n + 1)
    next n = omega arith

-- a list that isn't empty begins with its first element
pub begins_with_first : (xs : List ℕ) → 0 < length xs → get_or xs 0 0 ∷ drop 1 xs ≡ xs
begins_with_first [] h = absurd (omega (arith, h))
begins_with_first (x ∷ xs) h = refl

-- each number is at most itself
pub no_more_than_self : (v : List ℕ) → AllZip (λ x y. x ≤ y) v v
no_more_than_self [] = tt
no_more_than_self (x ∷ v) = (omega arith, no_more_than_self v)

-- a list with another first number
pub set_first : (l : List ℕ) (s : ℕ) → 0 < length l → set l 0 s ≡ s ∷ drop 1 l
set_first [] s h = absurd (omega (arith, h))
set_first (x ∷ l) s h = refl

-- a place below n at which xs has less than ys, or none
pub record Less (xs ys : List ℕ) (n : ℕ) : Type 0 where
  pub at : ℕ
  pub below : at < n
  pub less : slice_index xs at < slice_index ys at

-- of two lists the first has less at some place below n, or nowhere
pub less_or : (xs ys : List ℕ) (n : ℕ) → Less xs ys n ⊎ ((f : ℕ) → f < n → slice_index ys f ≤ slice_index xs f)
less_or xs ys zero = inr (λ f l. absurd (let m : f < 0 = l in omega arith))
less_or xs ys (suc n) = elim (cases_lt (slice_index xs n) (slice_index ys n)) [
  | inl l ↦ inl (record { at = n; below = omega arith; less = l })
  | inr l ↦ elim (less_or xs ys n) [
    | inl r ↦ inl (record { at = r.at; below = (let b = r.below in omega (arith, b)); less = r.less })
    | inr h ↦ inr (λ f b. elim (below_or f n (omega (arith, b))) [ inl c ↦ h f c | inr e ↦ subst (λ z. slice_index ys z ≤ slice_index xs z) (sym e) l ])
  ]
]

-- what holds along a list holds of all its entries
pub all_of : {A : Type 0} (P : A → Type 0) (xs : List A) → AllByRecursion P xs → All P xs
all_of P [] h = All-nil P
all_of P (x ∷ xs) h = All-cons P x xs h.0 (all_of P xs h.1)

-- what holds of each image holds along the list of the images
pub each_map : {A B : Type 0} (P : B → Type 0) (f : A → B) (xs : List A) → AllByRecursion (λ x. P (f x)) xs → AllByRecursion P (map f xs)
each_map P f [] h = tt
each_map P f (x ∷ xs) h = (h.0, each_map P f xs h.1)

-- a piece before others
pub joined_more : (old a rest s v : List ℕ) → s ≡ old ++ a → v ≡ s ++ rest → v ≡ old ++ (a ++ rest)
joined_more old a rest s v h i = i ∙ ap (λ z. z ++ rest) h ∙ append_assoc old a rest

module _ {A : Type 0} (text : A → List ℕ) (start : List ℕ) (xs : List A) (n : ℕ) where
  -- the text of one entry more
  pub put_next : (d : A) (old new piece : List ℕ) → n < length xs → new ≡ old ++ piece → piece ≡ text (get_or xs n d) → old ≡ start ++ flat_map text (take n xs)
      → new ≡ start ++ flat_map text (take (n + 1) xs)
  put_next d old new piece l e f h =
      e ∙ ap₂ (λ (z p : List ℕ). z ++ p) h f ∙ flat_map_more text start (take n xs) (get_or xs n d)
      ∙ ap (λ (ys : List A). start ++ flat_map text ys) (sym (take_more xs n d l))

  -- the texts of all entries
  pub put_all : (new : List ℕ) → length xs ≤ n → new ≡ start ++ flat_map text (take n xs) → new ≡ start ++ flat_map text xs
  put_all new l e = e ∙ ap (λ (ys : List A). start ++ flat_map text ys) (take_all n xs l)
