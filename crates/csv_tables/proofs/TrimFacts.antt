-- A trim, byte by byte.
use Rattle.std.proofs.Common.{◌≡◌, ◌&&◌, ℕ, ◌+◌, ◌-◌, ◌<◌, ◌≤◌, Bool, true, false, List, [], ◌∷◌, ◌++◌, length, get_or, take, drop, refl, sym, ap, subst, ◌∙◌, arith, add-one, drop-cons}
use Rattle.std.proofs.lemmas.List.{take_more, take_all, length-drop}
use Rattle.csv_tables.specs.Fields.{is_blank, has_none, trim_start, trim_end}

-- a blank in front is trimmed away
pub trim_start_blank : (xs : List ℕ) (i : ℕ) → i < length xs → is_blank (get_or xs i 0) ≡ true → trim_start (drop (i + 1) xs) ≡ trim_start (drop i xs)
unfolding trim_start
trim_start_blank xs i h b = rw (drop-cons xs i 0 h, b, add-one) refl

-- what begins with no blank has none to trim in front
pub trim_start_solid : (xs : List ℕ) (i : ℕ) → i < length xs → is_blank (get_or xs i 0) ≡ false → trim_start (drop i xs) ≡ drop i xs
unfolding trim_start
trim_start_solid xs i h b = rw (drop-cons xs i 0 h, b) refl

trim_end_push_blank : (xs : List ℕ) (b : ℕ) → is_blank b ≡ true → trim_end (xs ++ b ∷ []) ≡ trim_end xs
unfolding trim_end
trim_end_push_blank [] b h = rw h refl
trim_end_push_blank (x ∷ xs) b h = rw (trim_end_push_blank xs b h) refl

not_none : (x : ℕ) (xs : List ℕ) → has_none (xs ++ x ∷ []) ≡ false
not_none x [] = refl
not_none x (y ∷ ys) = refl

and_false : (b : Bool) → (b && false) ≡ false
and_false true = refl
and_false false = refl

trim_end_push_solid : (xs : List ℕ) (b : ℕ) → is_blank b ≡ false → trim_end (xs ++ b ∷ []) ≡ xs ++ b ∷ []
unfolding trim_end
trim_end_push_solid [] b h = rw h refl
trim_end_push_solid (x ∷ xs) b h = rw (trim_end_push_solid xs b h, not_none b xs, and_false (is_blank x)) refl

pub trim_end_blank : (xs : List ℕ) (n : ℕ) → n < length xs → is_blank (get_or xs n 0) ≡ true → trim_end (take n xs) ≡ trim_end (take (n + 1) xs)
trim_end_blank xs n h b = sym (rw (take_more xs n 0 h) (trim_end_push_blank (take n xs) (get_or xs n 0) b))

pub trim_end_solid : (xs : List ℕ) (n : ℕ) → n < length xs → is_blank (get_or xs n 0) ≡ false → trim_end (take (n + 1) xs) ≡ take (n + 1) xs
trim_end_solid xs n h b = rw (take_more xs n 0 h) (trim_end_push_solid (take n xs) (get_or xs n 0) b)

-- nothing trimmed at the end is nothing
pub trim_end_none : trim_end [] ≡ []
unfolding trim_end
trim_end_none = refl

-- nothing trimmed in front is nothing
pub trim_start_none : trim_start [] ≡ []
unfolding trim_start
trim_start_none = refl

-- a blank at the end is trimmed away
pub trim_end_back : (xs : List ℕ) (end : ℕ) → 0 < end → end ≤ length xs → is_blank (get_or xs (end - 1) 0) ≡ true
    → trim_end (take (end - 1) xs) ≡ trim_end (take end xs)
trim_end_back xs end some within b =
    let e : (end - 1) + 1 ≡ end = omega arith in
    trim_end_blank xs (end - 1) (omega arith) b ∙ ap (λ m. trim_end (take m xs)) e

-- what ends with no blank has none to trim at the end
pub trim_end_stop : (xs : List ℕ) (end : ℕ) → 0 < end → end ≤ length xs → is_blank (get_or xs (end - 1) 0) ≡ false
    → trim_end (take end xs) ≡ take end xs
trim_end_stop xs end some within b =
    let e : (end - 1) + 1 ≡ end = omega arith in
    let P : ℕ → Type 0 = λ m. trim_end (take m xs) ≡ take m xs in
    subst P e (trim_end_solid xs (end - 1) (omega arith) b)

-- as many bytes as are left from a place on are all of them
pub rest_whole : (xs : List ℕ) (i : ℕ) → take (length xs - i) (drop i xs) ≡ drop i xs
rest_whole xs i = take_all (length xs - i) (drop i xs) (omega (arith, length-drop i xs))
