-- Numbers as decimal digits.
use Rattle.std.proofs.Common.{◌≡◌, ℕ, ◌+◌, ◌*◌, ◌<◌, ◌%◌, ◌^◌, ◌≤◌, List, [], ◌∷◌, ◌++◌, length, take, drop, get_or, refl, lit<, ap, arith, length-append}
use Rattle.std.proofs.Math.ListN.{get_or-append}
use Rattle.std.proofs.lemmas.Fmt.{decimal_by_steps_wide}
use Rattle.std.proofs.lemmas.List.{take-append-drop}
use Rattle.std.proofs.lemmas.Nat.{le-div}
use Rattle.std.specs.Char.{digit_value}
use Rattle.std.specs.Fmt.{decimal}
use Rattle.std.specs.Str.Parse.{digits_value_after}

-- two texts of digits, one after the other, are read one after the other
pub after_append : (m : ℕ) (xs ys : List ℕ) → digits_value_after 10 m (xs ++ ys) ≡ digits_value_after 10 (digits_value_after 10 m xs) ys
after_append m [] ys = refl
after_append m (x ∷ xs) ys = after_append (m * 10 + digit_value x) xs ys

-- more digits make no less
pub after_grows : (m : ℕ) (xs : List ℕ) → m ≤ digits_value_after 10 m xs
after_grows m [] = omega arith
after_grows m (x ∷ xs) = omega (arith, after_grows (m * 10 + digit_value x) xs)

-- a part's value is at most the whole's
pub part_below : (m i : ℕ) (xs : List ℕ) → digits_value_after 10 m (take i xs) ≤ digits_value_after 10 m xs
part_below m i xs =
    let e = ap (digits_value_after 10 m) (take-append-drop i xs) in
    omega (arith, e, after_append m (take i xs) (drop i xs), after_grows (digits_value_after 10 m (take i xs)) (drop i xs))

-- the first digit of a number above 0 is not 0
pub first_digit : (n : ℕ) → n < 10 ^ 64 → 0 < n → (0 < length (decimal n)) × (48 < get_or (decimal n) 0 0)
first_digit n h =
    decimal_by_steps_wide (λ m ds. 0 < m → (0 < length ds) × (48 < get_or ds 0 0))
    (λ m s p. (omega arith, omega arith))
    (λ m ds t i p.
    let j = i (le-div 1 m 10 (lit< tt) (omega arith)) in
    (omega (arith, j.0, length-append ds ((48 + m % 10) ∷ [])), rw (get_or-append ds ((48 + m % 10) ∷ []) 0 0 j.0) j.1))
    n h
