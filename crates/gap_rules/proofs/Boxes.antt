-- A vector of a box lies in one of the box's two parts.
use Rattle.std.proofs.Common.{◌≡◌, ℕ, zero, suc, ◌+◌, ◌-◌, ◌*◌, ◌<◌, ◌≤◌, ◌⊎◌, inl, inr, Bool, true, false, ◌&&◌, nat_lt, nat_le, List, [], ◌∷◌, length, get_or, set, refl, ap, arith, mul-le-mul_left, ltb-true}
use Rattle.std.proofs.lemmas.Bool.Decides.{nat_tests}
use Rattle.spares_input.specs.Cases.{CaseRows}
use Rattle.spares_input.specs.Frames.{part_at}
use Rattle.family_points.specs.declared.bounds.Bounds.{Bounds}
use Rattle.gap_rules.specs.Boxes.{AtMost}
use Rattle.family_points.specs.Vectors.{Pair}
use Rattle.gap_rules.proofs.Added.{added_at}
use Rattle.gap_rules.specs.Covers.{fewer, as_many, has_parts, IsIn}

-- a vector stays within its high corner where one place of that is set to no less than the vector has
pub at_most_set_high : (v high : List ℕ) (at x : ℕ) → AtMost v high → get_or v at 0 ≤ x → AtMost v (set high at x)
at_most_set_high [] [] at x h l = tt
at_most_set_high [] (b ∷ high) at x h l = absurd h
at_most_set_high (a ∷ v) [] at x h l = absurd h
at_most_set_high (a ∷ v) (b ∷ high) zero x h l = (l, h.1)
at_most_set_high (a ∷ v) (b ∷ high) (suc at) x h l = (h.0, at_most_set_high v high at x h.1 l)

-- a vector stays within its low corner where one place of that is set to no more than the vector has
pub at_most_set_low : (low v : List ℕ) (at x : ℕ) → AtMost low v → x ≤ get_or v at 0 → AtMost (set low at x) v
at_most_set_low [] [] at x h l = tt
at_most_set_low [] (b ∷ v) at x h l = absurd h
at_most_set_low (a ∷ low) [] at x h l = absurd h
at_most_set_low (a ∷ low) (b ∷ v) zero x h l = (l, h.1)
at_most_set_low (a ∷ low) (b ∷ v) (suc at) x h l = (h.0, at_most_set_low low v at x h.1 l)

-- where a bound is set, the place has no more, or no fewer
pub at_most_of_high : (v high : List ℕ) (at x : ℕ) → AtMost v (set high at x) → at < length high → get_or v at 0 ≤ x
at_most_of_high v [] at x h l = absurd (omega arith)
at_most_of_high [] (b ∷ high) zero x h l = absurd h
at_most_of_high [] (b ∷ high) (suc at) x h l = absurd h
at_most_of_high (a ∷ v) (b ∷ high) zero x h l = h.0
at_most_of_high (a ∷ v) (b ∷ high) (suc at) x h l = at_most_of_high v high at x h.1 (omega arith)

pub at_most_of_low : (low v : List ℕ) (at x : ℕ) → AtMost (set low at x) v → at < length low → x ≤ get_or v at 0
at_most_of_low [] v at x h l = absurd (omega arith)
at_most_of_low (b ∷ low) [] zero x h l = absurd h
at_most_of_low (b ∷ low) [] (suc at) x h l = absurd h
at_most_of_low (b ∷ low) (a ∷ v) zero x h l = h.0
at_most_of_low (b ∷ low) (a ∷ v) (suc at) x h l = at_most_of_low low v at x h.1 (omega arith)

-- a set bound is one of the box, where it was no higher, or no lower
pub at_most_unset_high : (v high : List ℕ) (at x : ℕ) → AtMost v (set high at x) → x ≤ get_or high at 0 → AtMost v high
at_most_unset_high [] [] at x h l = tt
at_most_unset_high (a ∷ v) [] at x h l = absurd h
at_most_unset_high [] (b ∷ high) zero x h l = absurd h
at_most_unset_high [] (b ∷ high) (suc at) x h l = absurd h
at_most_unset_high (a ∷ v) (b ∷ high) zero x h l = (let k = h.0 in omega (arith, k, l), h.1)
at_most_unset_high (a ∷ v) (b ∷ high) (suc at) x h l = (h.0, at_most_unset_high v high at x h.1 l)

pub at_most_unset_low : (low v : List ℕ) (at x : ℕ) → AtMost (set low at x) v → get_or low at 0 ≤ x → AtMost low v
at_most_unset_low [] v at x h l = h
at_most_unset_low (b ∷ low) [] zero x h l = absurd h
at_most_unset_low (b ∷ low) [] (suc at) x h l = absurd h
at_most_unset_low (b ∷ low) (a ∷ v) zero x h l = (let k = h.0 in omega (arith, k, l), h.1)
at_most_unset_low (b ∷ low) (a ∷ v) (suc at) x h l = (h.0, at_most_unset_low low v at x h.1 l)

-- where a list is at most another, so is its number at each place; past the end both are 0
pub at_most_at : (xs ys : List ℕ) (at : ℕ) → AtMost xs ys → get_or xs at 0 ≤ get_or ys at 0
at_most_at [] [] at h = omega arith
at_most_at [] (y ∷ ys) at h = absurd h
at_most_at (x ∷ xs) [] at h = absurd h
at_most_at (x ∷ xs) (y ∷ ys) zero h = h.0
at_most_at (x ∷ xs) (y ∷ ys) (suc at) h = at_most_at xs ys at h.1

-- each list is at most itself, place by place
pub at_most_self : (xs : List ℕ) → AtMost xs xs
at_most_self [] = tt
at_most_self (x ∷ xs) = (omega arith, at_most_self xs)

-- a list that is at most one below a third is at most that third
pub at_most_chain : (xs ys zs : List ℕ) → AtMost xs ys → AtMost ys zs → AtMost xs zs
at_most_chain [] [] [] h k = tt
at_most_chain [] [] (z ∷ zs) h k = absurd k
at_most_chain [] (y ∷ ys) zs h k = absurd h
at_most_chain (x ∷ xs) [] zs h k = absurd h
at_most_chain (x ∷ xs) (y ∷ ys) [] h k = absurd k
at_most_chain (x ∷ xs) (y ∷ ys) (z ∷ zs) h k = (let a = h.0 in let b = k.0 in omega (arith, a, b), at_most_chain xs ys zs h.1 k.1)

-- lists of which one is at most the other place by place have one length
pub at_most_length : (xs ys : List ℕ) → AtMost xs ys → length xs ≡ length ys
at_most_length [] [] h = refl
at_most_length [] (y ∷ ys) h = absurd h
at_most_length (x ∷ xs) [] h = absurd h
at_most_length (x ∷ xs) (y ∷ ys) h = ap suc (at_most_length xs ys h.1)

-- what has_parts says
pub record HasParts (box : Bounds) (at from : ℕ) : Type 0 where
  pub more : get_or box.low at 0 < from
  pub most : from ≤ get_or box.high at 0

and_left : (a b : Bool) → a && b ≡ true → a ≡ true
and_left true b h = refl
and_left false b h = absurd (cc)

and_right : (a b : Bool) → a && b ≡ true → b ≡ true
and_right true b h = h
and_right false b h = absurd (cc)

no_more : (a b : ℕ) → nat_le a b ≡ true → a ≤ b
no_more a b h = grind (arith, nat_tests)

-- the test that a box has both parts says that `from` is above the least at the place and at most the most
pub parts : (box : Bounds) (at from : ℕ) → has_parts box at from ≡ true → HasParts box at from
parts box at from h = record {
  more = ltb-true (get_or box.low at 0) from (and_left (nat_lt (get_or box.low at 0) from) (nat_le from (get_or box.high at 0)) h);
  most = no_more from (get_or box.high at 0) (and_right (nat_lt (get_or box.low at 0) from) (nat_le from (get_or box.high at 0)) h);
}

-- a vector of a box that is split is in one of the two parts
pub split_in : (box : Bounds) (at from : ℕ) (v : List ℕ) → HasParts box at from → IsIn v box → IsIn v (fewer box at from) ⊎ IsIn v (as_many box at from)
split_in box at from v h i =
    elim (side (get_or v at 0) from) [
      | inl less ↦ inl (record { low = i.low; high = at_most_set_high v box.high at (from - 1) i.high (omega arith) })
      | inr more ↦ inr (record { low = at_most_set_low box.low v at from i.low more; high = i.high })
    ]
  where
    side : (a b : ℕ) → (a < b) ⊎ (b ≤ a)
    side a b = grind arith

-- ---- and in no more than one

past : (xs : List ℕ) (at from : ℕ) → 0 < from → from ≤ get_or xs at 0 → at < length xs
past [] at from h l = absurd (omega arith)
past (x ∷ xs) zero from h l = omega arith
past (x ∷ xs) (suc at) from h l = (let k = past xs at from h l in omega (arith, k))

-- no vector is in both parts
pub split_apart : (box : Bounds) (at from : ℕ) (v : List ℕ) → HasParts box at from → IsIn v (fewer box at from) → IsIn v (as_many box at from) → ⊥
split_apart box at from v h i j =
    let some = h.more in
    let inside : at < length box.high = past box.high at from (omega (arith, some)) h.most in
    let one = at_most_of_high v box.high at (from - 1) i.high inside in
    let a = at_most_length box.low v i.low in
    let b = at_most_length v box.high j.high in
    let two = at_most_of_low box.low v at from j.low (omega (arith, a, b, inside)) in
    omega (arith, one, two, some)

-- the vectors with fewer at the place are vectors of the box
pub fewer_in : (box : Bounds) (at from : ℕ) (v : List ℕ) → HasParts box at from → IsIn v (fewer box at from) → IsIn v box
fewer_in box at from v h i = (let m = h.most in record { low = i.low; high = at_most_unset_high v box.high at (from - 1) i.high (omega (arith, m)) })

-- so are those with as many or more
pub as_many_in : (box : Bounds) (at from : ℕ) (v : List ℕ) → HasParts box at from → IsIn v (as_many box at from) → IsIn v box
as_many_in box at from v h i = (let m = h.more in record { low = at_most_unset_low box.low v at from i.low (omega (arith, m)); high = i.high })

-- ---- costs

step_cost : (l v h cost rest more : ℕ) → l ≤ v → rest ≤ more → (l - h) * cost + rest ≤ (v - h) * cost + more
step_cost l v h cost rest more a b =
    let s : l - h ≤ v - h = omega arith in
    let m : cost * (l - h) ≤ cost * (v - h) = mul-le-mul_left cost s in
    omega (arith, m, b)

-- a vector that is at least the low corner costs no less above what is held
pub added_more : (c : CaseRows) (xs : List Pair) (held low v : List ℕ) → AtMost low v → added_at c xs held low ≤ added_at c xs held v
added_more c [] held low v h = omega arith
added_more c (x ∷ xs) [] low v h = omega arith
added_more c (x ∷ xs) (k ∷ held) [] v h = omega arith
added_more c (x ∷ xs) (k ∷ held) (a ∷ low) [] h = absurd h
added_more c (x ∷ xs) (k ∷ held) (a ∷ low) (b ∷ v) h = step_cost a b k (part_at c.parts x.part).cost _ _ h.0 (added_more c xs held low v h.1)
