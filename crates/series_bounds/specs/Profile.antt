-- The ends of the weights of a pipeline with mean m and excess d, relative to the weight at the pivot.
use Rattle.std.specs.Prelude.{ℕ, zero, suc, ◌+◌, ◌-◌, ◌*◌, ◌/◌, ◌^◌, Bool, false, ◌&&◌, ◌||◌, not, nat_lt, nat_le, if◌then◌else◌, max, List, [], ◌∷◌, ◌++◌}
use Rattle.std.specs.Int.{div_ceil}
use Rattle.std.specs.List.{fold}
use Rattle.series_bounds.specs.declared.kinds.Weights.{Weights}
use Rattle.series_bounds.specs.declared.kinds.Weights.TheVariants.{Known, Wide}
use Rattle.fixed_interval.specs.Ends.{Ends, ends_exact, ends_add, ends_times, ends_mul, ends_div}

-- the ratio of the weight at x to the weight at x - 1: (m + d (x - 1)) / ((1 + d) x)
unfoldable pub ratio_ends : ℕ → Ends → Ends → ℕ → Ends
ratio_ends f m d x = ends_div f (ends_add m (ends_times d (x - 1))) (ends_times (ends_add (ends_exact f 1) d) x)

-- the ratio of the weight at x - 1 to the weight at x
unfoldable pub back_ends : ℕ → Ends → Ends → ℕ → Ends
back_ends f m d x = ends_div f (ends_times (ends_add (ends_exact f 1) d) x) (ends_add m (ends_times d (x - 1)))

-- the pivot: the mode, rounded down
unfoldable pub pivot_at : ℕ → Ends → Ends → ℕ
pivot_at f m d = (m.lo - d.hi) / 2 ^ f

-- the weight at c - k, going down from 1 at the pivot c
unfoldable pub weight_before : ℕ → Ends → Ends → ℕ → ℕ → Ends
weight_before f m d c zero = ends_exact f 1
weight_before f m d c (suc k) = ends_mul f (weight_before f m d c k) (back_ends f m d (c - k))

-- the weight at c + k, going up from 1 at the pivot c
unfoldable pub weight_past : ℕ → Ends → Ends → ℕ → ℕ → Ends
weight_past f m d c zero = ends_exact f 1
weight_past f m d c (suc k) = ends_mul f (weight_past f m d c k) (ratio_ends f m d (c + suc k))

-- the weight at x
unfoldable pub weight_ends : ℕ → Ends → Ends → ℕ → Ends
weight_ends f m d x =
    if nat_lt x (pivot_at f m d) then weight_before f m d (pivot_at f m d) (pivot_at f m d - x)
    else weight_past f m d (pivot_at f m d) (x - pivot_at f m d)

-- the limit of the ratios: d / (1 + d), rounded up
abbrev pub far_ratio : ℕ → Ends → ℕ
far_ratio f d = div_ceil (d.hi * 2 ^ f) (2 ^ f + d.hi)

-- the bound of the ratios of all weights past K: the ratio at K + 1 or the limit, whichever is larger
unfoldable pub ratio_bound : ℕ → Ends → Ends → ℕ → ℕ
ratio_bound f m d K = max (ratio_ends f m d (K + 1)).hi (far_ratio f d)

-- the weights past K have a remainder if that is below 1
unfoldable pub has_remainder : ℕ → Ends → Ends → ℕ → Bool
has_remainder f m d K = nat_lt (ratio_bound f m d K) (2 ^ f)

-- the remainder at K, if the upper end of the weight at K is top
unfoldable pub remainder_from : ℕ → Ends → Ends → ℕ → ℕ → ℕ
remainder_from f m d top K = div_ceil (top * ratio_bound f m d K) (2 ^ f - ratio_bound f m d K)

-- the remainder at K
abbrev pub remainder_at : ℕ → Ends → Ends → ℕ → ℕ
remainder_at f m d K = remainder_from f m d (weight_ends f m d K).hi K

-- the remainder at K exists and is at most 256
unfoldable pub may_end : ℕ → Ends → Ends → ℕ → Bool
may_end f m d K = has_remainder f m d K && nat_le (remainder_at f m d K) 256

-- the first of x, .., x + n - 1 that passes, or x + n if none does
unfoldable pub first_from : (ℕ → Bool) → ℕ → ℕ → ℕ
first_from p x zero = x
first_from p x (suc n) = if p x then x else first_from p (suc x) n

-- the first index at which the list may end
unfoldable pub least_end : ℕ → Ends → Ends → ℕ
least_end f m d = max (pivot_at f m d + 1) 63

-- the last index: the first from there to 1024 at which the list may end, or 1024 if there is none
unfoldable pub last_index : ℕ → Ends → Ends → ℕ
last_index f m d = first_from (may_end f m d) (least_end f m d) (1024 - least_end f m d)

-- one of 0, .., n - 1 passes
unfoldable pub any_below : (ℕ → Bool) → ℕ → Bool
any_below p zero = false
any_below p (suc n) = any_below p n || p n

-- a weight from 0 to the last index exceeds 8, or the last index has no remainder
unfoldable pub is_wide : ℕ → Ends → Ends → Bool
is_wide f m d =
    any_below (λ x. nat_lt (8 * 2 ^ f) (weight_ends f m d x).hi) (suc (last_index f m d))
    || not (has_remainder f m d (last_index f m d))

-- u(0), .., u(n - 1)
unfoldable pub listed : {X : Type 0} → (ℕ → X) → ℕ → List X
listed u zero = []
listed u (suc n) = listed u n ++ u n ∷ []

-- the sum of a list, from the left
abbrev pub ends_sum : List Ends → Ends
ends_sum xs = fold ends_add (record { lo = 0; hi = 0 }) xs

-- with rem added to the upper end
abbrev pub ends_raised : Ends → ℕ → Ends
ends_raised x rem = record { lo = x.lo; hi = x.hi + rem }

-- the weights
unfoldable pub weights_of : (f : ℕ) → Ends → Ends → Weights f
weights_of f m d =
    if is_wide f m d then Wide
    else Known (pivot_at f m d) (listed (weight_ends f m d) (suc (last_index f m d)))
    (ends_raised (ends_sum (listed (weight_ends f m d) (suc (last_index f m d))))
    (remainder_at f m d (last_index f m d)))
