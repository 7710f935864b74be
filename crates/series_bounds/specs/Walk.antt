-- The results of the walks down and up from the pivot. No promise of the crate rests on these words.
use Rattle.std.specs.Prelude.{◌≡◌, ℕ, suc, true, false, ◌+◌, ◌-◌, ◌*◌, ◌^◌, ◌<◌, ◌≤◌, List, length}
use Rattle.fixed_interval.specs.Ends.{Ends}
use Rattle.series_bounds.specs.Answer.{IsSum}
use Rattle.series_bounds.specs.Profile.{remainder_at, weight_ends, least_end, last_index, pivot_at, listed, may_end, has_remainder, ends_sum}

-- the weights from 0 to the pivot, none of which exceeds 8
pub record ToPivot (f : ℕ) (m d : Ends) (list : List Ends) : Type 0 where
  pub weights : list ≡ listed (weight_ends f m d) (suc (pivot_at f m d))
  pub tops : (x : ℕ) → x ≤ pivot_at f m d → (weight_ends f m d x).hi ≤ 8 * 2 ^ f

-- a weight before x is from 0 to 1 unit, and the ratios from x on are at most 1
pub record StaysFrom (f : ℕ) (m d before : Ends) (x : ℕ) : Type 0 where
  pub least : before.lo ≡ 0
  pub most : before.hi ≡ 1
  pub falls : m.hi + d.hi * (x - 1) ≤ (1 * 2 ^ f + d.lo) * x
  pub goes_on : d.hi ≤ 1 * 2 ^ f + d.lo

-- the sum of the weights below x, none of which exceeds 8
pub record SumsTo (f : ℕ) (m d sum : Ends) (x : ℕ) : Type 0 where
  pub sum_is : sum ≡ ends_sum (listed (weight_ends f m d) x)
  pub most : sum.hi ≤ x * (8 * 2 ^ f)
  pub tops : (y : ℕ) → y < x → (weight_ends f m d y).hi ≤ 8 * 2 ^ f

-- the first of u(0), .., u(x - 1): at least `wanted`, or all of them
pub record Begins (u : ℕ → Ends) (wanted x : ℕ) (list : List Ends) : Type 0 where
  pub entries : list ≡ listed u (length list)
  pub most : length list ≤ x
  pub all : length list < wanted → length list ≡ x

-- the sum of the weights below next and the last of them; next is past the pivot and not past the first index at which
-- the list may end
pub record AtIndex (f : ℕ) (m d sum last : Ends) (next : ℕ) : Type 0 where
  pub sums : SumsTo f m d sum next
  pub past : pivot_at f m d < next
  pub before_end : next ≤ least_end f m d
  pub last_is : last ≡ weight_ends f m d (next - 1)

-- the sum of the weights below next, and the last of them; all later ones before the list may end are the same
pub record Midway (f : ℕ) (m d sum last : Ends) (next : ℕ) : Type 0 where
  pub sums : SumsTo f m d sum next
  pub past : pivot_at f m d < next
  pub before_end : next ≤ least_end f m d
  pub last_is : last ≡ weight_ends f m d (next - 1)
  pub same : (x : ℕ) → next ≤ x → x < least_end f m d → weight_ends f m d x ≡ last

-- the sum of the weights below the first index at which the list may end, and the last of them
pub record AtLeastEnd (f : ℕ) (m d sum last : Ends) : Type 0 where
  pub sums : SumsTo f m d sum (least_end f m d)
  pub last_is : last ≡ weight_ends f m d (least_end f m d - 1)

-- the list doesn't end at x
pub record GoesOn (f : ℕ) (m d : Ends) (x : ℕ) : Type 0 where
  pub passed : 63 ≤ x → may_end f m d x ≡ false
  pub unended : 1024 < x + 1 → has_remainder f m d 1024 ≡ false

-- the list ends at x, with this remainder
pub record EndsAt (f : ℕ) (m d : Ends) (x rest : ℕ) : Type 0 where
  pub late : 63 ≤ x
  pub ends : has_remainder f m d x ≡ true
  pub rest_is : rest ≡ remainder_at f m d x
  pub small : x < 1024 → rest ≤ 256

-- the first weights, at least `wanted` or all of them, and the sum of all
pub record AreWeighed (f : ℕ) (m d : Ends) (wanted : ℕ) (list : List Ends) (sum : Ends) : Type 0 where
  pub first : Begins (weight_ends f m d) wanted (last_index f m d + 1) list
  pub sum_is : IsSum f m d sum
