-- The running figures while rows are made, from stock to stock. No promise of the crate rests on these words.
use Rattle.std.specs.Prelude.{ℕ, suc, ◌≡◌, ◌*◌, ◌<◌, ◌^◌, ◌≤◌, List, length}
use Rattle.fixed_interval.specs.Ends.{Ends}
use Rattle.series_bounds.specs.Answer.{at_place}
use Rattle.series_bounds.specs.Profile.{last_index, listed, weight_ends}
use Rattle.moment_table.specs.declared.running.Falling.{Falling}
use Rattle.moment_table.specs.declared.running.Running.{Running}
use Rattle.moment_table.specs.Profile.{below_ends, ebo_ends, vbo_ends}

-- the backorders at the start of the row at the stock s, for the mean m, and the sums that its tail needs
pub record IsFalling (f : ℕ) (m : Ends) (list : List Ends) (sum : Ends) (s : ℕ) (falling : Falling f) : Type 0 where
  pub expected : falling.expected ≡ ebo_ends f m list sum s
  pub below : falling.below ≡ below_ends f list sum s
  pub shares : falling.shares ≡ sum

-- the figures at the start of the row at the stock s, for the mean m and the variance v
pub record IsRunning (f : ℕ) (m v : Ends) (list : List Ends) (sum : Ends) (s : ℕ) (running : Running f) : Type 0 where
  pub falling : IsFalling f m list sum s running.falling
  pub spread : running.spread ≡ vbo_ends f m v list sum s

-- sizes that the step from the stock s needs
pub record AreSmall (f : ℕ) (s : ℕ) (falling : Falling f) : Type 0 where
  pub expected : falling.expected.hi ≤ 256 * 2 ^ f
  pub below : falling.below.hi ≤ s * (8 * 2 ^ f)
  pub sum_least : 2 ^ f ≤ falling.shares.lo

-- at least n first weights, the first n of them at most 8
pub record AreFirst (f : ℕ) (n : ℕ) (list : List Ends) : Type 0 where
  pub enough : n ≤ length list
  pub tops : (x : ℕ) → x < n → (at_place list x).hi ≤ 8 * 2 ^ f

-- all weights up to the last index
abbrev pub all_weights : ℕ → Ends → Ends → List Ends
all_weights f m d = listed (weight_ends f m d) (suc (last_index f m d))
