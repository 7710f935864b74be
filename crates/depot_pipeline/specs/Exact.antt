-- When feeds contain exact shares and backorders, and when a value is within a cap.
use Rattle.std.specs.Prelude.{ℕ, ◌*◌, ◌^◌, ◌<◌, ◌≤◌, List, length}
use Rattle.exact_model.specs.Fraction.{Fraction}
use Rattle.fixed_interval.specs.Ends.{In, IsWithinLimit}
use Rattle.depot_pipeline.specs.declared.Feed.{Feed}
use Rattle.depot_pipeline.specs.Profile.{feed_at}

-- q is at most c units of 2^-bits
abbrev pub IsAtMost : ℕ → ℕ → Fraction → Type 0
IsAtMost bits c q = q.num * 2 ^ bits ≤ c * q.den

-- a feed's intervals contain a share f, backorders e and their variance v
pub record FeedIn (bits : ℕ) (feed : Feed bits) (f e v : Fraction) : Type 0 where
  pub share : In bits feed.share f
  pub backorders : In bits feed.backorders e
  pub spread : In bits feed.spread v

-- each feed contains the values at its place
abbrev pub FeedsIn : (bits : ℕ) → List (Feed bits) → (ℕ → Fraction) → (ℕ → Fraction) → (ℕ → Fraction) → Type 0
FeedsIn bits feeds f e v = (k : ℕ) → k < length feeds → FeedIn bits (feed_at feeds k) (f k) (e k) (v k)

-- the shares are at most 1, backorders and spreads at most 256
pub record IsSmallFeed (bits : ℕ) (feed : Feed bits) : Type 0 where
  pub share : feed.share.hi ≤ 2 ^ bits
  pub backorders : IsWithinLimit bits feed.backorders
  pub spread : IsWithinLimit bits feed.spread
