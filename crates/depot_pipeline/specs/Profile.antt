-- The ends of the depot's pipelines: the mean and the variance are sums from the left, and each is capped.
use Rattle.std.specs.Prelude.{ℕ, zero, suc, List, length, get_or}
use Rattle.fixed_interval.specs.Ends.{Ends, ends_exact, ends_add, ends_less, ends_mul, ends_capped}
use Rattle.depot_pipeline.specs.declared.Moments.{Moments}
use Rattle.depot_pipeline.specs.declared.Feed.{Feed}

-- the addition of a share of backorders to a mean: f E
unfoldable pub mean_part : (f : ℕ) → Feed f → Ends
mean_part f feed = ends_mul f feed.share feed.backorders

-- its addition to a variance: f (1 - f) E + f f V
unfoldable pub variance_part : (f : ℕ) → Feed f → Ends
variance_part f feed =
    ends_add (ends_mul f (ends_mul f feed.share (ends_less (ends_exact f 1) feed.share)) feed.backorders)
    (ends_mul f (ends_mul f feed.share feed.share) feed.spread)

-- first + part(0) + .. + part(n - 1), from the left
unfoldable pub added : Ends → (ℕ → Ends) → ℕ → Ends
added first part zero = first
added first part (suc n) = ends_add (added first part n) (part n)

-- zeros, for a place without a feed
abbrev pub no_feed : (f : ℕ) → Feed f
no_feed f = record { share = ends_exact f 0; backorders = ends_exact f 0; spread = ends_exact f 0 }

-- the feed at the place k, zeros if there is none
abbrev pub feed_at : {f : ℕ} → List (Feed f) → ℕ → Feed f
feed_at {f} feeds k = get_or feeds k (no_feed f)

-- a mean and a variance, each at most the cap
abbrev pub capped_at : (f cap : ℕ) → Ends → Ends → Moments f
capped_at f cap m v = record { mean = ends_capped m cap; variance = ends_capped v cap }

-- the shop unit at the depot
abbrev pub depot_shop_ends : (f : ℕ) → Ends → ℕ → Moments f
depot_shop_ends f direct cap = capped_at f cap direct direct

-- the line unit at the depot: the direct part, and the additions of its shop units
abbrev pub depot_line_ends : (f : ℕ) → Ends → ℕ → List (Feed f) → Moments f
depot_line_ends f direct cap feeds =
    capped_at f cap (added direct (λ k. mean_part f (feed_at feeds k)) (length feeds))
    (added direct (λ k. variance_part f (feed_at feeds k)) (length feeds))
