-- The ends of a base's pipelines: the mean and the variance are sums from the left, and each is capped.
use Rattle.std.specs.Prelude.{ℕ, List, length, get_or}
use Rattle.fixed_interval.specs.Ends.{Ends, ends_exact, ends_add}
use Rattle.depot_pipeline.specs.declared.Moments.{Moments}
use Rattle.depot_pipeline.specs.declared.Feed.{Feed}
use Rattle.depot_pipeline.specs.Profile.{mean_part, variance_part, added, capped_at}
use Rattle.base_pipeline.specs.declared.Held.{Held}

-- the shop unit at a place
abbrev pub delay_at : {f : ℕ} → List (Held f) → ℕ → Held f
delay_at {f} shops k = get_or shops k (record { backorders = ends_exact f 0; spread = ends_exact f 0 })

-- the shop unit at a base: the direct part, and the depot's addition
abbrev pub base_shop_ends : (f : ℕ) → Ends → ℕ → Feed f → Moments f
base_shop_ends f direct cap depot = capped_at f cap (ends_add direct (mean_part f depot))
    (ends_add direct (variance_part f depot))

-- the own part of the line unit at a base, without its shop units there: the direct part, and the depot's addition
abbrev pub base_own_ends : (f : ℕ) → Ends → Feed f → Moments f
base_own_ends f direct depot = record {
  mean = ends_add direct (mean_part f depot);
  variance = ends_add direct (variance_part f depot);
}

-- the line unit at a base: the direct part, the depot's addition, and the backorders of each shop unit there
abbrev pub base_line_ends : (f : ℕ) → Ends → ℕ → Feed f → List (Held f) → Moments f
base_line_ends f direct cap depot shops =
    capped_at f cap (added (ends_add direct (mean_part f depot)) (λ k. (delay_at shops k).backorders) (length shops))
    (added (ends_add direct (variance_part f depot)) (λ k. (delay_at shops k).spread) (length shops))
