-- What the loop over a base's shop units reads, and how large its sums are at the start.
use Rattle.std.proofs.Common.{ℕ, ◌*◌, ◌^◌, ◌<◌, ◌≤◌, ◌≡◌, ◌∙◌, List, length, get_or, sym, subst}
use Rattle.std.specs.List.{All}
use Rattle.std.proofs.lemmas.List.{get_or_default}
use Rattle.std.proofs.lemmas.List.Elements.{All-get_or}
use Rattle.fixed_interval.specs.Ends.{Ends, ends_exact}
use Rattle.depot_pipeline.proofs.Public.{Summed, summed_start}
use Rattle.base_pipeline.specs.declared.Held.{Held}
use Rattle.base_pipeline.specs.Profile.{delay_at}
use Rattle.base_pipeline.specs.Exact.{IsSmallDelay}

-- what the loop reads at a place is what the definition has there
pub delay_is : (b : ℕ) (shops : List (Held b)) (k : ℕ) (shop : Held b) → k < length shops → shop ≡ get_or shops k shop → shop ≡ delay_at shops k
delay_is b shops k shop l h = h ∙ get_or_default shops k shop (record { backorders = ends_exact b 0; spread = ends_exact b 0 }) l

-- what stands at a place of small entries is small
pub delay_small : (b : ℕ) (shops : List (Held b)) (k : ℕ) (shop : Held b) → k < length shops → shop ≡ get_or shops k shop → All (IsSmallDelay b) shops → IsSmallDelay b shop
delay_small b shops k shop l h a = subst (IsSmallDelay b) (sym h) (All-get_or (IsSmallDelay b) shops k shop l a)

-- before the first shop unit the sum is what it starts with
pub started : (b : ℕ) (first sum : Ends) (part : ℕ → Ends) → sum ≡ first → sum.hi ≤ 768 * 2 ^ b → Summed b 768 first part sum 0
started b first sum part e h =
    subst (λ (z : Ends). Summed b 768 first part z 0) (sym e) (summed_start b 768 first part (subst (λ (z : Ends). z.hi ≤ 768 * 2 ^ b) e h))
