-- The loops of the code walk the sums of the definitions.
use Rattle.std.proofs.Common.{ℕ, ◌+◌, ◌*◌, ◌^◌, ◌<◌, ◌≤◌, ◌≡◌, ◌∙◌, List, length, get_or, arith, ap, ap₂, subst}
use Rattle.fixed_interval.specs.Ends.{Ends, ends_add, ends_capped}
use Rattle.depot_pipeline.specs.declared.Feed.{Feed}
use Rattle.std.proofs.lemmas.List.{get_or_default}
use Rattle.depot_pipeline.specs.Profile.{added, feed_at, no_feed}
use Rattle.depot_pipeline.proofs.Laws.{added_none, added_next}

-- a sum after k places, each at most `each` units
pub record Summed (b each : ℕ) (first : Ends) (part : ℕ → Ends) (sum : Ends) (k : ℕ) : Type 0 where
  pub is : sum ≡ added first part k
  pub most : sum.hi ≤ (k + 1) * (each * 2 ^ b)

-- before the first place the sum is the first interval
pub summed_start : (b each : ℕ) (first : Ends) (part : ℕ → Ends) → first.hi ≤ each * 2 ^ b → Summed b each first part first 0
summed_start b each first part h = record { is = added_none first part; most = omega (arith, h) }

-- with the part at k, of at most `each`, the sum is that after k + 1 places
pub summed_next : (b each : ℕ) (first : Ends) (part : ℕ → Ends) (sum term next : Ends) (k : ℕ) → Summed b each first part sum k → term ≡ part k
    → term.hi ≤ each * 2 ^ b → next ≡ ends_add sum term → Summed b each first part next (k + 1)
summed_next b each first part sum term next k h t m e = record {
  is = e ∙ ap₂ ends_add h.is t ∙ added_next first part k;
  most = (let x = ap (λ (z : Ends). z.hi) e in omega (arith, x, h.most, m));
}

-- after the last place the sum is that of all parts
pub at_the_end : (b each : ℕ) (first : Ends) (part : ℕ → Ends) (sum : Ends) (k n : ℕ) → Summed b each first part sum k → k ≡ n → sum ≡ added first part n
at_the_end b each first part sum k n h e = subst (λ z. sum ≡ added first part z) e h.is

-- the sum that was found, cut at the cap, is the definition's cut at it
pub capped_is : (sum sums whole : Ends) (cap : ℕ) → sum ≡ sums → whole ≡ ends_capped sum cap → whole ≡ ends_capped sums cap
capped_is sum sums whole cap h e = e ∙ ap (λ z. ends_capped z cap) h

-- the feed that the code reads
pub feed_is : (b : ℕ) (feeds : List (Feed b)) (k : ℕ) (feed : Feed b) → k < length feeds → feed ≡ get_or feeds k feed → feed ≡ feed_at feeds k
feed_is b feeds k feed l h = h ∙ get_or_default feeds k feed (no_feed b) l
