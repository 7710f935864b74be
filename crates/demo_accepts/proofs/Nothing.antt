-- Where nothing is held of a case, nothing is held of each of its pairs.
use Rattle.std.proofs.Common.{◌≡◌, subst, ℕ, ◌<◌}
use Rattle.std.specs.Prelude.{All}
use Rattle.std.proofs.lemmas.List.{get_or-replicate, length-replicate}
use Rattle.spares_input.specs.Cases.{CaseRows, frame_rows, pair_count}
use Rattle.spares_input.specs.Stocks.{nothing_held}

-- the list holds nothing of any pair
pub zeros_hold : (c : CaseRows) → All (λ n. n ≡ 0) (nothing_held c).list
zeros_hold c i d b = get_or-replicate (pair_count (frame_rows c)) i 0 d (subst (λ n. i < n) (length-replicate {A = ℕ} (pair_count (frame_rows c)) 0) b)
