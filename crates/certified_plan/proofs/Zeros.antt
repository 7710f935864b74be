-- Nothing held is a list of zeros.
use Rattle.std.proofs.Common.{ℕ, refl, arith}
use Rattle.std.proofs.lemmas.List.{length-replicate}
use Rattle.spares_input.specs.Cases.{CaseRows, frame_rows, pair_count}
use Rattle.fleet_model.proofs.Public.{stock_holds}
use Rattle.spares_input.specs.Stocks.{AreStocksOf, IsFor, nothing_held}
use Rattle.certified_plan.proofs.Believed.{nothing_held_at}

module _ (c : CaseRows) where
  none_for : IsFor c (nothing_held c)
  none_for = record { sites = refl; pairs = length-replicate {A = ℕ} (pair_count (frame_rows c)) 0 }

  -- no stock anywhere is a number for each pair, at most its limit
  pub none_is_held : AreStocksOf c (nothing_held c)
  none_is_held = record {
    is_for = none_for;
    limits = λ p k lp lk. (let e = stock_holds c (nothing_held c) p k none_for in let z = nothing_held_at c p k in omega (arith, e, z));
  }
