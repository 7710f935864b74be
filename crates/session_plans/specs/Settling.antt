-- The values that are kept, and those left when stocks have changed. No promise of the crate rests on these words.
use Rattle.std.specs.Prelude.{◌≡◌, ℕ, ◌<◌, List, length, get_or, filter_map, Option, None, IsSome}
use Rattle.spares_input.specs.Cases.{CaseRows}
use Rattle.spares_input.specs.Stocks.{StockList, stock_at}
use Rattle.session_plans.specs.Sessions.{family_place}

-- the values that are kept, in order
abbrev pub values_of : {X : Type 0} → List (Option X) → List X
values_of kept = filter_map (λ v. v) kept

-- What is kept was kept before. Each of the first n parts of whose family a value is kept has the same stocks in both.
pub record AreSettled {X : Type 0} (c : CaseRows) (old new : StockList) (before after : List (Option X)) (n : ℕ)
    : Type 0 where
  pub count : length after ≡ length before
  pub stay : (k : ℕ) → IsSome (get_or after k None) → get_or after k None ≡ get_or before k None
  pub same : (p : ℕ) → p < n → IsSome (get_or after (family_place c p) None)
      → (k : ℕ) → k < length c.sites → stock_at old p k ≡ stock_at new p k
