-- Stocks written to their pairs, step by step. No promise of the crate rests on these words.
use Rattle.std.specs.Prelude.{◌≡◌, ℕ, ◌+◌, ◌*◌, ◌<◌, List, length, map, filter, take, get_or}
use Rattle.std.specs.List.{range_with_len}
use Rattle.hull.specs.Curves.{Among}
use Rattle.spares_input.specs.Rows.{is_line}
use Rattle.spares_input.specs.Frames.{part_at}
use Rattle.spares_input.specs.Cases.{CaseRows}
use Rattle.spares_input.specs.Stocks.{StockList, IsFor, stock_at}
use Rattle.family_points.specs.Vectors.{vector_of}
use Rattle.fleet_plan.proofs.Public.{IsApart}

-- the first m of these parts have these stocks at site k, and no other pair has changed
pub record IsPlacedAt (old new : StockList) (ps : List ℕ) (k : ℕ) (part : List ℕ) (m : ℕ) : Type 0 where
  pub sites : new.sites ≡ old.sites
  pub count : length new.list ≡ length old.list
  pub own : IsApart ps → (i : ℕ) → i < m → stock_at new (get_or ps i 0) k ≡ get_or part i 0
  pub others : (p j : ℕ) → j < old.sites → (Among p ps → j ≡ k → ⊥) → stock_at new p j ≡ stock_at old p j

-- these parts have the stocks of a vector at the first m sites, and no other part has changed
pub record IsPlacedFamily (old new : StockList) (ps vector : List ℕ) (m : ℕ) : Type 0 where
  pub sites : new.sites ≡ old.sites
  pub count : length new.list ≡ length old.list
  pub own : IsApart ps → (k i : ℕ) → k < m → i < length ps
      → stock_at new (get_or ps i 0) k ≡ get_or vector (k * length ps + i) 0
  pub others : (p j : ℕ) → j < old.sites → (Among p ps → ⊥) → stock_at new p j ≡ stock_at old p j

-- the line units below part p
abbrev pub lines_below : CaseRows → ℕ → List ℕ
lines_below c p = filter (λ q. is_line (part_at c.parts q)) (range_with_len 0 p)

-- the first f line units are all those below part p, and their families have their vectors
pub record ArePlaced (c : CaseRows) (vs : List (List ℕ)) (s : StockList) (p f : ℕ) : Type 0 where
  pub is_for : IsFor c s
  pub count : f ≡ length (lines_below c p)
  pub vectors : map (λ l. vector_of c l s.list) (lines_below c p) ≡ take f vs
