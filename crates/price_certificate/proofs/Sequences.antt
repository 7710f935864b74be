-- Reading one after the other.
use Rattle.std.proofs.Common.{◌≡◌, ℕ, List, length, Ok, Err, refl}
use Rattle.line_text.specs.Formats.{Token}
use Rattle.line_text.specs.Reading.{Gathers}
use Rattle.line_text.specs.declared.bad_line.BadLine.{BadLine}
use Rattle.answers.specs.declared.stop.Stop.{Stop}
use Rattle.answers.specs.declared.stop.Stop.TheVariants as stop
use Rattle.spares_input.specs.Cases.{CaseRows, frame_rows, pair_count}
use Rattle.spares_input.specs.Stocks.{StockList}
use Rattle.price_certificate.specs.declared.certificate.Node.{Node}
use Rattle.price_certificate.specs.declared.reading.Lists.{Lists}
use Rattle.price_certificate.specs.Grammar.{family_count, floors, covers, stock_lines}
use Rattle.price_certificate.specs.Grammar.{ending, lists}

abbrev pub Listed : Type 0
Listed = List ℕ × (List (List Node) × (StockList × (ℕ × (ℕ × Unit {0}))))

-- the stocks of a list for a number of sites
abbrev pub with_sites : ℕ → List ℕ → StockList
with_sites n list = record { sites = n; list = list }

-- what stands after the price
module _ (format : ℕ) (c : CaseRows) (ts : List Token) where
  -- behind floors that are read, what stops the covers stops it all
  pub covers_stop : {V : Type 0} (v : V → List (List Node)) (w : Lists → Listed) (e : Stop BadLine) (f : List ℕ) (a left : List Token) → (floors (family_count c.parts)).read ts ≡ Ok (f, a)
      → Gathers {X = V} v (Err e) left ((covers format (family_count c.parts)).read a) → Gathers {X = Lists} w (Err e) left ((lists format c).read ts)
  covers_stop v w stop.NoMemory f a left h g = tt
  covers_stop v w (stop.Fault bad) f a left h g = rw (h, g) refl

  -- behind covers that are read, what stops the stocks stops it all
  pub stocks_stop : {V : Type 0} (v : V → List ℕ) (w : Lists → Listed) (e : Stop BadLine) (f : List ℕ) (k : List (List Node)) (a b left : List Token) → (floors (family_count c.parts)).read ts ≡ Ok (f, a)
      → (covers format (family_count c.parts)).read a ≡ Ok (k, b) → Gathers {X = V} v (Err e) left ((stock_lines (pair_count (frame_rows c))).read b) → Gathers {X = Lists} w (Err e) left ((lists format c).read ts)
  stocks_stop v w stop.NoMemory f k a b left h g i = tt
  stocks_stop v w (stop.Fault bad) f k a b left h g i = rw (h, g, i) refl

  -- behind stocks that are read, what stops the ending stops it all
  pub ending_stops : {V : Type 0} (v : V → ℕ × (ℕ × Unit {0})) (w : Lists → Listed) (e : Stop BadLine) (f : List ℕ) (k : List (List Node)) (s : List ℕ) (a b d left : List Token) → (floors (family_count c.parts)).read ts ≡ Ok (f, a)
      → (covers format (family_count c.parts)).read a ≡ Ok (k, b) → (stock_lines (pair_count (frame_rows c))).read b ≡ Ok (s, d) → Gathers {X = V} v (Err e) left (ending.read d) → Gathers {X = Lists} w (Err e) left ((lists format c).read ts)
  ending_stops v w stop.NoMemory f k s a b d left h g i j = tt
  ending_stops v w (stop.Fault bad) f k s a b d left h g i j = rw (h, g, i, j) refl

  -- floors, covers, stocks and the ending, each read behind the one before, are read as one
  pub all_read : (f : List ℕ) (k : List (List Node)) (s : List ℕ) (e : ℕ × (ℕ × Unit {0})) (a b d rest : List Token) → (floors (family_count c.parts)).read ts ≡ Ok (f, a)
      → (covers format (family_count c.parts)).read a ≡ Ok (k, b) → (stock_lines (pair_count (frame_rows c))).read b ≡ Ok (s, d) → ending.read d ≡ Ok (e, rest) → (lists format c).read ts ≡ Ok ((f, (k, (with_sites (length c.sites) s, e))), rest)
  all_read f k s e a b d rest h g i j = rw (h, g, i, j) refl
