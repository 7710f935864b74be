-- Which rule a row of stocks breaks, and what rows that break none give.
use Rattle.std.proofs.Common.{◌≡◌, ℕ, ◌+◌, ◌*◌, ◌/◌, ◌<◌, ◌≤◌, ◌∷◌, [], ◌++◌, List, length, get_or, map, take, Bool, true, false, nat_lt, Option, Some, None, Result, Ok, Err, IfOk, Vec, Global, slice_get, if◌then◌else◌, unwrap_or, sum, replicate, refl, sym, ap, subst, ◌∙◌, arith, lt_of_lt_of_le, mul-le-mul, ◌%◌}
use Rattle.std.specs.List.{All, range_with_len}
use Rattle.std.specs.Option.{option_map}
use Rattle.std.proofs.lemmas.Bool.{lt-ltb, le-ltb, ltb-false}
use Rattle.std.proofs.lemmas.List.{take_more, map-append, length-map, length-replicate, get_or-map, get_or-replicate}
use Rattle.std.proofs.lemmas.List.Elements.{All-from_get_or}
use Rattle.std.proofs.lemmas.List.FromFn.{fill_by_all, length-map-range_with_len, sum_by-map-range_with_len_more}
use Rattle.std.proofs.lemmas.Nat.{mul-le, same_from_place}
use Rattle.std.proofs.lemmas.Nat.{rows as rows_fit}
use Rattle.std.proofs.lemmas.Option.{slice_get-map, unwrap_or-slice_get}
use Rattle.std.proofs.lemmas.Simd.{map-map}
use mir.Val.{Fits}
use mir.Syntax.{w64}
use Rattle.spares_input.specs.First.{first}
use Rattle.spares_input.specs.Rows.{no_stock}
use Rattle.spares_input.specs.Frames.{part_at}
use Rattle.spares_input.specs.Pairs.{has_row, row_at, rows_in_order}
use Rattle.spares_input.specs.Cases.{CaseRows, frame_rows, pair_count}
use Rattle.spares_input.specs.Stocks.{IsFor, IsStockOf, IsWithinLimits, limit_at, missing_stock, nothing_held, StockList, stock_fault, stock_place, stocks_fault, stocks_in_order}
use Rattle.spares_input.specs.Building.{ArePlaced, missing_stock_at}
use Rattle.spares_input.specs.declared.rows.StockRow.{StockRow}
use Rattle.spares_input.specs.declared.fault.StockFault.TheVariants as fault
use Rattle.spares_input.proofs.Firsts.{first_none, or_else_none}
use Rattle.spares_input.proofs.PlaceFacts.{at_place}
use Rattle.std.proofs.Math.Nat.{mul-mod_left}
use Rattle.list_laws.proofs.Public.{place_fits, zero_most}

module _ (c : CaseRows) (rows : List StockRow) (k limit : ℕ) where
  -- a row with a stock over its limit is refused for it, by its line
  pub stock_fault_over : limit ≡ limit_at c.parts (get_or rows k no_stock).part.0 (get_or rows k no_stock).site.0
      → limit < (get_or rows k no_stock).stock → stock_fault c rows k ≡ Some (fault.OverLimit (k + 2))
  stock_fault_over e over =
      let test : nat_lt (limit_at c.parts (get_or rows k no_stock).part.0 (get_or rows k no_stock).site.0) (get_or rows k no_stock).stock ≡ true =
      lt-ltb _ (get_or rows k no_stock).stock (rw e at over) in
      rw test refl

  -- a row within its limit whose pair came before is refused as double, by its line
  pub stock_fault_double : (n : ℕ) → limit ≡ limit_at c.parts (get_or rows k no_stock).part.0 (get_or rows k no_stock).site.0
      → (get_or rows k no_stock).stock ≤ limit → n ≡ length c.sites → has_row (stock_place n) (take k rows) (stock_place n (get_or rows k no_stock)) ≡ true
      → stock_fault c rows k ≡ Some (fault.Double (k + 2))
  stock_fault_double n e within sites before =
      let test : nat_lt (limit_at c.parts (get_or rows k no_stock).part.0 (get_or rows k no_stock).site.0) (get_or rows k no_stock).stock ≡ false =
      le-ltb _ (get_or rows k no_stock).stock (rw e at within) in
      rw (test, ← sites, before) refl

  -- a row within its limit whose pair didn't come before breaks no rule
  pub stock_fault_none : (n : ℕ) → limit ≡ limit_at c.parts (get_or rows k no_stock).part.0 (get_or rows k no_stock).site.0
      → (get_or rows k no_stock).stock ≤ limit → n ≡ length c.sites → has_row (stock_place n) (take k rows) (stock_place n (get_or rows k no_stock)) ≡ false
      → stock_fault c rows k ≡ None
  stock_fault_none n e within sites before =
      let test : nat_lt (limit_at c.parts (get_or rows k no_stock).part.0 (get_or rows k no_stock).site.0) (get_or rows k no_stock).stock ≡ false =
      le-ltb _ (get_or rows k no_stock).stock (rw e at within) in
      rw (test, ← sites, before) refl

-- with the stock of the next place appended, the stocks are those of one place more
pub stocks_more : (list : List ℕ) (slots : List (Option StockRow)) (i : ℕ) (r : StockRow) → i < length slots → get_or slots i None ≡ Some r
    → map (λ s. Some s) list ≡ map (option_map (λ r. r.stock)) (take i slots)
    → map (λ s. Some s) (list ++ r.stock ∷ []) ≡ map (option_map (λ r. r.stock)) (take (i + 1) slots)
stocks_more list slots i r h e before =
    map-append (λ s. Some s) list (r.stock ∷ []) ∙ (rw before (sym (rw (take_more slots i None h, e) (map-append (option_map (λ (r : StockRow). r.stock)) (take i slots) (Some r ∷ [])))))

unwrap_mapped : {A B : Type 0} (g : A → B) (o : Option A) (none : A) → unwrap_or (option_map g o) (g none) ≡ g (unwrap_or o none)
unwrap_mapped g None none = refl
unwrap_mapped g (Some x) none = refl

read_back : (o : Option ℕ) (p : Option ℕ) → ◌≡◌ {A = Option (Option ℕ)} (option_map (λ x. Some x) o) (Some p) → o ≡ p
read_back None p h = cc
read_back (Some x) p h = cc

-- the stocks at the places are those of the rows there
stocks_there : (place : StockRow → ℕ) (rows : List StockRow) (count : ℕ) (slots : List (Option StockRow)) (list : List ℕ) → ArePlaced place count rows slots
    → map (λ s. Some s) list ≡ map (option_map (λ r. r.stock)) slots → list ≡ map (λ r. r.stock) (rows_in_order place no_stock count rows)
stocks_there place rows count slots list placed e =
    let stock : StockRow → ℕ = λ r. r.stock in
    let len : length list ≡ count =
    sym (length-map list (λ s. Some s)) ∙ (ap (λ (t : List (Option ℕ)). length t) e ∙ (length-map slots (option_map stock) ∙ placed.whole)) in
    let whole : list ≡ map (λ i. stock (unwrap_or (row_at place rows i) no_stock)) (range_with_len 0 count) =
    fill_by_all (λ i. stock (unwrap_or (row_at place rows i) no_stock)) list count 0 len (λ k h.
    let same : slice_get list k ≡ option_map stock (row_at place rows k) =
    read_back (slice_get list k) (option_map stock (row_at place rows k)) (
    sym (slice_get-map (λ s. Some s) list k)
    ∙ (ap (λ (t : List (Option ℕ)). slice_get t k) e ∙ (slice_get-map (option_map stock) slots k ∙ ap (option_map (option_map stock)) (placed.each k h)))) in
    sym (unwrap_or-slice_get list k 0) ∙ (ap (λ o. unwrap_or o 0) same ∙ unwrap_mapped stock (row_at place rows k) no_stock)) in
    whole ∙ sym (map-map stock (λ i. unwrap_or (row_at place rows i) no_stock) (range_with_len 0 count))

-- where each place has a row, the stocks found are the stocks by place
pub all_stocks : {E : Type 0} (c : CaseRows) (rows : List StockRow) (slots : List (Option StockRow)) (r : Result (Vec ℕ Global) E)
    → ArePlaced (stock_place (length c.sites)) (pair_count (frame_rows c)) rows slots
    → IfOk r (λ v. map (λ s. Some s) v.items ≡ map (option_map (λ r. r.stock)) slots) → IfOk r (λ v. v.items ≡ stocks_in_order c rows)
all_stocks c rows slots (Err e) placed h = tt
all_stocks c rows slots (Ok v) placed h = stocks_there (stock_place (length c.sites)) rows (pair_count (frame_rows c)) slots v.items placed h

-- rows that break no rule are within their limits
over_none : {A : Type 0} (a b : Bool) (x y : A) → (if a then Some x else if b then Some y else None) ≡ None → a ≡ false
over_none true b x y h = cc
over_none false b x y h = refl

module _ (c : CaseRows) (rows : List StockRow) (valid : All (IsStockOf (frame_rows c)) rows) (none : stocks_fault c rows ≡ None) where
  IsFine : StockRow → Type 0
  IsFine r = IsStockOf (frame_rows c) r × (r.stock ≤ limit_at c.parts r.part.0 r.site.0)

  all_fine : All IsFine rows
  unfolding IsFine
  all_fine = All-from_get_or IsFine rows no_stock (λ k h.
      let rules = or_else_none (first (stock_fault c rows) (length rows)) _ none in
      let r = get_or rows k no_stock in
      (valid k no_stock h, ltb-false (limit_at c.parts r.part.0 r.site.0) r.stock (over_none _ _ _ _ (first_none (stock_fault c rows) (length rows) k rules.0 h))))

  -- the stocks that rows without a fault give are within their limits
  pub stocks_within : 2 ≤ length c.sites → (list : List ℕ) → list ≡ stocks_in_order c rows → IsWithinLimits c (record { sites = length c.sites; list = list })
  unfolding IsFine
  stocks_within some list e p k part site =
      let n = length c.sites in
      let within : p * n + k < pair_count (frame_rows c) = grind (arith, rows_fit) in
      let rules = or_else_none (first (stock_fault c rows) (length rows)) _ none in
      let all = or_else_none (first (missing_stock n rows) (pair_count (frame_rows c))) None rules.1 in
      let at = at_place (stock_place n) (missing_stock_at n) IsFine rows no_stock (pair_count (frame_rows c)) all_fine all.0 (p * n + k) within in
      let r = get_or (rows_in_order (stock_place n) no_stock (pair_count (frame_rows c)) rows) (p * n + k) no_stock in
      let pair = same_from_place r.part.0 r.site.0 p k n at.0.0.site site at.1 in
      let long : p * n + k < length (rows_in_order (stock_place n) no_stock (pair_count (frame_rows c)) rows) =
      rw (length-map-range_with_len (λ i. unwrap_or (row_at (stock_place n) rows i) no_stock) 0 (pair_count (frame_rows c))) within in
      let read : get_or list (p * n + k) 0 ≡ r.stock = rw e (get_or-map (λ (x : StockRow). x.stock) (rows_in_order (stock_place n) no_stock (pair_count (frame_rows c)) rows) (p * n + k) no_stock 0 long) in
      let limit : limit_at c.parts r.part.0 r.site.0 ≡ limit_at c.parts p k = λ i. limit_at c.parts (pair.0 i) (pair.1 i) in
      rw read (subst (λ m. r.stock ≤ m) limit at.0.1)

-- there is a stock for each pair
pub stocks_long : (c : CaseRows) (rows : List StockRow) → length (stocks_in_order c rows) ≡ pair_count (frame_rows c)
stocks_long c rows =
    length-map (rows_in_order (stock_place (length c.sites)) no_stock (pair_count (frame_rows c)) rows) (λ (r : StockRow). r.stock)
    ∙ length-map-range_with_len (λ i. unwrap_or (row_at (stock_place (length c.sites)) rows i) no_stock) 0 (pair_count (frame_rows c))

-- one more pair of a sum
pub cost_more : (cost : ℕ → ℕ) (i : ℕ) → sum (map cost (range_with_len 0 (i + 1))) ≡ sum (map cost (range_with_len 0 i)) + cost i
cost_more cost i = sum_by-map-range_with_len_more (λ x. x) cost 0 i i (omega arith)

-- the cost so far and that of the stock at the next place are the cost of one place more
pub cost_step : (c : CaseRows) (s : StockList) (i cost stock each : ℕ)
    → cost ≡ sum (map (λ i. get_or s.list i 0 * (part_at c.parts (i / s.sites)).cost) (range_with_len 0 i))
    → stock ≡ get_or s.list i 0 → each ≡ (part_at c.parts (i / s.sites)).cost
    → cost + stock * each ≡ sum (map (λ i. get_or s.list i 0 * (part_at c.parts (i / s.sites)).cost) (range_with_len 0 (i + 1)))
cost_step c s i cost stock each before e f =
    sym (cost_more (λ i. get_or s.list i 0 * (part_at c.parts (i / s.sites)).cost) i ∙ rw (← before, ← e, ← f) refl)

-- the cost of stocks below 256 at costs of at most 10^8 stays below 255 times that for each place
pub cost_bound : (i cost stock each : ℕ) → cost ≤ i * 25500000000 → stock < 256 → each ≤ 100000000 → cost + stock * each ≤ (i + 1) * 25500000000
cost_bound i cost stock each before few cheap =
    let most : stock * each ≤ 255 * 100000000 = mul-le-mul {n₁ = stock} {m₁ = each} {n₂ = 255} {m₂ = 100000000} (omega arith) cheap in
    omega (arith, before, most)

-- so the cost of the stocks at all places fits 64 bits
pub cost_fits : (i a n total : ℕ) → a ≤ 2000 → n ≤ 16 → i < a * n → total ≤ (i + 1) * 25500000000 → Fits w64 total
cost_fits i a n total few_parts few_sites within most = small i total (lt_of_lt_of_le within (mul-le a n 2000 16 few_parts few_sites)) most
  where
    small : (i total : ℕ) → i < 32000 → total ≤ (i + 1) * 25500000000 → Fits w64 total
    small i total few most = omega (arith, few, most)

-- as many entries as whole rows of sites leave no rest when divided by the sites
pub whole_rows : (n a b sites : ℕ) → n ≡ a * b → b ≡ sites → n % sites ≡ 0
whole_rows n a b sites e f = ap (λ z. z % sites) (e ∙ ap (λ z. a * z) f) ∙ mul-mod_left a sites

-- ---- nothing held

-- a list of as many zeros as there are pairs, with the number of sites, holds nothing
pub none_held : (c : CaseRows) (held : StockList) (s a b : ℕ) (list : List ℕ) → held ≡ record { sites = s; list = list } → s ≡ length c.sites
    → list ≡ replicate (a * b) 0 → a ≡ length c.parts → b ≡ length c.sites → held ≡ nothing_held c
none_held c held s a b list e sites zeros parts same = e ∙ rw (zeros, sites, parts, same) refl

-- which is a stock for each pair
pub none_whole : (c : CaseRows) (held : StockList) → held ≡ nothing_held c → IsFor c held
none_whole c held e = subst (IsFor c) (sym e) (record { sites = refl; pairs = length-replicate (pair_count (frame_rows c)) 0 })

-- and over no limit
pub none_within : (c : CaseRows) (held : StockList) → held ≡ nothing_held c → IsWithinLimits c held
none_within c held e =
    subst (IsWithinLimits c) (sym e)
    (λ p k part site. zero_most _ (limit_at c.parts p k)
    (get_or-replicate (pair_count (frame_rows c)) (p * length c.sites + k) 0 0 (place_fits p k (length c.parts) (length c.sites) part site)))
