-- Stocks of the case, as keys have them.
use Rattle.std.proofs.Common.{◌≡◌, ℕ, ◌+◌, ◌≤◌, length, get_or, sym, subst, arith, ◌-◌, le_trans}
use Rattle.spares_input.specs.Cases.{CaseRows, IsCase}
use Rattle.spares_input.specs.Stocks.{IsFor, IsWithinLimits, StockList, stock_at}
use Rattle.std.specs.List.{All}
use Rattle.std.proofs.lemmas.List.FromFn.{length-map-range_with_len}
use Rattle.list_laws.proofs.Public.{all_numbered}
use Rattle.family_tables.specs.Kept.{HaveStocks, depot_stocks}
use Rattle.fleet_model.specs.Fleet.{family}
use Rattle.fleet_model.proofs.Public.{limit_most}
use Rattle.family_items.specs.Inputs.{IsLine}
use Rattle.family_numbers.specs.Numbers.{AreNumbers, FamilyNumbers, numbers_of}
use Rattle.family_items.proofs.Public.{member_in_case, pair_in}

-- ---- stocks of the case

-- stocks of the case within its limits have one of at most 63 for each part of the family at each site
pub stocks_there : (f : ℕ) (c : CaseRows) (l : ℕ) (s : StockList) (x : FamilyNumbers f) → IsCase c → IsLine c l → IsFor c s → IsWithinLimits c s → x ≡ numbers_of f c l
    → HaveStocks x s
stocks_there f c l s x valid line for within e =
    subst (λ (y : FamilyNumbers f). HaveStocks y s) (sym e) (record {
      pairs = λ i k h m. pair_in c s (get_or (family c l) i 0) k for (member_in_case c l i valid line h) m;
      most = λ i k h m. (let p = member_in_case c l i valid line h in le_trans (within (get_or (family c l) i 0) k p m) (limit_most c (get_or (family c l) i 0) k valid p));
    })

-- then the shop units' stocks at the depot are at most 63
pub stocks_few : (f : ℕ) (x : FamilyNumbers f) (s : StockList) → AreNumbers f x → HaveStocks x s → All (λ n. n ≤ 63) (depot_stocks x s)
stocks_few f x s are have =
    all_numbered (λ n. n ≤ 63) (λ i. stock_at s (get_or x.parts (i + 1) 0) 0) (length x.parts - 1)
    (λ i h. have.most (i + 1) 0 (omega (arith, h)) (omega (arith, are.fewest_sites)))

-- there is such a stock for each shop unit
pub stocks_count : (f : ℕ) (x : FamilyNumbers f) (s : StockList) → length (depot_stocks x s) ≡ length x.parts - 1
stocks_count f x s = length-map-range_with_len (λ i. stock_at s (get_or x.parts (i + 1) 0) 0) 0 (length x.parts - 1)
