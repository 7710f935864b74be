-- Allocations: which depths reach every stock of one, and the stocks of a case as one.
use Rattle.std.proofs.Common.{◌≡◌, ℕ, zero, suc, ◌+◌, ◌*◌, ◌/◌, ◌%◌, ◌<◌, ◌≤◌, ◌==◌, inl, inr, refl, sym, ap, ◌∙◌, subst, arith, le_trans}
use Rattle.std.specs.Prelude.{List, [], length, get_or, sum_by}
use Rattle.std.specs.List.{range_with_len}
use Rattle.std.proofs.lemmas.Nat.{div-add-mod', div-mul-add}
use Rattle.std.proofs.lemmas.List.{get_or_past}
use Rattle.std.proofs.lemmas.List.Sums.{sum_by-cons, sum-map}
use Rattle.std.proofs.Math.Nat.{mod-lt, div-lt_iff_lt-mul}
use Rattle.std.proofs.lemmas.Bool.{cases_lt}
use Rattle.list_laws.proofs.Public.{chosen_most, some_of_less}
use Rattle.spares_input.specs.Rows.{no_part}
use Rattle.spares_input.specs.Frames.{part_at}
use Rattle.spares_input.specs.Cases.{CaseRows, IsCase}
use Rattle.spares_input.specs.Stocks.{StockList, IsFor, IsWithinLimits, cost_of_stocks, limit_at, stock_at}
use Rattle.spares_input.specs.declared.rows.PartRow.{PartRow}
use Rattle.fleet_model.specs.Rows.{stock}
use Rattle.fleet_model.specs.Fleet.{IsAllocation, cost, part_cost}
use Rattle.fleet_model.specs.Laws.{Reaches}

-- ---- depths

-- a limit of a valid case is at most 63
pub limit_most : (c : CaseRows) (p k : ℕ) → IsCase c → p < length c.parts → limit_at c.parts p k ≤ 63
limit_most c p k h l =
    let row = h.frame.part_rows p no_part l in
    chosen_most (k == 0) (part_at c.parts p).max_depot (part_at c.parts p).max_base 63 row.max_depot row.max_base

stock_most : (c : CaseRows) (s : List ℕ) (i : ℕ) → IsCase c → IsAllocation c s → i < length c.parts * length c.sites → get_or s i 0 ≤ 63
stock_most c s i h a l =
    let part : i / length c.sites < length c.parts = (div-lt_iff_lt-mul (some_of_less i (length c.parts) (length c.sites) l)).1 l in
    subst (λ j. get_or s j 0 ≤ 63) (div-add-mod' i (length c.sites))
    (le_trans (a.within (i / length c.sites) (i % length c.sites) part (mod-lt i (some_of_less i (length c.parts) (length c.sites) l)))
    (limit_most c (i / length c.sites) (i % length c.sites) h part))

-- each depth from 62 on reaches the stocks of an allocation of a valid case
pub allocation_reaches : (c : CaseRows) (s : List ℕ) (n : ℕ) → IsCase c → IsAllocation c s → 62 ≤ n → Reaches c s n
allocation_reaches c s n h a l p k = elim (cases_lt (p * length c.sites + k) (length s)) [
  | inl i ↦ le_trans (stock_most c s (p * length c.sites + k) h a (subst (λ m. p * length c.sites + k < m) a.complete i)) (omega arith)
  | inr i ↦ omega (arith, get_or_past s (p * length c.sites + k) 0 i)
]

-- ---- the stocks of a case

-- the stock of a pair is the same in the list and in the stocks of a case
pub stock_holds : (c : CaseRows) (s : StockList) (p k : ℕ) → IsFor c s → stock c s.list p k ≡ stock_at s p k
stock_holds c s p k h = ap (λ n. get_or s.list (p * n + k) 0) (sym h.sites)

-- stocks of a case within its limits are an allocation
pub stocks_allocation : (c : CaseRows) (s : StockList) → IsFor c s → IsWithinLimits c s → IsAllocation c s.list
stocks_allocation c s h l = record {
  complete = h.pairs;
  within = λ p k lp lk. subst (λ n. n ≤ limit_at c.parts p k) (sym (stock_holds c s p k h)) (l p k lp lk);
}

-- ---- the cost by places

sum_shifted : (f : ℕ → ℕ) (b n a : ℕ) → sum_by f (range_with_len (b + a) n) ≡ sum_by (λ k. f (b + k)) (range_with_len a n)
sum_shifted f b zero a = refl
sum_shifted f b (suc n) a =
    let next : b + a + 1 ≡ b + (a + 1) = omega arith in
    sum_by-cons f (b + a) (range_with_len (b + a + 1) n)
    ∙ ap (λ m. f (b + a) + sum_by f (range_with_len m n)) next
    ∙ ap (λ m. f (b + a) + m) (sum_shifted f b n (a + 1))
    ∙ sym (sum_by-cons (λ k. f (b + k)) a (range_with_len (a + 1) n))

sum_split : (f : ℕ → ℕ) (m n a : ℕ) → sum_by f (range_with_len a (m + n)) ≡ sum_by f (range_with_len a m) + sum_by f (range_with_len (a + m) n)
sum_split f zero n a =
    let same_count : zero + n ≡ n = omega arith in
    let same_start : a ≡ a + zero = omega arith in
    ap (λ k. sum_by f (range_with_len a k)) same_count ∙ ap (λ b. sum_by f (range_with_len b n)) same_start ∙ omega arith
sum_split f (suc m) n a =
    let count : suc m + n ≡ suc (m + n) = omega arith in
    let start : a + 1 + m ≡ a + suc m = omega arith in
    ap (λ k. sum_by f (range_with_len a k)) count
    ∙ sum_by-cons f a (range_with_len (a + 1) (m + n))
    ∙ ap (λ k. f a + k) (sum_split f m n (a + 1))
    ∙ ap (λ b. f a + (sum_by f (range_with_len (a + 1) m) + sum_by f (range_with_len b n))) start
    ∙ omega (arith, sum_by-cons f a (range_with_len (a + 1) m))

sum_last : (g : ℕ → ℕ) (m : ℕ) → sum_by g (range_with_len 0 (suc m)) ≡ sum_by g (range_with_len 0 m) + g m
sum_last g m =
    let count : suc m ≡ m + 1 = omega arith in
    ap (λ k. sum_by g (range_with_len 0 k)) count ∙ sum_split g m 1 0
    ∙ ap (λ k. sum_by g (range_with_len 0 m) + k) (one (zero + m) ∙ ap g (omega arith))
  where
    one : (x : ℕ) → sum_by g (range_with_len x 1) ≡ g x
    one x = sum_by-cons g x [] ∙ omega arith

-- a sum over all places is a sum over the rows of places
sum_places : (f : ℕ → ℕ) (n m : ℕ) → sum_by f (range_with_len 0 (m * n)) ≡ sum_by (λ p. sum_by (λ k. f (p * n + k)) (range_with_len 0 n)) (range_with_len 0 m)
sum_places f n zero =
    let none : zero * n ≡ 0 = omega arith in
    ap (λ k. sum_by f (range_with_len 0 k)) none
sum_places f n (suc m) =
    let count : suc m * n ≡ m * n + n = omega arith in
    let start : zero + m * n ≡ m * n + 0 = omega arith in
    ap (λ k. sum_by f (range_with_len 0 k)) count
    ∙ sum_split f (m * n) n 0
    ∙ ap (λ b. sum_by f (range_with_len 0 (m * n)) + sum_by f (range_with_len b n)) start
    ∙ ap (λ k. sum_by f (range_with_len 0 (m * n)) + k) (sum_shifted f (m * n) n 0)
    ∙ ap (λ k. k + sum_by (λ k. f (m * n + k)) (range_with_len 0 n)) (sum_places f n m)
    ∙ sym (sum_last (λ p. sum_by (λ k. f (p * n + k)) (range_with_len 0 n)) m)

sum_each_in : (f g : ℕ → ℕ) (n a m : ℕ) → a + n ≤ m → ((x : ℕ) → x < m → f x ≡ g x) → sum_by f (range_with_len a n) ≡ sum_by g (range_with_len a n)
sum_each_in f g zero a m l h = refl
sum_each_in f g (suc n) a m l h =
    omega (
      arith,
      sum_by-cons f a (range_with_len (a + 1) n),
      sum_by-cons g a (range_with_len (a + 1) n),
      h a (omega arith),
      sum_each_in f g n (a + 1) m (omega arith) h,
    )

-- what the stock at a place costs
abbrev place_cost : List PartRow → ℕ → List ℕ → ℕ → ℕ
place_cost parts n xs i = get_or xs i 0 * (part_at parts (i / n)).cost

cost_of_its_part : (c : CaseRows) (s : StockList) (n p : ℕ) → n ≡ length c.sites
    → sum_by (λ k. place_cost c.parts n s.list (p * n + k)) (range_with_len 0 n) ≡ part_cost c s.list p
cost_of_its_part c s n p e =
    sum_each_in _ (λ k. get_or s.list (p * n + k) 0 * (part_at c.parts p).cost) n 0 n (omega arith)
    (λ k l. ap (λ q. get_or s.list (p * n + k) 0 * (part_at c.parts q).cost) (div-mul-add p n k l))
    ∙ ap (λ m. sum_by (λ k. get_or s.list (p * m + k) 0 * (part_at c.parts p).cost) (range_with_len 0 m)) e

-- stocks of a case cost as much as an allocation as they do as stocks
pub cost_holds : (c : CaseRows) (s : StockList) → IsFor c s → cost c s.list ≡ cost_of_stocks c s
cost_holds c s h =
    let pairs : length s.list ≡ length c.parts * s.sites = h.pairs ∙ ap (λ n. length c.parts * n) (sym h.sites) in
    sym (
    sum-map (place_cost c.parts s.sites s.list) (range_with_len 0 (length s.list))
    ∙ ap (λ m. sum_by (place_cost c.parts s.sites s.list) (range_with_len 0 m)) pairs
    ∙ sum_places (place_cost c.parts s.sites s.list) s.sites (length c.parts)
    ∙ sum_each_in _ (part_cost c s.list) (length c.parts) 0 (length c.parts) (omega arith) (λ p l. cost_of_its_part c s s.sites p h.sites)
    )
