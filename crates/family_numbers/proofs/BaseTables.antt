-- The tables of the shop units at the bases: how the lists are made, and what is read of them.
use Rattle.std.proofs.Common.{◌≡◌, ℕ, suc, ◌+◌, ◌-◌, ◌<◌, ◌≤◌, List, [], ◌∷◌, length, get_or, map, ap, ◌∙◌, arith}
use Rattle.std.specs.List.{range_with_len, AllZip}
use Rattle.std.proofs.lemmas.List.Elements.{AllZip-get_or}
use Rattle.list_laws.proofs.Public.{count_from, read_from}
use Rattle.moment_table.specs.Rows.{TableRows}
use Rattle.family_numbers.specs.declared.base_shops.BaseShops.{BaseShops}
use Rattle.family_numbers.specs.BaseTables.{AreShopBounds, HaveShops, tables_by_shop, tables_by_stock}
use Rattle.family_numbers.specs.Numbers.{FamilyNumbers, nth_stock}

-- the bounds of a shop unit are in order, and at most 63
pub record IsShopBound (low high : List ℕ) (i : ℕ) : Type 0 where
  pub order : nth_stock low i ≤ nth_stock high i
  pub most : nth_stock high i ≤ 63
  pub inside : (i < length low) × (i < length high)

zipped : (xs ys : List ℕ) → AllZip (λ a b. a ≤ b) xs ys → length xs ≡ length ys
zipped [] [] h = omega arith
zipped [] (y ∷ ys) h = absurd h
zipped (x ∷ xs) [] h = absurd h
zipped (x ∷ xs) (y ∷ ys) h = omega (arith, zipped xs ys h.1)

-- each shop unit's bounds are such
pub bound_of : {f : ℕ} (x : FamilyNumbers f) (low high : List ℕ) → AreShopBounds x low high → (i : ℕ) → i < length x.parts - 1 → IsShopBound low high i
bound_of x low high are i h =
    let same = zipped low high are.order in record {
      order = AllZip-get_or (λ a b. a ≤ b) low high i 0 0 are.order (omega (arith, h, are.count));
      most = are.most i 0 (omega (arith, h, are.count, same));
      inside = (omega (arith, h, are.count), omega (arith, h, are.count, same));
    }

-- the stock of a shop unit is within its bounds
pub record IsWithin (low high d : List ℕ) (i : ℕ) : Type 0 where
  pub least : nth_stock low i ≤ nth_stock d i
  pub most : nth_stock d i ≤ nth_stock high i
  pub inside : (i < length low) × (i < length d)
  pub place : nth_stock d i - nth_stock low i < suc (nth_stock high i) - nth_stock low i
  pub back : nth_stock d i ≡ nth_stock low i + (nth_stock d i - nth_stock low i)

-- each stock of such a list is within its bounds
pub within_of : {f : ℕ} (x : FamilyNumbers f) (d : List ℕ) (t : BaseShops f) (have : HaveShops f x d t) (i : ℕ) → i < length x.parts - 1 → IsWithin have.low have.high d i
within_of x d t have i h =
    let count = have.bounds.count in
    let same = zipped have.low d have.least in
    let least : nth_stock have.low i ≤ nth_stock d i = AllZip-get_or (λ a b. a ≤ b) have.low d i 0 0 have.least (omega (arith, h, count)) in
    let most : nth_stock d i ≤ nth_stock have.high i = AllZip-get_or (λ a b. a ≤ b) d have.high i 0 0 have.most (omega (arith, h, count, same)) in
    record {
      least = least;
      most = most;
      inside = (omega (arith, h, count), omega (arith, h, count, same));
      place = omega (arith, least, most);
      back = omega (arith, least);
    }

-- ---- reading: by base, by shop unit, by its stock at the depot

module _ (f : ℕ) (x : FamilyNumbers f) (low high : List ℕ) (k : ℕ) where
  -- there is a list for each base
  pub bases_long : (bases : List (List (List (TableRows f)))) → bases ≡ map (tables_by_shop f x low high) (range_with_len 1 (x.sites - 1)) → 0 < k → k < x.sites → k - 1 < length bases
  bases_long bases e some m = count_from (tables_by_shop f x low high) 1 (x.sites - 1) (k - 1) bases e (omega (arith, some, m))

  -- it has the tables there
  pub read_base : (bases : List (List (List (TableRows f)))) (shops : List (List (TableRows f))) → bases ≡ map (tables_by_shop f x low high) (range_with_len 1 (x.sites - 1)) → 0 < k → k < x.sites
      → shops ≡ get_or bases (k - 1) shops → shops ≡ tables_by_shop f x low high k
  read_base bases shops e some m r =
      read_from (tables_by_shop f x low high) 1 (x.sites - 1) (k - 1) k bases shops e (omega (arith, some, m)) (omega (arith, some)) r

  -- there is a list for each shop unit at a base
  pub shops_long : (i : ℕ) (shops : List (List (TableRows f))) → shops ≡ tables_by_shop f x low high k → i < length x.parts - 1 → i < length shops
  shops_long i shops e h = count_from (λ i. tables_by_stock f x k i (nth_stock low i) (nth_stock high i)) 0 (length x.parts - 1) i shops e h

  -- it has the unit's tables
  pub read_shop : (i : ℕ) (shops : List (List (TableRows f))) (stocks : List (TableRows f)) → shops ≡ tables_by_shop f x low high k → i < length x.parts - 1
      → stocks ≡ get_or shops i stocks → stocks ≡ tables_by_stock f x k i (nth_stock low i) (nth_stock high i)
  read_shop i shops stocks e h r =
      read_from (λ i. tables_by_stock f x k i (nth_stock low i) (nth_stock high i)) 0 (length x.parts - 1) i i shops stocks e h (omega arith) r

-- the shop units' tables at base k, where the lists have the tables for the stocks d
pub shops_are : (f : ℕ) (x : FamilyNumbers f) (d : List ℕ) (t : BaseShops f) (have : HaveShops f x d t) (k n : ℕ) (bases : List (List (List (TableRows f)))) (shops now : List (List (TableRows f)))
    → bases ≡ t.tables → n ≡ k → 0 < k → k < x.sites → shops ≡ get_or bases (n - 1) shops → now ≡ shops → now ≡ tables_by_shop f x have.low have.high k
shops_are f x d t have k n bases shops now e same some m r h =
    h ∙ read_base f x have.low have.high k bases shops (e ∙ have.are.tables) some m (r ∙ ap (λ i. get_or bases (i - 1) shops) same)
