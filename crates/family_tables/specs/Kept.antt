-- The tables that an evaluator keeps, and their keys.
use Rattle.std.specs.Prelude.{◌≡◌, ◌==◌, ◌&&◌, ◌+◌, ◌-◌, ◌<◌, ◌≤◌, ◌⊎◌, ℕ, zero, suc, Bool, true, false, bytes_eq, List, [], ◌∷◌, ◌++◌, length, get_or, map, flat_map, position, unwrap_or, if◌then◌else◌}
use Rattle.std.specs.List.{All, list_any, range_with_len}
use Rattle.std.specs.Option.{option_map_or}
use Rattle.moment_table.specs.Rows.{TableRows, at_stock}
use Rattle.depot_pipeline.specs.declared.Moments.{Moments}
use Rattle.spares_input.specs.Limits.{most_stock}
use Rattle.spares_input.specs.Stocks.{HasPair, StockList, stock_at}
use Rattle.family_items.specs.declared.item.Item.{Item}
use Rattle.family_tables.specs.declared.keys.Key.{Key}
use Rattle.family_tables.specs.declared.keys.Kept.{Kept}
use Rattle.family_numbers.specs.Numbers.{FamilyNumbers, nth_stock, base_shop_moments, depot_line_moments, depot_shop_moments, pair_at, rows_of, shop_numbers, table_of}

-- an evaluator as contracts see it: the numbers of its family, and the keys of the kept tables. A key is a place in the
-- family, a site and the stocks on which the pair's pipeline depends: none for a shop unit at the depot, the shop
-- units' stocks there for the line unit at the depot, and its own stock at the depot for a shop unit at a base.
pub record Evaluation (f : ℕ) : Type 0 where
  pub numbers : FamilyNumbers f
  pub keys : List Key

-- the pipeline at a place and a site, at the stocks of a key
abbrev pub moments_at : (f : ℕ) → FamilyNumbers f → ℕ → ℕ → List ℕ → Moments f
moments_at f x zero k s = depot_line_moments f x s
moments_at f x (suc i) zero s = depot_shop_moments f x i
moments_at f x (suc i) (suc k) s = base_shop_moments f x i (suc k) (nth_stock s 0)

-- its table, stored up to the limit of that place and site
abbrev pub table_at : (f : ℕ) → FamilyNumbers f → ℕ → ℕ → List ℕ → TableRows f
table_at f x i k s = table_of f (moments_at f x i k s) (pair_at x i k).limit

-- the pipeline of a key
abbrev pub key_moments : (f : ℕ) → FamilyNumbers f → Key → Moments f
key_moments f x key = moments_at f x key.place key.site.0 key.stocks

-- the table of a key
abbrev pub key_table : (f : ℕ) → FamilyNumbers f → Key → TableRows f
key_table f x key = table_at f x key.place key.site.0 key.stocks

-- the pipeline and the table are those of the key
pub record IsKept (f : ℕ) (x : FamilyNumbers f) (y : Kept f) : Type 0 where
  pub moments : y.moments ≡ key_moments f x y.key
  pub table : y.table ≡ key_table f x y.key

-- whether a key has this place, this site and these stocks
abbrev pub is_key : Key → ℕ → ℕ → List ℕ → Bool
is_key key i k s = (key.place == i) && (key.site.0 == k) && bytes_eq key.stocks s

-- whether one of the keys has this place, this site and these stocks
abbrev pub is_among : List Key → ℕ → ℕ → List ℕ → Bool
is_among keys i k s = list_any (λ key. is_key key i k s) keys

-- whether the table of part p at site k with these stocks is kept
abbrev pub is_kept : {f : ℕ} → Evaluation f → ℕ → ℕ → List ℕ → Bool
is_kept e p k s = option_map_or (λ i. is_among e.keys i k s) (position (λ q. q == p) e.numbers.parts) false

-- that table
abbrev pub table_kept : (f : ℕ) → Evaluation f → ℕ → ℕ → List ℕ → TableRows f
table_kept f e p k s = table_at f e.numbers (unwrap_or (position (λ q. q == p) e.numbers.parts) 0) k s

-- the stocks on which the pipeline of place i at site k depends, where the depot has the stocks d of the shop units
abbrev pub key_stocks : ℕ → ℕ → List ℕ → List ℕ
key_stocks zero k d = d
key_stocks (suc i) zero d = []
key_stocks (suc i) (suc k) d = nth_stock d i ∷ []

-- ---- which keys come

-- a key that the family can have: no stock for a shop unit at the depot, one for each shop unit for the line unit
-- there, and one for a shop unit at a base
pub record IsKey {f : ℕ} (x : FamilyNumbers f) (key : Key) : Type 0 where
  pub place : key.place < length x.parts
  pub site : key.site.0 < x.sites
  pub depot : key.place ≡ 0 → (key.site.0 ≡ 0) × (length key.stocks ≡ length x.parts - 1)
  pub base : 0 < key.place → 0 < key.site.0 → length key.stocks ≡ 1
  pub stocks : All (λ n. n ≤ most_stock) key.stocks

-- the key of place i at site k with these stocks
abbrev pub key_at : ℕ → ℕ → List ℕ → Key
key_at i k s = record { place = i; site = record { 0 = k }; stocks = s }

-- the key of shop unit i at site k, with the stocks d of the shop units at the depot
abbrev pub shop_key : List ℕ → ℕ → ℕ → Key
shop_key d i k = key_at (suc i) k (key_stocks (suc i) k d)

-- the keys that belong to the stocks d of the shop units at the depot: each shop unit's by site, and the line unit's
abbrev pub keys_of : {f : ℕ} → FamilyNumbers f → List ℕ → List Key
keys_of x d = flat_map (λ i. map (shop_key d i) (range_with_len 0 x.sites)) (shop_numbers x) ++ key_at 0 0 d ∷ []

-- the stocks of the shop units at the depot, among those of a case
abbrev pub depot_stocks : {f : ℕ} → FamilyNumbers f → StockList → List ℕ
depot_stocks x s = map (λ i. stock_at s (get_or x.parts (i + 1) 0) 0) (shop_numbers x)

-- no key is removed, and only given ones are added
abbrev pub Grows : List Key → List Key → List Key → Type 0
Grows given old new =
    (i k : ℕ) (s : List ℕ)
    → (is_among old i k s ≡ true → is_among new i k s ≡ true)
    × (is_among new i k s ≡ true → (is_among old i k s ≡ true) ⊎ (is_among given i k s ≡ true))

-- all given keys are present
abbrev pub Has : List Key → List Key → Type 0
Has given new = (i k : ℕ) (s : List ℕ) → is_among given i k s ≡ true → is_among new i k s ≡ true

-- the keys once this one is there: at the end, if it isn't among them
abbrev pub with_key : List Key → Key → List Key
with_key keys key = if is_among keys key.place key.site.0 key.stocks then keys else keys ++ key ∷ []

-- the keys once all given ones are there: those that are missing come at the end in order, each once
abbrev pub with_keys : List Key → List Key → List Key
with_keys keys [] = keys
with_keys keys (key ∷ rest) = with_keys (with_key keys key) rest

-- ---- the items of keys

-- there is a stock of at most 63 for each part of the family at each site
pub record HaveStocks {f : ℕ} (x : FamilyNumbers f) (s : StockList) : Type 0 where
  pub pairs : (i k : ℕ) → i < length x.parts → k < x.sites → HasPair s (get_or x.parts i 0) k
  pub most : (i k : ℕ) → i < length x.parts → k < x.sites → stock_at s (get_or x.parts i 0) k ≤ most_stock

-- the item of a key's pair, at the stocks s of a case
abbrev pub key_item : (f : ℕ) → FamilyNumbers f → StockList → Key → Item f
key_item f x s key =
    let stock = stock_at s (get_or x.parts key.place 0) key.site.0 in
    let moments = key_moments f x key in
    record {
      part = record { 0 = get_or x.parts key.place 0 };
      site = key.site;
      stock = stock;
      mean = moments.mean;
      variance = moments.variance;
      backorders = (at_stock (rows_of f moments) stock).ebo;
      spread = (at_stock (rows_of f moments) stock).vbo;
    }
