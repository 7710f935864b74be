-- The vectors of a family, and the stocks of a case made of a vector. A vector lists the stocks of a family site by
-- site, the depot first, and at each site the line unit and then its shop units in part order.
use Rattle.std.specs.Prelude.{◌==◌, ℕ, suc, ◌-◌, ◌*◌, ◌≤◌, List, [], ◌∷◌, map, flat_map, length, take, drop, get_or, position}
use Rattle.std.specs.List.{range_with_len, AllZip}
use Rattle.std.specs.Option.{option_map_or}
use Rattle.spares_input.specs.Cases.{CaseRows}
use Rattle.spares_input.specs.Stocks.{StockList, limit_at}
use Rattle.fleet_model.specs.Rows.{all_parts, all_sites, stock}
use Rattle.fleet_model.specs.Fleet.{family}
use Rattle.family_points.specs.declared.bounds.Bounds.{Bounds}

-- a part at a site
pub record Pair : Type 0 where
  pub part : ℕ
  pub site : ℕ

-- the family of the line unit l at site k
abbrev pub places_at : CaseRows → ℕ → ℕ → List Pair
places_at c l k = map (λ p. record { part = p; site = k }) (family c l)

-- at all sites
abbrev pub places : CaseRows → ℕ → List Pair
places c l = flat_map (places_at c l) (all_sites c)

-- the stocks s at the places of the family
abbrev pub vector_of : CaseRows → ℕ → List ℕ → List ℕ
vector_of c l s = map (λ (x : Pair). stock c s x.part x.site) (places c l)

-- the largest stock of each place
abbrev pub limits : CaseRows → ℕ → List ℕ
limits c l = map (λ (x : Pair). limit_at c.parts x.part x.site) (places c l)

-- no stock at any place
abbrev pub zeros : CaseRows → ℕ → List ℕ
zeros c l = map (λ (x : Pair). 0) (places c l)

-- all vectors of a family from the held stocks to the limits
abbrev pub box_from : CaseRows → ℕ → List ℕ → Bounds
box_from c l held = record { held = vector_of c l held; low = vector_of c l held; high = limits c l }

-- ---- stocks that are made of vectors

-- the part of a vector that belongs to site k
abbrev pub site_part : CaseRows → ℕ → List ℕ → ℕ → List ℕ
site_part c l v k = take (length (family c l)) (drop (k * length (family c l)) v)

-- the stock of part p at site k, if the family has the stocks `own k` at each site k and no other part has any
abbrev pub stock_in : CaseRows → ℕ → (ℕ → List ℕ) → ℕ → ℕ → ℕ
stock_in c l own p k = option_map_or (λ i. get_or (own k) i 0) (position (λ q. q == p) (family c l)) 0

-- these stocks, by part and then by site
abbrev pub stocks_in : CaseRows → ℕ → (ℕ → List ℕ) → List ℕ
stocks_in c l own = flat_map (λ p. map (stock_in c l own p) (all_sites c)) (all_parts c)

-- the stocks of the case that has this vector of the family, and nothing else in stock
abbrev pub stocks_with : CaseRows → ℕ → List ℕ → List ℕ
stocks_with c l v = stocks_in c l (site_part c l v)

-- a list of stocks, read by the sites of the case
abbrev pub stock_list : CaseRows → List ℕ → StockList
stock_list c s = record { sites = length c.sites; list = s }

-- ---- boxes of vectors

-- all numbers from a to b
abbrev pub between : ℕ → ℕ → List ℕ
between a b = range_with_len a (suc b - a)

-- all lists from low to high, place by place, in dictionary order; none if the lengths differ
abbrev pub vectors : List ℕ → List ℕ → List (List ℕ)
vectors [] [] = [] ∷ []
vectors [] (b ∷ high) = []
vectors (a ∷ low) [] = []
vectors (a ∷ low) (b ∷ high) = flat_map (λ x. map (λ v. x ∷ v) (vectors low high)) (between a b)

-- v is one of them
pub record IsBetween (low high v : List ℕ) : Type 0 where
  pub least : AllZip (λ x y. x ≤ y) low v
  pub most : AllZip (λ x y. x ≤ y) v high
