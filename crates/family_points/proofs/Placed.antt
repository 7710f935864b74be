-- What stands at the places of a family's vectors, site by site.
use Rattle.std.proofs.Common.{◌≡◌, ℕ, ◌<◌, List, [], ◌∷◌, length, get_or, map, flat_map, refl, sym, ap, ◌∙◌}
use Rattle.std.specs.List.{range_with_len}
use Rattle.std.proofs.lemmas.Simd.{map-map}
use Rattle.list_laws.proofs.Public.{each_any, map_flat, same_flat, same_map}
use Rattle.spares_input.specs.declared.rows.PartId.{PartId}
use Rattle.spares_input.specs.Stocks.{HasPair, IsFor, StockList, stock_at}
use Rattle.spares_input.specs.Cases.{CaseRows, IsCase}
use Rattle.fleet_model.specs.Rows.{stock}
use Rattle.fleet_model.specs.Fleet.{family}
use Rattle.fleet_model.proofs.Public.{stock_holds}
use Rattle.family_items.specs.Inputs.{IsLine}
use Rattle.family_items.proofs.Public.{pair_in}
use Rattle.family_points.specs.Vectors.{Pair, places, places_at, vector_of}
use Rattle.family_points.proofs.Whole.{ids_within}

-- what each place has, site by site
rows : {X : Type 0} (f : Pair → X) (c : CaseRows) (l : ℕ)
    → map f (places c l) ≡ flat_map (λ k. map (λ p. f (record { part = p; site = k })) (family c l)) (range_with_len 0 (length c.sites))
rows f c l =
    let own : ℕ → ℕ → Pair = λ k p. record { part = p; site = k } in
    map_flat f (places_at c l) (range_with_len 0 (length c.sites))
    ∙ same_flat (λ k. Unit {0}) (λ k. map f (places_at c l k)) (λ k. map (λ p. f (own k p)) (family c l)) (range_with_len 0 (length c.sites))
    (λ k _. map-map f (own k) (family c l)) (each_any (range_with_len 0 (length c.sites)))

-- the vector of some stocks is, site by site, the stocks of the family's parts there
pub vector_rows : (c : CaseRows) (l : ℕ) (s : List ℕ) → vector_of c l s ≡ flat_map (λ k. map (λ p. stock c s p k) (family c l)) (range_with_len 0 (length c.sites))
vector_rows c l s = rows (λ (x : Pair). stock c s x.part x.site) c l

same_list : (xs : List ℕ) → map (λ p. p) xs ≡ xs
same_list [] = refl
same_list (x ∷ xs) = ap (λ (r : List ℕ). x ∷ r) (same_list xs)

-- the parts at the places of a family are its parts, once for each site
pub parts_rows : (c : CaseRows) (l : ℕ) → let part : Pair → ℕ = λ x. x.part in map part (places c l) ≡ flat_map (λ (k : ℕ). family c l) (range_with_len 0 (length c.sites))
parts_rows c l =
    rows (λ (x : Pair). x.part) c l
    ∙ same_flat (λ k. Unit {0}) (λ k. map (λ p. p) (family c l)) (λ k. family c l) (range_with_len 0 (length c.sites)) (λ k _. same_list (family c l))
    (each_any (range_with_len 0 (length c.sites)))

-- the parts of a family have stocks at each site
pub ids_there : (c : CaseRows) (l k : ℕ) (ids : List PartId) (s : StockList) → IsCase c → IsLine c l → IsFor c s → k < length c.sites
    → map (λ (p : PartId). p.0) ids ≡ family c l → (i : ℕ) (d : PartId) → i < length ids → HasPair s (get_or ids i d).0 k
ids_there c l k ids s valid line for inside h i d m =
    pair_in c s (get_or ids i d).0 k for (ids_within c l ids valid line h i d m) inside

-- the stocks read by the ids of a family's parts at a site are those of its parts there
pub ids_stocks : (c : CaseRows) (l k : ℕ) (ids : List PartId) (s : StockList) → IsFor c s → map (λ (p : PartId). p.0) ids ≡ family c l
    → map (λ (p : PartId). stock_at s p.0 k) ids ≡ map (λ p. stock c s.list p k) (family c l)
ids_stocks c l k ids s for h =
    let id : PartId → ℕ = λ p. p.0 in
    let held : ℕ → ℕ = λ p. stock_at s p k in
    sym (map-map held id ids) ∙ ap (map held) h
    ∙ same_map (λ p. Unit {0}) held (λ p. stock c s.list p k) (family c l) (λ p _. sym (stock_holds c s p k for)) (each_any (family c l))
