-- A vector stands in the stocks that are made of it.
use Rattle.std.proofs.Common.{◌≡◌, ℕ, zero, suc, ◌+◌, ◌*◌, ◌<◌, ◌≤◌, List, length, map, sym, ◌∙◌, arith}
use Rattle.std.specs.List.{range_with_len, AllByRecursion}
use Rattle.std.proofs.lemmas.List.{length-map}
use Rattle.list_laws.proofs.Public.{same_flat}
use Rattle.spares_input.specs.Stocks.{limit_at}
use Rattle.spares_input.specs.Cases.{CaseRows, IsCase}
use Rattle.fleet_model.specs.Rows.{stock}
use Rattle.fleet_model.specs.Fleet.{family}
use Rattle.family_items.specs.Inputs.{IsLine}
use Rattle.family_points.specs.Vectors.{Pair, places, site_part, stocks_with, vector_of}
use Rattle.family_points.proofs.Bounded.{limits_long}
use Rattle.family_points.proofs.Distinct.{family_stocks_in}
use Rattle.family_points.proofs.Placed.{vector_rows}
use Rattle.family_points.proofs.Sites.{all_joined, part_long, size}

-- numbers in a row that end by m are all below m
pub below_all : (n a m : ℕ) → a + n ≤ m → AllByRecursion (λ k. k < m) (range_with_len a n)
below_all zero a m h = tt
below_all (suc n) a m h = (omega (arith, h), below_all n (a + 1) m (omega (arith, h)))

-- the stocks that are made of a vector have it at the places of its family
pub vector_stands : (c : CaseRows) (l : ℕ) (v : List ℕ) → IsCase c → IsLine c l → length v ≡ length (places c l) → vector_of c l (stocks_with c l v) ≡ v
vector_stands c l v valid line same =
    let limit : Pair → ℕ = λ x. limit_at c.parts x.part x.site in
    let long : length v ≡ length c.sites * size c l = same ∙ sym (length-map (places c l) limit) ∙ limits_long c l in
    vector_rows c l (stocks_with c l v)
    ∙ same_flat (λ k. k < length c.sites) (λ k. map (λ p. stock c (stocks_with c l v) p k) (family c l)) (site_part c l v) (range_with_len 0 (length c.sites))
    (λ k h. family_stocks_in c l (site_part c l v) k valid line h (part_long c l v k (length c.sites) long h)) (below_all (length c.sites) 0 (length c.sites) (omega arith))
    ∙ all_joined c l v (length c.sites) long
