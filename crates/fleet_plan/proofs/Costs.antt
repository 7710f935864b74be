-- Costs of families against the cost of a case.
use Rattle.std.proofs.Common.{◌≡◌, ℕ, ◌+◌, ◌-◌, ◌*◌, inl, inr, List, [], ◌∷◌, map, sum_by, refl, sym, ap, ap₂, ◌∙◌}
use Rattle.std.proofs.lemmas.List.Sums.{sum_by-cons}
use Rattle.list_laws.proofs.Public.{sum_flat, sum_mapped, sum_turned}
use Rattle.hull.specs.Curves.{Among}
use Rattle.spares_input.specs.Frames.{part_at}
use Rattle.spares_input.specs.Cases.{CaseRows, IsCase}
use Rattle.fleet_model.specs.Rows.{all_sites, stock, line_units}
use Rattle.fleet_model.specs.Fleet.{family}
use Rattle.fleet_model.proofs.Public.{cost_beyond_families, has_families}
use Rattle.family_points.specs.Vectors.{Pair, places_at, places, vector_of}
use Rattle.family_points.specs.Points.{cost_above, added_cost}
use Rattle.fleet_model.specs.Aims.{family_cost_beyond, cost_beyond}

-- numbers that are the same for each member of a list have the same sum over it
pub sum_among : {X : Type 0} (f g : X → ℕ) (xs : List X) → ((x : X) → Among x xs → f x ≡ g x) → sum_by f xs ≡ sum_by g xs
sum_among f g [] h = refl
sum_among f g (x ∷ xs) h = sum_by-cons f x xs ∙ ap₂ (λ a b. a + b) (h x (inl refl)) (sum_among f g xs (λ y a. h y (inr a))) ∙ sym (sum_by-cons g x xs)

-- the money for the stock s above the stock held of part p at site k
abbrev beyond : CaseRows → List ℕ → List ℕ → ℕ → ℕ → ℕ
beyond c held s p k = (stock c s p k - stock c held p k) * (part_at c.parts p).cost

by_places : (c : CaseRows) (held s : List ℕ) (xs : List Pair)
    → cost_above c (map (λ (x : Pair). x.part) xs) (map (λ (x : Pair). stock c held x.part x.site) xs) (map (λ (x : Pair). stock c s x.part x.site) xs)
    ≡ sum_by (λ (x : Pair). beyond c held s x.part x.site) xs
by_places c held s [] = refl
by_places c held s (x ∷ xs) = ap (λ z. beyond c held s x.part x.site + z) (by_places c held s xs) ∙ sym (sum_by-cons (λ (y : Pair). beyond c held s y.part y.site) x xs)

-- what the vector of a family costs is what its parts cost
pub family_beyond : (c : CaseRows) (held s : List ℕ) (l : ℕ) → added_cost c l (vector_of c l held) (vector_of c l s) ≡ family_cost_beyond c held s l
family_beyond c held s l =
    by_places c held s (places c l)
    ∙ sum_flat (λ (x : Pair). beyond c held s x.part x.site) (places_at c l) (all_sites c)
    ∙ sum_among _ (λ k. sum_by (λ p. beyond c held s p k) (family c l)) (all_sites c)
    (λ k a. sum_mapped (λ (x : Pair). beyond c held s x.part x.site) (λ p. let x : Pair = record { part = p; site = k } in x) (family c l))
    ∙ sum_turned (λ k p. beyond c held s p k) (all_sites c) (family c l)

-- the families' costs make up the cost of the case
pub families_beyond : (c : CaseRows) (held s : List ℕ) → IsCase c → sum_by (λ l. added_cost c l (vector_of c l held) (vector_of c l s)) (line_units c) ≡ cost_beyond c held s
families_beyond c held s valid =
    sum_among _ (family_cost_beyond c held s) (line_units c) (λ l a. family_beyond c held s l) ∙ cost_beyond_families c held s (has_families c valid)
