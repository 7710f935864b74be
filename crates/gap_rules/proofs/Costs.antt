-- What the families' vectors cost above what is held is what the stocks cost above it.
use Rattle.std.proofs.Common.{◌≡◌, ℕ, ◌+◌, ◌-◌, ◌*◌, ◌<◌, ◌≤◌, inl, inr, List, [], ◌∷◌, map, length, sum_by, None, refl, sym, ap, ◌∙◌, arith}
use Rattle.std.proofs.lemmas.List.Sums.{sum_by-cons}
use Rattle.list_laws.proofs.Public.{sum_flat, sum_mapped, sum_turned}
use Rattle.hull.specs.declared.point.Point.{Point}
use Rattle.hull.specs.Curves.{Among}
use Rattle.spares_input.specs.First.{first}
use Rattle.spares_input.specs.Frames.{part_at}
use Rattle.spares_input.specs.Cases.{CaseRows, IsCase, frame_rows, pair_count}
use Rattle.spares_input.specs.Stocks.{StockList, IsFor}
use Rattle.fleet_model.specs.Rows.{all_sites, line_units, stock}
use Rattle.fleet_model.specs.Fleet.{cost, family, family_cost}
use Rattle.fleet_model.proofs.Public.{cost_families, has_families, cost_holds}
use Rattle.price_bounds.specs.Sums.{total}
use Rattle.family_points.specs.Vectors.{Pair, places, vector_of}
use Rattle.gap_rules.proofs.Added.{added_at}
use Rattle.family_points.specs.Points.{added_cost}
use Rattle.gap_rules.specs.Refusals.{below_held, case_cost_above}
use Rattle.gap_rules.proofs.Places.{place_pair, held_most, line_part}

add_step : (a b cost rest less more : ℕ) → a ≤ b → rest + less ≡ more → (b - a) * cost + rest + (a * cost + less) ≡ b * cost + more
add_step a b cost rest less more h e =
    let f : b ≡ a + (b - a) = omega (arith, h) in
    let g : b * cost ≡ (a + (b - a)) * cost = ap (λ z. z * cost) f in
    omega (arith, g, e)

added_maps : (c : CaseRows) (xs : List Pair) (f g : Pair → ℕ) → ((x : Pair) → Among x xs → f x ≤ g x)
    → added_at c xs (map f xs) (map g xs) + sum_by (λ x. f x * (part_at c.parts x.part).cost) xs ≡ sum_by (λ x. g x * (part_at c.parts x.part).cost) xs
added_maps c [] f g h = refl
added_maps c (x ∷ xs) f g h =
    let e = add_step (f x) (g x) (part_at c.parts x.part).cost _ _ _ (h x (inl refl)) (added_maps c xs f g (λ y m. h y (inr m))) in
    ap (λ z. (g x - f x) * (part_at c.parts x.part).cost + added_at c xs (map f xs) (map g xs) + z) (sum_by-cons (λ x. f x * (part_at c.parts x.part).cost) x xs)
    ∙ e ∙ sym (sum_by-cons (λ x. g x * (part_at c.parts x.part).cost) x xs)

sum_each : {A : Type 0} (f g : A → ℕ) (xs : List A) → ((x : A) → f x ≡ g x) → sum_by f xs ≡ sum_by g xs
sum_each f g [] h = refl
sum_each f g (x ∷ xs) h = omega (arith, sum_by-cons f x xs, sum_by-cons g x xs, h x, sum_each f g xs h)

-- the cost of a family by its places
family_places : (c : CaseRows) (l : ℕ) (s : List ℕ) → sum_by (λ x. stock c s x.part x.site * (part_at c.parts x.part).cost) (places c l) ≡ family_cost c s l
family_places c l s =
    sum_flat {A = ℕ} {B = Pair} (λ x. stock c s x.part x.site * (part_at c.parts x.part).cost) (λ k. map (λ p. record { part = p; site = k }) (family c l)) (all_sites c)
    ∙ sum_each _ _ (all_sites c) (λ k. sum_mapped {A = ℕ} {B = Pair} (λ x. stock c s x.part x.site * (part_at c.parts x.part).cost) (λ p. record { part = p; site = k }) (family c l))
    ∙ sum_turned (λ k p. stock c s p k * (part_at c.parts p).cost) (all_sites c) (family c l)

pub family_added : (c : CaseRows) (l : ℕ) (held s : StockList) → l < length c.parts → first (below_held c held s) (pair_count (frame_rows c)) ≡ None
    → added_cost c l (vector_of c l held.list) (vector_of c l s.list) + family_cost c held.list l ≡ family_cost c s.list l
family_added c l held s b none =
    ap (λ z. added_at c (places c l) (map (λ x. stock c held.list x.part x.site) (places c l)) (map (λ x. stock c s.list x.part x.site) (places c l)) + z) (sym (family_places c l held.list))
    ∙ added_maps c (places c l) (λ x. stock c held.list x.part x.site) (λ x. stock c s.list x.part x.site) (λ x m. held_most c held s x (place_pair c l x b m) none)
    ∙ family_places c l s.list

lines_added : (cost held more : ℕ → ℕ) (ls : List ℕ) → ((l : ℕ) → Among l ls → cost l + held l ≡ more l) → sum_by cost ls + sum_by held ls ≡ sum_by more ls
lines_added cost held more [] h = refl
lines_added cost held more (l ∷ ls) h =
    omega (arith, sum_by-cons cost l ls, sum_by-cons held l ls, sum_by-cons more l ls, h l (inl refl), lines_added cost held more ls (λ y m. h y (inr m)))

-- a total over points made of families is the sum over the families
pub total_map : (f : Point → ℕ) (g : ℕ → Point) (ls : List ℕ) → total f (map g ls) ≡ sum_by (λ l. f (g l)) ls
total_map f g [] = refl
total_map f g (l ∷ ls) = omega (arith, sum_by-cons (λ y. f (g y)) l ls, total_map f g ls)

-- where no stock is below what is held, the families' added costs come to the cost above it
pub added_is : (c : CaseRows) (held s : StockList) → IsCase c → IsFor c held → IsFor c s → first (below_held c held s) (pair_count (frame_rows c)) ≡ None
    → sum_by (λ l. added_cost c l (vector_of c l held.list) (vector_of c l s.list)) (line_units c) ≡ case_cost_above c held s
added_is c held s valid h k none =
    let e = lines_added (λ l. added_cost c l (vector_of c l held.list) (vector_of c l s.list)) (family_cost c held.list) (family_cost c s.list) (line_units c) (λ l m. family_added c l held s (line_part c l m).0 none) in
    let a = cost_families c held.list (has_families c valid) in
    let b = cost_families c s.list (has_families c valid) in
    let f = cost_holds c held h in
    let g = cost_holds c s k in
    omega (arith, e, a, b, f, g)
