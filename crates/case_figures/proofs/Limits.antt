-- How large the ends of availabilities and totals are.
use Rattle.std.proofs.Common.{◌≡◌, ℕ, zero, suc, ◌+◌, ◌-◌, ◌*◌, ◌^◌, ◌<◌, ◌≤◌, List, [], ◌∷◌, length, refl, arith}
use Rattle.std.specs.List.{fold, AllByRecursion}
use Rattle.std.proofs.Math.Nat.{suc-mul}
use Rattle.std.proofs.lemmas.Nat.{mul-le}
use Rattle.std.proofs.lemmas.List.Sums.{sum_by-cons}
use Rattle.list_laws.proofs.Public.{ceil_most}
use Rattle.fixed_interval.specs.Ends.{Ends, IsWithinLimit, ends_exact, ends_add, ends_mul, ends_times, ends_power}
use Rattle.fixed_interval.proofs.Public.{unit_most}
use Rattle.availability.specs.declared.Weighted.{Weighted}
use Rattle.availability.specs.Profile.{filled_ends, factor_ends, base_ends, weighted_sum, all_systems, fleet_ends}
use Rattle.availability.proofs.Public.{product_most}

multiplied_most : (f : ℕ) (g : Ends) (n : ℕ) → g.hi ≤ 2 ^ f → (ends_power f g n).hi ≤ 2 ^ f
unfolding ends_power
multiplied_most f g zero h = h
multiplied_most f g (suc n) h = product_most f (ends_power f g n) g (ends_mul f (ends_power f g n) g) (multiplied_most f g n h) h refl

-- the factor of a line unit is at most 1
pub factor_most : (f : ℕ) (e : Ends) (systems per_system : ℕ) → (factor_ends f e systems per_system).hi ≤ 2 ^ f
factor_most f e systems per_system = multiplied_most f (filled_ends f e (systems * per_system)) (per_system - 1) (omega arith)

products_most : (f : ℕ) (a : Ends) (xs : List Ends) → a.hi ≤ 2 ^ f → AllByRecursion (λ (x : Ends). x.hi ≤ 2 ^ f) xs → (fold (ends_mul f) a xs).hi ≤ 2 ^ f
products_most f a [] h t = h
products_most f a (x ∷ xs) h t = products_most f (ends_mul f a x) xs (product_most f a x (ends_mul f a x) h t.0 refl) t.1

-- the availability of a base is at most 1 where each factor is
pub base_most : (f : ℕ) (xs : List Ends) → AllByRecursion (λ (x : Ends). x.hi ≤ 2 ^ f) xs → (base_ends f xs).hi ≤ 2 ^ f
base_most f xs t = products_most f (ends_exact f 1) xs (omega arith) t

weighted_most : (f : ℕ) (a : Ends) (n : ℕ) (xs : List (Weighted f)) → a.hi ≤ 2 ^ f * n → AllByRecursion (λ (x : Weighted f). x.value.hi ≤ 2 ^ f) xs
    → (fold (λ (sum : Ends) (base : Weighted f). ends_add sum (ends_times base.value base.systems)) a xs).hi ≤ 2 ^ f * (n + all_systems xs)
weighted_most f a n [] h t = omega (arith, h)
weighted_most f a n (x ∷ xs) h t =
    let one : x.value.hi * x.systems ≤ 2 ^ f * x.systems = mul-le x.value.hi x.systems (2 ^ f) x.systems t.0 (omega arith) in
    let both : a.hi + x.value.hi * x.systems ≤ 2 ^ f * (n + x.systems) = grind (arith, h, one) in
    let rest = weighted_most f (ends_add a (ends_times x.value x.systems)) (n + x.systems) xs both t.1 in
    let more : all_systems (x ∷ xs) ≡ x.systems + all_systems xs = sum_by-cons (λ (base : Weighted f). base.systems) x xs in
    let same : n + x.systems + all_systems xs ≡ n + all_systems (x ∷ xs) = omega (arith, more) in
    rw same at rest

-- the fleet's availability is at most 1 where there are systems and each base's is
pub fleet_most : (f : ℕ) (xs : List (Weighted f)) → 0 < all_systems xs → AllByRecursion (λ (x : Weighted f). x.value.hi ≤ 2 ^ f) xs
    → (fleet_ends f xs).hi ≤ 2 ^ f
fleet_most f xs p t =
    let h = weighted_most f (ends_exact f 0) 0 xs (omega arith) t in
    ceil_most (weighted_sum f xs).hi (all_systems xs) (2 ^ f) p (omega (arith, h))

-- each at most b
pub sum_most : (a : Ends) (b : ℕ) (xs : List Ends) → AllByRecursion (λ (x : Ends). x.hi ≤ b) xs → (fold ends_add a xs).hi ≤ a.hi + length xs * b
sum_most a b [] t = omega arith
sum_most a b (x ∷ xs) t = omega (arith, sum_most (ends_add a x) b xs t.1, suc-mul (length xs) b, t.0)

-- ends of at most 256 have 64 bits
pub limit_room : (f : ℕ) (x : Ends) → IsWithinLimit f x → f ≤ 52 → x.hi < 2 ^ 64
limit_room f x h s = omega (arith, h, unit_most f s)
