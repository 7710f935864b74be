-- The definitions of the ends enclose the exact availability, and stay at most 1.
use Rattle.std.proofs.Common.{ℕ, zero, suc, ◌+◌, ◌-◌, ◌*◌, ◌^◌, ◌<◌, ◌≤◌, ◌≡◌, ◌∙◌, List, length, get_or, take, arith, refl, sym, ap₂, subst}
use Rattle.std.specs.List.{fold}
use Rattle.std.proofs.Math.Seq.{take-length}
use Rattle.std.proofs.Math.Nat.{mul-pos}
use Rattle.std.proofs.lemmas.Nat.{mul-le}
use Rattle.std.proofs.lemmas.List.Sums.{fold_more}
use Rattle.exact_model.specs.Fraction.{Fraction, whole, sum_below, ◌≈◌, ◌+ℚ◌, ◌-ℚ◌, ◌*ℚ◌, ◌/ℚ◌}
use Rattle.exact_model.specs.Sums.{product_below}
use Rattle.exact_model.proofs.Public.{same, turned, ◌≈≈◌, add_same, div_same, contains_same, whole_plus}
use Rattle.fixed_interval.specs.Ends.{Ends, In, ends_exact, ends_add, ends_less, ends_times, ends_over, ends_mul, ends_power}
use Rattle.fixed_interval.proofs.Public.{add_encloses, less_encloses, exact_encloses, mul_encloses, over_encloses, times_encloses, power_encloses, mul_below, unit_most}
use Rattle.availability.specs.declared.Weighted.{Weighted}
use Rattle.availability.specs.Profile.{filled_ends, factor_ends, base_ends, weighted_sum, all_systems, fleet_ends}
use Rattle.availability.specs.Exact.{factor_of, weighted_mean, AllIn, base_at, BaseIn, BasesIn}

-- one element more
pub next_fold : {X Y : Type 0} (f : Y → X → Y) (a : Y) (xs : List X) (i : ℕ) (d : X) → i < length xs
    → fold f a (take (suc i) xs) ≡ f (fold f a (take i xs)) (get_or xs i d)
next_fold f a xs i d l =
    let e : i + 1 ≡ suc i = omega arith in
    subst (λ n. fold f a (take n xs) ≡ f (fold f a (take i xs)) (get_or xs i d)) e (fold_more f a xs i d l)

-- ---- the factor of a line unit

-- the interval of a line unit's factor contains the factor of the backorders in its interval
pub factor_in : (f : ℕ) (e : Ends) (x : Fraction) (systems per_system : ℕ) → 0 < systems → 0 < per_system → In f e x
    → In f (factor_ends f e systems per_system) (factor_of x systems per_system)
factor_in f e x systems zero s p h = absurd (omega arith)
factor_in f e x systems (suc z) s p h =
    subst (λ n. In f (ends_power f (filled_ends f e (systems * suc z)) n) (factor_of x systems (suc z))) (omega arith)
    (power_encloses f (filled_ends f e (systems * suc z)) (whole 1 -ℚ x /ℚ whole (systems * suc z)) z
    (less_encloses f (ends_exact f 1) (ends_over e (systems * suc z)) (whole 1) (x /ℚ whole (systems * suc z)) (exact_encloses f 1)
    (over_encloses f e (systems * suc z) x (mul-pos s p) h)))

-- ---- the product of a base

next_product : (q : ℕ → Fraction) (n : ℕ) → product_below q n *ℚ q n ≈ product_below q (suc n)
unfolding product_below
next_product q n = same (product_below q n *ℚ q n)

no_product : (q : ℕ → Fraction) → whole 1 ≈ product_below q 0
unfolding product_below
no_product q = same (whole 1)

products_in : (f : ℕ) (factors : List Ends) (q : ℕ → Fraction) (n : ℕ) → n ≤ length factors → AllIn f factors q
    → In f (base_ends f (take n factors)) (product_below q n)
products_in f factors q zero l a = contains_same (no_product q) (exact_encloses f 1)
products_in f factors q (suc n) l a =
    contains_same (next_product q n)
    (subst (λ (z : Ends). In f z (product_below q n *ℚ q n))
    (sym (next_fold (ends_mul f) (ends_exact f 1) factors n (ends_exact f 1) (omega arith)))
    (mul_encloses f (base_ends f (take n factors)) (get_or factors n (ends_exact f 1)) (product_below q n) (q n)
    (products_in f factors q n (omega arith) a) (a n (omega arith))))

-- the product of the factors' intervals contains the product of the factors
pub base_in : (f : ℕ) (factors : List Ends) (q : ℕ → Fraction) → AllIn f factors q → In f (base_ends f factors) (product_below q (length factors))
base_in f factors q a =
    subst (λ xs. In f (base_ends f xs) (product_below q (length factors))) (take-length factors)
    (products_in f factors q (length factors) (omega arith) a)

-- ---- the mean of a fleet

next_sum : (q : ℕ → Fraction) (n : ℕ) → sum_below q n +ℚ q n ≈ sum_below q (suc n)
unfolding sum_below
next_sum q n = same (sum_below q n +ℚ q n)

no_sum : (q : ℕ → Fraction) → whole 0 ≈ sum_below q 0
unfolding sum_below
no_sum q = same (whole 0)

value_in : (f : ℕ) (base : Weighted f) (n : ℕ) (q : Fraction) → BaseIn f base n q → In f (ends_times base.value base.systems) (whole n *ℚ q)
value_in f base n q h =
    subst (λ m. In f (ends_times base.value base.systems) (whole m *ℚ q)) h.systems (times_encloses f base.value base.systems q h.value)

sums_in : (f : ℕ) (bases : List (Weighted f)) (w : ℕ → ℕ) (q : ℕ → Fraction) (n : ℕ) → n ≤ length bases → BasesIn f bases w q
    → In f (weighted_sum f (take n bases)) (sum_below (λ k. whole (w k) *ℚ q k) n)
sums_in f bases w q zero l a = contains_same (no_sum (λ k. whole (w k) *ℚ q k)) (exact_encloses f 0)
sums_in f bases w q (suc n) l a =
    contains_same (next_sum (λ k. whole (w k) *ℚ q k) n)
    (subst (λ (z : Ends). In f z (sum_below (λ k. whole (w k) *ℚ q k) n +ℚ whole (w n) *ℚ q n))
    (sym (next_fold (λ (sum : Ends) (base : Weighted f). ends_add sum (ends_times base.value base.systems)) (ends_exact f 0) bases n
    (record { systems = 0; value = ends_exact f 0 }) (omega arith)))
    (add_encloses f (weighted_sum f (take n bases)) (ends_times (base_at bases n).value (base_at bases n).systems)
    (sum_below (λ k. whole (w k) *ℚ q k) n) (whole (w n) *ℚ q n)
    (sums_in f bases w q n (omega arith) a) (value_in f (base_at bases n) (w n) (q n) (a n (omega arith)))))

weights_are : (f : ℕ) (bases : List (Weighted f)) (w : ℕ → ℕ) (q : ℕ → Fraction) (n : ℕ) → n ≤ length bases → BasesIn f bases w q
    → whole (all_systems (take n bases)) ≈ sum_below (λ k. whole (w k)) n
weights_are f bases w q zero l a = no_sum (λ k. whole (w k))
weights_are f bases w q (suc n) l a =
    subst (λ m. whole m ≈ sum_below (λ k. whole (w k)) (suc n))
    (sym (next_fold (λ sum (base : Weighted f). sum + base.systems) 0 bases n (record { systems = 0; value = ends_exact f 0 }) (omega arith)))
    (subst (λ m. whole (all_systems (take n bases) + m) ≈ sum_below (λ k. whole (w k)) (suc n)) (sym (a n (omega arith)).systems)
    (turned (whole_plus (all_systems (take n bases)) (w n))
    ≈≈ add_same (weights_are f bases w q n (omega arith) a) (same (whole (w n))) ≈≈ next_sum (λ k. whole (w k)) n))

above_zero : (n : ℕ) → 0 < n → 0 < (whole n).num
unfolding whole
above_zero n p = p

-- the interval of the fleet contains the mean of the bases' availabilities by their systems
pub fleet_in : (f : ℕ) (bases : List (Weighted f)) (w : ℕ → ℕ) (q : ℕ → Fraction) → 0 < all_systems bases → BasesIn f bases w q
    → In f (fleet_ends f bases) (weighted_mean w q (length bases))
fleet_in f bases w q p a =
    let s = subst (λ xs. In f (weighted_sum f xs) (sum_below (λ k. whole (w k) *ℚ q k) (length bases))) (take-length bases)
    (sums_in f bases w q (length bases) (omega arith) a) in
    let t = subst (λ xs. whole (all_systems xs) ≈ sum_below (λ k. whole (w k)) (length bases)) (take-length bases)
    (weights_are f bases w q (length bases) (omega arith) a) in
    contains_same (div_same (above_zero (all_systems bases) p) (same (sum_below (λ k. whole (w k) *ℚ q k) (length bases))) t)
    (over_encloses f (weighted_sum f bases) (all_systems bases) (sum_below (λ k. whole (w k) *ℚ q k) (length bases)) p s)

-- ---- at most 1, and the steps of the loops

-- a product of intervals of at most 1 is at most 1
pub product_most : (f : ℕ) (x y z : Ends) → x.hi ≤ 2 ^ f → y.hi ≤ 2 ^ f → z ≡ ends_mul f x y → z.hi ≤ 2 ^ f
product_most f x y z h k e = rw e (omega (arith, mul_below f 1 1 x y (omega arith) (omega arith)))

-- 1 less the backorders over the places is what these fill
pub filled_is : (f : ℕ) (e one taken g : Ends) (places : ℕ) → one ≡ ends_exact f 1 → taken ≡ ends_over e places → g ≡ ends_less one taken
    → g ≡ filled_ends f e places
filled_is f e one taken g places h k l = rw (l, k, h) refl

-- what is filled is at most 1
pub filled_most : (f : ℕ) (one taken g : Ends) → one ≡ ends_exact f 1 → g ≡ ends_less one taken → g.hi ≤ 2 ^ f
filled_most f one taken g h l = rw (l, h) (omega arith)

-- what is filled, multiplied by itself 0 times, is itself
pub multiplied_none : (f : ℕ) (g filled : Ends) → filled ≡ g → filled ≡ ends_power f g 0
unfolding ends_power
multiplied_none f g filled h = h

multiplied_next : (f : ℕ) (g : Ends) (n : ℕ) → ends_mul f (ends_power f g n) g ≡ ends_power f g (suc n)
unfolding ends_power
multiplied_next f g n = refl

-- multiplied once more it is the next power
pub multiplied_more : (f : ℕ) (g filled all next : Ends) (k : ℕ) → 1 ≤ k → filled ≡ g → all ≡ ends_power f g (k - 1) → next ≡ ends_mul f all filled
    → next ≡ ends_power f g (k + 1 - 1)
multiplied_more f g filled all next k p h a e =
    let s : suc (k - 1) ≡ k + 1 - 1 = omega arith in
    subst (λ n. next ≡ ends_power f g n) s (e ∙ ap₂ (ends_mul f) a h ∙ multiplied_next f g (k - 1))

-- the sum of 15 values of at most 10,000 systems each has room
pub sum_room : (f sum all k value systems : ℕ) → f ≤ 52 → sum ≤ 2 ^ f * all → all ≤ k * 10000 → k ≤ 15 → value ≤ 2 ^ f → systems ≤ 10000
    → sum + value * systems < 2 ^ 127
sum_room f sum all k value systems s h a l v n =
    let u = unit_most f s in
    let x = mul-le (2 ^ f) all (2 ^ 52) 150000 u (omega (arith, a, l)) in
    let y = mul-le value systems (2 ^ 52) 10000 (omega (arith, v, u)) n in
    omega (arith, x, y, h)
