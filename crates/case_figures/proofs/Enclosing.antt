-- The ends of availabilities and totals enclose the model's values.
use Rattle.std.proofs.Common.{◌≡◌, ℕ, zero, suc, ◌+◌, ◌-◌, ◌<◌, true, List, [], ◌∷◌, length, map, Option, None, refl, sym, ap, subst, arith}
use Rattle.std.specs.List.{fold, range_with_len, AllByRecursion}
use Rattle.std.specs.Option.{option_and_then}
use Rattle.std.proofs.lemmas.List.Sums.{sum_by-cons}
use Rattle.std.proofs.lemmas.List.FromFn.{get_or-map-range_with_len, length-map-range_with_len}
use Rattle.list_laws.proofs.Public.{each_that_passes, none_of}
use Rattle.exact_model.specs.Fraction.{Fraction, whole, ◌≈◌, ◌+ℚ◌, ◌*ℚ◌}
use Rattle.exact_model.specs.Series.{ebo}
use Rattle.exact_model.proofs.Public.{turned, div_same, positive_same, contains_same, times_assoc, nothing_more, one_times, plus_assoc, none_plus}
use Rattle.fixed_interval.specs.Ends.{Ends, In, ends_exact, ends_add, ends_mul}
use Rattle.fixed_interval.proofs.Public.{add_encloses, mul_encloses, exact_encloses}
use Rattle.spares_input.specs.Rows.{is_line}
use Rattle.spares_input.specs.Frames.{part_at, part_names, place_of, line_of}
use Rattle.spares_input.specs.Cases.{CaseRows, IsCase}
use Rattle.exact_model.specs.Sums.{sum_over, product_over}
use Rattle.fleet_model.specs.Rows.{bases, line_units, systems, per_system, stock}
use Rattle.fleet_model.specs.Pipelines.{Moments, pipeline_i0, pipeline_00, pipeline_ij, pipeline_0j, ebo_0j}
use Rattle.fleet_model.specs.Pairs.{by_pair, pipeline, backorders}
use Rattle.fleet_model.specs.Fleet.{factor, availability, fleet, family_total, case_total}
use Rattle.fleet_model.specs.Laws.{IsBase}
use Rattle.fleet_model.proofs.Public.{times_one, sum_range, systems_positive, per_system_positive, all_systems_positive}
use Rattle.availability.specs.declared.Weighted.{Weighted}
use Rattle.availability.specs.Profile.{all_systems}
use Rattle.availability.specs.Exact.{factor_of, weighted_mean, BaseIn, BasesIn}
use Rattle.availability.proofs.Public.{factor_in, fleet_in}
use Rattle.family_items.specs.Profile.{item_of}
use Rattle.family_items.specs.Profile as family
use Rattle.case_figures.specs.Figures.{factor_at, availability_at, weighted_at, fleet_of, case_total_of}

-- ---- sums and products over a list

sums_in : (f : ℕ) (a : Ends) (x : Fraction) (h : ℕ → Ends) (q : ℕ → Fraction) (ls : List ℕ) → In f a x → AllByRecursion (λ l. In f (h l) (q l)) ls
    → In f (fold ends_add a (map h ls)) (x +ℚ sum_over ls q)
unfolding sum_over
sums_in f a x h q [] s t = contains_same (turned (nothing_more x)) s
sums_in f a x h q (l ∷ ls) s t =
    contains_same (plus_assoc x (q l) (sum_over ls q)) (sums_in f (ends_add a (h l)) (x +ℚ q l) h q ls (add_encloses f a (h l) x (q l) s t.0) t.1)

-- a sum of intervals over line units contains the sum of the fractions that each contains
pub sum_in : (f : ℕ) (h : ℕ → Ends) (q : ℕ → Fraction) (ls : List ℕ) → AllByRecursion (λ l. In f (h l) (q l)) ls
    → In f (fold ends_add (ends_exact f 0) (map h ls)) (sum_over ls q)
sum_in f h q ls t = contains_same (none_plus (sum_over ls q)) (sums_in f (ends_exact f 0) (whole 0) h q ls (exact_encloses f 0) t)

products_in : (f : ℕ) (a : Ends) (x : Fraction) (h : ℕ → Ends) (q : ℕ → Fraction) (ls : List ℕ) → In f a x → AllByRecursion (λ l. In f (h l) (q l)) ls
    → In f (fold (ends_mul f) a (map h ls)) (x *ℚ product_over ls q)
unfolding product_over
products_in f a x h q [] s t = contains_same (turned (times_one x)) s
products_in f a x h q (l ∷ ls) s t =
    contains_same (times_assoc x (q l) (product_over ls q)) (products_in f (ends_mul f a (h l)) (x *ℚ q l) h q ls (mul_encloses f a (h l) x (q l) s t.0) t.1)

pub product_in : (f : ℕ) (h : ℕ → Ends) (q : ℕ → Fraction) (ls : List ℕ) → AllByRecursion (λ l. In f (h l) (q l)) ls
    → In f (fold (ends_mul f) (ends_exact f 1) (map h ls)) (product_over ls q)
product_in f h q ls t = contains_same (one_times (product_over ls q)) (products_in f (ends_exact f 1) (whole 1) h q ls (exact_encloses f 1) t)

-- ---- a line unit at a base

no_line : (c : CaseRows) (l : ℕ) → is_line (part_at c.parts l) ≡ true → line_of c.parts l ≡ None
no_line c l h =
    ap (λ (o : Option (List ℕ)). option_and_then (λ name. place_of name (part_names c.parts)) o) (none_of (part_at c.parts l).parent h)

line_pipeline : (c : CaseRows) (s : List ℕ) (n l j : ℕ) → is_line (part_at c.parts l) ≡ true → pipeline c s n l (suc j) ≡ pipeline_0j c s n l (suc j)
line_pipeline c s n l j h =
    ap (λ (o : Option ℕ). by_pair (pipeline_i0 c) (pipeline_00 c s n) (pipeline_ij c s n) (pipeline_0j c s n) o l (suc j)) (no_line c l h)

line_backorders : (c : CaseRows) (s : List ℕ) (n l j : ℕ) → is_line (part_at c.parts l) ≡ true → 0 < j → backorders c s l j n ≡ ebo_0j c s n l j
unfolding ebo_0j
line_backorders c s n l zero h p = absurd (omega arith)
line_backorders c s n l (suc j) h p = ap (λ (m : Moments). ebo n m.mean m.variance (stock c s l (suc j))) (line_pipeline c s n l j h)

-- ---- availability

factor_is : (c : CaseRows) (s : List ℕ) (n l j : ℕ) → factor_of (ebo_0j c s n l j) (systems c j) (per_system c l) ≡ factor c s n l j
unfolding factor
factor_is c s n l j = refl

-- the backorders of each line unit at base j are enclosed at depth n
abbrev LinesIn : ℕ → CaseRows → List ℕ → ℕ → ℕ → Type 0
LinesIn f c s n j = (l : ℕ) → l < length c.parts → is_line (part_at c.parts l) ≡ true → In f (item_of f c s l j).backorders (backorders c s l j n)

factor_at_in : (f : ℕ) (c : CaseRows) (s : List ℕ) (n l j : ℕ) → IsCase c → IsBase c j → l < length c.parts → is_line (part_at c.parts l) ≡ true
    → In f (item_of f c s l j).backorders (backorders c s l j n) → In f (factor_at f c s j l) (factor c s n l j)
factor_at_in f c s n l j v b h e i =
    subst (In f (factor_at f c s j l)) (factor_is c s n l j)
    (factor_in f (item_of f c s l j).backorders (ebo_0j c s n l j) (systems c j) (per_system c l) (systems_positive c j v b) (per_system_positive c l v h e)
    (subst (In f (item_of f c s l j).backorders) (line_backorders c s n l j e b.0) i))

-- the availability of a base lies in its ends where the backorders of each line unit there lie in theirs
pub availability_in : (f : ℕ) (c : CaseRows) (s : List ℕ) (n j : ℕ) → IsCase c → IsBase c j → LinesIn f c s n j
    → In f (availability_at f c s j) (availability c s n j)
unfolding availability
availability_in f c s n j v b i =
    product_in f (factor_at f c s j) (λ l. factor c s n l j) (line_units c)
    (each_that_passes (λ l. In f (factor_at f c s j l) (factor c s n l j)) (λ p. is_line (part_at c.parts p)) (length c.parts) 0
    (λ l h e. factor_at_in f c s n l j v b (omega arith) e (i l (omega arith) e)))

-- ---- the fleet

some_systems : (f : ℕ) (c : CaseRows) (s : List ℕ) (m : ℕ) → 0 < m → 0 < systems c 1 → 0 < all_systems (map (weighted_at f c s) (range_with_len 1 m))
some_systems f c s zero h p = absurd (omega arith)
some_systems f c s (suc m) h p =
    omega (arith, p, sum_by-cons (λ (base : Weighted f). base.systems) (weighted_at f c s 1) (map (weighted_at f c s) (range_with_len 2 m)))

-- the bases of a valid case have systems
pub fleet_has_systems : (f : ℕ) (c : CaseRows) (s : List ℕ) → IsCase c → 0 < all_systems (map (weighted_at f c s) (bases c))
fleet_has_systems f c s v =
    let two = v.frame.fewest_sites in
    some_systems f c s (length c.sites - 1) (omega (arith, two)) (systems_positive c 1 v (omega arith, omega (arith, two)))

abbrev BasesAreIn : ℕ → CaseRows → List ℕ → ℕ → Type 0
BasesAreIn f c s n = (j : ℕ) → IsBase c j → In f (availability_at f c s j) (availability c s n j)

bases_in : (f : ℕ) (c : CaseRows) (s : List ℕ) (n : ℕ) → BasesAreIn f c s n
    → BasesIn f (map (weighted_at f c s) (bases c)) (λ k. systems c (1 + k)) (λ k. availability c s n (1 + k))
bases_in f c s n i k h =
    let m = length c.sites - 1 in
    let l : k < m = omega (arith, h, length-map-range_with_len (weighted_at f c s) 1 m) in
    subst (λ (base : Weighted f). BaseIn f base (systems c (1 + k)) (availability c s n (1 + k)))
    (sym (get_or-map-range_with_len (weighted_at f c s) 1 m k (1 + k) (record { systems = 0; value = ends_exact f 0 }) l refl))
    (record { systems = refl; value = i (1 + k) (omega arith, omega (arith, l)) })

mean_is : (c : CaseRows) (s : List ℕ) (n : ℕ) → IsCase c
    → weighted_mean (λ k. systems c (1 + k)) (λ k. availability c s n (1 + k)) (length c.sites - 1) ≈ fleet c s n
unfolding fleet
mean_is c s n v =
    let m = length c.sites - 1 in
    let weights = sum_range (λ j. whole (systems c j)) 1 m in
    div_same (positive_same (turned weights) (all_systems_positive c v)) (sum_range (λ j. whole (systems c j) *ℚ availability c s n j) 1 m) weights

-- the fleet's availability lies in its ends where that of each base does
pub fleet_at_in : (f : ℕ) (c : CaseRows) (s : List ℕ) (n : ℕ) → IsCase c → BasesAreIn f c s n → In f (fleet_of f c s) (fleet c s n)
fleet_at_in f c s n v i =
    contains_same (mean_is c s n v)
    (subst (λ m. In f (fleet_of f c s) (weighted_mean (λ k. systems c (1 + k)) (λ k. availability c s n (1 + k)) m))
    (length-map-range_with_len (weighted_at f c s) 1 (length c.sites - 1))
    (fleet_in f (map (weighted_at f c s) (bases c)) (λ k. systems c (1 + k)) (λ k. availability c s n (1 + k)) (fleet_has_systems f c s v) (bases_in f c s n i)))

-- ---- the total

-- the total lies in its ends where that of each family does
pub total_at_in : (f : ℕ) (c : CaseRows) (s : List ℕ) (n : ℕ)
    → ((l : ℕ) → l < length c.parts → is_line (part_at c.parts l) ≡ true → In f (family.total_of f c s l) (family_total c s n l))
    → In f (case_total_of f c s) (case_total c s n)
unfolding case_total
total_at_in f c s n i =
    sum_in f (family.total_of f c s) (family_total c s n) (line_units c)
    (each_that_passes (λ l. In f (family.total_of f c s l) (family_total c s n l)) (λ p. is_line (part_at c.parts p)) (length c.parts) 0
    (λ l h e. i l (omega arith) e))
