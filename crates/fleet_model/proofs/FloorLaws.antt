-- The floors of the families at a price show a bound for each allocation within the budget,
-- and two allocations around the budget show how high a price can bound.
use Rattle.std.proofs.Common.{◌≡◌, ℕ, ◌+◌, ◌-◌, ◌*◌, ◌^◌, ◌<◌, ◌≤◌, ◌⊎◌, inl, inr, true, List, [], ◌∷◌, length, sum_by, refl, sym, ap, ◌∙◌, subst, arith, mul-le-mul_left, eq-zero-or-pos}
use Rattle.std.proofs.Math.Nat.{mul-pos}
use Rattle.std.proofs.lemmas.List.Sums.{sum_by-cons}
use Rattle.list_laws.proofs.Public.{passed}
use Rattle.exact_model.specs.Fraction.{Fraction, whole, ◌≈◌, ◌≤ℚ◌, ◌+ℚ◌, ◌*ℚ◌}
use Rattle.exact_model.proofs.Public.{same, turned, ◌≈≈◌, add_same, mul_same, le_same, le_self, le_chain, times_right_comm, whole_plus}
use Rattle.spares_input.specs.Cases.{CaseRows, IsCase}
use Rattle.spares_input.specs.Frames.{part_at}
use Rattle.spares_input.specs.Rows.{is_line}
use Rattle.exact_model.specs.Sums.{sum_over}
use Rattle.fleet_model.specs.Rows.{line_units}
use Rattle.fleet_model.specs.Aims.{Value, family_aim, aim, IsHeldAllocation, family_cost_beyond, cost_beyond}
use Rattle.fleet_model.specs.Bounds.{AreFloors, NoneHasLess, NoPriceShowsMore, HasNoMore, AreAround}
use Rattle.fleet_model.proofs.Order.{le_add, le_mul, le_cancel}
use Rattle.fleet_model.proofs.SumLaws.{sum_most_in, sum_times, sum_same}
use Rattle.fleet_model.proofs.FamilyLaws.{HasFamilies, cost_beyond_families}
use Rattle.fleet_model.proofs.FrameLaws.{has_families}
use Rattle.fleet_model.proofs.PriceLaws.{cancel_plus, whole_most, bound_within, bound_between}

whole_product : (a b : ℕ) → whole a *ℚ whole b ≈ whole (a * b)
unfolding whole ◌*ℚ◌
whole_product a b = record { cross = omega arith }

whole_same : {a b : ℕ} → a ≡ b → whole a ≈ whole b
whole_same {a} {b} h = subst (λ z. whole a ≈ whole z) h (same (whole a))

sum_whole : (xs : List ℕ) (g : ℕ → ℕ) → sum_over xs (λ x. whole (g x)) ≈ whole (sum_by g xs)
unfolding sum_over
sum_whole [] g = same (whole 0)
sum_whole (x ∷ xs) g =
    add_same (same (whole (g x))) (sum_whole xs g) ≈≈ whole_plus (g x) (sum_by g xs) ≈≈ whole_same (sym (sum_by-cons g x xs))

swap_step : (a b c d : Fraction) → (a +ℚ b) +ℚ (c +ℚ d) ≈ (a +ℚ c) +ℚ (b +ℚ d)
unfolding ◌+ℚ◌
swap_step a b c d = record { cross = omega arith }

nothing_twice : whole 0 ≈ whole 0 +ℚ whole 0
unfolding ◌+ℚ◌ whole
nothing_twice = record { cross = refl }

sum_plus : (xs : List ℕ) (f g : ℕ → Fraction) → sum_over xs (λ x. f x +ℚ g x) ≈ sum_over xs f +ℚ sum_over xs g
unfolding sum_over
sum_plus [] f g = nothing_twice
sum_plus (x ∷ xs) f g = add_same (same (f x +ℚ g x)) (sum_plus xs f g) ≈≈ swap_step (f x) (g x) (sum_over xs f) (sum_over xs g)

times_comm : (q r : Fraction) → q *ℚ r ≈ r *ℚ q
unfolding ◌*ℚ◌
times_comm q r = record { cross = omega arith }

-- a common factor at the right
sum_times_right : (xs : List ℕ) (f : ℕ → Fraction) (x : Fraction) → sum_over xs (λ i. f i *ℚ x) ≈ sum_over xs f *ℚ x
sum_times_right xs f x = sum_same xs _ _ (λ i. times_comm (f i) x) ≈≈ turned (sum_times xs x f) ≈≈ times_comm x (sum_over xs f)

sum_scaled : (xs : List ℕ) (m : ℕ) (g : ℕ → ℕ) → sum_by (λ x. m * g x) xs ≡ m * sum_by g xs
sum_scaled [] m g = omega arith
sum_scaled (x ∷ xs) m g =
    omega (arith, sum_by-cons (λ y. m * g y) x xs, ap (λ z. m * z) (sum_by-cons g x xs), sum_scaled xs m g)

floors_sum : (value : Value) (c : CaseRows) (held : List ℕ) (units money : ℕ) (floor : ℕ → ℕ) → HasFamilies c → AreFloors value c held units money floor
    → (n : ℕ) → 1024 ≤ n → (s : List ℕ) → IsHeldAllocation c held s
    → whole (sum_by floor (line_units c)) ≤ℚ whole units *ℚ (aim value c s n *ℚ whole (2 ^ 48)) +ℚ whole (money * cost_beyond c held s)
unfolding aim
floors_sum value c held units money floor fam h n l s a =
    le_same (sum_whole (line_units c) floor)
    (sum_plus (line_units c) (λ i. whole units *ℚ (family_aim value c s n i *ℚ whole (2 ^ 48))) (λ i. whole (money * family_cost_beyond c held s i))
    ≈≈ add_same
    (turned (sum_times (line_units c) (whole units) (λ i. family_aim value c s n i *ℚ whole (2 ^ 48)))
    ≈≈ mul_same (same (whole units)) (sum_times_right (line_units c) (family_aim value c s n) (whole (2 ^ 48))))
    (sum_whole (line_units c) (λ i. money * family_cost_beyond c held s i)
    ≈≈ whole_same (sum_scaled (line_units c) money (family_cost_beyond c held s) ∙ ap (λ z. money * z) (cost_beyond_families c held s fam))))
    (sum_most_in (line_units c) (λ i. (i < length c.parts) × (is_line (part_at c.parts i) ≡ true)) _ _
    (passed (λ i. is_line (part_at c.parts i)) (length c.parts) (length c.parts) 0 (omega arith)) (λ i p. h n l s a i p.0 p.1))

bound_step : (t : Fraction) (bound units most floors paid : ℕ) → 0 < units → bound * units + most ≤ floors → paid ≤ most
    → whole floors ≤ℚ whole units *ℚ t +ℚ whole paid → whole bound ≤ℚ t
bound_step t bound units most floors paid p low fits h =
    le_cancel (whole units) (unfold whole in p)
    (cancel_plus (whole most)
    (le_same (turned (add_same (whole_product bound units) (same (whole most)) ≈≈ whole_plus (bound * units) most))
    (add_same (times_comm (whole units) t) (same (whole most)))
    (le_chain (whole_most low) (le_chain h (le_add (le_self (whole units *ℚ t)) (whole_most fits))))))

-- a bound that is cut at 0 is 0
nothing_most : (bound : ℕ) (t : Fraction) → bound ≡ 0 → whole bound ≤ℚ t
unfolding whole
nothing_most bound t e = record { cross = omega (arith, ap (λ z. z * t.den) e) }

cut_step : (bound units floors most : ℕ) → 0 < units → bound * units ≤ floors - most → (bound ≡ 0) ⊎ (bound * units + most ≤ floors)
cut_step bound units floors most p h = elim (eq-zero-or-pos bound) [
  | inl e ↦ inl e
  | inr m ↦ (let positive : 0 < bound * units = mul-pos m p in inr (omega arith))
]

-- what the floors come to above the price of the budget bounds every allocation within it
pub floors_bound : (value : Value) (c : CaseRows) (held : List ℕ) (budget bound units money : ℕ) (floor : ℕ → ℕ) → IsCase c → 0 < units
    → AreFloors value c held units money floor → bound * units ≤ sum_by floor (line_units c) - money * budget → NoneHasLess value c held budget bound
floors_bound value c held budget bound units money floor valid p h low n l s a fits =
    elim (cut_step bound units (sum_by floor (line_units c)) (money * budget) p low) [
      | inl e ↦ nothing_most bound (aim value c s n *ℚ whole (2 ^ 48)) e
      | inr under ↦
          bound_step (aim value c s n *ℚ whole (2 ^ 48)) bound units (money * budget) (sum_by floor (line_units c)) (money * cost_beyond c held s) p under
          (mul-le-mul_left money fits) (floors_sum value c held units money floor (has_families c valid) h n l s a)
    ]

-- ---- no price is higher

times_out : (t0 t1 a b w : Fraction) → (t0 *ℚ a +ℚ t1 *ℚ b) *ℚ w ≈ (t0 *ℚ w) *ℚ a +ℚ (t1 *ℚ w) *ℚ b
unfolding ◌+ℚ◌ ◌*ℚ◌
times_out t0 t1 a b w = record { cross = omega arith }

around_step : (x t0 t1 w : Fraction) (left over h0 h1 most : ℕ) → 0 < left + over → h0 * over + h1 * left ≤ most * (left + over)
    → x *ℚ whole (left + over) ≤ℚ t0 *ℚ whole over +ℚ t1 *ℚ whole left → t0 *ℚ w ≤ℚ whole h0 → t1 *ℚ w ≤ℚ whole h1
    → x *ℚ w ≤ℚ whole most
around_step x t0 t1 w left over h0 h1 most p low h k0 k1 =
    le_cancel (whole (left + over)) (unfold whole in p)
    (le_chain (le_same (times_right_comm x (whole (left + over)) w) (times_out t0 t1 (whole over) (whole left) w) (le_mul h (le_self w)))
    (le_chain (le_add (le_mul k0 (le_self (whole over))) (le_mul k1 (le_self (whole left))))
    (le_same (turned (add_same (whole_product h0 over) (whole_product h1 left) ≈≈ whole_plus (h0 * over) (h1 * left)))
    (turned (whole_product most (left + over)))
    (whole_most low))))

-- no price bounds higher than the mixture of two allocations around the budget
pub no_price_around : (value : Value) (c : CaseRows) (held : List ℕ) (budget most : ℕ) (s t : List ℕ) (left over h0 h1 : ℕ)
    → AreAround c held budget s t left over → HasNoMore value c s h0 → HasNoMore value c t h1 → h0 * over + h1 * left ≤ most * (left + over)
    → NoPriceShowsMore value c held budget most
no_price_around value c held budget most s t left over h0 h1 a k0 k1 low n l price x bound =
    around_step x (aim value c s n) (aim value c t n) (whole (2 ^ 48)) left over h0 h1 most a.apart low
    (bound_between value c held budget n price x bound s t left over a) (k0 n l) (k1 n l)

-- no price bounds higher than what an allocation within the budget aims at
pub no_price_within : (value : Value) (c : CaseRows) (held : List ℕ) (budget most : ℕ) (s : List ℕ) → IsHeldAllocation c held s → cost_beyond c held s ≤ budget
    → HasNoMore value c s most → NoPriceShowsMore value c held budget most
no_price_within value c held budget most s a fits k n l price x bound =
    le_chain (le_mul (bound_within value c held budget n price x bound s a fits) (le_self (whole (2 ^ 48)))) (k n l)

hull_step : (bound lo0 lo1 fall width last cost0 budget left over : ℕ) → cost0 + left ≡ budget → lo1 + fall ≡ lo0
    → (left + over) * lo0 + fall * cost0 < (bound + 1) * (left + over) + fall * budget
    → (lo0 + width) * over + (lo1 + width + last) * left ≤ (bound + (width + last + 1)) * (left + over)
hull_step bound lo0 lo1 fall width last cost0 budget left over b f h =
    let i : fall * (cost0 + left) ≡ fall * budget = ap (λ z. fall * z) b in
    let j : left * (lo1 + fall) ≡ left * lo0 = ap (λ z. left * z) f in
    omega arith

-- the choice s and the critical step to t: `fall` of the aim for left + over of money
pub hull_limit : (value : Value) (c : CaseRows) (held : List ℕ) (budget bound lo0 lo1 fall width last : ℕ) (s t : List ℕ) (left over : ℕ)
    → AreAround c held budget s t left over → HasNoMore value c s (lo0 + width) → HasNoMore value c t (lo1 + width + last) → lo1 + fall ≡ lo0
    → (left + over) * lo0 + fall * cost_beyond c held s < (bound + 1) * (left + over) + fall * budget
    → NoPriceShowsMore value c held budget (bound + (width + last + 1))
hull_limit value c held budget bound lo0 lo1 fall width last s t left over a k0 k1 f h =
    no_price_around value c held budget (bound + (width + last + 1)) s t left over (lo0 + width) (lo1 + width + last) a k0 k1
    (hull_step bound lo0 lo1 fall width last (cost_beyond c held s) budget left over a.below f h)
