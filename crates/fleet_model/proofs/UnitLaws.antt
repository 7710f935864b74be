-- Demands, direct pipelines and zero-stock means are whole numbers of their units.
use Rattle.std.proofs.Common.{◌≡◌, ℕ, zero, suc, ◌+◌, ◌-◌, ◌*◌, ◌^◌, ◌<◌, List, [], ◌∷◌, Option, Some, None, sum_by, inl, inr, refl, sym, ap, ◌∙◌, arith, zero-lt-suc, eq-zero-or-pos}
use Rattle.std.proofs.Math.Nat.{mul-pos}
use Rattle.std.proofs.lemmas.List.Sums.{sum_by-cons}
use Rattle.list_laws.proofs.Public.{products_same}
use Rattle.exact_model.specs.Fraction.{Fraction, whole, ◌≈◌, ◌+ℚ◌, ◌-ℚ◌, ◌*ℚ◌, ◌/ℚ◌, scaled}
use Rattle.exact_model.proofs.Public.{over, same, turned, ◌≈≈◌, mul_same, mul_cancel, quotient, times_assoc, zeros_same}
use Rattle.spares_input.specs.Cases.{CaseRows, rate_at}
use Rattle.spares_input.specs.Frames.{line_of, site_at}
use Rattle.exact_model.specs.Sums.{sum_over}
use Rattle.fleet_model.specs.Rows.{bases, shop_units, ten_thousandths, years, here, sent, needed, repair, ship}
use Rattle.fleet_model.specs.Demand.{m_0j, m_00, m_ij, m_i0, f_i0, f_ij, f_0j}
use Rattle.fleet_model.specs.ZeroStock.{direct_i0, direct_00, time_at, direct_ij, direct_0j, zero_stock_i0, zero_stock_00, zero_stock_ij, zero_stock_0j}
use Rattle.fleet_model.specs.Pairs.{by_pair, demand, share, direct, zero_stock}
use Rattle.fleet_model.specs.Units.{demand_0j, demand_units, demand_scale, sent_0j, demand_00, demand_ij, sent_ij, needed_i0, demand_i0, days_at, direct_units_i0, direct_units_00, direct_units_ij, direct_units_0j, zero_stock_units_00, zero_stock_units_ij, zero_stock_units_0j, direct_units, zero_stock_units, share_top, share_bottom, in_pipeline}
use Rattle.fleet_model.proofs.Order.{over_zero}

-- x is n / d
record Is (x : Fraction) (n d : ℕ) : Type 0 where
  cross : x.num * d ≡ n * x.den

times_is : {x y : Fraction} {n d m f : ℕ} → Is x n d → Is y m f → Is (x *ℚ y) (n * m) (d * f)
unfolding ◌*ℚ◌
times_is {x} {y} {n} {d} {m} {f} h k = record { cross = products_same x.num x.den y.num y.den n d m f h.cross k.cross }

plus_step : (a b c e n m d : ℕ) → a * d ≡ n * b → c * d ≡ m * e → (a * e + c * b) * d ≡ (n + m) * (b * e)
plus_step a b c e n m d h k = omega (arith, ap (λ z. z * e) h, ap (λ z. z * b) k)

plus_is : {x y : Fraction} {n m d : ℕ} → Is x n d → Is y m d → Is (x +ℚ y) (n + m) d
unfolding ◌+ℚ◌
plus_is {x} {y} {n} {m} {d} h k = record { cross = plus_step x.num x.den y.num y.den n m d h.cross k.cross }

-- in a smaller unit
finer : {x : Fraction} {n d : ℕ} (k : ℕ) → Is x n d → Is x (n * k) (d * k)
finer {x} {n} {d} k h = record { cross = finer_step x.num x.den n d k h.cross }
  where
    finer_step : (a b n d k : ℕ) → a * d ≡ n * b → a * (d * k) ≡ (n * k) * b
    finer_step a b n d k h = omega (arith, ap (λ z. k * z) h)

nothing_is : (d : ℕ) → Is (whole 0) 0 d
unfolding whole
nothing_is d = record { cross = omega arith }

moved : {x : Fraction} {n m d : ℕ} → n ≡ m → Is x n d → Is x m d
moved {x} {n} {m} {d} e h = record { cross = h.cross ∙ ap (λ z. z * x.den) e }

sum_is : (xs : List ℕ) (f : ℕ → Fraction) (g : ℕ → ℕ) (d : ℕ) → ((i : ℕ) → Is (f i) (g i) d) → Is (sum_over xs f) (sum_by g xs) d
unfolding sum_over
sum_is [] f g d h = nothing_is d
sum_is (x ∷ xs) f g d h = moved (sym (sum_by-cons g x xs)) (plus_is (h x) (sum_is xs f g d h))

-- ---- the inputs

here_is : (c : CaseRows) (p j : ℕ) → Is (here c p j) (rate_at c p j).repair_here 10000
unfolding here ten_thousandths
here_is c p j = record { cross = refl }

sent_is : (c : CaseRows) (p j : ℕ) → Is (sent c p j) (10000 - (rate_at c p j).repair_here) 10000
unfolding sent here ten_thousandths whole ◌-ℚ◌
sent_is c p j = record { cross = rest_step (rate_at c p j).repair_here }
  where
    rest_step : (r : ℕ) → (1 * 10000 - r * 1) * 10000 ≡ (10000 - r) * 10000
    rest_step r = omega arith

needed_is : (c : CaseRows) (i k : ℕ) → Is (needed c i k) (rate_at c i k).share 10000
unfolding needed ten_thousandths
needed_is c i k = record { cross = refl }

repair_is : (c : CaseRows) (p k : ℕ) → Is (repair c p k) (rate_at c p k).repair_days 36500
unfolding repair years
repair_is c p k = record { cross = refl }

ship_is : (c : CaseRows) (j : ℕ) → Is (ship c j) (site_at c.sites j).ship 36500
unfolding ship years
ship_is c j = record { cross = refl }

-- ---- demands

m_0j_is : (c : CaseRows) (l j : ℕ) → Is (m_0j c l j) (rate_at c l j).demand 10000
unfolding m_0j ten_thousandths
m_0j_is c l j = record { cross = refl }

m_00_is : (c : CaseRows) (l : ℕ) → Is (m_00 c l) (demand_00 c l) 100000000
unfolding m_00
m_00_is c l = sum_is (bases c) _ (sent_0j c l) 100000000 (λ j. times_is (m_0j_is c l j) (sent_is c l j))

m_ij_is : (c : CaseRows) (l i j : ℕ) → Is (m_ij c l i j) (demand_ij c l i j) 1000000000000
unfolding m_ij
m_ij_is c l i j = times_is (times_is (m_0j_is c l j) (here_is c l j)) (needed_is c i j)

m_i0_is : (c : CaseRows) (l i : ℕ) → Is (m_i0 c l i) (demand_i0 c l i) 10000000000000000
unfolding m_i0
m_i0_is c l i =
    plus_is (sum_is (bases c) _ (sent_ij c l i) 10000000000000000 (λ j. times_is (m_ij_is c l i j) (sent_is c i j)))
    (finer 10000 (times_is (m_00_is c l) (needed_is c i 0)))

-- ---- pipelines

time_is : (c : CaseRows) (p j : ℕ) → Is (time_at c p j) (days_at c p j) 365000000
unfolding time_at
time_is c p j = plus_is (times_is (sent_is c p j) (ship_is c j)) (times_is (here_is c p j) (repair_is c p j))

direct_i0_is : (c : CaseRows) (l i : ℕ) → Is (direct_i0 c l i) (direct_units_i0 c l i) 365000000000000000000
unfolding direct_i0
direct_i0_is c l i = times_is (m_i0_is c l i) (repair_is c i 0)

direct_00_is : (c : CaseRows) (l : ℕ) → Is (direct_00 c l) (direct_units_00 c l) 365000000000000000000
unfolding direct_00
direct_00_is c l = finer 100000000 (times_is (m_00_is c l) (repair_is c l 0))

direct_ij_is : (c : CaseRows) (l i j : ℕ) → Is (direct_ij c l i j) (direct_units_ij c l i j) 365000000000000000000
unfolding direct_ij
direct_ij_is c l i j = times_is (m_ij_is c l i j) (time_is c i j)

direct_0j_is : (c : CaseRows) (l j : ℕ) → Is (direct_0j c l j) (direct_units_0j c l j) 365000000000000000000
unfolding direct_0j
direct_0j_is c l j = finer 100000000 (times_is (m_0j_is c l j) (time_is c l j))

zero_stock_00_is : (c : CaseRows) (l : ℕ) → Is (zero_stock_00 c l) (zero_stock_units_00 c l) 365000000000000000000
unfolding zero_stock_00
zero_stock_00_is c l =
    plus_is (direct_00_is c l) (sum_is (shop_units c l) _ (λ i. needed_i0 c l i * (rate_at c i 0).repair_days * 10000) 365000000000000000000
    (λ i. finer 10000 (times_is (times_is (m_00_is c l) (needed_is c i 0)) (repair_is c i 0))))

zero_stock_ij_is : (c : CaseRows) (l i j : ℕ) → Is (zero_stock_ij c l i j) (zero_stock_units_ij c l i j) 365000000000000000000
unfolding zero_stock_ij
zero_stock_ij_is c l i j = plus_is (direct_ij_is c l i j) (times_is (times_is (m_ij_is c l i j) (sent_is c i j)) (repair_is c i 0))

zero_stock_0j_is : (c : CaseRows) (l j : ℕ) → Is (zero_stock_0j c l j) (zero_stock_units_0j c l j) 365000000000000000000
unfolding zero_stock_0j
zero_stock_0j_is c l j =
    plus_is (plus_is (direct_0j_is c l j)
    (finer 10000 (times_is (times_is (m_0j_is c l j) (sent_is c l j))
    (plus_is (finer 10000 (repair_is c l 0))
    (sum_is (shop_units c l) _ (λ i. (rate_at c i 0).share * (rate_at c i 0).repair_days) 365000000 (λ i. times_is (needed_is c i 0) (repair_is c i 0)))))))
    (sum_is (shop_units c l) _ (λ i. zero_stock_units_ij c l i j) 365000000000000000000 (λ i. zero_stock_ij_is c l i j))

-- ---- by pair

in_units : {x : Fraction} {n : ℕ} → Is x n 365000000000000000000 → x ≈ in_pipeline n
unfolding in_pipeline
in_units h = record { cross = h.cross }

direct_of : (c : CaseRows) (o : Option ℕ) (p k : ℕ)
    → by_pair (direct_i0 c) (direct_00 c) (direct_ij c) (direct_0j c) o p k
    ≈ in_pipeline (by_pair (direct_units_i0 c) (direct_units_00 c) (direct_units_ij c) (direct_units_0j c) o p k)
direct_of c (Some l) p zero = in_units (direct_i0_is c l p)
direct_of c None p zero = in_units (direct_00_is c p)
direct_of c (Some l) p (suc j) = in_units (direct_ij_is c l p (suc j))
direct_of c None p (suc j) = in_units (direct_0j_is c p (suc j))

-- the direct pipeline D of a pair is its number of whole units
pub units_of_direct : (c : CaseRows) (p k : ℕ) → direct c p k ≈ in_pipeline (direct_units c p k)
units_of_direct c p k = direct_of c (line_of c.parts p) p k

zero_stock_of : (c : CaseRows) (o : Option ℕ) (p k : ℕ)
    → by_pair (zero_stock_i0 c) (zero_stock_00 c) (zero_stock_ij c) (zero_stock_0j c) o p k
    ≈ in_pipeline (by_pair (direct_units_i0 c) (zero_stock_units_00 c) (zero_stock_units_ij c) (zero_stock_units_0j c) o p k)
unfolding zero_stock_i0
zero_stock_of c (Some l) p zero = in_units (direct_i0_is c l p)
zero_stock_of c None p zero = in_units (zero_stock_00_is c p)
zero_stock_of c (Some l) p (suc j) = in_units (zero_stock_ij_is c l p (suc j))
zero_stock_of c None p (suc j) = in_units (zero_stock_0j_is c p (suc j))

-- the zero-stock mean M of a pair is its number of whole units
pub units_of_zero_stock : (c : CaseRows) (p k : ℕ) → zero_stock c p k ≈ in_pipeline (zero_stock_units c p k)
units_of_zero_stock c p k = zero_stock_of c (line_of c.parts p) p k

-- ---- demands by pair

times_scale : {x : Fraction} {n d : ℕ} → Is x n d → x *ℚ whole d ≈ whole n
unfolding whole ◌*ℚ◌
times_scale {x} {n} {d} h = record { cross = times_scale_step x.num x.den n d h.cross }
  where
    times_scale_step : (a b n d : ℕ) → a * d ≡ n * b → a * d * 1 ≡ n * (b * 1)
    times_scale_step a b n d h = omega (arith, h)

unit_over : {x : Fraction} {n d : ℕ} → 0 < d → Is x n d → x ≈ whole n /ℚ whole d
unit_over {x} {n} {d} p h =
    let some : 0 < (whole d).num = unfold whole in p in
    mul_cancel (whole d) some (times_scale h ≈≈ turned (quotient (whole n) (whole d) some))

demand_of : (c : CaseRows) (o : Option ℕ) (p k : ℕ)
    → by_pair (m_i0 c) (m_00 c) (m_ij c) (m_0j c) o p k
    ≈ whole (by_pair (demand_i0 c) (demand_00 c) (demand_ij c) (demand_0j c) o p k)
    /ℚ whole (by_pair (λ l i. 10 ^ 16) (λ l. 10 ^ 8) (λ l i j. 10 ^ 12) (λ l j. 10 ^ 4) o p k)
demand_of c (Some l) p zero = unit_over (zero-lt-suc 9999999999999999) (m_i0_is c l p)
demand_of c None p zero = unit_over (zero-lt-suc 99999999) (m_00_is c p)
demand_of c (Some l) p (suc j) = unit_over (zero-lt-suc 999999999999) (m_ij_is c l p (suc j))
demand_of c None p (suc j) = unit_over (zero-lt-suc 9999) (m_0j_is c p (suc j))

-- the demand of a pair is its number of whole units over how many of them make 1
pub units_of_demand : (c : CaseRows) (p k : ℕ) → demand c p k ≈ whole (demand_units c p k) /ℚ whole (demand_scale c p k)
units_of_demand c p k = demand_of c (line_of c.parts p) p k

-- ---- shares

unit_of : {x : Fraction} {n d : ℕ} (p : 0 < d) → Is x n d → x ≈ whole n *ℚ over 1 d p
unfolding whole ◌*ℚ◌
unit_of {x} {n} {d} p h = record { cross = unit_step x.num x.den n d h.cross }
  where
    unit_step : (a b n d : ℕ) → a * d ≡ n * b → a * (1 * d) ≡ n * 1 * b
    unit_step a b n d h = omega (arith, h)

no_units : (a b m d : ℕ) → 0 < b → a * d ≡ m * b → a ≡ 0 → m ≡ 0
no_units a b zero d p h z = refl
no_units a b (suc m) d p h z = absurd (omega (arith, ap (λ y. y * d) z, mul-pos (zero-lt-suc m) p))

some_units : (a b m d : ℕ) → 0 < d → a * d ≡ m * b → 0 < a → 0 < (whole m).num
unfolding whole
some_units a b zero d p h q = omega (arith, mul-pos q p)
some_units a b (suc m) d p h q = zero-lt-suc m

share_is : {x y : Fraction} {n m d : ℕ} → 0 < d → Is x n d → Is y m d → x /ℚ y ≈ whole n /ℚ whole m
share_is {x} {y} {n} {m} {d} p h k = elim (eq-zero-or-pos y.num) [
  | inl z ↦ zeros_same (over_zero x y z) (over_zero (whole n) (whole m) (unfold whole in no_units y.num y.den m d y.positive k.cross z))
  | inr q ↦
      let e : Fraction = over 1 d p in
      let some : 0 < (whole m).num = some_units y.num y.den m d p k.cross q in
      mul_cancel y q (quotient x y q ≈≈ turned
      (mul_same (same (whole n /ℚ whole m)) (unit_of p k)
      ≈≈ turned (times_assoc (whole n /ℚ whole m) (whole m) (over 1 d p))
      ≈≈ mul_same (quotient (whole n) (whole m) some) (same (over 1 d p))
      ≈≈ turned (unit_of p h)))
]

pub f_i0_is : (c : CaseRows) (l i : ℕ) → f_i0 c l i ≈ whole (needed_i0 c l i * 10000) /ℚ whole (demand_i0 c l i)
unfolding f_i0
f_i0_is c l i = share_is (zero-lt-suc 9999999999999999) (finer 10000 (times_is (m_00_is c l) (needed_is c i 0))) (m_i0_is c l i)

pub f_ij_is : (c : CaseRows) (l i j : ℕ) → f_ij c l i j ≈ whole (sent_ij c l i j) /ℚ whole (demand_i0 c l i)
unfolding f_ij
f_ij_is c l i j = share_is (zero-lt-suc 9999999999999999) (times_is (m_ij_is c l i j) (sent_is c i j)) (m_i0_is c l i)

pub f_0j_is : (c : CaseRows) (l j : ℕ) → f_0j c l j ≈ whole (sent_0j c l j) /ℚ whole (demand_00 c l)
unfolding f_0j
f_0j_is c l j = share_is (zero-lt-suc 99999999) (times_is (m_0j_is c l j) (sent_is c l j)) (m_00_is c l)

one_over_one : whole 1 ≈ whole 1 /ℚ whole 1
unfolding whole ◌/ℚ◌ scaled
one_over_one = record { cross = refl }

share_of : (c : CaseRows) (o : Option ℕ) (p k : ℕ)
    → by_pair (f_i0 c) (λ l. whole 1) (f_ij c) (f_0j c) o p k
    ≈ whole (by_pair (λ l i. needed_i0 c l i * 10000) (λ l. 1) (sent_ij c) (sent_0j c) o p k)
    /ℚ whole (by_pair (demand_i0 c) (λ l. 1) (λ l i j. demand_i0 c l i) (λ l j. demand_00 c l) o p k)
share_of c (Some l) p zero = f_i0_is c l p
share_of c None p zero = one_over_one
share_of c (Some l) p (suc j) = f_ij_is c l p (suc j)
share_of c None p (suc j) = f_0j_is c p (suc j)

-- the share of a pair is its top over its bottom, in whole units
pub share_units : (c : CaseRows) (p k : ℕ) → share c p k ≈ whole (share_top c p k) /ℚ whole (share_bottom c p k)
share_units c p k = share_of c (line_of c.parts p) p k
