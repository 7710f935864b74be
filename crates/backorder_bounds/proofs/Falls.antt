-- Lower bounds from stock to stock.
use Rattle.std.proofs.Common.{◌≡◌, ℕ, zero, suc, ◌+◌, ◌-◌, ◌*◌, ◌/◌, ◌<◌, ◌≤◌, ◌^◌, List, inl, inr, sym, ap, ◌∙◌, refl, arith, subst, le_trans, pow_pos, mul-le-mul, mul-le-mul_left, mul-le-mul_right, le_of_mul-le-mul_right, pow-add, add-one}
use Rattle.std.proofs.Math.Nat.{mul-pos, div-le_of_le-mul, div-lt_iff_lt-mul, div-mul-le_self}
use Rattle.std.proofs.lemmas.Nat.{le-div}
use Rattle.std.proofs.lemmas.Bool.{cases_lt, cases_Bool}
use Rattle.list_laws.proofs.Public.{total, total_most}
use Rattle.fixed_interval.specs.Ends.{Ends}
use Rattle.series_bounds.specs.Profile.{back_ends, is_wide, last_index, pivot_at, ratio_ends, weight_ends}
use Rattle.series_bounds.specs.Answer.{at_place}
use Rattle.series_bounds.proofs.Public.{known_answer, listed_at, sum_hi, wide_answer, weight_at_pivot, weight_down, weight_up, end_from_63, last_start, pivot_below_last}
use Rattle.moment_table.specs.declared.kinds.Row.{Row}
use Rattle.moment_table.specs.Profile.{below_ends, chance_ends, ebo_ends, empty_row, excess_ends, known_row, table_rows, tail_ends, wide_row}
use Rattle.moment_table.specs.Rows.{at_stock}
use Rattle.moment_table.proofs.Public.{row_of_empty, row_of_known, row_of_wide}
use Rattle.backorder_bounds.specs.declared.sums.Rising.{Rising}
use Rattle.backorder_bounds.specs.declared.falling.Falling.{Falling}
use Rattle.backorder_bounds.specs.declared.lead.Lead.{Lead}
use Rattle.backorder_bounds.specs.Coarse.{coarse_unit}
use Rattle.backorder_bounds.specs.Lead.{AreUnder, IsLead, IsOverSum, all_sum, all_weights}
use Rattle.backorder_bounds.proofs.Coarse.{places, product_low}
use Rattle.backorder_bounds.specs.Falling.{IsFallen, IsFlat, IsWalk}

-- ---- one step

-- a share by no more than the inverse of the sum, rounded down, is at most the share: t parts of a unit of 56 places
share_low : (w e i sum c t u o : ℕ) → 0 < t → 0 < sum → t * o ≡ 2 ^ 72 → w * u ≤ e → i * sum ≤ 2 ^ 72 * u → c * t ≤ w * i → c ≤ e * o / sum
share_low w e i sum c t u o p q k h m n =
    let a : c * t * sum ≤ w * i * sum = mul-le-mul_right sum n in
    let d : w * (i * sum) ≤ w * (2 ^ 72 * u) = mul-le-mul_left w m in
    let g : w * u * (t * o) ≤ e * (t * o) = mul-le-mul_right (t * o) h in
    let j : w * u * 2 ^ 72 ≡ w * u * (t * o) = ap (λ x. w * u * x) (sym k) in
    let r : c * sum ≤ e * o = le_of_mul-le-mul_right {m = c * sum} {n = e * o} {k = t} (omega (arith, a, d, g, j)) p in
    le-div c (e * o) sum q r

product_least : (a b c e o : ℕ) → 0 < o → a ≤ c → b ≤ e → a * b / o ≤ c * e / o
product_least a b c e o p h k = le-div (a * b / o) (c * e) o p (le_trans (div-mul-le_self (a * b) o) (mul-le-mul h k))

num_least : (m e o first step den s r : ℕ) → first * den ≤ m * o → step * den ≤ e * o → r * (s + 1) ≤ first + step * s → r * (den * (s + 1)) ≤ (m + e * s) * o
num_least m e o first step den s r h k l =
    let a : step * den * s ≤ e * o * s = mul-le-mul_right s k in
    let b : r * (s + 1) * den ≤ (first + step * s) * den = mul-le-mul_right den l in
    omega (arith, a, b, h)

-- a number in units of f places
finer : (f : ℕ) (under : Rising) (s r : ℕ) → r * (s + 1) ≤ under.first + under.step * s → r * coarse_unit f * (s + 1) ≤ under.first * coarse_unit f + under.step * coarse_unit f * s
finer f under s r h = omega (arith, mul-le-mul_right (coarse_unit f) h)

-- a ratio is at least what its parts come to
ratio_least : (f : ℕ) (m d : Ends) (under : Rising) (s r : ℕ) → AreUnder f m d under → r * (s + 1) ≤ under.first + under.step * s → r * coarse_unit f ≤ (ratio_ends f m d (s + 1)).lo
unfolding ratio_ends
ratio_least f m d under s r h k =
    let u = coarse_unit f in
    let z : s + 1 - 1 ≡ s = omega arith in
    let a : r * u * ((1 * 2 ^ f + d.hi) * (s + 1)) ≤ (m.lo + d.lo * s) * 2 ^ f =
    num_least m.lo d.lo (2 ^ f) (under.first * u) (under.step * u) (1 * 2 ^ f + d.hi) s (r * u) h.first h.step (finer f under s r k) in
    rw z (le-div (r * u) ((m.lo + d.lo * s) * 2 ^ f) ((1 * 2 ^ f + d.hi) * (s + 1)) (mul-pos {m = 1 * 2 ^ f + d.hi} {n = s + 1} (omega (arith, pow_pos f)) (omega arith)) a)

-- the weight at the next stock, past the pivot
weight_least_past : (f : ℕ) (m d : Ends) (under : Rising) (s r w : ℕ) → pivot_at f m d ≤ s → AreUnder f m d under → r * (s + 1) ≤ under.first + under.step * s → w ≤ (weight_ends f m d s).lo
    → w * (r * coarse_unit f) / 2 ^ f ≤ (weight_ends f m d (s + 1)).lo
weight_least_past f m d under s r w c h k l =
    let z : s + 1 - 1 ≡ s = omega arith in
    let e : (weight_ends f m d (s + 1)).lo ≡ (weight_ends f m d s).lo * (ratio_ends f m d (s + 1)).lo / 2 ^ f =
    ap (λ (y : Ends). y.lo) (weight_up f m d (s + 1) (omega (arith, c))) ∙ ap (λ x. (weight_ends f m d x).lo * (ratio_ends f m d (s + 1)).lo / 2 ^ f) z in
    rw e (product_least w (r * coarse_unit f) (weight_ends f m d s).lo (ratio_ends f m d (s + 1)).lo (2 ^ f) (pow_pos f) l (ratio_least f m d under s r h k))

-- below the pivot: n is the numerator of the ratio, and b of the ratio back
back_product : (o n n' den den' k r b : ℕ) → 0 < n' → n ≤ n' → den' ≤ den → r * (den * k) ≤ n * o → b * n' ≤ den' * k * o → r * b ≤ o * o
back_product o n n' den den' k r b p h l i j =
    let x1 : r * (b * n') ≤ r * (den' * k * o) = mul-le-mul_left r j in
    let x2 : den' * (r * k * o) ≤ den * (r * k * o) = mul-le-mul_right (r * k * o) l in
    let x3 : r * (den * k) * o ≤ n * o * o = mul-le-mul_right o i in
    let x4 : n * (o * o) ≤ n' * (o * o) = mul-le-mul_right (o * o) h in
    le_of_mul-le-mul_right {m = r * b} {n = o * o} {k = n'} (omega (arith, x1, x2, x3, x4)) p

up_from : (o w v x r b : ℕ) → 0 < o → w ≤ v → v * o ≤ x * b → r * b ≤ o * o → w * r / o ≤ x
up_from o w v x r b p h k l =
    let y1 : w * (r * o) ≤ v * (r * o) = mul-le-mul_right (r * o) h in
    let y2 : v * o * r ≤ x * b * r = mul-le-mul_right r k in
    let y3 : x * (r * b) ≤ x * (o * o) = mul-le-mul_left x l in
    let t : w * r ≤ x * o = le_of_mul-le-mul_right {m = w * r} {n = x * o} {k = o} (omega (arith, y1, y2, y3)) p in
    div-le_of_le-mul o (omega (arith, t))

weight_least_below : (f : ℕ) (m d : Ends) (under : Rising) (s r w : ℕ) → 0 < m.hi → m.lo ≤ m.hi → d.lo ≤ d.hi → s + 1 ≤ pivot_at f m d → AreUnder f m d under
    → r * (s + 1) ≤ under.first + under.step * s → w ≤ (weight_ends f m d s).lo → w * (r * coarse_unit f) / 2 ^ f ≤ (weight_ends f m d (s + 1)).lo
unfolding back_ends
weight_least_below f m d under s r w p mo od c h rl l =
    let u = coarse_unit f in
    let z : s + 1 - 1 ≡ s = omega arith in
    let b = ((1 * 2 ^ f + d.lo) * (s + 1)) * 2 ^ f / (m.hi + d.hi * s) in
    let q : 0 < m.hi + d.hi * s = omega (arith, p) in
    let e0 : (weight_ends f m d (s + 1 - 1)).lo ≡ (weight_ends f m d (s + 1)).lo * (back_ends f m d (s + 1)).lo / 2 ^ f =
    ap (λ (y : Ends). y.lo) (weight_down f m d (s + 1) (omega arith) c) in
    let e : (weight_ends f m d s).lo ≡ (weight_ends f m d (s + 1)).lo * b / 2 ^ f = subst (λ x. (weight_ends f m d x).lo ≡ (weight_ends f m d (s + 1)).lo * (((1 * 2 ^ f + d.lo) * (s + 1)) * 2 ^ f / (m.hi + d.hi * x)) / 2 ^ f) z e0 in
    let v : (weight_ends f m d s).lo * 2 ^ f ≤ (weight_ends f m d (s + 1)).lo * b = rw e (div-mul-le_self ((weight_ends f m d (s + 1)).lo * b) (2 ^ f)) in
    let a : r * u * ((1 * 2 ^ f + d.hi) * (s + 1)) ≤ (m.lo + d.lo * s) * 2 ^ f =
    num_least m.lo d.lo (2 ^ f) (under.first * u) (under.step * u) (1 * 2 ^ f + d.hi) s (r * u) h.first h.step (finer f under s r rl) in
    let n : m.lo + d.lo * s ≤ m.hi + d.hi * s = omega (arith, mo, mul-le-mul_right s od) in
    let k : r * u * b ≤ 2 ^ f * 2 ^ f = back_product (2 ^ f) (m.lo + d.lo * s) (m.hi + d.hi * s) (1 * 2 ^ f + d.hi) (1 * 2 ^ f + d.lo) (s + 1) (r * u) b q n (omega (arith, od)) a
    (div-mul-le_self (((1 * 2 ^ f + d.lo) * (s + 1)) * 2 ^ f) (m.hi + d.hi * s)) in
    up_from (2 ^ f) w (weight_ends f m d s).lo (weight_ends f m d (s + 1)).lo (r * u) b (pow_pos f) l v k

-- the weight at the next stock
weight_least : (f : ℕ) (m d : Ends) (under : Rising) (s r w : ℕ) → 0 < m.hi → m.lo ≤ m.hi → d.lo ≤ d.hi → AreUnder f m d under → r * (s + 1) ≤ under.first + under.step * s
    → w ≤ (weight_ends f m d s).lo → w * (r * coarse_unit f) / 2 ^ f ≤ (weight_ends f m d (s + 1)).lo
weight_least f m d under s r w p mo od h k l = elim (cases_lt s (pivot_at f m d)) [
  | inl c ↦ weight_least_below f m d under s r w p mo od (omega (arith, c)) h k l
  | inr c ↦ weight_least_past f m d under s r w c h k l
]

module _ (f : ℕ) (m d : Ends) (s : ℕ) (l : s ≤ 63) where
  -- a weight of the list
  pub weight_at : at_place (all_weights f m d) s ≡ weight_ends f m d s
  weight_at = listed_at (weight_ends f m d) (suc (last_index f m d)) s (record { lo = 0; hi = 0 }) (omega (arith, l, end_from_63 f m d, last_start f m d))

-- the sum isn't below 1
pub sum_least : (f : ℕ) (m d : Ends) → 2 ^ f ≤ (all_sum f m d).hi
sum_least f m d =
    let w : (weight_ends f m d (pivot_at f m d)).hi ≡ 1 * 2 ^ f = ap (λ (z : Ends). z.hi) (weight_at_pivot f m d) in
    let t = total_most (λ x. (weight_ends f m d x).hi) (suc (last_index f m d)) (pivot_at f m d) (omega (arith, pivot_below_last f m d)) in
    let u : total (λ x. (weight_ends f m d x).hi) (suc (last_index f m d)) ≤ (all_sum f m d).hi = rw sum_hi (omega arith) in
    omega (arith, w, t, u)

-- the chance at s
chance_low : (f : ℕ) (m d : Ends) (s w i c t : ℕ) → s ≤ 63 → 0 < t → t * 2 ^ f ≡ 2 ^ 72 → IsOverSum f m d i → w * coarse_unit f ≤ (weight_ends f m d s).lo → c * t ≤ w * i
    → c ≤ (chance_ends f (all_weights f m d) (all_sum f m d) s).lo
unfolding chance_ends
chance_low f m d s w i c t l p o h k n =
    let z : w * coarse_unit f ≤ (at_place (all_weights f m d) s).lo = rw (weight_at f m d s l) k in
    share_low w (at_place (all_weights f m d) s).lo i (all_sum f m d).hi c t (coarse_unit f) (2 ^ f) p (omega (arith, pow_pos f, sum_least f m d)) o z h.most n

-- the chance of less than s + 1
pub below_low : (f : ℕ) (list : List Ends) (sum : Ends) (s b c : ℕ) → b ≤ (below_ends f list sum s).lo → c ≤ (chance_ends f list sum s).lo → b + c ≤ (below_ends f list sum (s + 1)).lo
unfolding below_ends
below_low f list sum s b c h k = rw add-one (omega (arith, h, k))

-- the backorders at the next stock
pub ebo_low : (f : ℕ) (m : Ends) (list : List Ends) (sum : Ends) (s e tail : ℕ) → e ≤ (ebo_ends f m list sum s).lo → 2 ^ f ≤ (below_ends f list sum (s + 1)).lo + tail
    → e - tail ≤ (ebo_ends f m list sum (s + 1)).lo
unfolding ebo_ends tail_ends
ebo_low f m list sum s e tail h k =
    let i : 2 ^ f ≤ (below_ends f list sum (suc s)).lo + tail = rw add-one at k in
    rw add-one (omega (arith, h, i))

-- ---- the table's rows

-- the table's backorders, where the weights begin with the stock 0 and aren't wide
ebo_at : (f : ℕ) (m v : Ends) (inverse s : ℕ) → s ≤ 63 → 0 < m.hi → IsOverSum f m (excess_ends f m v) inverse
    → ebo_ends f m (all_weights f m (excess_ends f m v)) (all_sum f m (excess_ends f m v)) s ≡ (at_stock (table_rows f m v) s).ebo
unfolding known_row
ebo_at f m v inverse s l p h =
    let d = excess_ends f m v in
    ap (λ (r : Row f). r.ebo)
    (row_of_known f m v (pivot_at f m d) (all_weights f m d) (all_sum f m d) (known_row f m v (all_weights f m d) (all_sum f m d) s) s l p (known_answer f m d h.narrow) refl)

-- known backorders fall by at most one
known_mean : (f : ℕ) (m : Ends) (list : List Ends) (sum : Ends) (s : ℕ) → m.lo - s * 2 ^ f ≤ (ebo_ends f m list sum s).lo
unfolding ebo_ends tail_ends
known_mean f m list sum zero = omega arith
known_mean f m list sum (suc s) = omega (arith, known_mean f m list sum s)

row_mean : (f : ℕ) (m v : Ends) (list : List Ends) (sum : Ends) (s : ℕ) → m.lo - s * 2 ^ f ≤ (known_row f m v list sum s).ebo.lo
unfolding known_row
row_mean f m v list sum s = known_mean f m list sum s

wide_mean : (f : ℕ) (m v : Ends) (s : ℕ) → m.lo - s * 2 ^ f ≤ (wide_row f m v s).ebo.lo
unfolding wide_row
wide_mean f m v s = omega arith

empty_mean : (f : ℕ) (m : Ends) (s : ℕ) → m.lo ≤ m.hi → m.hi ≡ 0 → m.lo - s * 2 ^ f ≤ (empty_row f).ebo.lo
unfolding empty_row
empty_mean f m s o e = omega (arith, o, e)

-- the backorders of a table are at least the mean less the stock
pub mean_low : (f : ℕ) (m v : Ends) (s : ℕ) → s ≤ 63 → m.lo ≤ m.hi → m.lo - s * 2 ^ f ≤ (at_stock (table_rows f m v) s).ebo.lo
mean_low f m v s l o =
    let d = excess_ends f m v in
    elim (cases_lt 0 m.hi) [
      | inl p ↦ elim (cases_Bool (is_wide f m d)) [
        | inl t ↦ subst (λ (r : Row f). m.lo - s * 2 ^ f ≤ r.ebo.lo) (row_of_wide f m v (wide_row f m v s) s l p (wide_answer f m d t) refl) (wide_mean f m v s)
        | inr t ↦ subst (λ (r : Row f). m.lo - s * 2 ^ f ≤ r.ebo.lo)
            (row_of_known f m v (pivot_at f m d) (all_weights f m d) (all_sum f m d) (known_row f m v (all_weights f m d) (all_sum f m d) s) s l p (known_answer f m d t) refl)
            (row_mean f m v (all_weights f m d) (all_sum f m d) s)
      ]
      | inr e ↦ (let z : m.hi ≡ 0 = omega (arith, e) in
          subst (λ (r : Row f). m.lo - s * 2 ^ f ≤ r.ebo.lo) (row_of_empty f m v (empty_row f) s l z refl) (empty_mean f m s o z))
    ]

-- ---- what runs along

-- at the stock 0
pub fallen_first : (f : ℕ) (m v : Ends) (lead : Lead) (mean tail : ℕ) → mean ≡ m.lo → tail ≡ 2 ^ f → IsLead f m (excess_ends f m v) lead
    → IsFallen f m v lead 0 (record { low = mean; tail = tail; weight = lead.start; above = lead.under.first })
unfolding ebo_ends below_ends
fallen_first f m v lead mean tail e u h = record {
  low = omega (arith, e);
  chances = λ p. record {
    tail = omega (arith, u);
    weight = h.start;
    above = omega arith;
  };
}

-- a chance in at most 52 places has 64 bits
pub chance_fits : (f w i : ℕ) → f ≤ 52 → w ≤ 8 * 2 ^ 36 → i ≤ 2 ^ 36 → w * i / 2 ^ (72 - f) < 2 ^ 64
chance_fits f w i l a b =
    let e : 2 ^ (72 - f) ≡ 2 ^ 20 * 2 ^ (52 - f) = ap (λ x. 2 ^ x) (let z : 72 - f ≡ 20 + (52 - f) = omega (arith, l) in z) ∙ pow-add 2 20 (52 - f) in
    let p : w * i ≤ 8 * 2 ^ 36 * 2 ^ 36 = mul-le-mul a b in
    (div-lt_iff_lt-mul (pow_pos (72 - f))).1 (omega (arith, e, p, pow_pos (52 - f)))

-- at the next stock
pub fallen_next : (f : ℕ) (m v : Ends) (lead : Lead) (s : ℕ) (now : Falling) (chance ratio tail weight low above : ℕ) → s ≤ 63 → 46 ≤ f → f ≤ 52 → 0 < now.low
    → IsLead f m (excess_ends f m v) lead → IsFallen f m v lead s now → chance ≡ now.weight * lead.inverse / 2 ^ (72 - f) → ratio ≡ now.above / (s + 1)
    → tail ≡ now.tail - chance → weight ≤ now.weight * ratio / 2 ^ 36 → low ≡ now.low - tail → above ≡ now.above + lead.under.step
    → IsFallen f m v lead (s + 1) (record { low = low; tail = tail; weight = weight; above = above })
fallen_next f m v lead s now chance ratio tail weight low above l fl fm p h n ec er et lw el ea =
    let d = excess_ends f m v in
    let u = coarse_unit f in
    let c = n.chances p in
    let t : 2 ^ (72 - f) * 2 ^ f ≡ 2 ^ 72 = sym (ap (λ x. 2 ^ x) (let z : 72 ≡ (72 - f) + f = omega (arith, fm) in z) ∙ pow-add 2 (72 - f) f) in
    let a : chance ≤ (chance_ends f (all_weights f m d) (all_sum f m d) s).lo =
    chance_low f m d s now.weight lead.inverse chance (2 ^ (72 - f)) l (pow_pos (72 - f)) t h.sum c.weight (rw ec (div-mul-le_self (now.weight * lead.inverse) (2 ^ (72 - f)))) in
    let b : 2 ^ f ≤ (below_ends f (all_weights f m d) (all_sum f m d) (s + 1)).lo + tail =
    (let j = below_low f (all_weights f m d) (all_sum f m d) s (below_ends f (all_weights f m d) (all_sum f m d) s).lo chance (omega arith) a in omega (arith, j, et, c.tail)) in
    let r : ratio * (s + 1) ≤ lead.under.first + lead.under.step * s = (let j : now.above / (s + 1) * (s + 1) ≤ now.above = div-mul-le_self now.above (s + 1) in rw er (omega (arith, j, c.above))) in
    let w : weight * u ≤ (now.weight * u) * (ratio * u) / 2 ^ f = le_trans (mul-le-mul_right u lw) (product_low now.weight ratio u (2 ^ f) (pow_pos f) (places f fl)) in
    record {
      low = rw el (ebo_low f m (all_weights f m d) (all_sum f m d) s now.low tail n.low b);
      chances = λ q. record {
        tail = omega (arith, b);
        weight = le_trans w (weight_least f m d lead.under s ratio (now.weight * u) h.positive h.mean h.excess h.under r c.weight);
        above = omega (arith, ea, c.above);
      };
    }

-- where no backorders are left
pub fallen_none : (f : ℕ) (m v : Ends) (lead : Lead) (s : ℕ) (now : Falling) → now.low ≡ 0 → IsFallen f m v lead s now
fallen_none f m v lead s now e = record {
  low = omega (arith, e);
  chances = λ p. absurd (omega (arith, e, p));
}

-- what runs along at s is at most the table's backorders there
pub fallen_low : (f : ℕ) (m v : Ends) (lead : Lead) (s : ℕ) (now : Falling) → s ≤ 63 → IsLead f m (excess_ends f m v) lead → IsFallen f m v lead s now
    → now.low ≤ (at_stock (table_rows f m v) s).ebo.lo
fallen_low f m v lead s now l h n = subst (λ (z : Ends). now.low ≤ z.lo) (ebo_at f m v lead.inverse s l h.positive h.sum) n.low

-- by the mean alone, at the next stock
pub flat_next : (f : ℕ) (m : Ends) (lead : Lead) (s : ℕ) (now : Falling) (chance d tail weight low above : ℕ) → 0 < d → IsFlat f m lead s now → chance ≡ now.weight * lead.inverse / d
    → tail ≡ now.tail - chance → low ≡ now.low - tail → IsFlat f m lead (s + 1) (record { low = low; tail = tail; weight = weight; above = above })
flat_next f m lead s now chance d tail weight low above p h ec et el =
    let a : now.weight * lead.inverse ≡ now.weight * 0 = ap (λ x. now.weight * x) h.inverse in
    let b : now.weight * lead.inverse / d ≤ 0 = div-le_of_le-mul d (omega (arith, a)) in
    let c : chance ≡ 0 = omega (arith, ec, b) in
    let t : tail ≡ 2 ^ f = omega (arith, et, c, h.tail) in
    record {
      inverse = h.inverse;
      tail = t;
      low = omega (arith, el, t, h.low);
    }

-- and where no backorders are left
pub flat_none : (f : ℕ) (m : Ends) (lead : Lead) (s : ℕ) (now : Falling) → now.low ≡ 0 → IsFlat f m lead s now → IsFlat f m lead (s + 1) now
flat_none f m lead s now e h = record {
  inverse = h.inverse;
  tail = h.tail;
  low = omega (arith, e, h.low);
}

-- the bound of a walk is at most the table's backorders
pub walk_low : (f : ℕ) (m v : Ends) (s : ℕ) (lead : Lead) (falling : Falling) → IsWalk f m v s lead falling → falling.low ≤ (at_stock (table_rows f m v) s).ebo.lo
walk_low f m v s lead falling h = elim h.bounds [
  | inl n ↦ (let a = mean_low f m v s h.stock h.ordered in omega (arith, a, n.low))
  | inr n ↦ fallen_low f m v lead s falling h.stock n.weights n.fallen
]
