-- The sum of the weights from index to index, and 1 over it at the end.
use Rattle.std.proofs.Common.{◌≡◌, ℕ, ◌+◌, ◌-◌, ◌*◌, ◌/◌, ◌<◌, ◌≤◌, ◌^◌, ap, ◌∙◌, arith, lit<, subst, le_trans, le_of_mul-le-mul_right, pow_pos, add-one, inl, inr, mul-le-mul, mul-le-mul_left, mul-le-mul_right}
use Rattle.std.specs.Int.{div_ceil}
use Rattle.std.proofs.Math.Nat.{div-le_of_le-mul, div-mul-le_self, lt-mul-div-succ, lt_of_mul-lt-mul_right}
use Rattle.std.proofs.lemmas.Nat.{le-div}
use Rattle.std.proofs.lemmas.Bool.{cases_lt}
use Rattle.list_laws.proofs.Public.{below_more, ceil_above, ceil_most, total}
use Rattle.fixed_interval.specs.Ends.{Ends}
use Rattle.series_bounds.specs.Profile.{back_ends, far_ratio, pivot_at, ratio_ends, weight_ends}
use Rattle.series_bounds.proofs.Public.{sum_hi, weight_down, weight_up}
use Rattle.backorder_bounds.specs.declared.sums.Rising.{Rising}
use Rattle.backorder_bounds.specs.declared.sums.Reached.{Reached}
use Rattle.backorder_bounds.specs.declared.sums.Start.{Start}
use Rattle.backorder_bounds.specs.Coarse.{coarse_unit}
use Rattle.backorder_bounds.specs.Lead.{AreOver, IsOverSum, IsReached, IsStart, all_sum}
use Rattle.backorder_bounds.proofs.Coarse.{many, places, product_high}
use Rattle.backorder_bounds.proofs.SumBounds.{far_most, narrow, num_most, ratio_most, ratios_most, sum_bound}

-- a quotient rounded down, and one more, is at least the quotient rounded up of no larger a number
pub one_more : (a x b : ℕ) → 0 < b → a ≤ x → div_ceil a b ≤ x / b + 1
one_more a x b p h = ceil_most a b (x / b + 1) p (omega (arith, h, lt-mul-div-succ x p))

-- at the stock 0
pub reached_first : (f : ℕ) (m d : Ends) (start : Start) → IsStart f m d start → start.high ≤ 8 * 2 ^ 36 → IsReached f m d 0 0 start.high
reached_first f m d start h l = record {
  before = rw sum_hi (omega arith);
  here = h.high;
  most = l;
  tops = λ x i. absurd (omega arith);
}

past_most : (f : ℕ) (m d : Ends) (k ratio last : ℕ) → pivot_at f m d ≤ k → (ratio_ends f m d (k + 1)).hi ≤ ratio → (weight_ends f m d k).hi ≤ last
    → (weight_ends f m d (k + 1)).hi ≤ last * ratio / 2 ^ f + 1
past_most f m d k ratio last c r n =
    let z : k + 1 - 1 ≡ k = omega arith in
    let e : (weight_ends f m d (k + 1)).hi ≡ div_ceil ((weight_ends f m d k).hi * (ratio_ends f m d (k + 1)).hi) (2 ^ f) =
    ap (λ (y : Ends). y.hi) (weight_up f m d (k + 1) (omega (arith, c))) ∙ ap (λ x. div_ceil ((weight_ends f m d x).hi * (ratio_ends f m d (k + 1)).hi) (2 ^ f)) z in
    rw e (one_more ((weight_ends f m d k).hi * (ratio_ends f m d (k + 1)).hi) (last * ratio) (2 ^ f) (pow_pos f) (mul-le-mul n r))

-- below the pivot: n' is the denominator of the ratio back, and b that ratio
back_over : (o n n' den den' k r b : ℕ) → 0 < n' → n' ≤ n → den ≤ den' → n * o ≤ r * (den * k) → den' * k * o ≤ b * n' → o * o ≤ r * b
back_over o n n' den den' k r b p h l i j =
    let x1 : r * (den' * k * o) ≤ r * (b * n') = mul-le-mul_left r j in
    let x2 : den * (r * k * o) ≤ den' * (r * k * o) = mul-le-mul_right (r * k * o) l in
    let x3 : n * o * o ≤ r * (den * k) * o = mul-le-mul_right o i in
    let x4 : n' * (o * o) ≤ n * (o * o) = mul-le-mul_right (o * o) h in
    le_of_mul-le-mul_right {m = o * o} {n = r * b} {k = n'} (omega (arith, x1, x2, x3, x4)) p

up_most : (o w v x r b : ℕ) → 0 < o → v ≤ w → x * b ≤ v * o → o * o ≤ r * b → x ≤ w * r / o + 1
up_most o w v x r b p h k l =
    let y1 : v * (r * o) ≤ w * (r * o) = mul-le-mul_right (r * o) h in
    let y2 : x * b * r ≤ v * o * r = mul-le-mul_right r k in
    let y3 : x * (o * o) ≤ x * (r * b) = mul-le-mul_left x l in
    let t : x * o ≤ w * r = le_of_mul-le-mul_right {m = x * o} {n = w * r} {k = o} (omega (arith, y1, y2, y3)) p in
    le_trans (le-div x (w * r) o p t) (omega arith)

below_most : (f : ℕ) (m d : Ends) (over : Rising) (k ratio last : ℕ) → k + 1 ≤ pivot_at f m d → AreOver f m d over
    → over.first + over.step * k ≤ ratio * (k + 1) → (weight_ends f m d k).hi ≤ last → (weight_ends f m d (k + 1)).hi ≤ last * (ratio * coarse_unit f) / 2 ^ f + 1
unfolding back_ends
below_most f m d over k ratio last c h r n =
    let u = coarse_unit f in
    let z : k + 1 - 1 ≡ k = omega arith in
    let b = div_ceil (((1 * 2 ^ f + d.hi) * (k + 1)) * 2 ^ f) (m.lo + d.lo * k) in
    let q : 0 < m.lo + d.lo * k = omega (arith, h.positive) in
    let e0 : (weight_ends f m d (k + 1 - 1)).hi ≡ div_ceil ((weight_ends f m d (k + 1)).hi * (back_ends f m d (k + 1)).hi) (2 ^ f) =
    ap (λ (y : Ends). y.hi) (weight_down f m d (k + 1) (omega arith) c) in
    let e : (weight_ends f m d k).hi ≡ div_ceil ((weight_ends f m d (k + 1)).hi * b) (2 ^ f) =
    subst (λ x. (weight_ends f m d x).hi ≡ div_ceil ((weight_ends f m d (k + 1)).hi * div_ceil (((1 * 2 ^ f + d.hi) * (k + 1)) * 2 ^ f) (m.lo + d.lo * x)) (2 ^ f)) z e0 in
    let v : (weight_ends f m d (k + 1)).hi * b ≤ (weight_ends f m d k).hi * 2 ^ f = rw e (ceil_above ((weight_ends f m d (k + 1)).hi * b) (2 ^ f) (pow_pos f)) in
    let l : over.first * u + over.step * u * k ≤ ratio * u * (k + 1) = omega (arith, mul-le-mul_right u r) in
    let a0 : (m.hi + d.hi * (k + 1 - 1)) * 2 ^ f ≤ ratio * u * ((1 * 2 ^ f + d.lo) * (k + 1)) =
    num_most m.hi d.hi (2 ^ f) (over.first * u) (over.step * u) (1 * 2 ^ f + d.lo) (k + 1) (ratio * u) h.first h.step (rw z l) in
    let a : (m.hi + d.hi * k) * 2 ^ f ≤ ratio * u * ((1 * 2 ^ f + d.lo) * (k + 1)) = subst (λ x. (m.hi + d.hi * x) * 2 ^ f ≤ ratio * u * ((1 * 2 ^ f + d.lo) * (k + 1))) z a0 in
    let i : m.lo + d.lo * k ≤ m.hi + d.hi * k = omega (arith, h.mean, mul-le-mul_right k h.excess) in
    let j : 2 ^ f * 2 ^ f ≤ ratio * u * b = back_over (2 ^ f) (m.hi + d.hi * k) (m.lo + d.lo * k) (1 * 2 ^ f + d.lo) (1 * 2 ^ f + d.hi) (k + 1) (ratio * u) b q i (omega (arith, h.excess)) a
    (ceil_above (((1 * 2 ^ f + d.hi) * (k + 1)) * 2 ^ f) (m.lo + d.lo * k) q) in
    up_most (2 ^ f) last (weight_ends f m d k).hi (weight_ends f m d (k + 1)).hi (ratio * u) b (pow_pos f) n v j

-- at the next index, by what the ratio there is at most
pub reached_next : (f : ℕ) (m d : Ends) (over : Rising) (k ratio sum last next : ℕ) → AreOver f m d over → IsReached f m d k sum last
    → over.first + over.step * k ≤ ratio * (k + 1) → last * ratio < 2 ^ 36 * next → next ≤ 8 * 2 ^ 36 → IsReached f m d (k + 1) (sum + last) next
reached_next f m d over k ratio sum last next h n q l most =
    let u = coarse_unit f in
    let z : k + 1 - 1 ≡ k = omega arith in
    let o : 2 ^ f ≡ 2 ^ 36 * u = places f h.places in
    let r : (ratio_ends f m d (k + 1)).hi ≤ ratio * u = ratio_most f m d over (k + 1) ratio (omega arith) h (rw z q) in
    let s : total (λ x. (weight_ends f m d x).hi) k ≤ sum * u = rw sum_hi at n.before in
    let t : (last * u) * (ratio * u) / 2 ^ f + 1 ≤ next * u = product_high last ratio next u (2 ^ f) (pow_pos f) (pow_pos (f - 36)) o l in
    record {
      before = rw (sum_hi, add-one) (omega (arith, s, n.here));
      here = elim (cases_lt k (pivot_at f m d)) [
        | inl c ↦ le_trans (below_most f m d over k ratio (last * u) (omega (arith, c)) h q n.here) t
        | inr c ↦ le_trans (past_most f m d k (ratio * u) (last * u) c r n.here) t
      ];
      most = most;
      tops = below_more (λ x. (weight_ends f m d x).hi ≤ 8 * 2 ^ f) k n.tops (le_trans n.here (omega (arith, o, mul-le-mul_right u n.most)));
    }

-- the ratio rounded up
pub reached_walked : (f : ℕ) (m d : Ends) (over : Rising) (k : ℕ) (now next : Reached) → AreOver f m d over → IsReached f m d k now.sum now.last → now.above ≡ over.first + over.step * k
    → next.sum ≡ now.sum + now.last → next.last ≡ now.last * (now.above / (k + 1) + 1) / 2 ^ 36 + 1 → next.last ≤ 8 * 2 ^ 36 → IsReached f m d (k + 1) next.sum next.last
reached_walked f m d over k now next h n ea es el most =
    let ratio = now.above / (k + 1) + 1 in
    let a : now.above < (k + 1) * ratio = lt-mul-div-succ now.above (omega arith) in
    let b : now.last * ratio < 2 ^ 36 * next.last = rw el (lt-mul-div-succ (now.last * ratio) (lit< tt)) in
    rw es (reached_next f m d over k ratio now.sum now.last next.last h n (omega (arith, a, ea)) b most)

-- a weight isn't larger than the one before but by the rounding, where the ratio isn't above 1 but by that
pub not_larger : (last above k : ℕ) → last ≤ 8 * 2 ^ 36 → above < (2 ^ 36 + 255) * (k + 1) → last * (above / (k + 1) + 1) / 2 ^ 36 ≤ last + 2 ^ 11
not_larger last above k l h =
    let a : above / (k + 1) * (k + 1) ≤ above = div-mul-le_self above (k + 1) in
    let b : above / (k + 1) < 2 ^ 36 + 255 = lt_of_mul-lt-mul_right (k + 1) (omega (arith, a, h)) in
    let c : last * (above / (k + 1) + 1) ≤ last * (2 ^ 36 + 2 ^ 8) = mul-le-mul_left last (omega (arith, b)) in
    div-le_of_le-mul (2 ^ 36) (omega (arith, c, l))

-- the inverse of a sum and a rest: g is what the bound leaves of 1, x is at most the rest over it, and den the sum and the rest times g, rounded up
inverse_most : (sum last g x den inverse u o : ℕ) → 0 < g → 1024 ≤ u → o ≡ 2 ^ 36 * u → x * (g * u) ≤ (last * u + 1025) * o → sum * g + (last + 2) * 2 ^ 36 ≤ den * 2 ^ 36 → inverse * den ≤ g * 2 ^ 36
    → inverse * (sum * u + x) ≤ 2 ^ 72 * u
inverse_most sum last g x den inverse u o p l e h k i =
    let c : (last * u + 1025) * o ≤ (last + 2) * u * o = mul-le-mul_right o (omega (arith, l)) in
    let d : (last + 2) * u * o ≡ (last + 2) * 2 ^ 36 * u * u = ap (λ y. (last + 2) * u * y) e ∙ omega arith in
    let a : x * g ≤ (last + 2) * 2 ^ 36 * u = le_of_mul-le-mul_right {m = x * g} {n = (last + 2) * 2 ^ 36 * u} {k = u} (omega (arith, h, c, d)) (omega (arith, l)) in
    let b : (sum * g + (last + 2) * 2 ^ 36) * u ≤ den * 2 ^ 36 * u = mul-le-mul_right u k in
    let f : (sum * u + x) * g ≤ den * 2 ^ 36 * u = omega (arith, a, b) in
    let m : inverse * ((sum * u + x) * g) ≤ inverse * (den * 2 ^ 36 * u) = mul-le-mul_left inverse f in
    let n : inverse * den * (2 ^ 36 * u) ≤ g * 2 ^ 36 * (2 ^ 36 * u) = mul-le-mul_right (2 ^ 36 * u) i in
    le_of_mul-le-mul_right {m = inverse * (sum * u + x)} {n = 2 ^ 72 * u} {k = g} (omega (arith, m, n)) p

-- the end
pub reached_closed : (f : ℕ) (m d : Ends) (over : Rising) (k q sum last den inverse : ℕ) → pivot_at f m d ≤ k → k ≤ 63 → AreOver f m d over → IsReached f m d k sum last
    → over.first + over.step * k ≤ q * (k + 1) → over.step ≤ q → q < 2 ^ 36 → sum * (2 ^ 36 - q) + (last + 2) * 2 ^ 36 ≤ den * 2 ^ 36 → inverse * den ≤ (2 ^ 36 - q) * 2 ^ 36
    → IsOverSum f m d inverse
reached_closed f m d over k q sum last den inverse c l h n r s b hd hi =
    let u = coarse_unit f in
    let o : 2 ^ f ≡ 2 ^ 36 * u = places f h.places in
    let ratios = ratios_most f m d over k q h r s in
    let far : far_ratio f d ≤ q * u = le_trans (far_most f m d over h) (mul-le-mul_right u s) in
    let below : q * u < 2 ^ f = (let z : (q + 1) * u ≤ 2 ^ 36 * u = mul-le-mul_right u (omega (arith, b)) in omega (arith, z, o, pow_pos (f - 36))) in
    let g : 2 ^ f - q * u ≡ (2 ^ 36 - q) * u = (let z : 2 ^ 36 * u ≡ (2 ^ 36 - q) * u + q * u = (let y : 2 ^ 36 ≡ (2 ^ 36 - q) + q = omega (arith, b) in ap (λ x. x * u) y ∙ omega arith) in omega (arith, z, o)) in
    let top : last * u ≤ 8 * 2 ^ f = omega (arith, o, mul-le-mul_right u n.most) in
    let x = (last * u + 1025) * 2 ^ f / (2 ^ f - q * u) in
    let e : x * ((2 ^ 36 - q) * u) ≤ (last * u + 1025) * 2 ^ f = subst (λ y. x * y ≤ (last * u + 1025) * 2 ^ f) g (div-mul-le_self ((last * u + 1025) * 2 ^ f) (2 ^ f - q * u)) in
    let t : (all_sum f m d).hi ≤ sum * u + x = sum_bound f m d k (q * u) (last * u) c l ratios far below n.here (omega (arith, c, l)) (sum * u) n.before in
    record {
      narrow = narrow f m d k (q * u) (last * u) c l ratios far below n.here top n.tops;
      most = le_trans (mul-le-mul_left inverse t) (inverse_most sum last (2 ^ 36 - q) x den inverse u (2 ^ f) (omega (arith, b)) (many f h.places) o e hd hi);
    }
