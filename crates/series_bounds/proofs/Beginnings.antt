-- The first weights that the walk holds, and the sum of all.
use Rattle.std.proofs.Common.{◌≡◌, ℕ, zero, suc, ◌+◌, ◌-◌, ◌*◌, ◌<◌, ◌≤◌, ◌^◌, List, [], ◌∷◌, ◌++◌, length, get_or, sym, ap, ap₂, ◌∙◌, arith, subst, refl, pow_pos, mul-le-mul_left, inl, inr}
use Rattle.std.specs.Int.{div_ceil}
use Rattle.std.proofs.lemmas.Bool.{cases_lt}
use Rattle.std.proofs.lemmas.List.{length-append}
use Rattle.fixed_interval.specs.Ends.{Ends, ends_add, ends_exact, ends_mul, ends_times}
use Rattle.series_bounds.specs.Profile.{pivot_at, least_end, weight_ends, ratio_ends, ratio_bound, last_index, ends_sum, listed}
use Rattle.series_bounds.specs.Walk.{ToPivot, SumsTo, Begins, AtLeastEnd, AreWeighed, EndsAt}
use Rattle.series_bounds.specs.Answer.{IsSum, IsBeginning, at_place}
use Rattle.series_bounds.proofs.Enclosure.{listed_at, length_listed, narrow_tops, last_most}
use Rattle.series_bounds.proofs.Walks.{listed_next, end_from_63, end_most, last_start, weight_at_pivot}
use Rattle.series_bounds.proofs.Bounds.{one_of, bound_half, weight_stays}
use Rattle.series_bounds.proofs.Unlisted.{sums_next, climb_again, climb_weight, climb_done, late_end, first_top}

-- ---- the first weights

-- first weights with the next one put after them, while fewer stand there than are wanted
pub begins_more : (u : ℕ → Ends) (wanted x : ℕ) (list : List Ends) (w : Ends) → Begins u wanted x list → length list < wanted → w ≡ u x → Begins u wanted (x + 1) (list ++ w ∷ [])
begins_more u wanted x list w h l e =
    let n : length list ≡ x = h.all l in
    let k : length (list ++ w ∷ []) ≡ x + 1 = length-append list (w ∷ []) ∙ omega (arith, n) in
    record {
      entries = ap₂ (λ y z. y ++ z ∷ []) (h.entries ∙ ap (listed u) n) e ∙ sym (listed_next u x) ∙ ap (listed u) (sym k);
      most = omega (arith, k);
      all = λ _. k;
    }

-- so many as are wanted stay so at any later index
pub begins_later : (u : ℕ → Ends) (wanted x y : ℕ) (list : List Ends) → Begins u wanted x list → wanted ≤ length list → x ≤ y → Begins u wanted y list
begins_later u wanted x y list h l q = record { entries = h.entries; most = omega (arith, h.most, q); all = λ i. absurd (omega (arith, l, i)) }

-- all weights below an index are its first weights, however many are wanted
pub begins_all : (u : ℕ → Ends) (wanted x : ℕ) (list : List Ends) → list ≡ listed u x → Begins u wanted x list
begins_all u wanted x list e =
    let n : length list ≡ x = ap length e ∙ length_listed u x in
    record { entries = e ∙ ap (listed u) (sym n); most = omega (arith, n); all = λ _. n }

-- the weights from 0 to the pivot are those below the index past it
pub low_listed : (f : ℕ) (m d : Ends) (c : ℕ) (list : List Ends) → c ≡ pivot_at f m d → ToPivot f m d list → list ≡ listed (weight_ends f m d) (c + 1)
low_listed f m d c list e h = h.weights ∙ ap (listed (weight_ends f m d)) (omega (arith, e))

-- ---- the sum

-- the sum of the weights from 0 to the pivot, as a walk's sum below the index past it
pub sums_low : (f : ℕ) (m d sum : Ends) (c : ℕ) (list : List Ends) → c ≡ pivot_at f m d → ToPivot f m d list → sum ≡ ends_sum list → sum.hi ≤ length list * (8 * 2 ^ f)
    → SumsTo f m d sum (c + 1)
sums_low f m d sum c list e h s t =
    let i : suc (pivot_at f m d) ≡ c + 1 = omega (arith, e) in
    let n : length list ≡ c + 1 = ap length h.weights ∙ length_listed (weight_ends f m d) (suc (pivot_at f m d)) ∙ i in
    record {
      sum_is = s ∙ ap ends_sum (h.weights ∙ ap (listed (weight_ends f m d)) i);
      most = subst (λ z. sum.hi ≤ z * (8 * 2 ^ f)) n t;
      tops = λ y l. h.tops y (omega (arith, l, e));
    }

-- so many equal weights at once
pub sums_level : (f : ℕ) (m d sum last : Ends) (next k : ℕ) → SumsTo f m d sum next → last.hi ≤ 8 * 2 ^ f → ((x : ℕ) → next ≤ x → x < next + k → weight_ends f m d x ≡ last)
    → SumsTo f m d (ends_add sum (ends_times last k)) (next + k)
sums_level f m d sum last next zero h t same =
    let e : sum ≡ ends_add sum (ends_times last 0) = ap₂ (λ y z. record { lo = y; hi = z }) (omega arith) (omega arith) in
    let i : next ≡ next + 0 = omega arith in
    subst (λ (z : Ends). SumsTo f m d z (next + 0)) e (subst (λ z. SumsTo f m d sum z) i h)
sums_level f m d sum last next (suc k) h t same =
    let e : ends_add sum (ends_times last (suc k)) ≡ ends_add (ends_add sum (ends_times last k)) last = ap₂ (λ y z. record { lo = y; hi = z }) (omega arith) (omega arith) in
    let i : next + k + 1 ≡ next + suc k = omega arith in
    let before = sums_level f m d sum last next k h t (λ x a b. same x a (omega (arith, b))) in
    subst (λ z. SumsTo f m d (ends_add sum (ends_times last (suc k))) z) i
    (sums_next f m d (ends_add sum (ends_times last k)) last (ends_add sum (ends_times last (suc k))) (next + k) before (sym (same (next + k) (omega arith) (omega arith))) t e)

-- a weight from 0 to 1 unit, before which the last one was the same, with ratios of at most a half past it: the rest is 1
pub closed_sum : (f : ℕ) (m d low before all : Ends) (h : ℕ) → pivot_at f m d ≤ 256 → AtLeastEnd f m d low before → 2 ^ f ≡ 2 * h → 0 < m.hi → before.lo ≡ 0 → before.hi ≡ 1
    → (m.hi + d.hi * least_end f m d) * 2 ≤ (1 * 2 ^ f + d.lo) * (least_end f m d + 1) → d.hi ≤ 2 ^ f → all ≡ record { lo = low.lo; hi = low.hi + 2 } → IsSum f m d all
closed_sum f m d low before all h q a e p bl bh l t k =
    let c = climb_again f m d low before q a in
    let o : 0 < 2 ^ f = pow_pos f in
    let b = bound_half f m d (least_end f m d) h e p l t in
    let i : d.hi * (least_end f m d - 1) ≤ d.hi * least_end f m d = mul-le-mul_left d.hi (omega arith) in
    let n : 63 ≤ least_end f m d = end_from_63 f m d in
    let j : (1 * 2 ^ f + d.lo) * (least_end f m d + 1) ≤ (1 * 2 ^ f + d.lo) * (least_end f m d * 2) = mul-le-mul_left (1 * 2 ^ f + d.lo) (omega (arith, n)) in
    let s : before ≡ ends_mul f before (ratio_ends f m d (least_end f m d)) = weight_stays f m d before (least_end f m d) (omega (arith, n)) p bl bh (omega (arith, i, j, l)) in
    let w : before ≡ weight_ends f m d (least_end f m d) = climb_weight f m d before low before (ratio_ends f m d (least_end f m d)) (least_end f m d) c refl s in
    let u : 1 ≡ (weight_ends f m d (least_end f m d)).hi = sym bh ∙ ap (λ (z : Ends). z.hi) w in
    let g : 1 ≡ div_ceil (1 * ratio_bound f m d (least_end f m d)) (2 ^ f - ratio_bound f m d (least_end f m d)) =
    sym (one_of (ratio_bound f m d (least_end f m d)) (2 ^ f - ratio_bound f m d (least_end f m d)) b.1 (omega (arith, e, b.0))) in
    let r : EndsAt f m d (least_end f m d) 1 =
    late_end f m d (least_end f m d) (ratio_bound f m d (least_end f m d)) 1 1 refl u n (omega (arith, e, b.0, b.1)) g (λ _. omega arith) in
    climb_done f m d before low before (ratio_ends f m d (least_end f m d)) (least_end f m d) c refl s (omega (arith, bh, o))
    (end_most f m d 1024 (omega (arith, q)) (omega arith)) 1 r (ends_add low before) all refl
    (k ∙ ap₂ (λ y z. record { lo = y; hi = z }) (omega (arith, bl)) (omega (arith, bh)))

-- ---- what is answered

-- first weights, as many as wanted, and the sum of all are a beginning of the answer
pub beginning : (f : ℕ) (m d : Ends) (wanted : ℕ) (list : List Ends) (sum : Ends) → wanted ≤ 63 → AreWeighed f m d wanted list sum → IsBeginning f m d wanted list sum
beginning f m d wanted list sum a h =
    let l : 63 ≤ last_index f m d = omega (arith, end_from_63 f m d, last_start f m d) in
    let n : wanted ≤ length list = elim (cases_lt (length list) wanted) [ inl i ↦ omega (arith, h.first.all i, a, l) | inr i ↦ i ] in
    record {
      enough = n;
      weights = λ x i. ap (λ z. at_place z x) h.first.entries ∙ listed_at (weight_ends f m d) (length list) x (record { lo = 0; hi = 0 }) (omega (arith, i, n));
      tops = λ x i. narrow_tops f m d h.sum_is.narrow x (omega (arith, i, a, l));
      sum_is = h.sum_is;
    }

-- where 1025 first weights are wanted, these are all
pub all_listed : (f : ℕ) (m d : Ends) (list : List Ends) (sum : Ends) → pivot_at f m d ≤ 256 → AreWeighed f m d 1025 list sum → list ≡ listed (weight_ends f m d) (suc (last_index f m d))
all_listed f m d list sum q h =
    let n : length list ≡ suc (last_index f m d) = elim (cases_lt (length list) 1025) [
      | inl i ↦ omega (arith, h.first.all i)
      | inr i ↦ omega (arith, i, h.first.most, last_most f m d q)
    ] in
    h.first.entries ∙ ap (listed (weight_ends f m d)) n

-- ---- the list to the pivot

-- where the pivot is 0, that is the weight 1
pub one_to_pivot : (f : ℕ) (m d one : Ends) → pivot_at f m d ≡ 0 → one ≡ ends_exact f 1 → ToPivot f m d (one ∷ [])
unfolding listed
one_to_pivot f m d one p e =
    let w : weight_ends f m d 0 ≡ ends_exact f 1 = ap (weight_ends f m d) (sym p) ∙ weight_at_pivot f m d in
    let n : 1 ≡ suc (pivot_at f m d) = omega (arith, p) in
    record {
      weights = ap (λ z. z ∷ []) (e ∙ sym w) ∙ ap (listed (weight_ends f m d)) n;
      tops = λ x l.
          let i : pivot_at f m d ≡ x = omega (arith, l, p) in
          subst (λ z. (weight_ends f m d z).hi ≤ 8 * 2 ^ f) i (first_top f (weight_ends f m d (pivot_at f m d)) (weight_at_pivot f m d));
    }

-- and its sum
pub one_sums : (f : ℕ) (m d one : Ends) (c : ℕ) → c ≡ pivot_at f m d → c ≡ 0 → one ≡ ends_exact f 1 → SumsTo f m d one (c + 1)
one_sums f m d one c p z e =
    sums_low f m d one c (one ∷ []) p (one_to_pivot f m d one (omega (arith, p, z)) e)
    (ap₂ (λ y z. record { lo = y; hi = z }) (omega arith) (omega arith)) (omega (arith, first_top f one e))

-- the list of the weights from 0 to the pivot has at most 1025 entries
pub low_long : (f : ℕ) (m d : Ends) (list : List Ends) → ToPivot f m d list → pivot_at f m d ≤ 256 → length list ≤ 1025
low_long f m d list h q = omega (arith, ap length h.weights ∙ length_listed (weight_ends f m d) (suc (pivot_at f m d)), q)

-- none of the weights from 0 to the pivot passes 8
pub low_tops : (f : ℕ) (m d : Ends) (list : List Ends) → ToPivot f m d list → (k : ℕ) (z : Ends) → k < length list → (get_or list k z).hi ≤ 8 * 2 ^ f
low_tops f m d list h k z l =
    let i : k < suc (pivot_at f m d) = omega (arith, l, ap length h.weights ∙ length_listed (weight_ends f m d) (suc (pivot_at f m d))) in
    let e : get_or list k z ≡ weight_ends f m d k = ap (λ y. get_or y k z) h.weights ∙ listed_at (weight_ends f m d) (suc (pivot_at f m d)) k z i in
    subst (λ (y : Ends). y.hi ≤ 8 * 2 ^ f) (sym e) (h.tops k (omega (arith, i)))
