-- The walks without lists: the sum of the weights, and one weight.
use Rattle.std.proofs.Common.{◌≡◌, ℕ, zero, suc, ◌+◌, ◌-◌, ◌*◌, ◌<◌, ◌≤◌, ◌^◌, true, false, [], ◌∷◌, ◌⊎◌, inl, inr, sym, ap, ap₂, ◌∙◌, arith, subst, le_trans, mul-le-mul_right}
use Rattle.std.specs.Int.{div_ceil}
use Rattle.std.proofs.Math.Nat.{eq-or-lt_of_le}
use Rattle.std.proofs.lemmas.Bool.{and_right, lt-leb}
use Rattle.std.proofs.lemmas.List.Sums.{fold-append}
use Rattle.list_laws.proofs.Public.{below_more}
use Rattle.fixed_interval.specs.Ends.{Ends, ends_add, ends_exact, ends_mul}
use Rattle.fixed_interval.proofs.Public.{unit_most}
use Rattle.series_bounds.specs.Profile.{ratio_ends, back_ends, pivot_at, weight_ends, has_remainder, ratio_bound, remainder_at, may_end, last_index, is_wide, ends_sum, ends_raised, least_end, listed, weights_of}
use Rattle.series_bounds.specs.Walk.{AtIndex, AtLeastEnd, EndsAt, GoesOn, Midway, StaysFrom, SumsTo}
use Rattle.series_bounds.specs.declared.kinds.Weights.TheVariants.{Known}
use Rattle.series_bounds.specs.Answer.{IsSum, at_place}
use Rattle.series_bounds.proofs.Enclosure.{profile_sized, known_answer, listed_at, rest_small}
use Rattle.series_bounds.proofs.Bounds.{exists_is, missing_is, rest_is, weight_stays_on}
use Rattle.series_bounds.proofs.Walks.{Passed, end_from_63, end_most, end_past_pivot, last_is, last_least, last_start, listed_next, may_from, may_not, narrow_from, pivot_below_last, weight_at_pivot, weight_down, weight_up, wide_at, wide_unended}

-- ---- sums

sum_next : (u : ℕ → Ends) (x : ℕ) → ends_sum (listed u (x + 1)) ≡ ends_add (ends_sum (listed u x)) (u x)
sum_next u x = ap ends_sum (listed_next u x) ∙ fold-append ends_add (record { lo = 0; hi = 0 }) (listed u x) (u x ∷ [])

sum_none : (u : ℕ → Ends) → ends_exact 0 0 ≡ ends_sum (listed u 0)
unfolding listed
sum_none u = ap₂ (λ y z. record { lo = y; hi = z }) (omega arith) (omega arith)

none_is : (f : ℕ) → ends_exact f 0 ≡ ends_exact 0 0
none_is f = ap₂ (λ y z. record { lo = y; hi = z }) (omega arith) (omega arith)

-- the sum of no weights is 0
pub sums_start : (f : ℕ) (m d sum : Ends) → sum ≡ ends_exact f 0 → SumsTo f m d sum 0
sums_start f m d sum e = record {
  sum_is = e ∙ none_is f ∙ sum_none (weight_ends f m d);
  most = (let h = ap (λ (z : Ends). z.hi) e in omega (arith, h));
  tops = λ y l. absurd (omega arith);
}

-- the sum with the weight at x is that below x + 1
pub sums_next : (f : ℕ) (m d sum w more : Ends) (x : ℕ) → SumsTo f m d sum x → w ≡ weight_ends f m d x → w.hi ≤ 8 * 2 ^ f → more ≡ ends_add sum w → SumsTo f m d more (x + 1)
sums_next f m d sum w more x h e t k = record {
  sum_is = k ∙ ap₂ ends_add h.sum_is e ∙ sym (sum_next (weight_ends f m d) x);
  most = (let a = ap (λ (z : Ends). z.hi) k in omega (arith, a, t, h.most));
  tops = below_more (λ y. (weight_ends f m d y).hi ≤ 8 * 2 ^ f) x h.tops (subst (λ (z : Ends). z.hi ≤ 8 * 2 ^ f) e t);
}

-- ---- sizes, over plain variables

-- an index below 1025 is at most the last one
pub up_to_last : (x : ℕ) → x < 1025 → x ≤ 1024
up_to_last x l = omega arith

-- a weight whose upper end is above the bound, as the code has both, is above 8
pub above_8 : (o most hi w : ℕ) → most ≡ 8 * o → hi ≡ w → most < hi → 8 * o < w
above_8 o most hi w e h l = omega arith

-- and one whose upper end isn't is at most 8
pub upto_8 : (o most hi w : ℕ) → most ≡ 8 * o → hi ≡ w → hi ≤ most → w ≤ 8 * o
upto_8 o most hi w e h l = omega arith

-- such a weight has 64 bits
pub short_8 : (o w : ℕ) → o ≤ 2 ^ 52 → w ≤ 8 * o → w < 2 ^ 64
short_8 o w h l = omega arith

two_room : (o a b : ℕ) → o ≤ 2 ^ 52 → a ≤ 1024 * (8 * o) → b ≤ 8 * o → a + b < 2 ^ 127
two_room o a b h k l = omega arith

three_room : (o a b r hi : ℕ) → o ≤ 2 ^ 52 → a ≤ 1024 * (8 * o) → b ≤ 8 * o → r ≤ 2 ^ 115 → hi ≡ a + b → hi + r < 2 ^ 127
three_room o a b r hi h k l q e = omega arith

-- ends that are in order stay so where the upper one is raised
pub raised_ordered : (a b lo hi rest : ℕ) → a ≡ lo → b ≡ hi → lo ≤ hi → a ≤ b + rest
raised_ordered a b lo hi rest e h l = omega arith

-- ---- upwards from the pivot

-- upwards from the pivot: the sum of the weights below x, and the last of them, where no index below x may be the last one
pub record Climb (f : ℕ) (m d last sum : Ends) (x : ℕ) : Type 0 where
  pub past : pivot_at f m d < x
  pub last_is : last ≡ weight_ends f m d (x - 1)
  pub sums : SumsTo f m d sum x
  pub passed : Passed f m d x
  pub unended : 1024 < x → has_remainder f m d 1024 ≡ false

-- the walk up begins past the pivot with the weight 1 and the sum to the pivot
pub climb_start : (f : ℕ) (m d last low : Ends) (c : ℕ) → c ≡ pivot_at f m d → c ≤ 256 → last ≡ ends_exact f 1 → SumsTo f m d low (c + 1) → Climb f m d last low (c + 1)
climb_start f m d last low c e q l h = record {
  past = omega (arith, e);
  last_is = l ∙ sym (weight_at_pivot f m d) ∙ ap (weight_ends f m d) (omega (arith, e));
  sums = h;
  passed = λ y a b. absurd (omega (arith, a, b, e, end_past_pivot f m d));
  unended = λ i. absurd (omega (arith, i, q));
}

-- the weight at which the walk up stands doesn't pass 8
pub climb_top : (f : ℕ) (m d last sum : Ends) (x : ℕ) → Climb f m d last sum x → last.hi ≤ 8 * 2 ^ f
climb_top f m d last sum x h = subst (λ (z : Ends). z.hi ≤ 8 * 2 ^ f) (sym h.last_is) (h.sums.tops (x - 1) (omega (arith, h.past)))

module _ (f : ℕ) (m d last sum v r : Ends) (x : ℕ) (h : Climb f m d last sum x) (er : r ≡ ratio_ends f m d x) (ev : v ≡ ends_mul f last r) where
  -- what the walk computes at x is the weight there
  pub climb_weight : v ≡ weight_ends f m d x
  climb_weight = ev ∙ ap₂ (ends_mul f) h.last_is er ∙ sym (weight_up f m d x h.past)

  -- where that weight passes 8 the answer is wide
  pub climb_wide : pivot_at f m d ≤ 256 → x ≤ 1024 → 8 * 2 ^ f < v.hi → is_wide f m d ≡ true
  climb_wide q l t = wide_at f m d x (last_least f m d x q l h.passed) (subst (λ (z : Ends). 8 * 2 ^ f < z.hi) climb_weight t)

  -- where it doesn't, and the list goes on, the walk stands at the next index
  pub climb_next : v.hi ≤ 8 * 2 ^ f → (more : Ends) → more ≡ ends_add sum v → GoesOn f m d x → Climb f m d v more (x + 1)
  climb_next t more k on = record {
    past = omega (arith, h.past);
    last_is = climb_weight ∙ ap (weight_ends f m d) (omega arith);
    sums = sums_next f m d sum v more x h.sums climb_weight t k;
    passed = λ y a b. below_more (λ y. least_end f m d ≤ y → may_end f m d y ≡ false) x (λ y i j. h.passed y j i)
        (λ a. on.passed (le_trans (end_from_63 f m d) a)) y b a;
    unended = on.unended;
  }

  -- where the list ends at x, that is the last index
  pub climb_last : x ≤ 1024 → (rest : ℕ) → EndsAt f m d x rest → last_index f m d ≡ x
  climb_last l rest e = last_is f m d x h.past e.late l h.passed (λ i. may_from f m d x rest e.ends e.rest_is (e.small i))

  climb_narrow : v.hi ≤ 8 * 2 ^ f → x ≤ 1024 → (rest : ℕ) → EndsAt f m d x rest → is_wide f m d ≡ false
  climb_narrow t l rest e =
      let k = climb_last l rest e in
      let tops : (y : ℕ) → y < x + 1 → (weight_ends f m d y).hi ≤ 8 * 2 ^ f =
      below_more (λ y. (weight_ends f m d y).hi ≤ 8 * 2 ^ f) x h.sums.tops (subst (λ (z : Ends). z.hi ≤ 8 * 2 ^ f) climb_weight t) in
      narrow_from f m d (λ y i. tops y (omega (arith, i, k))) (rw k e.ends)

  -- the remainder there has at most 115 bits
  pub climb_rest : v.hi ≤ 8 * 2 ^ f → x ≤ 1024 → (rest : ℕ) → EndsAt f m d x rest → f ≤ 52 → rest ≤ 2 ^ 115
  climb_rest t l rest e s =
      subst (λ z. z ≤ 2 ^ 115) (ap (remainder_at f m d) (climb_last l rest e) ∙ sym e.rest_is) (rest_small f m d s (climb_narrow t l rest e))

  -- the sum with the remainder is then that of all weights
  pub climb_done : v.hi ≤ 8 * 2 ^ f → x ≤ 1024 → (rest : ℕ) → EndsAt f m d x rest → (more all : Ends) → more ≡ ends_add sum v → all ≡ ends_raised more rest → IsSum f m d all
  climb_done t l rest e more all k i =
      let c = climb_last l rest e in
      let n : x + 1 ≡ suc (last_index f m d) = omega (arith, c) in
      let s : more ≡ ends_sum (listed (weight_ends f m d) (suc (last_index f m d))) =
      (sums_next f m d sum v more x h.sums climb_weight t k).sum_is ∙ ap (λ z. ends_sum (listed (weight_ends f m d) z)) n in
      record { narrow = climb_narrow t l rest e; sum_is = i ∙ ap₂ ends_raised s (e.rest_is ∙ ap (remainder_at f m d) (sym c)) }

  -- the sum with that weight has room
  pub climb_room : v.hi ≤ 8 * 2 ^ f → x < 1025 → f ≤ 52 → sum.hi + v.hi < 2 ^ 127
  climb_room t l s = two_room (2 ^ f) sum.hi v.hi (unit_most f s) (le_trans h.sums.most (mul-le-mul_right (8 * 2 ^ f) (up_to_last x l))) t

  -- and so has the sum with the remainder
  pub climb_raised : v.hi ≤ 8 * 2 ^ f → x < 1025 → f ≤ 52 → (rest : ℕ) → EndsAt f m d x rest → (more : Ends) (hi : ℕ) → more ≡ ends_add sum v → hi ≡ more.hi → hi + rest < 2 ^ 127
  climb_raised t l s rest e more hi k i =
      three_room (2 ^ f) sum.hi v.hi rest hi (unit_most f s) (le_trans h.sums.most (mul-le-mul_right (8 * 2 ^ f) (up_to_last x l))) t
      (climb_rest t (up_to_last x l) rest e s) (i ∙ ap (λ (z : Ends). z.hi) k)

-- a walk up past 1024 without an end makes the answer wide
pub climb_unended : (f : ℕ) (m d last sum : Ends) (x : ℕ) → Climb f m d last sum x → pivot_at f m d ≤ 256 → 1024 < x → is_wide f m d ≡ true
climb_unended f m d last sum x h q l =
    let e : last_index f m d ≡ 1024 =
    last_is f m d 1024 (omega (arith, q)) (omega arith) (omega arith) (λ y a b. h.passed y a (omega (arith, b, l))) (λ i. absurd (omega (arith, i))) in
    wide_unended f m d (rw e (h.unended l))

-- ---- below the first index at which the list may end

-- a walk up stands at its index
pub climb_at : (f : ℕ) (m d last sum : Ends) (x : ℕ) → Climb f m d last sum x → x ≤ 63 → AtIndex f m d sum last x
climb_at f m d last sum x h l = record {
  sums = h.sums;
  past = h.past;
  before_end = omega (arith, l, end_from_63 f m d);
  last_is = h.last_is;
}

-- the walk up goes on from such an index
pub climb_from : (f : ℕ) (m d last sum : Ends) (x : ℕ) → AtIndex f m d sum last x → x ≤ 63 → Climb f m d last sum x
climb_from f m d last sum x h l = record {
  past = h.past;
  last_is = h.last_is;
  sums = h.sums;
  passed = λ y a b. absurd (omega (arith, a, b, h.before_end));
  unended = λ i. absurd (omega (arith, i, l));
}

-- ---- at the first index at which the list may end

-- a walk up to the first index at which the list may end may stop there
pub climb_least : (f : ℕ) (m d last sum : Ends) (x : ℕ) → Climb f m d last sum x → x ≡ least_end f m d → Midway f m d sum last x
climb_least f m d last sum x h e = record {
  sums = h.sums;
  past = h.past;
  before_end = omega (arith, e);
  last_is = h.last_is;
  same = λ y a b. absurd (omega (arith, a, b, e));
}

stay_past : (f : ℕ) (m d : Ends) (term : Ends) (x k : ℕ) → pivot_at f m d < x → 0 < m.hi → term ≡ weight_ends f m d (x - 1) → StaysFrom f m d term x
    → weight_ends f m d (x - 1 + k) ≡ term
stay_past f m d term x zero p q e s = ap (weight_ends f m d) (omega arith) ∙ sym e
stay_past f m d term x (suc k) p q e s =
    let i : x - 1 + suc k - 1 ≡ x - 1 + k = omega arith in
    weight_up f m d (x - 1 + suc k) (omega (arith, p)) ∙ ap (λ z. ends_mul f (weight_ends f m d z) (ratio_ends f m d (x - 1 + suc k))) i
    ∙ ap (λ z. ends_mul f z (ratio_ends f m d (x - 1 + suc k))) (stay_past f m d term x k p q e s)
    ∙ sym (weight_stays_on f m d term x (x - 1 + suc k) (omega (arith, p)) (omega (arith, p)) q s)

-- the walk may stop where the weights stay the same
pub climb_stays : (f : ℕ) (m d last sum : Ends) (x : ℕ) → Climb f m d last sum x → 0 < m.hi → x ≤ least_end f m d → StaysFrom f m d last x → Midway f m d sum last x
climb_stays f m d last sum x h q l s = record {
  sums = h.sums;
  past = h.past;
  before_end = l;
  last_is = h.last_is;
  same = λ y a b.
      let i : y ≡ x - 1 + (y - (x - 1)) = omega (arith, h.past, a) in
      ap (weight_ends f m d) i ∙ stay_past f m d last x (y - (x - 1)) h.past q h.last_is s;
}

-- a last weight that stays the same and the sum to the first possible end are the state of the walk there
pub at_least_end : (f : ℕ) (m d sum low last : Ends) (next : ℕ) → Midway f m d sum last next → SumsTo f m d low (least_end f m d) → AtLeastEnd f m d low last
at_least_end f m d sum low last next h s = record {
  sums = s;
  last_is = elim (eq-or-lt_of_le {n = next} {m = least_end f m d} h.before_end) [
    | inl i ↦ h.last_is ∙ ap (λ y. weight_ends f m d (y - 1)) i
    | inr l ↦ sym (h.same (least_end f m d - 1) (omega (arith, l)) (omega (arith, l)))
  ];
}

-- the walk up goes on from the first index at which the list may end
pub climb_again : (f : ℕ) (m d sum last : Ends) → pivot_at f m d ≤ 256 → AtLeastEnd f m d sum last → Climb f m d last sum (least_end f m d)
climb_again f m d sum last q h = record {
  past = end_past_pivot f m d;
  last_is = h.last_is;
  sums = h.sums;
  passed = λ y a b. absurd (omega (arith, a, b));
  unended = λ l. absurd (omega (arith, l, end_most f m d 1024 (omega (arith, q)) (omega arith)));
}

-- ---- whether the list ends

-- the list doesn't end before 63
pub early_on : (f : ℕ) (m d : Ends) (x : ℕ) → x < 63 → GoesOn f m d x
early_on f m d x l = record { passed = λ h. absurd (omega arith); unended = λ h. absurd (omega arith) }

over_on : (f : ℕ) (m d : Ends) (x : ℕ) → 256 < remainder_at f m d x → may_end f m d x ≡ false
unfolding may_end
over_on f m d x h = and_right _ _ (lt-leb (remainder_at f m d x) 256 h)

-- the list goes on at x where the bound isn't below 1, or before 1024 where the remainder is more than 256
pub late_on : (f : ℕ) (m d : Ends) (x b t : ℕ) → b ≡ ratio_bound f m d x → t ≡ (weight_ends f m d x).hi → x ≤ 1024
    → (2 ^ f ≤ b) ⊎ ((x < 1024) × (256 < div_ceil (t * b) (2 ^ f - b))) → GoesOn f m d x
late_on f m d x b t eb et l s = record {
  passed = λ _. elim s [
    | inl n ↦ may_not f m d x (missing_is f m d x b eb n)
    | inr n ↦ over_on f m d x (subst (λ z. 256 < z) (rest_is f m d x b (weight_ends f m d x).hi t eb et) n.1)
  ];
  unended = λ (i : 1024 < x + 1). elim s [
    | inl n ↦ (let e : x ≡ 1024 = omega arith in subst (λ z. has_remainder f m d z ≡ false) e (missing_is f m d x b eb n))
    | inr n ↦ absurd (let q : x < 1024 = n.0 in omega arith)
  ];
}

-- the list ends at x where the bound is below 1, and the remainder is at most 256 or x is 1024
pub late_end : (f : ℕ) (m d : Ends) (x b t rest : ℕ) → b ≡ ratio_bound f m d x → t ≡ (weight_ends f m d x).hi → 63 ≤ x
    → b < 2 ^ f → rest ≡ div_ceil (t * b) (2 ^ f - b) → (x < 1024 → rest ≤ 256) → EndsAt f m d x rest
late_end f m d x b t rest eb et l s e q = record {
  late = l;
  ends = exists_is f m d x b eb s;
  rest_is = e ∙ rest_is f m d x b (weight_ends f m d x).hi t eb et;
  small = q;
}

-- ---- one weight

-- a weight up to 63 that passes 8 makes the answer wide
pub early_wide : (f : ℕ) (m d v : Ends) (x : ℕ) → x ≤ 63 → v ≡ weight_ends f m d x → 8 * 2 ^ f < v.hi → is_wide f m d ≡ true
early_wide f m d v x l e t =
    wide_at f m d x (omega (arith, l, end_from_63 f m d, last_start f m d)) (subst (λ (z : Ends). 8 * 2 ^ f < z.hi) e t)

-- the weight at the pivot, from which both walks begin
pub first_weight : (f : ℕ) (m d term : Ends) (c x : ℕ) → c ≡ pivot_at f m d → x ≡ c → term ≡ ends_exact f 1 → term ≡ weight_ends f m d x
first_weight f m d term c x e i h = h ∙ sym (weight_at_pivot f m d) ∙ ap (weight_ends f m d) (sym (i ∙ e))

-- the weight at the pivot doesn't pass 8
pub first_top : (f : ℕ) (term : Ends) → term ≡ ends_exact f 1 → term.hi ≤ 8 * 2 ^ f
first_top f term h = let a = ap (λ (z : Ends). z.hi) h in omega (arith, a)

-- a step down
pub weight_under : (f : ℕ) (m d term v r : Ends) (c step : ℕ) → c ≡ pivot_at f m d → step < c → term ≡ weight_ends f m d (c - step)
    → r ≡ back_ends f m d (c - step) → v ≡ ends_mul f term r → v ≡ weight_ends f m d (c - (step + 1))
weight_under f m d term v r c step e l h er ev =
    ev ∙ ap₂ (ends_mul f) h er ∙ sym (weight_down f m d (c - step) (omega arith) (omega (arith, e))) ∙ ap (weight_ends f m d) (omega arith)

-- a weight up to the pivot that passes 8 makes the answer wide
pub below_wide : (f : ℕ) (m d v : Ends) (c x : ℕ) → c ≡ pivot_at f m d → x ≤ c → v ≡ weight_ends f m d x → 8 * 2 ^ f < v.hi → is_wide f m d ≡ true
below_wide f m d v c x e l h t =
    wide_at f m d x (omega (arith, e, l, pivot_below_last f m d)) (subst (λ (z : Ends). 8 * 2 ^ f < z.hi) h t)

-- a step up
pub weight_over : (f : ℕ) (m d term v r : Ends) (x : ℕ) → pivot_at f m d < x → term ≡ weight_ends f m d (x - 1)
    → r ≡ ratio_ends f m d x → v ≡ ends_mul f term r → v ≡ weight_ends f m d x
weight_over f m d term v r x l h er ev = ev ∙ ap₂ (ends_mul f) h er ∙ sym (weight_up f m d x l)

-- ---- what the answers say above

-- the sum of all weights is at least 1
pub sum_least : (f : ℕ) (m d sum : Ends) → pivot_at f m d ≤ 256 → IsSum f m d sum → 2 ^ f ≤ sum.lo
sum_least f m d sum q h = (profile_sized f m d sum q h.narrow (ap (λ (z : Ends). z.lo) h.sum_is)).sum_least

-- the answer is all weights and their sum, where there is such a sum
pub sum_known : (f : ℕ) (m d sum : Ends) → IsSum f m d sum → Known (pivot_at f m d) (listed (weight_ends f m d) (suc (last_index f m d))) sum ≡ weights_of f m d
sum_known f m d sum h = ap (Known (pivot_at f m d) (listed (weight_ends f m d) (suc (last_index f m d)))) h.sum_is ∙ known_answer f m d h.narrow

-- a weight up to 63 is the entry at its place in the list of all weights
pub weight_listed : (f : ℕ) (m d w : Ends) (x : ℕ) → x ≤ 63 → w ≡ weight_ends f m d x → w ≡ at_place (listed (weight_ends f m d) (suc (last_index f m d))) x
weight_listed f m d w x l e =
    e ∙ sym (listed_at (weight_ends f m d) (suc (last_index f m d)) x (record { lo = 0; hi = 0 }) (omega (arith, l, end_from_63 f m d, last_start f m d)))
