-- The one answer of a text: `decimal_of` against what a reader sees, fault by fault.
use Rattle.std.specs.Prelude.{◌≡◌, ◌≢◌, ◌==◌, ℕ, ◌+◌, ◌-◌, ◌/◌, ◌^◌, ◌≤◌, ◌<◌, List, length, slice_index, slice_set, drop, min, refl, Bool, true, false, not, Result, Ok, Err}
use Rattle.std.specs.Char.{is_ascii_digit}
use Rattle.std.proofs.Common.{arith, get_or, ap, sym, ◌∙◌, lit<, subst, inl, inr, length-drop, lt-ltb, le-ltb, le-leb}
use Rattle.std.proofs.Math.Nat.{one-le-pow, mul-div_cancel, le-div_iff_mul-le}
use Rattle.std.proofs.lemmas.Bool.{eq-eqb, false≢true, lt-leb}
use Rattle.std.proofs.lemmas.Bool.Decides.{eqb_tells, leb_tells, nat_tests}
use Rattle.std.proofs.lemmas.List.{length-set, get_or-set_same, get_or-set_other, get_or-drop}
use Rattle.std.proofs.lemmas.List.Sums.{position_or_len_is, fails_before_first, passes_at_first}
use Rattle.std.proofs.lemmas.List.Folds.{list_any_at, list_any_none, Any-from_list_any}
use Rattle.std.proofs.lemmas.List.Elements.{All-from_get_or}
use Rattle.std.proofs.lemmas.Grind.{get_or_default_zero}
use Rattle.exact_ratio.specs.declared.decimal.Decimal.{Decimal}
use Rattle.exact_ratio.specs.declared.decimal.NumberFault.{NumberFault}
use Rattle.exact_ratio.specs.declared.decimal.NumberFault.TheVariants.{BadByte, Empty, TooManyPlaces, TooLarge}
use Rattle.exact_ratio.specs.Decimal.{IsDigit, MayStand, IsClean, FirstBad, HasLateDigit, HasNoLateDigit, IsNumber, IsValue, IsOver, ReadsDecimal, point_of, whole_of, fraction_of, digits_of, bad_place, is_longer_than, units_of, decimal_of}
use Rattle.exact_ratio.proofs.Reading.{units_scale}

-- ---- the first bad byte

abbrev no_digit : ℕ → Bool
no_digit c = not (is_ascii_digit c)

-- the text with a digit in the first point's place
abbrev marked : List ℕ → List ℕ
marked text = slice_set text (point_of text) 48

digit_passes : (c : ℕ) → IsDigit c → no_digit c ≡ false
digit_passes c d = grind (arith, nat_tests)

digit_fails : (c : ℕ) → ¬ (IsDigit c) → no_digit c ≡ true
digit_fails c n = grind (arith, nat_tests)

digit_from : (c : ℕ) → no_digit c ≡ false → IsDigit c
digit_from c e = grind (arith, nat_tests)

fault_from : (c : ℕ) → no_digit c ≡ true → ¬ (IsDigit c)
fault_from c e d = grind (arith, nat_tests)

length_marked : (text : List ℕ) → length (marked text) ≡ length text
length_marked text = length-set text (point_of text) 48

at_point : (text : List ℕ) (k : ℕ) → k < length text → k ≡ point_of text → slice_index (marked text) k ≡ 48
at_point text k h e = subst (λ (p : ℕ). slice_index (slice_set text p 48) k ≡ 48) e (get_or-set_same text k 48 0 h)

off_point : (text : List ℕ) (k : ℕ) → k ≢ point_of text → slice_index (marked text) k ≡ slice_index text k
off_point text k n = get_or-set_other text (point_of text) k 48 0 n

stands_passes : (text : List ℕ) (k : ℕ) → k < length text → MayStand text k → no_digit (slice_index (marked text) k) ≡ false
stands_passes text k h m = elim (eqb_tells k (point_of text)) as (λ _. no_digit (slice_index (marked text) k) ≡ false) [
  | inl t ↦ ap no_digit (at_point text k h t.1)
  | inr t ↦ ap no_digit (off_point text k t.1) ∙ digit_passes (slice_index text k)
      (elim m as (λ _. IsDigit (slice_index text k)) [ inl d ↦ d | inr e ↦ absurd (t.1 e) ])
]

passes_stands : (text : List ℕ) (k : ℕ) → no_digit (slice_index (marked text) k) ≡ false → MayStand text k
passes_stands text k e = elim (eqb_tells k (point_of text)) as (λ _. MayStand text k) [
  | inl t ↦ inr t.1
  | inr t ↦ inl (digit_from (slice_index text k) (sym (ap no_digit (off_point text k t.1)) ∙ e))
]

pub bad_place_is : (text : List ℕ) (k : ℕ) → FirstBad text k → bad_place text ≡ k
bad_place_is text k b =
    let l = length_marked text in
    position_or_len_is no_digit (marked text) k 0 (omega (arith, l, b.inside))
    (λ j h. stands_passes text j (omega (arith, h, b.inside)) (b.before j h))
    (λ _. ap no_digit (off_point text k b.no_point) ∙ digit_fails (slice_index text k) b.no_digit)

pub no_bad_place : (text : List ℕ) → IsClean text → bad_place text ≡ length text
no_bad_place text clean =
    let l = length_marked text in
    position_or_len_is no_digit (marked text) (length text) 0 (omega (arith, l))
    (λ j h. stands_passes text j h (clean j h))
    (λ h. absurd (omega (arith, l, h)))

pub bad_place_first : (text : List ℕ) → bad_place text < length text → FirstBad text (bad_place text)
bad_place_first text h =
    let l = length_marked text in
    let f = passes_at_first no_digit (marked text) 0 (omega (arith, l, h)) in
    let off : bad_place text ≢ point_of text = λ e. digit_then (at_point text (bad_place text) h e) f in
    record {
      inside = h;
      no_digit = fault_from (slice_index text (bad_place text)) (sym (ap no_digit (off_point text (bad_place text) off)) ∙ f);
      no_point = off;
      before = λ j b. passes_stands text j (fails_before_first no_digit (marked text) j 0 b);
    }
  where
    digit_then : {c : ℕ} → c ≡ 48 → no_digit c ≡ true → ⊥
    digit_then {c} e f = fault_from c f (omega (arith, e), omega (arith, e))

pub clean_from : (text : List ℕ) → length text ≤ bad_place text → IsClean text
clean_from text h k b = passes_stands text k (fails_before_first no_digit (marked text) k 0 (omega (arith, h, b)))

-- ---- a late digit

late_passes : (text : List ℕ) (places : ℕ) → HasLateDigit (fraction_of text) places → is_longer_than text places ≡ true
late_passes text places late =
    let k = late.0 in
    let l = length-drop places (fraction_of text) in
    let e : places + (k - places) ≡ k = omega (arith, late.1) in
    let g : slice_index (drop places (fraction_of text)) (k - places) ≡ slice_index (fraction_of text) k =
    get_or-drop places (fraction_of text) (k - places) 0 ∙ ap (slice_index (fraction_of text)) e in
    list_any_at (λ c. not (c == 48)) (drop places (fraction_of text)) (k - places) 0 (omega (arith, l, late.1, late.2))
    (ap (λ c. not (c == 48)) g ∙ differs (slice_index (fraction_of text) k) late.3)
  where
    differs : (c : ℕ) → c ≢ 48 → not (c == 48) ≡ true
    differs c n = grind (arith, nat_tests)

early_passes : (text : List ℕ) (places : ℕ) → HasNoLateDigit (fraction_of text) places → is_longer_than text places ≡ false
early_passes text places none =
    let l = length-drop places (fraction_of text) in
    list_any_none (λ c. not (c == 48)) (drop places (fraction_of text))
    (All-from_get_or (λ c. not (c == 48) ≡ false) (drop places (fraction_of text)) 0
    (λ k h. zero_passes (slice_index (drop places (fraction_of text)) k)
    (get_or-drop places (fraction_of text) k 0 ∙ none (places + k) (omega arith) (omega (arith, l, h)))))
  where
    zero_passes : (c : ℕ) → c ≡ 48 → not (c == 48) ≡ false
    zero_passes c e = ap not (eq-eqb c 48 e)

late_first : (text : List ℕ) (places : ℕ) → is_longer_than text places ≡ true → HasLateDigit (fraction_of text) places
late_first text places e =
    let a = Any-from_list_any (λ c. not (c == 48)) (drop places (fraction_of text)) e in
    let l = length-drop places (fraction_of text) in
    let s : slice_index (drop places (fraction_of text)) a.0 ≡ slice_index (fraction_of text) (places + a.0) =
    get_or-drop places (fraction_of text) a.0 0 in
    (places + a.0, omega arith, omega (arith, l, a.2), λ z. differs a.1 a.4 (sym (at_default (drop places (fraction_of text)) a.0 a.1 a.2 a.3) ∙ s ∙ z))
  where
    differs : (c : ℕ) → not (c == 48) ≡ true → c ≢ 48
    differs c n e = grind (arith, nat_tests)

    at_default : (xs : List ℕ) (k x : ℕ) → k < length xs → get_or xs k x ≡ x → slice_index xs k ≡ x
    at_default xs k x h e = sym (get_or_default_zero xs k x h) ∙ e

early_from : (text : List ℕ) (places : ℕ) → is_longer_than text places ≡ false → HasNoLateDigit (fraction_of text) places
early_from text places e k h b =
    let l = length-drop places (fraction_of text) in
    let i : places + (k - places) ≡ k = omega (arith, h) in
    let g : slice_index (drop places (fraction_of text)) (k - places) ≡ slice_index (fraction_of text) k =
    get_or-drop places (fraction_of text) (k - places) 0 ∙ ap (slice_index (fraction_of text)) i in
    elim (eqb_tells (slice_index (fraction_of text) k) 48) as (λ _. slice_index (fraction_of text) k ≡ 48) [
      | inl t ↦ t.1
      | inr t ↦ absurd (false≢true (sym e ∙ list_any_at (λ c. not (c == 48)) (drop places (fraction_of text)) (k - places) 0
          (omega (arith, l, h, b)) (ap (λ c. not (c == 48)) g ∙ ap not t.0)))
    ]

-- ---- the value

scale_positive : (text : List ℕ) → 0 < 10 ^ length (fraction_of text)
scale_positive text = one-le-pow (length (fraction_of text)) 10 (lit< tt)

units_are : (text : List ℕ) (places units : ℕ) → IsValue text places units → units ≡ units_of text places
units_are text places units v =
    sym (mul-div_cancel units (scale_positive text)) ∙ ap (λ n. n / 10 ^ length (fraction_of text)) v

value_from : (text : List ℕ) (places : ℕ) → HasNoLateDigit (fraction_of text) places → IsValue text places (units_of text places)
value_from text places late =
    let v = units_scale (whole_of text) (fraction_of text) places late in
    subst (λ (n : ℕ). IsValue text places n) (units_are text places _ v) v

over_from : (text : List ℕ) (places : ℕ) → 2 ^ 64 ≤ units_of text places → IsOver text places
over_from text places h = (le-div_iff_mul-le (scale_positive text)).0 h

over_is : (text : List ℕ) (places : ℕ) → IsOver text places → 2 ^ 64 ≤ units_of text places
over_is text places h = (le-div_iff_mul-le (scale_positive text)).1 h

-- ---- each answer

eqb_no : (a : ℕ) → 0 < a → a == 0 ≡ false
eqb_no a h = grind (arith, nat_tests)

-- the tests that decide, as `decimal_of` makes them
pub answer_bad : (text : List ℕ) (places : ℕ) → bad_place text < length text → decimal_of text places ≡ Err (BadByte (min (bad_place text) (2 ^ 32 - 1)))
unfolding decimal_of
answer_bad text places h = rw (lt-ltb (bad_place text) (length text) h) refl

pub answer_empty : (text : List ℕ) (places : ℕ) → IsClean text → length (digits_of text) ≡ 0 → decimal_of text places ≡ Err Empty
unfolding decimal_of
answer_empty text places clean none =
    let a = le-ltb (bad_place text) (length text) (omega (arith, no_bad_place text clean)) in
    rw (a, eq-eqb (length (digits_of text)) 0 none) refl

pub answer_long : (text : List ℕ) (places : ℕ) → IsClean text → 0 < length (digits_of text) → HasLateDigit (fraction_of text) places → decimal_of text places ≡ Err TooManyPlaces
unfolding decimal_of
answer_long text places clean some late =
    let a = le-ltb (bad_place text) (length text) (omega (arith, no_bad_place text clean)) in
    rw (a, eqb_no (length (digits_of text)) some, late_passes text places late) refl

pub answer_large : (text : List ℕ) (places : ℕ) → IsNumber text places → IsOver text places → decimal_of text places ≡ Err TooLarge
unfolding decimal_of
answer_large text places n over =
    let a = le-ltb (bad_place text) (length text) (omega (arith, no_bad_place text n.clean)) in
    rw (a, eqb_no (length (digits_of text)) n.has_digit, early_passes text places n.no_late_digit, le-leb (2 ^ 64) (units_of text places) (over_is text places over)) refl

pub answer_number : (text : List ℕ) (places : ℕ) → IsNumber text places → units_of text places < 2 ^ 64 → decimal_of text places ≡ Ok (record { units = units_of text places; places = places })
unfolding decimal_of
answer_number text places n fits =
    let a = le-ltb (bad_place text) (length text) (omega (arith, no_bad_place text n.clean)) in
    rw (a, eqb_no (length (digits_of text)) n.has_digit, early_passes text places n.no_late_digit, lt-leb (2 ^ 64) (units_of text places) fits) refl

-- ---- both ways

abbrev number : ℕ → ℕ → Result Decimal NumberFault
number units places = Ok (record { units = units; places = places })

same_number : (units places u p : ℕ) → u ≡ units → p ≡ places → number u p ≡ number units places
same_number units places u p e f = ap (λ x. number x p) e ∙ ap (λ y. number units y) f

-- what reading a text answers, place by place, is the answer as a function of the text
pub one_answer : (text : List ℕ) (places : ℕ) (answer : Result Decimal NumberFault) → ReadsDecimal text places answer → answer ≡ decimal_of text places
one_answer text places (Err (BadByte at)) r =
    let e = bad_place_is text r.0 r.1 in
    let h : bad_place text < length text = omega (arith, e, r.1.inside) in
    ap (λ k. Err (BadByte k)) (r.2 ∙ ap (λ k. min k (2 ^ 32 - 1)) (sym e)) ∙ sym (answer_bad text places h)
one_answer text places (Err Empty) r = sym (answer_empty text places r.0 r.1)
one_answer text places (Err TooManyPlaces) r = sym (answer_long text places r.0 r.1 r.2)
one_answer text places (Err TooLarge) r = sym (answer_large text places r.0 r.1)
one_answer text places (Ok d) r =
    let e = units_are text places d.units r.3 in
    same_number (units_of text places) places d.units d.places e r.1
    ∙ sym (answer_number text places r.0 (omega (arith, e, r.2)))

-- that function's answer is one that reading the text place by place gives
pub as_defined : (text : List ℕ) (places : ℕ) → ReadsDecimal text places (decimal_of text places)
as_defined text places = elim (leb_tells (length text) (bad_place text)) as (λ _. ReadsDecimal text places (decimal_of text places)) [
  | inr t ↦ told (sym (answer_bad text places t.1)) (bad_place text, bad_place_first text t.1, refl)
  | inl t ↦ with_clean (clean_from text t.1)
]
  where
    told : {answer : Result Decimal NumberFault} → answer ≡ decimal_of text places → ReadsDecimal text places answer → ReadsDecimal text places (decimal_of text places)
    told e r = subst (λ (a : Result Decimal NumberFault). ReadsDecimal text places a) e r

    sized : IsNumber text places → ReadsDecimal text places (decimal_of text places)
    sized n = elim (leb_tells (2 ^ 64) (units_of text places)) as (λ _. ReadsDecimal text places (decimal_of text places)) [
      | inl t ↦ told (sym (answer_large text places n (over_from text places t.1))) (n, over_from text places t.1)
      | inr t ↦ told (sym (answer_number text places n t.1)) (n, refl, t.1, value_from text places n.no_late_digit)
    ]

    placed : IsClean text → 0 < length (digits_of text) → (b : Bool) → is_longer_than text places ≡ b → ReadsDecimal text places (decimal_of text places)
    placed clean some true e =
        let l = late_first text places e in
        told (sym (answer_long text places clean some l)) (clean, some, l)
    placed clean some false e = sized (record { clean = clean; has_digit = some; no_late_digit = early_from text places e })

    with_clean : IsClean text → ReadsDecimal text places (decimal_of text places)
    with_clean clean = elim (leb_tells (length (digits_of text)) 0) as (λ _. ReadsDecimal text places (decimal_of text places)) [
      | inl t ↦ told (sym (answer_empty text places clean (omega (arith, t.1)))) (clean, omega (arith, t.1))
      | inr t ↦ placed clean t.1 (is_longer_than text places) refl
    ]
