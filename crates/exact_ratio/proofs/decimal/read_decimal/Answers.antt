use Rattle.std.proofs.Common.{◌≡◌, ℕ, List, refl, ◌+◌, ◌^◌, arith, sym, ◌∙◌, ap, length, take, drop, length-append}
use Rattle.std.proofs.Math.Nat.{mul-le-mul_right}
use Rattle.exact_ratio.specs.Decimal.{IsClean, HasNoLateDigit, whole_of, fraction_of, digits_of, point_of, IsNumber}
use Rattle.exact_ratio.proofs.Reading.{units_scale}
use Rattle.exact_ratio.proofs.Answer.{one_answer}
use Rattle.exact_ratio.proofs.decimal.read_decimal.Goals as goal

-- what stands on both sides of the point, counted
count_is : (text : List ℕ) (p : ℕ) (fraction : List ℕ) → p ≡ point_of text → fraction ≡ fraction_of text
    → length (take p text) + length fraction ≡ length (digits_of text)
count_is text p fraction e f = rw (e, f) (sym (length-append (whole_of text) (fraction_of text)))

fraction_is : (text : List ℕ) (p : ℕ) (fraction : List ℕ) → p ≡ point_of text → fraction ≡ drop (p + 1) text → fraction ≡ fraction_of text
fraction_is text p fraction e h = h ∙ ap (λ p. drop (p + 1) text) e

-- the facts that are known once the text is a number
number_is : (text : List ℕ) (places p : ℕ) (fraction : List ℕ) → p ≡ point_of text → fraction ≡ fraction_of text
    → IsClean text → (length (take p text) + length fraction ≡ 0 → ⊥) → HasNoLateDigit fraction places → IsNumber text places
number_is text places p fraction e f clean some late =
    let n = count_is text p fraction e f in
    let l = rw f at late in
    record { clean = clean; has_digit = omega (arith, n, some); no_late_digit = l }

pub returns-in-Some-clause-value : goal.returns-in-Some-clause-value
returns-in-Some-clause-value c = one_answer c.args.text.now c.args.places _ (c.in-Some.at, c.in-Some.ensures, c.place.ensures)

pub returns-in-Some-units_of-clause-reads : goal.returns-in-Some-units_of-clause-reads
returns-in-Some-units_of-clause-reads c =
    let e = c.find_point-point.ensures.place in
    let f = fraction_is c.args.text.now c.find_point-point.result c.after-fraction.result.now e c.after-fraction.ensures in
    let n = number_is c.args.text.now c.args.places c.find_point-point.result c.after-fraction.result.now e f
    c.in_default.ensures c.if-whole-fraction-eq0.false (c.if-has_late_digit.ensures.none refl) in
    let h = rw (c.min-kept.ensures, f, e) at c.in-Some-units_of.ensures in
    (n, refl, omega arith, rw h (units_scale (whole_of c.args.text.now) (fraction_of c.args.text.now) c.args.places n.no_late_digit))

pub returns-in-Some-units_of-clause-value : goal.returns-in-Some-units_of-clause-value
returns-in-Some-units_of-clause-value c = one_answer c.args.text.now c.args.places _ (returns-in-Some-units_of-clause-reads c)

pub returns-in-None-clause-reads : goal.returns-in-None-clause-reads
returns-in-None-clause-reads c =
    let e = c.find_point-point.ensures.place in
    let f = fraction_is c.args.text.now c.find_point-point.result c.after-fraction.result.now e c.after-fraction.ensures in
    let n = number_is c.args.text.now c.args.places c.find_point-point.result c.after-fraction.result.now e f
    c.in_default.ensures c.if-whole-fraction-eq0.false (c.if-has_late_digit.ensures.none refl) in
    let h = rw (c.min-kept.ensures, f, e) at c.in-None.ensures in
    let u = units_scale (whole_of c.args.text.now) (fraction_of c.args.text.now) c.args.places n.no_late_digit in
    (n, omega (arith, u, mul-le-mul_right (10 ^ length (fraction_of c.args.text.now)) h))

pub returns-in-None-clause-value : goal.returns-in-None-clause-value
returns-in-None-clause-value c = one_answer c.args.text.now c.args.places _ (returns-in-None-clause-reads c)

pub returns-then-whole-fraction-eq0-clause-reads : goal.returns-then-whole-fraction-eq0-clause-reads
returns-then-whole-fraction-eq0-clause-reads c =
    let e = c.find_point-point.ensures.place in
    let f = fraction_is c.args.text.now c.find_point-point.result c.after-fraction.result.now e c.after-fraction.ensures in
    (c.in_default.ensures, sym (count_is c.args.text.now c.find_point-point.result c.after-fraction.result.now e f) ∙ c.if-whole-fraction-eq0.true)

pub returns-then-whole-fraction-eq0-clause-value : goal.returns-then-whole-fraction-eq0-clause-value
returns-then-whole-fraction-eq0-clause-value c = one_answer c.args.text.now c.args.places _ (returns-then-whole-fraction-eq0-clause-reads c)

pub returns-then-has_late_digit-clause-reads : goal.returns-then-has_late_digit-clause-reads
returns-then-has_late_digit-clause-reads c =
    let e = c.find_point-point.ensures.place in
    let f = fraction_is c.args.text.now c.find_point-point.result c.after-fraction.result.now e c.after-fraction.ensures in
    let n = count_is c.args.text.now c.find_point-point.result c.after-fraction.result.now e f in
    let l = rw f at (c.if-has_late_digit.ensures.late refl) in
    (c.in_default.ensures, omega (arith, n, c.if-whole-fraction-eq0.false), l)

pub returns-then-has_late_digit-clause-value : goal.returns-then-has_late_digit-clause-value
returns-then-has_late_digit-clause-value c = one_answer c.args.text.now c.args.places _ (returns-then-has_late_digit-clause-reads c)
