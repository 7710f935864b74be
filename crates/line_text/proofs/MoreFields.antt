-- Fixed places, alternatives, and fields that may be empty.
use Rattle.std.proofs.Common.{◌≡◌, ◌≢◌, ℕ, zero, suc, ◌*◌, ◌/◌, ◌%◌, ◌^◌, ◌<◌, ◌≤◌, Bool, true, false, cond, List, [], ◌∷◌, ◌++◌, Option, Some, None, refl, sym, ap, subst, ◌∙◌, arith, lit<}
use Rattle.std.specs.List.{AllByRecursion}
use Rattle.std.specs.Prelude.{nat_le, option_map}
use Rattle.std.specs.Fmt.{decimal}
use Rattle.std.specs.Str.Parse.{digits_value, digits_value_after}
use Rattle.std.proofs.Math.Nat.{one-le-pow, le-mul_of_pos_right}
use Rattle.std.proofs.lemmas.Bool.{and_parts, and_from, leb-true, le-leb, ne_eqb}
use Rattle.std.proofs.lemmas.Nat.{div-add-mod', mod_below, div_below}
use Rattle.std.proofs.lemmas.Fmt.{decimal_is_IsNumeral_wide}
use Rattle.list_laws.proofs.Public.{after_append, not_some}
use Rattle.fixed_interval.specs.Text.{last_digits, fixed_text}
use Rattle.fixed_interval.proofs.Public.{after_last_digits}
use Rattle.line_text.specs.Formats.{Token, Text}
use Rattle.line_text.specs.Texts.{in_range, without_point, fixed, Either, Left, Right, left_or, either, if_any, read_any, kept_by, only}
use Rattle.line_text.specs.Exact.{IsExactText, IsField}
use Rattle.line_text.proofs.LineLaws.{spelled_is_exact}
use Rattle.line_text.proofs.FieldLaws.{decimal_is_field, field_append, digit_is_plain}
use Rattle.line_text.proofs.Numerals.{IsDig, decimal_digs}

keep : (xs ys : List ℕ) → AllByRecursion IsDig xs → without_point (xs ++ ys) ≡ xs ++ without_point ys
keep [] ys h = refl
keep (x ∷ xs) ys h = rw (ne_eqb x 46 (λ e. omega (arith, e, h.0.0))) (ap (λ (t : Token). x ∷ t) (keep xs ys h.1))

-- the last k digits of a number are digits
pub digs_last : (k n : ℕ) → AllByRecursion IsDig (last_digits k n)
unfolding last_digits
digs_last zero n = tt
digs_last (suc k) n = let b = mod_below (n / 10 ^ k) 10 (lit< tt) in ((omega arith, omega (arith, b)), digs_last k n)

field_last : (k n : ℕ) → IsField (last_digits k n)
unfolding last_digits
field_last zero n = tt
field_last (suc k) n = (digit_is_plain (n / 10 ^ k % 10) (mod_below (n / 10 ^ k) 10 (lit< tt)), field_last k n)

all_kept : (xs : List ℕ) → AllByRecursion IsDig xs → without_point xs ≡ xs
all_kept [] h = refl
all_kept (x ∷ xs) h = rw (ne_eqb x 46 (λ e. omega (arith, e, h.0.0))) (ap (λ (t : Token). x ∷ t) (all_kept xs h.1))

-- the value of the digits on both sides of the point
pub meant_fixed : (places n : ℕ) → n / 10 ^ places < 10 ^ 64 → digits_value 10 (without_point (fixed_text places n)) ≡ n
meant_fixed places n h =
    let q = n / 10 ^ places in
    ap (digits_value 10) (keep (decimal q) (46 ∷ last_digits places n) (decimal_digs q h) ∙ ap (λ (t : Token). decimal q ++ t) (all_kept (last_digits places n) (digs_last places n)))
    ∙ after_append 0 (decimal q) (last_digits places n)
    ∙ ap (λ m. digits_value_after 10 m (last_digits places n)) (decimal_is_IsNumeral_wide q h).1
    ∙ after_last_digits q places n
    ∙ div-add-mod' n (10 ^ places)

below : (a b n : ℕ) → 1 ≤ b → n < a → n < a * b
below a b n h lt = omega (arith, lt, le-mul_of_pos_right a h)

-- what stands before the point of a number below 10^64 is below 10^64 too
pub whole_small : (places n most : ℕ) → n ≤ most → most < 10 ^ 64 → n / 10 ^ places < 10 ^ 64
whole_small places n most a b = div_below n (10 ^ places) (10 ^ 64) (one-le-pow places 10 (lit< tt)) (below (10 ^ 64) (10 ^ places) n (one-le-pow places 10 (lit< tt)) (omega (arith, a, b)))

-- the text of a number with so many places is exact as a field
pub fixed_is_exact : (places least most : ℕ) → least ≤ most → most < 10 ^ 64 → IsExactText IsField (fixed places least most)
fixed_is_exact places least most h m =
    spelled_is_exact IsField (fixed_text places) (λ t. digits_value 10 (without_point t)) (in_range least most) least
    (and_from _ _ (le-leb least least (omega arith)) (le-leb least most h))
    (λ n f. meant_fixed places n (whole_small places n most (leb-true n most (and_parts (nat_le least n) (nat_le n most) f).1) m))
    (λ n f. field_append (decimal (n / 10 ^ places)) (46 ∷ last_digits places n)
    (decimal_is_field (n / 10 ^ places) (whole_small places n most (leb-true n most (and_parts (nat_le least n) (nat_le n most) f).1) m))
    ((refl, refl), field_last places n))

-- ---- either of two texts

none_or : {A B : Type 0} (o : Option B) (p : Option A) (b : B) → o ≡ Some b → p ≡ None → left_or o p ≡ Some (Right b)
none_or o p b h k = rw (h, k) refl

some_or : {A B : Type 0} (o : Option B) (p : Option A) (a : A) → p ≡ Some a → left_or o p ≡ Some (Left a)
some_or o p a k = rw k refl

either_again : {A B : Type 0} (P : Token → Type 0) (first : Text A) (second : Text B) → IsExactText P first → IsExactText P second
    → ((a : A) (b : B) → first.fits a ≡ true → second.fits b ≡ true → first.print a ≡ second.print b → ⊥)
    → (x : Either A B) → (either first second).fits x ≡ true → (either first second).read ((either first second).print x) ≡ Some x
either_again P first second e g apart (Left a) h = some_or (second.read (first.print a)) (first.read (first.print a)) a (e.again a h)
either_again P first second e g apart (Right b) h =
    none_or (second.read (second.print b)) (first.read (second.print b)) b (g.again b h)
    (not_some (first.read (second.print b)) (λ a k. let t = e.takes (second.print b) a k in apart a b t.0 h (sym t.1)))

either_takes : {A B : Type 0} (P : Token → Type 0) (first : Text A) (second : Text B) → IsExactText P first → IsExactText P second
    → (t : Token) (p : Option A) (o : Option B) → first.read t ≡ p → second.read t ≡ o → (x : Either A B) → left_or o p ≡ Some x
    → ((either first second).fits x ≡ true) × (t ≡ (either first second).print x)
either_takes P first second e g t (Some a) o h k x q = let s : Left a ≡ x = cc in subst (λ (y : Either _ _). ((either first second).fits y ≡ true) × (t ≡ (either first second).print y)) s (e.takes t a h)
either_takes P first second e g t None (Some b) h k x q = let s : Right b ≡ x = cc in subst (λ (y : Either _ _). ((either first second).fits y ≡ true) × (t ≡ (either first second).print y)) s (g.takes t b k)
either_takes P first second e g t None None h k x q = absurd cc

either_plain : {A B : Type 0} (P : Token → Type 0) (first : Text A) (second : Text B) → IsExactText P first → IsExactText P second
    → (x : Either A B) → (either first second).fits x ≡ true → P ((either first second).print x)
either_plain P first second e g (Left a) h = e.plain a h
either_plain P first second e g (Right b) h = g.plain b h

-- a choice between two exact texts is exact where no token could be of both
pub either_is_exact : {A B : Type 0} (P : Token → Type 0) (first : Text A) (second : Text B) → IsExactText P first → IsExactText P second
    → ((a : A) (b : B) → first.fits a ≡ true → second.fits b ≡ true → first.print a ≡ second.print b → ⊥) → IsExactText P (either first second)
either_is_exact P first second e g apart = record {
  good = Left e.good;
  fits = e.fits;
  again = either_again P first second e g apart;
  takes = λ t x h. either_takes P first second e g t (first.read t) (second.read t) refl refl x h;
  plain = either_plain P first second e g;
}

-- ---- a field that may be empty

any_again : {A : Type 0} (text : Text A) (t : Token) (a : A) → t ≢ [] → text.read t ≡ Some a → read_any text t ≡ Some (Some a)
any_again text [] a n h = absurd (n refl)
any_again text (b ∷ t) a n h = rw h refl

any_takes : {A : Type 0} (text : Text A) (o : Option A) (x : Option A) → option_map (λ a. Some a) o ≡ Some x → (a : A) × (o ≡ Some a) × (Some a ≡ x)
any_takes text None x h = absurd cc
any_takes text (Some a) x h = (a, refl, cc)

if_any_again : {A : Type 0} (text : Text A) → IsExactText IsField text → ((a : A) → text.fits a ≡ true → text.print a ≢ []) → (o : Option A) → (if_any text).fits o ≡ true → (if_any text).read ((if_any text).print o) ≡ Some o
if_any_again text e some None h = refl
if_any_again text e some (Some a) h = any_again text (text.print a) a (some a h) (e.again a h)

if_any_takes : {A : Type 0} (text : Text A) → IsExactText IsField text → (t : Token) (o : Option A) → (if_any text).read t ≡ Some o → ((if_any text).fits o ≡ true) × (t ≡ (if_any text).print o)
if_any_takes text e [] o h = let s : None ≡ o = cc in subst (λ (y : Option _). ((if_any text).fits y ≡ true) × ([] ≡ (if_any text).print y)) s (refl, refl)
if_any_takes text e (b ∷ t) o h =
    let p = any_takes text (text.read (b ∷ t)) o h in
    subst (λ (y : Option _). ((if_any text).fits y ≡ true) × (b ∷ t ≡ (if_any text).print y)) p.2 (e.takes (b ∷ t) p.0 p.1)

if_any_plain : {A : Type 0} (text : Text A) → IsExactText IsField text → (o : Option A) → (if_any text).fits o ≡ true → IsField ((if_any text).print o)
if_any_plain text e None h = tt
if_any_plain text e (Some a) h = e.plain a h

-- a field that may be empty is exact where its text is exact and never empty
pub if_any_is_exact : {A : Type 0} (text : Text A) → IsExactText IsField text → ((a : A) → text.fits a ≡ true → text.print a ≢ []) → IsExactText IsField (if_any text)
if_any_is_exact text e some = record {
  good = None;
  fits = refl;
  again = if_any_again text e some;
  takes = if_any_takes text e;
  plain = if_any_plain text e;
}

-- ---- the values that pass a test

kept_at : {A : Type 0} (test : A → Bool) (b a : A) (c : Bool) → test b ≡ c → cond c (Some b) None ≡ Some a → (Some b ≡ Some a) × (test a ≡ true)
kept_at test b a true e h = let same : b ≡ a = cc in (h, sym (ap test same) ∙ e)
kept_at test b a false e h = absurd cc

kept_is : {A : Type 0} (test : A → Bool) (o : Option A) (a : A) → kept_by test o ≡ Some a → (o ≡ Some a) × (test a ≡ true)
kept_is test None a h = absurd cc
kept_is test (Some b) a h = kept_at test b a (test b) refl h

-- the values of an exact text that pass a test have an exact text, where one of them passes
pub only_is_exact : {A : Type 0} (P : Token → Type 0) (test : A → Bool) (text : Text A) → IsExactText P text → (good : A) → text.fits good ≡ true → test good ≡ true → IsExactText P (only test text)
only_is_exact P test text e good f h = record {
  good = good;
  fits = and_from _ _ f h;
  again = λ a g. let p = and_parts (text.fits a) (test a) g in rw (e.again a p.0, p.1) refl;
  takes = λ t a k. let p = kept_is test (text.read t) a k in let q = e.takes t a p.0 in (and_from _ _ q.0 p.1, q.1);
  plain = λ a g. e.plain a (and_parts (text.fits a) (test a) g).0;
}
