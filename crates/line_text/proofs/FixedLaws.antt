-- Numbers with fixed places and their texts.
use Rattle.std.proofs.Common.{◌≡◌, ℕ, suc, ◌+◌, ◌-◌, ◌*◌, ◌/◌, ◌%◌, ◌^◌, ◌<◌, ◌≤◌, Bool, true, false, cond, ◌&&◌, List, [], ◌∷◌, ◌++◌, length, get_or, take, drop, Some, None, refl, sym, ap, subst, ◌∙◌, arith, lit<, length-append}
use Rattle.std.specs.Prelude.{nat_le, bytes_eq}
use Rattle.std.specs.Fmt.{decimal}
use Rattle.std.specs.Str.Parse.{digits_value, digits_value_after}
use Rattle.std.specs.Char.{digit_value}
use Rattle.std.proofs.Math.ListN.{set}
use Rattle.std.proofs.Math.Nat.{div-div-eq-div-mul, pow-suc, div-le_self, one-le-pow}
use Rattle.std.proofs.lemmas.Bool.{and_parts, and_from, leb-true, le-leb}
use Rattle.std.proofs.lemmas.Nat.{div-add-mod'}
use Rattle.std.proofs.lemmas.Str.{digit_value_digit}
use Rattle.std.proofs.lemmas.List.{take-append-drop, length-drop, drop-set}
use Rattle.std.proofs.lemmas.Slice.Eq.{bytes_eq-Decides}
use Rattle.fixed_interval.specs.Text.{last_digits, fixed_text}
use Rattle.fixed_interval.proofs.Public.{length_last_digits, after_last_digits, last_digits_none}
use Rattle.line_text.specs.Formats.{Token, Text, spelled}
use Rattle.line_text.specs.Texts.{AreDigits, number, fixed, without_point, in_range}
use Rattle.line_text.specs.Exact.{IsExactText, IsField}
use Rattle.line_text.proofs.FieldLaws.{number_is_exact}
use Rattle.line_text.proofs.Numerals.{digs_at}
use Rattle.line_text.proofs.MoreFields.{digs_last, meant_fixed, whole_small}

-- ---- the point

length_more : (xs ys : List ℕ) → length (xs ++ 46 ∷ ys) ≡ length xs + suc (length ys)
length_more xs ys = length-append xs (46 ∷ ys)

pub too_short : (text : List ℕ) (places : ℕ) → length text ≤ places → (xs ys : List ℕ) → length ys ≡ places → text ≡ xs ++ 46 ∷ ys → ⊥
too_short text places h xs ys l e = absurd (omega (arith, h, l, ap length e, length_more xs ys))

drop_front : (xs ys : List ℕ) → drop (length xs) (xs ++ ys) ≡ ys
drop_front [] ys = refl
drop_front (x ∷ xs) ys = drop_front xs ys

pub no_point : (text : List ℕ) (k places : ℕ) → k + 1 + places ≡ length text → (get_or (take 1 (drop k text)) 0 0 ≡ 46 → ⊥) → (xs ys : List ℕ) → length ys ≡ places → text ≡ xs ++ 46 ∷ ys → ⊥
no_point text k places h n xs ys l e =
    let same : k ≡ length xs = omega (arith, h, l, ap length e, length_more xs ys) in
    let rest : drop k text ≡ 46 ∷ ys = rw (e, same) (drop_front xs (46 ∷ ys)) in
    n (ap (λ (z : List ℕ). get_or (take 1 z) 0 0) rest)

first_is : (xs : List ℕ) → 0 < length xs → get_or (take 1 xs) 0 0 ≡ 46 → xs ≡ 46 ∷ drop 1 xs
first_is [] h e = absurd (omega (arith, h))
first_is (x ∷ xs) h e = ap (λ (z : ℕ). z ∷ xs) e

pub point_found : (text : List ℕ) (k places : ℕ) → k + 1 + places ≡ length text → get_or (take 1 (drop k text)) 0 0 ≡ 46 → (text ≡ take k text ++ 46 ∷ drop 1 (drop k text)) × (length (drop 1 (drop k text)) ≡ places)
point_found text k places h e =
    let l = length-drop k text in
    (sym (take-append-drop k text) ∙ ap (λ (z : List ℕ). take k text ++ z) (first_is (drop k text) (omega (arith, l, h)) e), omega (arith, length-drop 1 (drop k text), l, h))

-- ---- texts with one spelling

refused_at : {A : Type 0} (print : A → Token) (fits : A → Bool) (t : Token) (b : A) (x y : Bool) → fits b ≡ x → bytes_eq (print b) t ≡ y → (fits b ≡ true → print b ≡ t → ⊥) → None ≡ cond (x && y) (Some b) None
refused_at print fits t b true true f q h = absurd (h f ((bytes_eq-Decides (print b) t).0 q))
refused_at print fits t b true false f q h = refl
refused_at print fits t b false y f q h = refl

pub spelled_refused : {A : Type 0} (print : A → Token) (meant : Token → A) (fits : A → Bool) (t : Token) → ((a : A) → fits a ≡ true → print a ≡ t → ⊥) → None ≡ (spelled print meant fits).read t
spelled_refused print meant fits t h = refused_at print fits t (meant t) (fits (meant t)) (bytes_eq (print (meant t)) t) refl refl (h (meant t))

pub spelled_found : {A : Type 0} (print : A → Token) (meant : Token → A) (fits : A → Bool) (t : Token) (a : A) → fits a ≡ true → meant (print a) ≡ a → print a ≡ t → Some a ≡ (spelled print meant fits).read t
spelled_found print meant fits t a f m e =
    subst (λ (u : Token). Some a ≡ (spelled print meant fits).read u) e
    (rw (m, f, (bytes_eq-Decides (print a) (print a)).1 refl) refl)

-- ---- both sides of the point

append_parts : (xs us ys vs : List ℕ) → length ys ≡ length vs → xs ++ ys ≡ us ++ vs → (xs ≡ us) × (ys ≡ vs)
append_parts [] [] ys vs l e = (refl, e)
append_parts [] (u ∷ us) ys vs l e = absurd (omega (arith, l, ap length e, length-append (u ∷ us) vs))
append_parts (x ∷ xs) [] ys vs l e = absurd (omega (arith, l, ap length e, length-append (x ∷ xs) ys))
append_parts (x ∷ xs) (u ∷ us) ys vs l e =
    let a : x ≡ u = cc in
    let b : xs ++ ys ≡ us ++ vs = cc in
    let p = append_parts xs us ys vs l b in
    (rw (a, p.0) refl, p.1)

sides : (places n : ℕ) (xs ys : List ℕ) → length ys ≡ places → fixed_text places n ≡ xs ++ 46 ∷ ys → (decimal (n / 10 ^ places) ≡ xs) × (last_digits places n ≡ ys)
sides places n xs ys l e =
    let p = append_parts (decimal (n / 10 ^ places)) xs (46 ∷ last_digits places n) (46 ∷ ys) (omega (arith, l, length_last_digits places n)) e in
    (p.0, ap (drop 1) p.1)

cons_back : (d k n : ℕ) (xs : List ℕ) → 48 + n / 10 ^ k % 10 ≡ d → last_digits k n ≡ xs → last_digits (suc k) n ≡ d ∷ xs
unfolding last_digits
cons_back d k n xs h e = rw (h, e) refl

digits_tail : (x : ℕ) (xs : List ℕ) → AreDigits (x ∷ xs) → AreDigits xs
digits_tail x xs d k h = d (suc k) (omega (arith, h))

one_digit_more : (m d : ℕ) → d ≤ 9 → ((m * 10 + d) / 10 ≡ m) × ((m * 10 + d) % 10 ≡ d)
one_digit_more m d h = (omega (arith, h), omega (arith, h))

-- the number and the digits after it come back
pub digits_back : (m : ℕ) (xs : List ℕ) → AreDigits xs → (digits_value_after 10 m xs / 10 ^ length xs ≡ m) × (last_digits (length xs) (digits_value_after 10 m xs) ≡ xs)
digits_back m [] d = (omega arith, last_digits_none m)
digits_back m (x ∷ xs) d =
    let b = d 0 (omega arith) in
    let v = digit_value_digit x b in
    let n = digits_value_after 10 (m * 10 + digit_value x) xs in
    let i = digits_back (m * 10 + digit_value x) xs (digits_tail x xs d) in
    let o = one_digit_more m (digit_value x) (omega (arith, v, b)) in
    let ten : 10 ^ (suc (length xs)) ≡ 10 ^ length xs * 10 = pow-suc 10 (length xs) in
    let up : n / 10 ^ (suc (length xs)) ≡ n / 10 ^ length xs / 10 = rw ten (sym (div-div-eq-div-mul n (10 ^ length xs) 10)) in
    let digit : 48 + n / 10 ^ length xs % 10 ≡ x = ap (λ (q : ℕ). 48 + q % 10) i.0 ∙ omega (arith, o.1, v, b) in
    (up ∙ ap (λ (q : ℕ). q / 10) i.0 ∙ o.0, cons_back x (length xs) n xs digit i.1)

-- ---- reading

none_some : {A : Type 0} (a : A) → None ≡ Some a → ⊥
none_some a e = absurd cc

some_same : (a b : ℕ) → Some a ≡ Some b → a ≡ b
some_same a b e = cc

abbrev whole : Text ℕ
whole = number 0 (2 ^ 128 - 1)

whole_is_exact : IsExactText IsField whole
whole_is_exact = number_is_exact 0 (2 ^ 128 - 1) (omega arith) (omega arith)

-- what stands before the point is read as the number that it writes
whole_again : (n p most : ℕ) (xs : List ℕ) → n ≤ most → most < 2 ^ 128 → decimal (n / p) ≡ xs → whole.read xs ≡ Some (n / p)
whole_again n p most xs b small w =
    subst (λ (t : Token). whole.read t ≡ Some (n / p)) w (whole_is_exact.again (n / p) (and_from (nat_le 0 (n / p)) (nat_le (n / p) (2 ^ 128 - 1)) (le-leb 0 (n / p) (omega arith)) (le-leb (n / p) (2 ^ 128 - 1) (omega (arith, b, small, div-le_self n p)))))

module _ (text xs ys : List ℕ) (places least most : ℕ) (small : most < 2 ^ 128) (parts : text ≡ xs ++ 46 ∷ ys) (long : length ys ≡ places) where
  refused : ((n : ℕ) → least ≤ n → n ≤ most → decimal (n / 10 ^ places) ≡ xs → last_digits places n ≡ ys → ⊥) → None ≡ (fixed places least most).read text
  refused h =
      spelled_refused (fixed_text places) (λ t. digits_value 10 (without_point t)) (in_range least most) text
      (λ n f e. let p = and_parts (nat_le least n) (nat_le n most) f in let s = sides places n xs ys long (e ∙ parts) in h n (leb-true least n p.0) (leb-true n most p.1) s.0 s.1)

  pub no_whole : None ≡ whole.read xs → None ≡ (fixed places least most).read text
  no_whole h = refused (λ n a b w l. none_some (n / 10 ^ places) (h ∙ whole_again n (10 ^ places) most xs b small w))

  -- where a byte behind the point is no digit, the text is no number of the format
  pub no_digits : (AreDigits ys → ⊥) → None ≡ (fixed places least most).read text
  no_digits h = refused (λ n a b w l. h (subst (λ (t : List ℕ). AreDigits t) l (digs_at (last_digits places n) (digs_last places n))))

  -- the number is what reading on from its whole part gives
  value_is : (n m : ℕ) → n ≤ most → decimal (n / 10 ^ places) ≡ xs → last_digits places n ≡ ys → Some m ≡ whole.read xs → digits_value_after 10 m ys ≡ n
  value_is n m b w l r =
      let same : m ≡ n / 10 ^ places = some_same m (n / 10 ^ places) (r ∙ whole_again n (10 ^ places) most xs b small w) in
      ap (λ (z : ℕ). digits_value_after 10 z ys) same
      ∙ ap (digits_value_after 10 (n / 10 ^ places)) (sym l)
      ∙ after_last_digits (n / 10 ^ places) places n
      ∙ div-add-mod' n (10 ^ places)

  -- digits that make 2^128 or more are no number of the format
  pub too_large : (m : ℕ) → Some m ≡ whole.read xs → 2 ^ 128 ≤ digits_value_after 10 m ys → None ≡ (fixed places least most).read text
  too_large m r h = refused (λ n a b w l. absurd (omega (arith, h, value_is n m b w l r, b, small)))

  -- a number below the least is none of the format
  pub too_low : (m k : ℕ) → Some m ≡ whole.read xs → k ≡ digits_value_after 10 m ys → k < least → None ≡ (fixed places least most).read text
  too_low m k r v h = refused (λ n a b w l. absurd (omega (arith, h, value_is n m b w l r, a, v)))

  -- a number above the most is none of the format
  pub too_high : (m k : ℕ) → Some m ≡ whole.read xs → k ≡ digits_value_after 10 m ys → most < k → None ≡ (fixed places least most).read text
  too_high m k r v h = refused (λ n a b w l. absurd (omega (arith, h, value_is n m b w l r, b, v)))

  -- digits that make a number from the least to the most are read as that number
  pub read_found : (m k : ℕ) → Some m ≡ whole.read xs → AreDigits ys → k ≡ digits_value_after 10 m ys → least ≤ k → k ≤ most → Some k ≡ (fixed places least most).read text
  read_found m k r d v a b =
      let t = whole_is_exact.takes xs m (sym r) in
      let back = digits_back m ys d in
      let front : k / 10 ^ places ≡ m = rw (v, ← long) back.0 in
      let last : last_digits places k ≡ ys = rw (v, ← long) back.1 in
      let spelling : fixed_text places k ≡ text = rw front (ap (λ (z : Token). decimal m ++ 46 ∷ z) last ∙ ap (λ (z : Token). z ++ 46 ∷ ys) (sym t.1)) ∙ sym parts in
      spelled_found (fixed_text places) (λ u. digits_value 10 (without_point u)) (in_range least most) text k
      (and_from (nat_le least k) (nat_le k most) (le-leb least k a) (le-leb k most b))
      (meant_fixed places k (whole_small places k most b (omega (arith, small)))) spelling

pub no_halves : (text : List ℕ) (places least most : ℕ) → ((xs ys : List ℕ) → length ys ≡ places → text ≡ xs ++ 46 ∷ ys → ⊥) → None ≡ (fixed places least most).read text
no_halves text places least most h =
    spelled_refused (fixed_text places) (λ t. digits_value 10 (without_point t)) (in_range least most) text
    (λ n f e. h (decimal (n / 10 ^ places)) (last_digits places n) (length_last_digits places n) (sym e))

-- ---- writing

-- a power of ten is at least 1
pub ten_positive : (k : ℕ) → 1 ≤ 10 ^ k
ten_positive k = one-le-pow k 10 (lit< tt)

-- one place less
pub unit_falls : (unit places k : ℕ) → k < places → unit ≡ 10 ^ (places - k) → unit / 10 ≡ 10 ^ (places - (k + 1))
unit_falls unit places k h e =
    let s : places - k ≡ suc (places - (k + 1)) = omega (arith, h) in
    let p = pow-suc 10 (places - (k + 1)) in
    let q = ap (λ (i : ℕ). 10 ^ i) s in
    omega (arith, e, p, q)

pub last_front : (k n : ℕ) → last_digits (suc k) n ≡ (48 + n / 10 ^ k % 10) ∷ last_digits k n
unfolding last_digits
last_front k n = refl

-- of the places still to be written the first is the digit at the unit, and then come the others
pub front_more : (places k n unit : ℕ) → k < places → unit ≡ 10 ^ (places - (k + 1)) → last_digits (places - k) n ≡ (48 + n / unit % 10) ∷ last_digits (places - (k + 1)) n
front_more places k n unit h e =
    let s : places - k ≡ suc (places - (k + 1)) = omega (arith, h) in
    rw (s, e) (last_front (places - (k + 1)) n)

-- where all places are written none is left
pub last_at : (places k n : ℕ) → places ≤ k → last_digits (places - k) n ≡ []
last_at places k n h = let z : places - k ≡ 0 = omega (arith, h) in rw z (last_digits_none n)

-- the next digit from the last goes before those that end the bytes
pub digit_before : (bytes : List ℕ) (i k n left : ℕ) → i < length bytes → left ≡ n / 10 ^ k → drop (i + 1) bytes ≡ last_digits k n → drop i (set bytes i (48 + left % 10)) ≡ last_digits (k + 1) n
digit_before bytes i k n left h l e =
    let p : k + 1 ≡ suc k = omega arith in
    drop-set bytes i (48 + left % 10) h ∙ rw (p, l, e) (sym (last_front k n))

-- the number without its last digits falls by one place
pub tenth : (n k : ℕ) → n / 10 ^ k / 10 ≡ n / 10 ^ (k + 1)
tenth n k =
    let p : k + 1 ≡ suc k = omega arith in
    rw (p, pow-suc 10 k) (div-div-eq-div-mul n (10 ^ k) 10)
