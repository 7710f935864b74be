-- The laws of formats: what is written is read again, what is read was written so, a refusal is at the first bad token.
use Rattle.std.proofs.Common.{◌≡◌, ◌⊎◌, Bool, true, List, [], ◌∷◌, ◌++◌, length, Option, Some, None, Result, Ok, Err, refl, sym, ap, subst, ◌∙◌, append_assoc, arith, inl, inr}
use Rattle.std.specs.List.{AllByRecursion}
use Rattle.std.proofs.lemmas.Bool.{and_parts, and_from}
use Rattle.answers.specs.Steps.{◌>>=◌}
use Rattle.line_text.specs.Formats.{Token, Text, Format, taken, one, nothing, and_then, as_shape, each_after, read_after, fits_after}
use Rattle.line_text.specs.Exact.{next, Refused, IsExactText, IsExact}

-- ---- words on results

-- a value and what stands after it, as an answer of reading
abbrev pub ok : {A : Type 0} → A × List Token → Result (A × List Token) (List Token)
ok x = Ok x

-- the tokens from the first bad one on, as an answer of reading
abbrev pub bad : {A : Type 0} → List Token → Result (A × List Token) (List Token)
bad left = Err left

-- two such answers are equal only where value and rest are
pub ok_is : {A : Type 0} (x y : A × List Token) → ok x ≡ ok y → x ≡ y
ok_is x y e = cc

pub ok_not_err : {A : Type 0} (x : A × List Token) (left : List Token) → ok x ≡ bad left → ⊥
ok_not_err x left e = absurd cc

-- ---- one token

all_append : (P : Token → Type 0) (xs ys : List Token) → AllByRecursion P xs → AllByRecursion P ys → AllByRecursion P (xs ++ ys)
all_append P [] ys a b = b
all_append P (x ∷ xs) ys a b = (a.0, all_append P xs ys a.1 b)

-- a list with a first line is not empty
pub nil_cons : (t : Token) (ts : List Token) → t ∷ ts ≡ [] → ⊥
nil_cons t ts h = absurd cc

one_again : {A : Type 0} (text : Text A) (a : A) (ts : List Token) → text.read (text.print a) ≡ Some a → (one text).read (text.print a ∷ ts) ≡ Ok (a, ts)
one_again text a ts h = rw h refl

taken_ok : {A : Type 0} (t : Token) (ts : List Token) (o : Option A) (a : A) (rest : List Token) → taken t ts o ≡ ok (a, rest) → (o ≡ Some a) × (ts ≡ rest)
taken_ok t ts None a rest h = absurd cc
taken_ok t ts (Some b) a rest h = let e = ok_is (b, ts) (a, rest) h in (ap (λ (x : _ × List Token). Some x.0) e, ap (λ (x : _ × List Token). x.1) e)

taken_bad : {A : Type 0} (t : Token) (ts : List Token) (o : Option A) (left : List Token) → taken t ts o ≡ bad left → (o ≡ None) × (t ∷ ts ≡ left)
taken_bad t ts None left h = (refl, cc)
taken_bad t ts (Some b) left h = absurd cc

one_takes : {A : Type 0} (P : Token → Type 0) (text : Text A) → IsExactText P text → (ts : List Token) (a : A) (rest : List Token) → (one text).read ts ≡ Ok (a, rest) → (text.fits a ≡ true) × (ts ≡ text.print a ∷ rest)
one_takes P text e [] a rest h = absurd cc
one_takes P text e (t ∷ ts) a rest h =
    let p = taken_ok t ts (text.read t) a rest h in
    let q = e.takes t a p.0 in
    (q.0, cc)

none_some : {A : Type 0} (o : Option A) (a : A) → o ≡ None → o ≡ Some a → ⊥
none_some o a h k = absurd cc

one_refuses : {A : Type 0} (P : Token → Type 0) (text : Text A) → IsExactText P text → (ts left : List Token) → (one text).read ts ≡ Err left → Refused (one text) ts left
one_refuses P text e [] left h = record {
  front = [];
  parts = cc;
  good = e.good;
  fits = e.fits;
  after = text.print e.good ∷ [];
  begins = refl;
  no_other = λ a f more rest k. let l : left ≡ [] = cc in absurd (nil_cons (text.print a) more (subst (λ (z : List Token). text.print a ∷ more ≡ next z rest) l k));
}
one_refuses P text e (t ∷ ts) left h =
    let p = taken_bad t ts (text.read t) left h in record {
      front = [];
      parts = p.1;
      good = e.good;
      fits = e.fits;
      after = text.print e.good ∷ [];
      begins = refl;
      no_other = λ a f more rest k.
          let q : text.print a ∷ more ≡ t ∷ rest = subst (λ (z : List Token). text.print a ∷ more ≡ next z rest) (sym p.1) k in
          let same : text.print a ≡ t = cc in
          none_some (text.read t) a p.0 (subst (λ (z : Token). text.read z ≡ Some a) same (e.again a f));
    }

-- a format of one token of an exact text is exact
pub one_is_exact : {A : Type 0} (P : Token → Type 0) (text : Text A) → IsExactText P text → IsExact P (one text)
one_is_exact P text e = record {
  good = e.good;
  fits = e.fits;
  again = λ a h ts. one_again text a ts (e.again a h);
  takes = λ ts a rest h. one_takes P text e ts a rest h;
  refuses = λ ts left h. one_refuses P text e ts left h;
  plain = λ a h. (e.plain a h, tt);
}

-- ---- no token

-- a format of no token is exact where there is only one value
pub nothing_is_exact : {A : Type 0} (P : Token → Type 0) (x : A) → ((a : A) → a ≡ x) → IsExact P (nothing x)
nothing_is_exact P x only = record {
  good = x;
  fits = refl;
  again = λ a h ts. ap (λ (b : _). Ok (b, ts)) (sym (only a));
  takes = λ ts a rest h. (refl, ap (λ (y : _ × List Token). y.1) (ok_is (x, ts) (a, rest) h));
  refuses = λ ts left h. absurd cc;
  plain = λ a h. tt;
}

-- ---- one after the other

-- the value of a step that did not fail
pub bind_ok : {A B E : Type 0} (r : Result A E) (f : A → Result B E) (y : B) → (r >>= f) ≡ Ok y → (x : A) × (r ≡ Ok x) × (f x ≡ Ok y)
bind_ok (Ok x) f y e = (x, refl, e)
bind_ok (Err d) f y e = absurd cc

-- a step failed, or the next one did
pub bind_err : {A B E : Type 0} (r : Result A E) (f : A → Result B E) (d : E) → (r >>= f) ≡ Err d → (r ≡ Err d) ⊎ ((x : A) × (r ≡ Ok x) × (f x ≡ Err d))
bind_err (Ok x) f d e = inr (x, refl, e)
bind_err (Err c) f d e = inl cc

module _ {A B : Type 0} (P : Token → Type 0) (first : Format A) (after : A → Format B) (e : IsExact P first) (g : (a : A) → first.fits a ≡ true → IsExact P (after a)) where
  both_again : (x : A × B) → (and_then first after).fits x ≡ true → (ts : List Token) → (and_then first after).read ((and_then first after).print x ++ ts) ≡ Ok (x, ts)
  both_again x h ts =
      let f = and_parts (first.fits x.0) ((after x.0).fits x.1) h in
      let r = e.again x.0 f.0 ((after x.0).print x.1 ++ ts) in
      let q = (g x.0 f.0).again x.1 f.1 ts in
      rw (append_assoc (first.print x.0) ((after x.0).print x.1) ts, r, q) refl

  both_takes : (ts : List Token) (x : A × B) (rest : List Token) → (and_then first after).read ts ≡ Ok (x, rest) → ((and_then first after).fits x ≡ true) × (ts ≡ (and_then first after).print x ++ rest)
  both_takes ts x rest h =
      let p = bind_ok (first.read ts) (λ a. (after a.0).read a.1 >>= λ b. Ok ((a.0, b.0), b.1)) (x, rest) h in
      let q = bind_ok ((after p.0.0).read p.0.1) (λ b. Ok ((p.0.0, b.0), b.1)) (x, rest) p.2 in
      let t = e.takes ts p.0.0 p.0.1 p.1 in
      let u = (g p.0.0 t.0).takes p.0.1 q.0.0 q.0.1 q.1 in
      let made : (A × B) × List Token = ((p.0.0, q.0.0), q.0.1) in
      let whole : ts ≡ (and_then first after).print made.0 ++ made.1 =
      t.1 ∙ ap (λ (z : List Token). first.print p.0.0 ++ z) u.1 ∙ sym (append_assoc (first.print p.0.0) ((after p.0.0).print q.0.0) q.0.1) in
      subst (λ (y : (A × B) × List Token). ((and_then first after).fits y.0 ≡ true) × (ts ≡ (and_then first after).print y.0 ++ y.1))
      (ok_is made (x, rest) q.2)
      (and_from _ _ t.0 u.0, whole)

  first_refuses : (ts left : List Token) → first.read ts ≡ Err left → Refused (and_then first after) ts left
  first_refuses ts left h =
      let r = e.refuses ts left h in
      let b = g r.good r.fits in record {
        front = r.front;
        parts = r.parts;
        good = (r.good, b.good);
        fits = and_from _ _ r.fits b.fits;
        after = r.after ++ (after r.good).print b.good;
        begins = ap (λ (z : List Token). z ++ (after r.good).print b.good) r.begins ∙ append_assoc r.front r.after ((after r.good).print b.good);
        no_other = λ x f more rest k.
            r.no_other x.0 (and_parts _ _ f).0 ((after x.0).print x.1 ++ more) rest (sym (append_assoc (first.print x.0) ((after x.0).print x.1) more) ∙ k);
      }

  second_refuses : (ts : List Token) (a : A) (mid left : List Token) → first.read ts ≡ Ok (a, mid) → (after a).read mid ≡ Err left → Refused (and_then first after) ts left
  second_refuses ts a mid left h k =
      let t = e.takes ts a mid h in
      let r = (g a t.0).refuses mid left k in record {
        front = first.print a ++ r.front;
        parts = t.1 ∙ ap (λ (z : List Token). first.print a ++ z) r.parts ∙ sym (append_assoc (first.print a) r.front left);
        good = (a, r.good);
        fits = and_from _ _ t.0 r.fits;
        after = r.after;
        begins = ap (λ (z : List Token). first.print a ++ z) r.begins ∙ sym (append_assoc (first.print a) r.front r.after);
        no_other = λ x f more rest q.
            let u = and_parts (first.fits x.0) ((after x.0).fits x.1) f in
            let same : first.print x.0 ++ ((after x.0).print x.1 ++ more) ≡ first.print a ++ (r.front ++ next left rest) =
            sym (append_assoc (first.print x.0) ((after x.0).print x.1) more) ∙ q ∙ append_assoc (first.print a) r.front (next left rest) in
            let read : ok (x.0, (after x.0).print x.1 ++ more) ≡ ok (a, r.front ++ next left rest) =
            sym (e.again x.0 u.0 ((after x.0).print x.1 ++ more)) ∙ ap first.read same ∙ e.again a t.0 (r.front ++ next left rest) in
            let pair = ok_is (x.0, (after x.0).print x.1 ++ more) (a, r.front ++ next left rest) read in
            let value : x.0 ≡ a = ap (λ (y : A × List Token). y.0) pair in
            let rests : (after x.0).print x.1 ++ more ≡ r.front ++ next left rest = ap (λ (y : A × List Token). y.1) pair in
            r.no_other x.1 (subst (λ (y : A). (after y).fits x.1 ≡ true) value u.1) more rest (subst (λ (y : A). (after y).print x.1 ++ more ≡ r.front ++ next left rest) value rests);
      }

  both_refuse : (ts left : List Token) → (and_then first after).read ts ≡ Err left → Refused (and_then first after) ts left
  both_refuse ts left h =
      elim (bind_err (first.read ts) (λ a. (after a.0).read a.1 >>= λ b. Ok ((a.0, b.0), b.1)) left h) as (λ _. Refused (and_then first after) ts left) [
        | inl p ↦ first_refuses ts left p
        | inr p ↦ elim (bind_err ((after p.0.0).read p.0.1) (λ b. Ok ((p.0.0, b.0), b.1)) left p.2) as (λ _. Refused (and_then first after) ts left) [
          | inl q ↦ second_refuses ts p.0.0 p.0.1 left p.1 q
          | inr q ↦ absurd (ok_not_err ((p.0.0, q.0.0), q.0.1) left q.2)
        ]
      ]

  -- a format and one that follows its value are exact together where both are exact
  pub both_are_exact : IsExact P (and_then first after)
  both_are_exact = record {
    good = (e.good, (g e.good e.fits).good);
    fits = and_from _ _ e.fits (g e.good e.fits).fits;
    again = both_again;
    takes = both_takes;
    refuses = both_refuse;
    plain = λ x h. let f = and_parts (first.fits x.0) ((after x.0).fits x.1) h in all_append P (first.print x.0) ((after x.0).print x.1) (e.plain x.0 f.0) ((g x.0 f.0).plain x.1 f.1);
  }

-- ---- in another shape

module _ {A B : Type 0} (P : Token → Type 0) (format : Format A) (other : Format B) (to : A → B) (e : IsExact P format)
    (reads : (ts : List Token) → other.read ts ≡ (format.read ts >>= λ a. Ok (to a.0, a.1)))
    (prints : (a : A) → format.fits a ≡ true → other.print (to a) ≡ format.print a)
    (to_fits : (a : A) → format.fits a ≡ true → other.fits (to a) ≡ true)
    (from : (b : B) → other.fits b ≡ true → (a : A) × (to a ≡ b) × (format.fits a ≡ true)) where
  shaped_again : (a : A) → format.fits a ≡ true → (ts : List Token) → other.read (other.print (to a) ++ ts) ≡ Ok (to a, ts)
  shaped_again a h ts = rw (prints a h, reads (format.print a ++ ts), e.again a h ts) refl

  shaped_takes : (ts : List Token) (b : B) (rest : List Token) → other.read ts ≡ Ok (b, rest) → (other.fits b ≡ true) × (ts ≡ other.print b ++ rest)
  shaped_takes ts b rest h =
      let p = bind_ok (format.read ts) (λ a. Ok (to a.0, a.1)) (b, rest) (sym (reads ts) ∙ h) in
      let t = e.takes ts p.0.0 p.0.1 p.1 in
      subst (λ (y : B × List Token). (other.fits y.0 ≡ true) × (ts ≡ other.print y.0 ++ y.1)) (ok_is (to p.0.0, p.0.1) (b, rest) p.2)
      (to_fits p.0.0 t.0, t.1 ∙ ap (λ (z : List Token). z ++ p.0.1) (sym (prints p.0.0 t.0)))

  shaped_refuses : (ts left : List Token) → other.read ts ≡ Err left → Refused other ts left
  shaped_refuses ts left h =
      elim (bind_err (format.read ts) (λ a. Ok (to a.0, a.1)) left (sym (reads ts) ∙ h)) as (λ _. Refused other ts left) [
        | inl p ↦ let r = e.refuses ts left p in record {
          front = r.front;
          parts = r.parts;
          good = to r.good;
          fits = to_fits r.good r.fits;
          after = r.after;
          begins = prints r.good r.fits ∙ r.begins;
          no_other = λ b f more rest k.
              let a = from b f in
              r.no_other a.0 a.2 more rest (ap (λ (z : List Token). z ++ more) (sym (prints a.0 a.2) ∙ ap other.print a.1) ∙ k);
        }
        | inr p ↦ absurd (ok_not_err (to p.0.0, p.0.1) left p.2)
      ]

  pub shaped_is_exact : IsExact P other
  shaped_is_exact = record {
    good = to e.good;
    fits = to_fits e.good e.fits;
    again = λ b h ts. let a = from b h in subst (λ (y : B). other.read (other.print y ++ ts) ≡ Ok (y, ts)) a.1 (shaped_again a.0 a.2 ts);
    takes = shaped_takes;
    refuses = shaped_refuses;
    plain = λ b h. let a = from b h in subst (λ (y : List Token). AllByRecursion P y) (sym (prints a.0 a.2) ∙ ap other.print a.1) (e.plain a.0 a.2);
  }

-- an exact format is exact in another shape, where the two shapes give back each other's values
pub as_shape_is_exact : {A B : Type 0} (P : Token → Type 0) (format : Format A) (to : A → B) (from : B → A) (has : B → Bool) → IsExact P format
    → ((a : A) → format.fits a ≡ true → (from (to a) ≡ a) × (has (to a) ≡ true)) → ((b : B) → has b ≡ true → format.fits (from b) ≡ true → to (from b) ≡ b)
    → IsExact P (as_shape format to from has)
as_shape_is_exact P format to from has e there back =
    shaped_is_exact P format (as_shape format to from has) to e
    (λ ts. refl)
    (λ a h. ap format.print (there a h).0)
    (λ a h. and_from _ _ (there a h).1 (ap format.fits (there a h).0 ∙ h))
    (λ b h. let f = and_parts (has b) (format.fits (from b)) h in (from b, back b f.0 f.1, f.1))

-- ---- a value for each key

abbrev cons_of : {A : Type 0} → A × List A → List A
cons_of x = x.0 ∷ x.1

abbrev with_first : {A : Type 0} → A → List A × List Token → Result ((A × List A) × List Token) (List Token)
with_first x b = Ok ((x, b.0), b.1)

abbrev as_list : {A : Type 0} → (A × List A) × List Token → Result (List A × List Token) (List Token)
as_list a = Ok (cons_of a.0, a.1)

regroup_next : {A : Type 0} (x : A) (r : Result (List A × List Token) (List Token)) → (r >>= λ xs. ok (x ∷ xs.0, xs.1)) ≡ ((r >>= with_first x) >>= as_list)
regroup_next x (Ok xs) = refl
regroup_next x (Err e) = refl

regroup : {A : Type 0} (rest : A → Format (List A)) (r : Result (A × List Token) (List Token)) → (r >>= λ x. (rest x.0).read x.1 >>= λ xs. ok (x.0 ∷ xs.0, xs.1)) ≡ ((r >>= λ x. (rest x.0).read x.1 >>= with_first x.0) >>= as_list)
regroup rest (Ok x) = regroup_next x.0 ((rest x.0).read x.1)
regroup rest (Err e) = refl

each_from : {K A : Type 0} (format : List A → K → Format A) (before : List A) (k : K) (ks : List K) (xs : List A) → fits_after format before (k ∷ ks) xs ≡ true
    → (a : A × List A) × (cons_of a ≡ xs) × ((and_then (format before k) (λ x. each_after (before ++ x ∷ []) ks format)).fits a ≡ true)
each_from format before k ks [] h = absurd cc
each_from format before k ks (x ∷ xs) h = ((x, xs), refl, h)

none_each : {K A : Type 0} (format : List A → K → Format A) (before xs : List A) → fits_after format before [] xs ≡ true → [] ≡ xs
none_each format before [] h = refl
none_each format before (x ∷ xs) h = absurd cc

none_takes : {K A : Type 0} (format : List A → K → Format A) (before : List A) (ts : List Token) (xs : List A) (rest : List Token) → read_after format before [] ts ≡ Ok (xs, rest) → (fits_after format before [] xs ≡ true) × (ts ≡ rest)
none_takes {K} {A} format before ts xs rest h =
    let e = ok_is ([], ts) (xs, rest) h in
    (ap (fits_after format before []) (sym (ap (λ (y : List A × List Token). y.0) e)), ap (λ (y : List A × List Token). y.1) e)

-- as many values as keys
pub length_after : {K A : Type 0} (format : List A → K → Format A) (before : List A) (keys : List K) (xs : List A) → fits_after format before keys xs ≡ true → length xs ≡ length keys
length_after format before [] [] h = refl
length_after format before [] (x ∷ xs) h = absurd cc
length_after format before (k ∷ ks) [] h = absurd cc
length_after format before (k ∷ ks) (x ∷ xs) h = omega (arith, length_after format (before ++ x ∷ []) ks xs (and_parts _ _ h).1)

-- each of the formats of these keys is exact
pub each_after_is_exact : {K A : Type 0} (P : Token → Type 0) (before : List A) (keys : List K) (format : List A → K → Format A)
    → AllByRecursion (λ k. (b : List A) → IsExact P (format b k)) keys → IsExact P (each_after before keys format)
each_after_is_exact P before [] format e = record {
  good = [];
  fits = refl;
  again = λ xs h ts. ap (λ (ys : List _). Ok (ys, ts)) (none_each format before xs h);
  takes = λ ts xs rest h. none_takes format before ts xs rest h;
  refuses = λ ts left h. absurd cc;
  plain = λ xs h. tt;
}
each_after_is_exact P before (k ∷ ks) format e =
    shaped_is_exact P (and_then (format before k) (λ x. each_after (before ++ x ∷ []) ks format)) (each_after before (k ∷ ks) format) cons_of
    (both_are_exact P (format before k) (λ x. each_after (before ++ x ∷ []) ks format) (e.0 before) (λ x _. each_after_is_exact P (before ++ x ∷ []) ks format e.1))
    (λ ts. regroup (λ x. each_after (before ++ x ∷ []) ks format) ((format before k).read ts))
    (λ a h. refl)
    (λ a h. h)
    (λ xs h. each_from format before k ks xs h)
