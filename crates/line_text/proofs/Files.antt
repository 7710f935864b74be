-- A whole file: what is read has this text, each text is read again, and a refusal names the first bad line.
use Rattle.std.proofs.Common.{◌≡◌, ℕ, suc, ◌-◌, ◌≤◌, true, List, [], ◌∷◌, ◌++◌, length, take, drop, Result, Ok, Err, refl, sym, ap, subst, ◌∙◌, append_assoc, arith, inl, inr}
use Rattle.std.specs.List.{concat}
use Rattle.std.proofs.lemmas.List.{append-nil, take_at, length-append, take-append-drop, length-take, nil_from_length, length-drop}
use Rattle.line_text.specs.Formats.{Token, Format, all_read, read_all}
use Rattle.line_text.specs.Files.{lines_of, file_text, file_of, file_answer, numbered, IsFirstBad}
use Rattle.line_text.specs.Exact.{IsExact, next, IsLine}
use Rattle.line_text.proofs.Laws.{ok_is, bind_err}
use Rattle.line_text.proofs.LineLaws.{all_again, all_takes, concat_lines, lines_again}

-- left begins at the first bad token of a whole file
record Stops {A : Type 0} (format : Format A) (ts left : List Token) : Type 0 where
  front : List Token
  parts : ts ≡ front ++ left
  good : A
  fits : format.fits good ≡ true
  after : List Token
  begins : format.print good ≡ front ++ after
  no_other : (a : A) → format.fits a ≡ true → (rest : List Token) → format.print a ≡ front ++ next left rest → ⊥

all_bad : {A : Type 0} (x : A × List Token) (left : List Token) → all_read x ≡ Err left → (t : Token) × (ts : List Token) × (x.1 ≡ t ∷ ts) × (left ≡ t ∷ ts)
all_bad (a, []) left h = absurd cc
all_bad (a, t ∷ ts) left h = (t, ts, refl, cc)

nil_not_cons : (t : Token) (ts : List Token) → [] ≡ t ∷ ts → ⊥
nil_not_cons t ts h = absurd cc

all_taken : (xs : List Token) → take (suc (length xs)) xs ≡ xs
all_taken [] = refl
all_taken (x ∷ xs) = ap (λ (ys : List Token). x ∷ ys) (all_taken xs)

-- the first tokens of two lists
take_more : (front : List Token) (left : List Token) (xs : List Token) → take (suc (length front)) xs ≡ take (suc (length front)) (front ++ left) → (rest : List Token) × (xs ≡ front ++ next left rest)
take_more front [] xs h =
    let n = length front in
    let e : take (suc n) (front ++ []) ≡ front = ap (take (suc n)) (append-nil front) ∙ all_taken front in
    let short : length xs ≤ n = omega (arith, ap length (h ∙ e), length-take (suc n) xs) in
    let none : drop (suc n) xs ≡ [] = nil_from_length (drop (suc n) xs) (omega (arith, length-drop (suc n) xs, short)) in
    ([], sym (take-append-drop (suc n) xs) ∙ ap (λ (z : List Token). take (suc n) xs ++ z) none ∙ append-nil (take (suc n) xs) ∙ h ∙ e ∙ sym (append-nil front))
take_more front (t ∷ ts) xs h =
    let n = length front in
    let e : take (suc n) (front ++ t ∷ ts) ≡ front ++ t ∷ [] = ap (take (suc n)) (sym (append_assoc front (t ∷ []) ts)) ∙ take_at (front ++ t ∷ []) ts (suc n) (omega (arith, length-append front (t ∷ []))) in
    (drop (suc n) xs, sym (take-append-drop (suc n) xs) ∙ ap (λ (z : List Token). z ++ drop (suc n) xs) (h ∙ e) ∙ append_assoc front (t ∷ []) (drop (suc n) xs))

module _ {A : Type 0} (format : Format A) (e : IsExact IsLine format) where
  lines_are : (a : A) → format.fits a ≡ true → lines_of (file_text format a) ≡ format.print a
  lines_are a h = lines_again (format.print a) (e.plain a h)

  pub file_again : (a : A) → format.fits a ≡ true → file_of format (file_text format a) ≡ Ok a
  file_again a h = ap (read_all format) (lines_are a h) ∙ all_again IsLine format e a h

  pub file_takes : (bytes : List ℕ) (a : A) → file_of format bytes ≡ Ok a → (format.fits a ≡ true) × (bytes ≡ file_text format a)
  file_takes bytes a h =
      let t = all_takes IsLine format e (lines_of bytes) a h in
      (t.0, sym (concat_lines bytes) ∙ ap concat t.1)

  all_refuses : (ts left : List Token) → read_all format ts ≡ Err left → Stops format ts left
  all_refuses ts left h =
      elim (bind_err (format.read ts) all_read left h) as (λ _. Stops format ts left) [
        | inl p ↦ let r = e.refuses ts left p in record {
          front = r.front;
          parts = r.parts;
          good = r.good;
          fits = r.fits;
          after = r.after;
          begins = r.begins;
          no_other = λ a f rest k. r.no_other a f [] rest (append-nil (format.print a) ∙ k);
        }
        | inr p ↦ let q = all_bad p.0 left p.2 in let t = e.takes ts p.0.0 p.0.1 p.1 in record {
          front = format.print p.0.0;
          parts = t.1 ∙ ap (λ (z : List Token). format.print p.0.0 ++ z) (q.2 ∙ sym q.3);
          good = p.0.0;
          fits = t.0;
          after = [];
          begins = sym (append-nil (format.print p.0.0));
          no_other = λ a f rest k.
              let same : format.print a ++ [] ≡ format.print p.0.0 ++ next (q.0 ∷ q.1) rest =
              append-nil (format.print a) ∙ k ∙ ap (λ (z : List Token). format.print p.0.0 ++ next z rest) q.3 in
              let pair = ok_is (a, []) (p.0.0, next (q.0 ∷ q.1) rest) (sym (e.again a f []) ∙ ap format.read same ∙ e.again p.0.0 t.0 (next (q.0 ∷ q.1) rest)) in
              nil_not_cons q.0 rest (ap (λ (y : A × List Token). y.1) pair);
        }
      ]

  stops_first : (bytes : List ℕ) (left : List Token) → Stops format (lines_of bytes) left → IsFirstBad format bytes (length (lines_of bytes) - length left)
  stops_first bytes left s =
      let n : length (lines_of bytes) - length left ≡ length s.front = omega (arith, ap length s.parts, length-append s.front left) in
      subst (λ (k : ℕ). IsFirstBad format bytes k) (sym n) (record {
        good = s.good;
        fits = s.fits;
        begins =
            ap (take (length s.front)) (lines_are s.good s.fits ∙ s.begins) ∙ take_at s.front s.after (length s.front) refl
            ∙ sym (ap (take (length s.front)) s.parts ∙ take_at s.front left (length s.front) refl);
        no_other = λ a f k.
            let m = take_more s.front left (format.print a) (ap (take (suc (length s.front))) (sym (lines_are a f)) ∙ k ∙ ap (take (suc (length s.front))) s.parts) in
            s.no_other a f m.0 m.1;
      })

  pub file_refuses : (bytes : List ℕ) (left : List Token) → file_of format bytes ≡ Err left → IsFirstBad format bytes (length (lines_of bytes) - length left)
  file_refuses bytes left h = stops_first bytes left (all_refuses (lines_of bytes) left h)

-- ---- with the number of the bad line

numbered_ok : {A : Type 0} (n : ℕ) (r : Result A (List Token)) (a : A) → numbered n r ≡ Ok a → r ≡ Ok a
numbered_ok n (Ok b) a h = let e : b ≡ a = cc in ap (λ (x : _). Ok x) e
numbered_ok n (Err left) a h = absurd cc

numbered_err : {A : Type 0} (n k : ℕ) (r : Result A (List Token)) → numbered n r ≡ Err k → (left : List Token) × (r ≡ Err left) × (k ≡ suc (n - length left))
numbered_err n k (Ok b) h = absurd cc
numbered_err n k (Err left) h = (left, refl, cc)

module _ {A : Type 0} (format : Format A) (e : IsExact IsLine format) where
  -- the text of a value that fits is answered with that value
  pub answer_again : (a : A) → format.fits a ≡ true → file_answer format (file_text format a) ≡ Ok a
  answer_again a h = ap (numbered _) (file_again format e a h)

  -- bytes that are answered with a value are its text, and it fits
  pub answer_takes : (bytes : List ℕ) (a : A) → file_answer format bytes ≡ Ok a → (format.fits a ≡ true) × (bytes ≡ file_text format a)
  answer_takes bytes a h = file_takes format e bytes a (numbered_ok (length (lines_of bytes)) (file_of format bytes) a h)

  -- a number that is answered is that of the first bad line, counted from 1
  pub answer_refuses : (bytes : List ℕ) (n : ℕ) → file_answer format bytes ≡ Err n → (before : ℕ) × (n ≡ suc before) × IsFirstBad format bytes before
  answer_refuses bytes n h =
      let p = numbered_err (length (lines_of bytes)) n (file_of format bytes) h in
      (length (lines_of bytes) - length p.0, p.2, file_refuses format e bytes p.0 p.1)
