-- Lines of fields, and files of lines.
use Rattle.std.proofs.Common.{◌≡◌, ℕ, ◌<◌, Bool, true, false, cond, eqb, ◌&&◌, List, [], ◌∷◌, ◌++◌, length, Option, Some, None, Result, Ok, Err, refl, sym, ap, subst, ◌∙◌, append_assoc, arith}
use Rattle.std.specs.List.{AllByRecursion, slice_split, join_with_byte, concat}
use Rattle.std.specs.Prelude.{bytes_eq, option_map}
use Rattle.std.proofs.lemmas.Bool.{eqb-true}
use Rattle.std.proofs.lemmas.List.{append-nil}
use Rattle.std.proofs.lemmas.List.Elements.{All-from_recursion}
use Rattle.std.proofs.lemmas.List.Splits.{slice_split_none, slice_split_at, join_with_byte-slice_split}
use Rattle.std.proofs.lemmas.Slice.Eq.{bytes_eq-Decides}
use Rattle.line_text.specs.Formats.{Token, Format, ◌>>-◌, spelled, all_read, read_all, accepted}
use Rattle.line_text.specs.Files.{comma, unended, line, onto_line, lines_of}
use Rattle.line_text.specs.Exact.{IsExactText, IsExact, IsField, IsLine}
use Rattle.line_text.proofs.Laws.{bind_ok}

-- ---- spelled texts

some_is : {A : Type 0} (x y : A) → Some x ≡ Some y → x ≡ y
some_is x y e = cc

spelled_at : {A : Type 0} (print : A → Token) (fits : A → Bool) (t : Token) (b a : A) (x y : Bool) → fits b ≡ x → bytes_eq (print b) t ≡ y → cond (x && y) (Some b) None ≡ Some a → (fits a ≡ true) × (t ≡ print a)
spelled_at print fits t b a true true f q e =
    let same : b ≡ a = some_is b a e in
    (sym (ap fits same) ∙ f, sym ((bytes_eq-Decides (print b) t).0 q) ∙ ap print same)
spelled_at print fits t b a true false f q e = absurd cc
spelled_at print fits t b a false y f q e = absurd cc

spelled_takes : {A : Type 0} (print : A → Token) (meant : Token → A) (fits : A → Bool) (t : Token) (a : A) → (spelled print meant fits).read t ≡ Some a → (fits a ≡ true) × (t ≡ print a)
spelled_takes print meant fits t a e = spelled_at print fits t (meant t) a (fits (meant t)) (bytes_eq (print (meant t)) t) refl refl e

-- a text with one spelling for each value is exact where what it spells is what it means
pub spelled_is_exact : {A : Type 0} (P : Token → Type 0) (print : A → Token) (meant : Token → A) (fits : A → Bool) (good : A)
    → fits good ≡ true → ((a : A) → fits a ≡ true → meant (print a) ≡ a) → ((a : A) → fits a ≡ true → P (print a)) → IsExactText P (spelled print meant fits)
spelled_is_exact P print meant fits good h back plain = record {
  good = good;
  fits = h;
  again = λ a f. rw (back a f, f, (bytes_eq-Decides (print a) (print a)).1 refl) refl;
  takes = λ t a e. spelled_takes print meant fits t a e;
  plain = plain;
}

-- ---- the line feed at the end

-- a text and a line feed after it: what stands before the line feed is that text
pub unended_again : (t : List ℕ) → unended (t ++ 10 ∷ []) ≡ Some t
unended_again [] = refl
unended_again (b ∷ []) = refl
unended_again (b ∷ c ∷ t) = ap (option_map (λ x. b ∷ x)) (unended_again (c ∷ t))

consed : (b : ℕ) (o : Option (List ℕ)) (t : List ℕ) → option_map (λ x. b ∷ x) o ≡ Some t → (u : List ℕ) × (o ≡ Some u) × (b ∷ u ≡ t)
consed b None t h = absurd cc
consed b (Some u) t h = (u, refl, cc)

ended : (b : ℕ) (c : Bool) (t : List ℕ) → eqb b 10 ≡ c → cond c (Some []) None ≡ Some t → b ∷ [] ≡ t ++ 10 ∷ []
ended b true t e h =
    let same : b ≡ 10 = eqb-true b 10 e in
    let none : [] ≡ t = cc in
    rw (same, ← none) refl
ended b false t e h = absurd cc

pub unended_takes : (l t : List ℕ) → unended l ≡ Some t → l ≡ t ++ 10 ∷ []
unended_takes [] t h = absurd cc
unended_takes (b ∷ []) t h = ended b (eqb b 10) t refl h
unended_takes (b ∷ c ∷ rest) t h =
    let p = consed b (unended (c ∷ rest)) t h in
    rw (← p.2) (ap (λ (x : List ℕ). b ∷ x) (unended_takes (c ∷ rest) p.0 p.1))

-- ---- fields

no_comma : (t : Token) → IsField t → AllByRecursion (λ b. eqb b 44 ≡ false) t
no_comma [] h = tt
no_comma (b ∷ t) h = (h.0.0, no_comma t h.1)

no_end : (t : Token) → IsField t → AllByRecursion (λ b. eqb b 10 ≡ false) t
no_end [] h = tt
no_end (b ∷ t) h = (h.0.1, no_end t h.1)

split_again : (t : Token) (ts : List Token) → AllByRecursion IsField (t ∷ ts) → slice_split comma (join_with_byte 44 (t ∷ ts)) ≡ t ∷ ts
split_again t [] h = slice_split_none comma t (All-from_recursion (λ b. comma b ≡ false) t (no_comma t h.0))
split_again t (u ∷ ts) h =
    slice_split_at comma t 44 (join_with_byte 44 (u ∷ ts)) (All-from_recursion (λ b. comma b ≡ false) t (no_comma t h.0)) refl
    ∙ ap (λ (x : List Token). t ∷ x) (split_again u ts h.1)

-- fields joined with commas are split into the same fields
pub split_of : (ts : List Token) → 0 < length ts → AllByRecursion IsField ts → slice_split comma (join_with_byte 44 ts) ≡ ts
split_of [] lt h = absurd (omega (arith, lt))
split_of (t ∷ ts) lt h = split_again t ts h

both_no_end : (xs ys : Token) → AllByRecursion (λ b. eqb b 10 ≡ false) xs → AllByRecursion (λ b. eqb b 10 ≡ false) ys → AllByRecursion (λ b. eqb b 10 ≡ false) (xs ++ ys)
both_no_end [] ys a b = b
both_no_end (x ∷ xs) ys a b = (a.0, both_no_end xs ys a.1 b)

join_no_end : (ts : List Token) → AllByRecursion IsField ts → AllByRecursion (λ b. eqb b 10 ≡ false) (join_with_byte 44 ts)
join_no_end [] h = tt
join_no_end (t ∷ []) h = no_end t h.0
join_no_end (t ∷ u ∷ ts) h = both_no_end t (44 ∷ join_with_byte 44 (u ∷ ts)) (no_end t h.0) (refl, join_no_end (u ∷ ts) h.1)

-- ---- a line

accepted_some : {A E : Type 0} (r : Result A E) (a : A) → accepted r ≡ Some a → r ≡ Ok a
accepted_some (Ok b) a h = let e : b ≡ a = cc in ap (λ (x : _). Ok x) e
accepted_some (Err e) a h = absurd cc

then_some : {A B : Type 0} (o : Option A) (f : A → Option B) (b : B) → (o >>- f) ≡ Some b → (a : A) × (o ≡ Some a) × (f a ≡ Some b)
then_some (Some a) f b h = (a, refl, h)
then_some None f b h = absurd cc

all_ok : {A : Type 0} (x : A × List Token) (a : A) → all_read x ≡ Ok a → (x.0 ≡ a) × (x.1 ≡ [])
all_ok (b, []) a h = (cc, refl)
all_ok (b, t ∷ ts) a h = absurd cc

module _ {A : Type 0} (P : Token → Type 0) (format : Format A) (e : IsExact P format) where
  -- all tokens of a value that fits are read as that value
  pub all_again : (a : A) → format.fits a ≡ true → read_all format (format.print a) ≡ Ok a
  all_again a h =
      let r : format.read (format.print a) ≡ Ok (a, []) = ap format.read (sym (append-nil (format.print a))) ∙ e.again a h [] in
      rw r refl

  -- where all tokens are read as a value, they are those of that value, and it fits
  pub all_takes : (ts : List Token) (a : A) → read_all format ts ≡ Ok a → (format.fits a ≡ true) × (ts ≡ format.print a)
  all_takes ts a h =
      let p = bind_ok (format.read ts) all_read a h in
      let q = all_ok p.0 a p.2 in
      let t = e.takes ts p.0.0 p.0.1 p.1 in
      subst (λ (y : A). (format.fits y ≡ true) × (ts ≡ format.print y)) q.0
      (t.0, t.1 ∙ ap (λ (z : List Token). format.print p.0.0 ++ z) q.1 ∙ append-nil (format.print p.0.0))

-- a line is exact where the format of its fields is exact and writes at least one
pub line_is_exact : {A : Type 0} (fields : Format A) → IsExact IsField fields → ((a : A) → 0 < length (fields.print a)) → IsExactText IsLine (line fields)
line_is_exact fields e some = record {
  good = e.good;
  fits = e.fits;
  again = λ a h.
      rw (unended_again (join_with_byte 44 (fields.print a)), split_of (fields.print a) (some a) (e.plain a h), all_again IsField fields e a h) refl;
  takes = λ l a h.
      let p = then_some (unended l) (λ t. accepted (read_all fields (slice_split comma t))) a h in
      let q = accepted_some (read_all fields (slice_split comma p.0)) a p.2 in
      let t = all_takes IsField fields e (slice_split comma p.0) a q in
      (t.0, unended_takes l p.0 p.1 ∙ ap (λ (z : Token). z ++ 10 ∷ []) (sym (join_with_byte-slice_split 44 p.0) ∙ ap (join_with_byte 44) t.1));
  plain = λ a h. record { body = join_with_byte 44 (fields.print a); parts = refl; inside = join_no_end (fields.print a) (e.plain a h) };
}

-- ---- lines of bytes

concat_onto : (b : ℕ) (ls : List Token) → concat (onto_line b ls) ≡ b ∷ concat ls
concat_onto b [] = refl
concat_onto b (l ∷ ls) = refl

-- one more byte in front is an empty line where it is a line feed, and else belongs to the first line
pub lines_cons : (b : ℕ) (bs : List ℕ) (c : Bool) → eqb b 10 ≡ c → lines_of (b ∷ bs) ≡ cond c ((10 ∷ []) ∷ lines_of bs) (onto_line b (lines_of bs))
unfolding lines_of
lines_cons b bs c h = rw h refl

concat_lines_cons : (b : ℕ) (bs : List ℕ) (c : Bool) → eqb b 10 ≡ c → concat (lines_of bs) ≡ bs → concat (lines_of (b ∷ bs)) ≡ b ∷ bs
concat_lines_cons b bs true h e =
    let same : b ≡ 10 = eqb-true b 10 h in
    ap concat (lines_cons b bs true h) ∙ ap (λ (x : List ℕ). 10 ∷ x) e ∙ ap (λ (x : ℕ). x ∷ bs) (sym same)
concat_lines_cons b bs false h e =
    ap concat (lines_cons b bs false h) ∙ concat_onto b (lines_of bs) ∙ ap (λ (x : List ℕ). b ∷ x) e

-- the lines of some bytes, one after the other, are these bytes
pub concat_lines : (bs : List ℕ) → concat (lines_of bs) ≡ bs
unfolding lines_of
concat_lines [] = refl
concat_lines (b ∷ bs) = concat_lines_cons b bs (eqb b 10) refl (concat_lines bs)

-- a line, and then the others
pub lines_at : (body rest : List ℕ) → AllByRecursion (λ b. eqb b 10 ≡ false) body → lines_of (body ++ 10 ∷ rest) ≡ (body ++ 10 ∷ []) ∷ lines_of rest
lines_at [] rest h = lines_cons 10 rest true refl
lines_at (b ∷ body) rest h = lines_cons b (body ++ 10 ∷ rest) false h.0 ∙ ap (onto_line b) (lines_at body rest h.1)

nil_lines : lines_of [] ≡ []
unfolding lines_of
nil_lines = refl

-- lines written one after the other are split into the same lines
pub lines_again : (ls : List Token) → AllByRecursion IsLine ls → lines_of (concat ls) ≡ ls
lines_again [] h = nil_lines
lines_again (l ∷ ls) h =
    let body = h.0.body in
    let whole : l ++ concat ls ≡ body ++ 10 ∷ concat ls = ap (λ (x : Token). x ++ concat ls) h.0.parts ∙ append_assoc body (10 ∷ []) (concat ls) in
    ap lines_of whole ∙ lines_at body (concat ls) h.0.inside
    ∙ ap (λ (x : Token). x ∷ lines_of (concat ls)) (sym h.0.parts)
    ∙ ap (λ (x : List Token). l ∷ x) (lines_again ls h.1)
