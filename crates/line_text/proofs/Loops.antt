-- Reading values one after the other, as a loop does.
use Rattle.std.proofs.Common.{◌≡◌, ℕ, suc, ◌-◌, ◌+◌, ◌≤◌, ◌<◌, List, [], ◌∷◌, ◌++◌, length, take, drop, get_or, Result, Ok, Err, refl, sym, ap, ◌∙◌, append_assoc, arith}
use Rattle.std.proofs.lemmas.Grind.{take_at_read}
use Rattle.std.proofs.lemmas.List.{append-nil}
use Rattle.std.specs.List.{concat}
use Rattle.std.proofs.lemmas.List.Folds.{concat-append}
use Rattle.list_laws.proofs.Public.{rest_begins}
use Rattle.answers.specs.Steps.{◌>>=◌}
use Rattle.line_text.specs.Formats.{Token, Text, Format, one, each_after, read_after, print_after}
use Rattle.line_text.specs.Texts.{numbers_from}
use Rattle.line_text.specs.Reading.{Gathers}
use Rattle.line_text.specs.declared.bad_line.BadLine.{BadLine}
use Rattle.answers.specs.declared.stop.Stop.{Stop}
use Rattle.answers.specs.declared.stop.Stop.TheVariants as stop

-- what was read before, and what is still read
abbrev pub with_front : {A : Type 0} → List A → Result (List A × List Token) (List Token) → Result (List A × List Token) (List Token)
with_front front read = read >>= λ x. Ok (front ++ x.0, x.1)

abbrev on_top : {A : Type 0} → A → Result (List A × List Token) (List Token) → Result (List A × List Token) (List Token)
on_top x read = read >>= λ xs. Ok (x ∷ xs.0, xs.1)

regroup : {A : Type 0} (front : List A) (x : A) (read : Result (List A × List Token) (List Token)) → with_front front (on_top x read) ≡ with_front (front ++ x ∷ []) read
regroup front x (Ok y) = ap (λ (ns : List _). Ok (ns, y.1)) (sym (append_assoc front (x ∷ []) y.0))
regroup front x (Err f) = refl

-- with one more value read, what was read before and what is still read come to the same total
pub goes_on : {K A : Type 0} (format : List A → K → Format A) (before : List A) (k : K) (ks keys : List K) (ts rest : List Token) (x : A) (total : Result (List A × List Token) (List Token))
    → keys ≡ k ∷ ks → (format before k).read ts ≡ Ok (x, rest) → with_front before (read_after format before keys ts) ≡ total → with_front (before ++ x ∷ []) (read_after format (before ++ x ∷ []) ks rest) ≡ total
goes_on format before k ks keys ts rest x total e h so_far =
    let one : with_front before (read_after format before keys ts) ≡ with_front (before ++ x ∷ []) (read_after format (before ++ x ∷ []) ks rest) = rw (e, h) (regroup before x (read_after format (before ++ x ∷ []) ks rest)) in
    sym one ∙ so_far

pub ends : {K A : Type 0} (format : List A → K → Format A) (before : List A) (k : K) (ks keys : List K) (ts left : List Token) (total : Result (List A × List Token) (List Token))
    → keys ≡ k ∷ ks → (format before k).read ts ≡ Err left → with_front before (read_after format before keys ts) ≡ total → total ≡ Err left
ends format before k ks keys ts left total e h so_far = sym so_far ∙ rw (e, h) refl

-- where no key is left, the values so far are the total
pub is_done : {K A : Type 0} (format : List A → K → Format A) (before : List A) (keys : List K) (ts : List Token) (total : Result (List A × List Token) (List Token))
    → keys ≡ [] → with_front before (read_after format before keys ts) ≡ total → total ≡ Ok (before, ts)
is_done format before keys ts total e so_far = sym so_far ∙ rw e (ap (λ (xs : List _). Ok (xs, ts)) (append-nil before))

-- the same as a step of the loop tells it
pub ends_as : {K A V : Type 0} (view : V → List A) (e : Stop BadLine) (format : List A → K → Format A) (before : List A) (k : K) (ks keys : List K) (ts left : List Token) (total : Result (List A × List Token) (List Token))
    → keys ≡ k ∷ ks → Gathers {X = A} (λ x. x) (Err e) left ((format before k).read ts) → with_front before (read_after format before keys ts) ≡ total → Gathers {X = V} view (Err e) left total
ends_as view stop.NoMemory format before k ks keys ts left total e h so_far = tt
ends_as view (stop.Fault bad) format before k ks keys ts left total e h so_far = ends format before k ks keys ts left total e h so_far

-- while i is below n, the numbers from i to n begin with i
pub numbers_more : (n i : ℕ) → i < n → numbers_from i (n - i) ≡ i ∷ numbers_from (i + 1) (n - (i + 1))
numbers_more n i h =
    let e : n - i ≡ suc (n - (i + 1)) = omega arith in
    let p : suc i ≡ i + 1 = omega arith in
    ap (numbers_from i) e ∙ ap (λ (k : ℕ). i ∷ numbers_from k (n - (i + 1))) p

-- from n on no numbers up to n are left
pub numbers_done : (n i : ℕ) → n ≤ i → numbers_from i (n - i) ≡ []
numbers_done n i h = let e : n - i ≡ 0 = omega arith in ap (numbers_from i) e

-- ---- writing

-- a format of one token writes the text of that token
pub one_text : {A : Type 0} (text : Text A) (a : A) → concat ((one text).print a) ≡ text.print a
one_text text a = append-nil (text.print a)

pub print_on : {K A : Type 0} (format : List A → K → Format A) (before : List A) (out new total : List ℕ) (k : K) (ks keys : List K) (x : A) (rest xs : List A)
    → keys ≡ k ∷ ks → xs ≡ x ∷ rest → new ≡ out ++ concat ((format before k).print x) → out ++ concat (print_after format before keys xs) ≡ total → new ++ concat (print_after format (before ++ x ∷ []) ks rest) ≡ total
print_on format before out new total k ks keys x rest xs e f n so_far =
    let one : out ++ concat (print_after format before keys xs) ≡ new ++ concat (print_after format (before ++ x ∷ []) ks rest) =
    rw (e, f, n) (ap (λ (z : List ℕ). out ++ z) (concat-append ((format before k).print x) (print_after format (before ++ x ∷ []) ks rest)) ∙ sym (append_assoc out (concat ((format before k).print x)) (concat (print_after format (before ++ x ∷ []) ks rest)))) in
    sym one ∙ so_far

pub print_done : {K A : Type 0} (format : List A → K → Format A) (before : List A) (out total : List ℕ) (keys : List K) (xs : List A) → keys ≡ [] → out ++ concat (print_after format before keys xs) ≡ total → out ≡ total
print_done format before out total keys xs e so_far = sym (append-nil out) ∙ ap (λ (ks : List _). out ++ concat (print_after format before ks xs)) (sym e) ∙ so_far

-- ---- writing a value for each of so many places

-- what is still written after the first k values, where there are n
abbrev pub text_from : {A : Type 0} → (List A → ℕ → Format A) → List A → ℕ → ℕ → List ℕ
text_from format xs n k = concat (print_after format (take k xs) (numbers_from k (n - k)) (drop k xs))

-- the value at k was written
pub print_step : {A : Type 0} (format : List A → ℕ → Format A) (xs : List A) (d : A) (n k : ℕ) (out new total : List ℕ) → k < n → k < length xs
    → new ≡ out ++ concat ((format (take k xs) k).print (get_or xs k d)) → out ++ text_from format xs n k ≡ total → new ++ text_from format xs n (k + 1) ≡ total
print_step format xs d n k out new total h l e so_far =
    let rest = numbers_from (k + 1) (n - (k + 1)) in
    rw (take_at_read xs k d l).1
    (print_on format (take k xs) out new total k rest (numbers_from k (n - k)) (get_or xs k d) (drop (k + 1) xs) (drop k xs) (numbers_more n k h) (rest_begins xs k d l) e so_far)

text_from_start : {A : Type 0} (format : List A → ℕ → Format A) (xs : List A) (n : ℕ) → text_from format xs n 0 ≡ concat ((each_after [] (numbers_from 0 n) format).print xs)
text_from_start format xs n = let e : n - 0 ≡ n = omega arith in ap (λ (m : ℕ). concat (print_after format [] (numbers_from 0 m) xs)) e

-- all values were written
pub print_end : {A : Type 0} (format : List A → ℕ → Format A) (xs : List A) (n k : ℕ) (out start : List ℕ) → n ≤ k → out ++ text_from format xs n k ≡ start ++ text_from format xs n 0
    → out ≡ start ++ concat ((each_after [] (numbers_from 0 n) format).print xs)
print_end format xs n k out start h so_far =
    print_done format (take k xs) out (start ++ text_from format xs n 0) (numbers_from k (n - k)) (drop k xs) (numbers_done n k h) so_far
    ∙ ap (λ (z : List ℕ). start ++ z) (text_from_start format xs n)
