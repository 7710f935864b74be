-- One step of a loop that reads a value for each of so many places.
use Rattle.std.proofs.Common.{◌≡◌, ℕ, ◌+◌, ◌-◌, ◌<◌, ◌≤◌, Bool, true, false, List, [], ◌∷◌, ◌++◌, Option, Some, None, Result, Ok, Err, refl, ap, ◌∙◌}
use Rattle.line_text.specs.Formats.{Token, Text, Format, one, read_after, taken}
use Rattle.line_text.specs.Texts.{numbers_from, kept_by, only}
use Rattle.line_text.specs.Reading.{Gathers}
use Rattle.line_text.specs.declared.bad_line.BadLine.{BadLine}
use Rattle.line_text.proofs.Loops.{with_front, goes_on, ends_as, is_done, numbers_more, numbers_done}
use Rattle.line_text.proofs.Laws.{ok, bad, ok_is}
use Rattle.answers.specs.declared.stop.Stop.{Stop}

-- what is still read, after the values so far, where there are n in all
abbrev pub read_from : {A : Type 0} → (List A → ℕ → Format A) → List A → ℕ → ℕ → List Token → Result (List A × List Token) (List Token)
read_from format found n k ts = with_front found (read_after format found (numbers_from k (n - k)) ts)

-- with the value at place k read, the loop has one value more and the same total
pub step : {A : Type 0} (format : List A → ℕ → Format A) (found : List A) (n k : ℕ) (ts rest : List Token) (x : A) (total : Result (List A × List Token) (List Token))
    → k < n → (format found k).read ts ≡ Ok (x, rest) → read_from format found n k ts ≡ total → read_from format (found ++ x ∷ []) n (k + 1) rest ≡ total
step format found n k ts rest x total lt h so_far =
    goes_on format found k (numbers_from (k + 1) (n - (k + 1))) (numbers_from k (n - k)) ts rest x total (numbers_more n k lt) h so_far

-- where the token at place k is bad, the total is a refusal from there on
pub stops : {A V : Type 0} (view : V → List A) (e : Stop BadLine) (format : List A → ℕ → Format A) (found : List A) (n k : ℕ) (ts left : List Token) (total : Result (List A × List Token) (List Token))
    → k < n → Gathers {X = A} (λ x. x) (Err e) left ((format found k).read ts) → read_from format found n k ts ≡ total → Gathers {X = V} view (Err e) left total
stops view e format found n k ts left total lt h so_far =
    ends_as view e format found k (numbers_from (k + 1) (n - (k + 1))) (numbers_from k (n - k)) ts left total (numbers_more n k lt) h so_far

-- with no place left, the total is the values so far and the tokens after them
pub done : {A : Type 0} (format : List A → ℕ → Format A) (found : List A) (n k : ℕ) (ts : List Token) (total : Result (List A × List Token) (List Token))
    → n ≤ k → read_from format found n k ts ≡ total → total ≡ Ok (found, ts)
done format found n k ts total h so_far = is_done format found (numbers_from k (n - k)) ts total (numbers_done n k h) so_far

-- ---- a text that is kept by a test

only_at : {A : Type 0} (test : A → Bool) (t : Token) (ts : List Token) (o : Option A) (a : A) (rest : List Token) → taken t ts o ≡ ok (a, rest) → test a ≡ true → taken t ts (kept_by test o) ≡ ok (a, rest)
only_at test t ts None a rest h g = absurd cc
only_at test t ts (Some b) a rest h g = let e : b ≡ a = ap (λ (x : _ × List Token). x.0) (ok_is (b, ts) (a, rest) h) in rw (ap test e ∙ g) h

falls_at : {A : Type 0} (test : A → Bool) (t : Token) (ts : List Token) (o : Option A) (a : A) (rest : List Token) → taken t ts o ≡ ok (a, rest) → test a ≡ false → taken t ts (kept_by test o) ≡ bad (t ∷ ts)
falls_at test t ts None a rest h g = absurd cc
falls_at test t ts (Some b) a rest h g = let e : b ≡ a = ap (λ (x : _ × List Token). x.0) (ok_is (b, ts) (a, rest) h) in rw (ap test e ∙ g) refl

-- a token whose value passes the test is read as without the test
pub only_stands : {A : Type 0} (text : Text A) (test : A → Bool) (ts : List Token) (a : A) (rest : List Token) → (one text).read ts ≡ Ok (a, rest) → test a ≡ true → (one (only test text)).read ts ≡ Ok (a, rest)
only_stands text test [] a rest h g = absurd cc
only_stands text test (t ∷ ts) a rest h g = only_at test t ts (text.read t) a rest h g

-- a token whose value fails the test is the first bad one
pub only_falls : {A : Type 0} (text : Text A) (test : A → Bool) (ts : List Token) (a : A) (rest : List Token) → (one text).read ts ≡ Ok (a, rest) → test a ≡ false → (one (only test text)).read ts ≡ Err ts
only_falls text test [] a rest h g = absurd cc
only_falls text test (t ∷ ts) a rest h g = falls_at test t ts (text.read t) a rest h g
