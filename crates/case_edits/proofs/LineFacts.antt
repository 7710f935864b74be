-- The first line of an edits file, and what stands after it.
use Rattle.std.proofs.Common.{◌≡◌, ℕ, ◌+◌, ◌-◌, ◌<◌, ◌≤◌, Bool, true, false, eqb, nat_lt, cond, List, [], ◌∷◌, ◌++◌, length, map, take, drop, position, Some, None, refl, sym, ap, ap₂, ◌∙◌, arith}
use Rattle.std.specs.List.{AllByRecursion, position_or_len, before_first}
use Rattle.std.specs.Option.{option_map_or}
use Rattle.std.specs.Str.Lines.{strip_carriage_return}
use Rattle.std.proofs.lemmas.Bool.Decides.{nat_tests}
use Rattle.std.proofs.lemmas.List.{drop-drop, length-drop, take_all}
use Rattle.std.proofs.lemmas.List.Elements.{recursion_from_All}
use Rattle.std.proofs.lemmas.List.Sums.{fails_before_first}
use Rattle.line_text.specs.Files.{lines_of}
use Rattle.line_text.specs.Exact.{is_end}
use Rattle.line_text.proofs.Public.{empty_lines, line_found, one_line, never_ended, unended_again}
use Rattle.case_edits.specs.Lines.{body_of, edit_lines}

-- the place of the first line feed, where there is one
found_step : (b : Bool) (j n end : ℕ) → nat_lt j n ≡ b → cond b (Some j) None ≡ Some end → (j ≡ end) × (j < n)
found_step true j n end e h = (cc, grind (arith, nat_tests, e))
found_step false j n end e h = absurd cc

missed_step : (b : Bool) (j n : ℕ) → nat_lt j n ≡ b → cond b (Some j) None ≡ None → n ≤ j
missed_step true j n e h = absurd cc
missed_step false j n e h = grind (arith, nat_tests, e)

pub feed_found : (bytes : List ℕ) (end : ℕ) → position is_end bytes ≡ Some end → (position_or_len is_end bytes ≡ end) × (position_or_len is_end bytes < length bytes)
feed_found bytes end h = found_step (nat_lt (position_or_len is_end bytes) (length bytes)) (position_or_len is_end bytes) (length bytes) end refl h

pub no_feed : (bytes : List ℕ) → position is_end bytes ≡ None → length bytes ≤ position_or_len is_end bytes
no_feed bytes h = missed_step (nat_lt (position_or_len is_end bytes) (length bytes)) (position_or_len is_end bytes) (length bytes) refl h

-- a line that ends with its line feed
ended_body : (text : List ℕ) → body_of (text ++ 10 ∷ []) ≡ strip_carriage_return text
ended_body text = ap (λ o. option_map_or strip_carriage_return o (text ++ 10 ∷ [])) (unended_again text)

-- up to the first line feed is the first line, without a carriage return at its end, and then come the others
pub first_ended : (bytes : List ℕ) (end : ℕ) → position is_end bytes ≡ Some end
    → edit_lines bytes ≡ strip_carriage_return (take end bytes) ∷ edit_lines (drop (end + 1) bytes)
first_ended bytes end h =
    let at = feed_found bytes end h in
    ap (map body_of) (line_found bytes at.1)
    ∙ ap₂ (λ (l : List ℕ) (ls : List (List ℕ)). l ∷ ls)
    (ended_body (before_first is_end bytes) ∙ ap (λ n. strip_carriage_return (take n bytes)) at.0)
    (ap (λ n. edit_lines (drop (n + 1) bytes)) at.0)

-- what stands after the line feed
pub after_feed : (bytes back : List ℕ) (end : ℕ) → back ≡ drop end bytes → take (length back - 1) (drop 1 back) ≡ drop (end + 1) bytes
after_feed bytes back end e =
    take_all (length back - 1) (drop 1 back) (omega (arith, length-drop 1 back)) ∙ ap (λ (xs : List ℕ). drop 1 xs) e ∙ drop-drop 1 end bytes

last_line : (bytes : List ℕ) → 0 < length bytes → AllByRecursion (λ b. eqb b 10 ≡ false) bytes → lines_of bytes ≡ bytes ∷ []
last_line [] some h = absurd (omega (arith, some))
last_line (b ∷ bytes) some h = one_line b bytes h

-- no bytes have no lines
pub no_lines : (bytes : List ℕ) → length bytes ≡ 0 → edit_lines bytes ≡ []
no_lines bytes h = ap (map body_of) (empty_lines bytes h)

-- bytes without a line feed are the last line as they are
pub last_body : (bytes rest : List ℕ) → 0 < length bytes → position is_end bytes ≡ None → length rest ≡ 0 → edit_lines bytes ≡ bytes ∷ edit_lines rest
last_body bytes rest some h none =
    let plain = recursion_from_All (λ b. eqb b 10 ≡ false) bytes (λ k d lt. fails_before_first is_end bytes k d (omega (arith, lt, no_feed bytes h))) in
    ap (map body_of) (last_line bytes some plain)
    ∙ ap₂ (λ (l : List ℕ) (ls : List (List ℕ)). l ∷ ls) (ap (λ o. option_map_or strip_carriage_return o bytes) (never_ended bytes plain)) (sym (no_lines rest none))
