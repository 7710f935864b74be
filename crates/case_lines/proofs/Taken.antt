-- What reading finds where one format follows another.
use Rattle.std.proofs.Common.{◌≡◌, ℕ, Bool, true, false, List, None, Ok, Err, Result, refl}
use Rattle.answers.specs.Steps.{◌>>=◌}
use Rattle.answers.specs.declared.stop.Stop.{Stop}
use Rattle.answers.specs.declared.stop.Stop.TheVariants as stop
use Rattle.line_text.specs.declared.bad_line.BadLine.{BadLine}
use Rattle.line_text.specs.Formats.{Format, Token, accepted, and_then}
use Rattle.line_text.specs.Reading.{Gathers}
use Rattle.spares_input.specs.declared.rows.PartRow.{PartRow}
use Rattle.case_lines.specs.Grammar.{count_in, header, part_lines, weights_in}

-- after a refusal nothing is read
pub refused : {A B : Type 0} (r : Result (A × List Token) (List Token)) (f : A × List Token → Result (B × List Token) (List Token)) → accepted r ≡ None → accepted (r >>= f) ≡ None
refused (Ok x) f h = absurd cc
refused (Err e) f h = refl

-- the first of two is refused
pub first_refused : {A B : Type 0} (first : Format A) (next : A → Format B) (ts : List Token) → accepted (first.read ts) ≡ None → accepted ((and_then first next).read ts) ≡ None
first_refused first next ts h = refused (first.read ts) (λ a. (next a.0).read a.1 >>= λ b. Ok ((a.0, b.0), b.1)) h

-- the first is read, and the other refused
pub next_refused : {A B : Type 0} (first : Format A) (next : A → Format B) (ts mid : List Token) (a : A) → first.read ts ≡ Ok (a, mid) → accepted ((next a).read mid) ≡ None → accepted ((and_then first next).read ts) ≡ None
next_refused first next ts mid a h k = rw h (refused ((next a).read mid) (λ b. Ok ((a, b.0), b.1)) k)

-- a first line and then what follows it, of which only the latter is kept
pub gathers_next : {A X Y : Type 0} (view : X → Y) (r : Result X (Stop BadLine)) (first : Format A) (next : A → Format Y) (ts mid left : List Token) (a : A)
    → first.read ts ≡ Ok (a, mid) → Gathers view r left ((next a).read mid) → Gathers view r left ((and_then first next).read ts >>= λ x. Ok (x.0.1, x.1))
gathers_next view (Ok x) first next ts mid left a h k = rw (h, k) refl
gathers_next view (Err (stop.Fault bad)) first next ts mid left a h k = rw (h, k) refl
gathers_next view (Err stop.NoMemory) first next ts mid left a h k = tt

-- the parts by their number and whether weights are written, and the same by their first line
pub by_header : {X : Type 0} (view : X → List PartRow) (r : Result X (Stop BadLine)) (mid left : List Token) (weighted : Bool) (n : ℕ) → Gathers view r left ((part_lines weighted n).read mid)
    → Gathers view r left ((part_lines (weights_in (header weighted n)) (count_in (header weighted n))).read mid)
by_header view r mid left true n h = h
by_header view r mid left false n h = h
