-- What stands where only a part was appended.
use Rattle.std.proofs.Common.{◌≡◌, ℕ, ◌+◌, ◌-◌, ◌≤◌, List, ◌++◌, length, take, drop, Result, Ok, Err, OnOk, sym, ap, ◌∙◌, append_assoc, arith}
use Rattle.std.proofs.lemmas.Bool.{false≢true}
use Rattle.std.proofs.Math.Seq.{take-append_seam, take-append-add}
use Rattle.std.proofs.lemmas.List.{append-nil, take-append-drop}
use Rattle.std.specs.Result.{IsErr}
use Rattle.answers.specs.declared.stop.NoMemory.{NoMemory}
use Rattle.line_text.specs.Writing.{AppendsPart, Puts}

-- nothing was appended
pub none_put : (old new piece : List ℕ) → new ≡ old → AppendsPart old new piece
none_put old new piece e = record { count = 0; is = e ∙ sym (append-nil old) }

-- what was appended begins the piece
pub begins_it : (old new more rest piece : List ℕ) → new ≡ old ++ more → more ++ rest ≡ piece → AppendsPart old new piece
begins_it old new more rest piece e f = record {
  count = length more;
  is = e ∙ ap (λ (z : List ℕ). old ++ z) (sym (take-append_seam more rest) ∙ ap (λ (z : List ℕ). take (length more) z) f);
}

-- with more it would be the whole
pub would_be : (old new rest piece : List ℕ) → length old ≤ length new → new ++ rest ≡ old ++ piece → AppendsPart old new piece
would_be old new rest piece h e =
    let n = length new - length old in
    let whole : length old + n ≡ length new = omega arith in
    record {
      count = n;
      is = sym (take-append_seam new rest) ∙ ap (λ (z : List ℕ). take (length new) z) e ∙ ap (λ (m : ℕ). take m (old ++ piece)) (sym whole) ∙ take-append-add old piece n;
    }

part_of : (old new more piece : List ℕ) (k : ℕ) → new ≡ old ++ (more ++ take k piece) → AppendsPart old new (more ++ piece)
part_of old new more piece k e = record { count = length more + k; is = e ∙ ap (λ (z : List ℕ). old ++ z) (sym (take-append-add more piece k)) }

-- some of it was appended, and then a part of the rest
pub then_part : (old mid new more piece : List ℕ) → mid ≡ old ++ more → AppendsPart mid new piece → AppendsPart old new (more ++ piece)
then_part old mid new more piece e p =
    part_of old new more piece p.count (p.is ∙ ap (λ (z : List ℕ). z ++ take p.count piece) e ∙ append_assoc old more (take p.count piece))

-- a part of the first piece
pub first_part : (old new piece after : List ℕ) → AppendsPart old new piece → AppendsPart old new (piece ++ after)
first_part old new piece after p =
    let more = take p.count piece in
    let rest = drop p.count piece in
    begins_it old new more (rest ++ after) (piece ++ after) p.is
    (sym (append_assoc more rest after) ∙ ap (λ (z : List ℕ). z ++ after) (take-append-drop p.count piece))

-- a call that ended for want of memory
pub put_part : (result : Result Unit NoMemory) (old new piece : List ℕ) → IsErr result → AppendsPart old new piece → Puts result old new piece
put_part (Ok x) old new piece h p = absurd (false≢true h)
put_part (Err e) old new piece h p = p

-- what a call that answered Ok appended
pub all_put : (result : Result Unit NoMemory) (old new piece : List ℕ) → Puts result old new piece → OnOk result (new ≡ old ++ piece)
all_put (Ok x) old new piece h = h
all_put (Err e) old new piece h = tt
