-- A row of rates from six fields, of a record or of a line.
use Rattle.std.proofs.Common.{◌≡◌, ◌==◌, ℕ, Bool, true, false, List, [], ◌∷◌, length, get_or, Option, Some, None, Result, Ok, Err, refl, sym, ap, ◌∙◌, if◌then◌else◌}
use Rattle.csv.specs.Records.{field_at}
use Rattle.spares_input.specs.Frames.{FrameRows}
use Rattle.spares_input.specs.Cases.{IsRateOf}
use Rattle.spares_input.specs.declared.rows.RateRow.{RateRow}
use Rattle.csv_tables.specs.Rest.{Record}
use Rattle.csv_tables.specs.Fields.{field, trimmed}
use Rattle.csv_tables.specs.Rates.{told, line_fields, rate_in, rate_line, rate_of, TakesField}
use Rattle.csv_tables.specs.declared.fault.TableFault.{TableFault}
use Rattle.csv_tables.proofs.RowFacts.{rate_good}

-- six fields, and then more
abbrev pub six : List ℕ → List ℕ → List ℕ → List ℕ → List ℕ → List ℕ → Record → Record
six a b c d e g more = a ∷ b ∷ c ∷ d ∷ e ∷ g ∷ more

-- the field at a place, or none
abbrev pub at : Record → ℕ → List ℕ
at r i = get_or r i []

-- the rates of a record's six fields are those of the record
pub of_record : (f : FrameRows) (row : ℕ) (r : Record) (x : Result RateRow TableFault) (a b c d e g : List ℕ)
    → x ≡ rate_in f row (at (six a b c d e g [])) → a ≡ field r 0 → b ≡ field r 1 → c ≡ field r 2 → d ≡ field r 3 → e ≡ field r 4 → g ≡ field r 5
    → x ≡ rate_of f row r
unfolding rate_in
of_record f row r x a b c d e g h ha hb hc hd he hg = h ∙ (λ t. rate_in f row (at (six (ha t) (hb t) (hc t) (hd t) (he t) (hg t) [])))

-- ---- a line of six fields

same_row : (f : FrameRows) (a b c d e g : List ℕ)
    → rate_in f 0 (at (six (trimmed a) (trimmed b) (trimmed c) (trimmed d) (trimmed e) (trimmed g) [])) ≡ rate_of f 0 (six a b c d e g [])
unfolding field_at
same_row f a b c d e g =
    of_record f 0 (six a b c d e g []) _ (trimmed a) (trimmed b) (trimmed c) (trimmed d) (trimmed e) (trimmed g) refl refl refl refl refl refl refl

-- the rates that are told of a line's six fields, trimmed, are those that the line says
pub line_row : (f : FrameRows) (line a b c d e g : List ℕ) (x : Result RateRow TableFault) → line_fields line ≡ six a b c d e g []
    → x ≡ rate_in f 0 (at (six (trimmed a) (trimmed b) (trimmed c) (trimmed d) (trimmed e) (trimmed g) [])) → told x ≡ rate_line f line
line_row f line a b c d e g x fs h =
    ap told (h ∙ same_row f a b c d e g) ∙ sym (ap (λ r. if length r == 6 then told (rate_of f 0 r) else None) fs)

kept : (f : FrameRows) (b : Bool) (r : Record) (x : RateRow) (y : Result RateRow TableFault) → rate_of f 0 r ≡ y
    → ◌≡◌ {A = Option RateRow} (Some x) (if b then told y else None) → IsRateOf f x
kept f true r x (Ok y) e h = rate_good f 0 r x (e ∙ cc)
kept f true r x (Err y) e h = cc
kept f false r x y e h = cc

-- the rates that a line says are a row of the frame
pub line_good : (f : FrameRows) (line : List ℕ) (x : RateRow) → Some x ≡ rate_line f line → IsRateOf f x
line_good f line x h = kept f (length (line_fields line) == 6) (line_fields line) x (rate_of f 0 (line_fields line)) refl h

-- the fields that are taken one by one
pub taken : (f : FrameRows) (line : List ℕ) (r r1 r2 r3 r4 r5 r6 : Record) (a b c d e g : List ℕ) (x : Result RateRow TableFault)
    → r ≡ line_fields line → TakesField r r1 a → TakesField r1 r2 b → TakesField r2 r3 c → TakesField r3 r4 d → TakesField r4 r5 e → TakesField r5 r6 g → r6 ≡ []
    → x ≡ rate_in f 0 (at (six a b c d e g [])) → told x ≡ rate_line f line
taken f line r r1 r2 r3 r4 r5 r6 a b c d e g x whole ta tb tc td te tg none is =
    line_row f line ta.text tb.text tc.text td.text te.text tg.text x
    (sym whole ∙ ta.first ∙ ap (λ z. ta.text ∷ z) (tb.first ∙ ap (λ z. tb.text ∷ z) (tc.first ∙ ap (λ z. tc.text ∷ z) (td.first ∙ ap (λ z. td.text ∷ z)
    (te.first ∙ ap (λ z. te.text ∷ z) (tg.first ∙ ap (λ z. tg.text ∷ z) none))))))
    (is ∙ (λ t. rate_in f 0 (at (six (ta.trim t) (tb.trim t) (tc.trim t) (td.trim t) (te.trim t) (tg.trim t) []))))
