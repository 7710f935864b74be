-- The rows of a table, record by record.
use Rattle.std.proofs.Common.{◌≡◌, ℕ, ◌+◌, ◌<◌, ◌≤◌, Bool, true, false, List, [], ◌∷◌, ◌++◌, length, Some, None, Result, Ok, Err, refl, sym, subst, ap, ◌∙◌, arith, append_assoc, nat_le, if◌then◌else◌, ◌&&◌, IfOk, Vec, Global}
use Rattle.answers.specs.Answers.{Gives}
use Rattle.answers.specs.declared.stop.Stop.{Stop}
use Rattle.std.specs.List.{All}
use Rattle.std.proofs.lemmas.List.{append-nil}
use Rattle.std.proofs.lemmas.List.Elements.{All-nil, All-cons}
use Rattle.std.proofs.lemmas.Bool.{false≢true, le-leb, lt-leb, leb-false, and_from}
use Rattle.spares_input.specs.First.{first}
use Rattle.csv_tables.specs.Rest.{Record, TakesFirst}
use Rattle.answers.specs.Steps.{◌>>=◌}
use Rattle.csv_tables.specs.Fields.{counted}
use Rattle.csv_tables.specs.Tables.{column_fault, header_in, row_with, rows_from, rows_of, table_of}
use Rattle.csv_tables.specs.declared.fault.TableFault.{TableFault}
use Rattle.csv_tables.specs.declared.fault.TableFault.TheVariants as fault

-- what a read that found a record took
pub taken : (rs : List Record) (found : Bool) (fields : Record) (rest : List Record) → TakesFirst rs found fields rest → found ≡ true → rs ≡ fields ∷ rest
taken [] found fields rest t h = absurd (false≢true (sym t ∙ h))
taken (r ∷ rs) found fields rest t h = rw (t.1, t.2) refl

-- where a read finds no record there was none left
pub ended : (rs : List Record) (found : Bool) (fields : Record) (rest : List Record) → TakesFirst rs found fields rest → found ≡ false → rs ≡ []
ended [] found fields rest t h = refl
ended (r ∷ rs) found fields rest t h = absurd (false≢true (sym h ∙ t.0))

-- rows that were read before the others
abbrev pub prepend : {A : Type 0} → List A → Result (List A) TableFault → Result (List A) TableFault
prepend front (Ok xs) = Ok (front ++ xs)
prepend front (Err e) = Err e

prepend_more : {A : Type 0} (front : List A) (x : A) (t : Result (List A) TableFault)
    → prepend (front ++ x ∷ []) t ≡ prepend front (t >>= λ xs. Ok (x ∷ xs))
prepend_more front x (Ok xs) = rw (append_assoc front (x ∷ []) xs) refl
prepend_more front x (Err e) = refl

module _ {A : Type 0} (row_of : ℕ → Record → Result A TableFault) (limit columns row : ℕ) (front : List A) (should : Result (List A) TableFault) where
  -- where no record is left, the answer is the rows so far
  pub rows_none : (rs : List Record) → rs ≡ [] → prepend front (rows_from row_of limit columns row rs) ≡ should → should ≡ Ok front
  unfolding rows_from
  rows_none rs e h = sym h ∙ rw (e, append-nil front) refl

  -- where the next record has a fault, the answer is this fault
  pub rows_fault : (rs rest : List Record) (r : Record) (f : TableFault) → rs ≡ r ∷ rest → row < limit + 2 → row_with row_of row columns r ≡ Err f
      → prepend front (rows_from row_of limit columns row rs) ≡ should → should ≡ Err f
  unfolding rows_from
  rows_fault rs rest r f e lt bad h =
      let t : nat_le (limit + 2) row ≡ false = lt-leb (limit + 2) row lt in
      sym h ∙ rw (e, t, bad) refl

  -- where a record is left past the limit, the answer is that there are too many rows
  pub rows_many : (rs rest : List Record) (r : Record) → rs ≡ r ∷ rest → limit + 2 ≤ row
      → prepend front (rows_from row_of limit columns row rs) ≡ should → should ≡ Err fault.TooManyRows
  unfolding rows_from
  rows_many rs rest r e le h =
      let t : nat_le (limit + 2) row ≡ true = le-leb (limit + 2) row le in
      sym h ∙ rw (e, t) refl

  -- where the next record gives a row, the answer stays the same with this row put to those so far
  pub rows_row : (rs rest : List Record) (r : Record) (x : A) → rs ≡ r ∷ rest → row < limit + 2 → row_with row_of row columns r ≡ Ok x
      → prepend front (rows_from row_of limit columns row rs) ≡ should
      → prepend (front ++ x ∷ []) (rows_from row_of limit columns (row + 1) rest) ≡ should
  unfolding rows_from
  rows_row rs rest r x e lt good h =
      let t : nat_le (limit + 2) row ≡ false = lt-leb (limit + 2) row lt in
      prepend_more front x (rows_from row_of limit columns (row + 1) rest) ∙ (sym (rw (e, t, good) refl) ∙ h)

module _ {A : Type 0} (row_of : ℕ → Record → Result A TableFault) (limit least : ℕ) (header : List (List ℕ)) (rs rest : List Record) (h : Record) where
  -- the answer of a table after its header
  after_header : (columns : Result ℕ TableFault) → rs ≡ h ∷ rest → columns ≡ header_in least header h
      → table_of row_of limit least header rs ≡ (columns >>= λ n. rows_from row_of limit n 2 rest)
  after_header columns e head =
      ap (table_of row_of limit least header) e ∙ ap (λ (n : Result ℕ TableFault). n >>= λ m. rows_from row_of limit m 2 rest) (sym head)

  -- the rows after the header are the table's
  pub rows_after : (columns : ℕ) (answer : Result (List A) (Stop TableFault)) → rs ≡ h ∷ rest → Ok columns ≡ header_in least header h
      → Gives (rows_from row_of limit columns 2 rest) answer → Gives (table_of row_of limit least header rs) answer
  rows_after columns answer e head given =
      let P : Result (List A) TableFault → Type 0 = λ t. Gives t answer in
      subst P (sym (after_header (Ok columns) e head)) given

  -- the fault of the header is the table's
  pub header_refused : (f : TableFault) → rs ≡ h ∷ rest → Err f ≡ header_in least header h → table_of row_of limit least header rs ≡ Err f
  header_refused f e head = after_header (Err f) e head

-- the header of a record with as many fields as there may be
fits : (least n most : ℕ) → least ≤ n → n ≤ most → (nat_le least n && nat_le n most) ≡ true
fits least n most h k = and_from (nat_le least n) (nat_le n most) (le-leb least n h) (le-leb n most k)

-- the first column that isn't as it should be is the header's fault
pub header_fault : (least : ℕ) (header : List (List ℕ)) (r : Record) (n m : ℕ) (f : TableFault) → length header ≡ m → n ≡ length r → least ≤ n → n ≤ m
    → first (column_fault header r) n ≡ Some f → ◌≡◌ {A = Result ℕ TableFault} (Err f) (header_in least header r)
header_fault least header r n m f len enough h k found = rw (len, ← enough, fits least n m h k, found) refl

-- a header all of whose columns are as they should be has this number of columns
pub header_whole : (least : ℕ) (header : List (List ℕ)) (r : Record) (n m k : ℕ) → length header ≡ m → n ≡ length r → least ≤ n → n ≤ m
    → first (column_fault header r) k ≡ None → k ≡ n → ◌≡◌ {A = Result ℕ TableFault} (Ok n) (header_in least header r)
header_whole least header r n m k len enough h le none done = rw (len, ← enough, fits least n m h le, ← done, none) refl

-- what comes of two steps
pub bind_ok : {A B : Type 0} (a : Result A TableFault) (f : A → Result B TableFault) (y : B) → (a >>= f) ≡ Ok y → (x : A) × (a ≡ Ok x) × (f x ≡ Ok y)
bind_ok (Ok x) f y h = (x, refl, h)
bind_ok (Err e) f y h = cc

counted_then : {A : Type 0} (row columns : ℕ) (r : Record) (t : Result A TableFault) (x : A) → (counted row columns r >>= λ _. t) ≡ Ok x → t ≡ Ok x
counted_then row columns r t x h = (bind_ok (counted row columns r) (λ _. t) x h).2

chosen : {A : Type 0} (b : Bool) (e : TableFault) (t : Result A TableFault) (x : A) → (if b then Err e else t) ≡ Ok x → (b ≡ false) × (t ≡ Ok x)
chosen true e t x h = cc
chosen false e t x h = (refl, h)

-- two answers are the same only where their values are
pub same_ok : {A : Type 0} (x y : A) → ◌≡◌ {A = Result A TableFault} (Ok x) (Ok y) → x ≡ y
same_ok x y h = cc

module _ {A : Type 0} (P : A → Type 0) (row_of : ℕ → Record → Result A TableFault) (each : (row : ℕ) (r : Record) (x : A) → row_of row r ≡ Ok x → P x) (limit columns : ℕ) where
  -- all rows are as the row's rule says, and no more than there may be
  rows_good : (row : ℕ) (rs : List Record) (xs : List A) → row ≤ limit + 2 → rows_from row_of limit columns row rs ≡ Ok xs → All P xs × (length xs + row ≤ limit + 2)
  unfolding rows_from
  rows_good row [] xs few h = rw (← same_ok [] xs h) (All-nil P, omega (arith, few))
  rows_good row (r ∷ rs) xs few h =
      let c = chosen (nat_le (limit + 2) row) fault.TooManyRows _ xs h in
      let a = bind_ok (row_with row_of row columns r) _ xs c.1 in
      let b = bind_ok (rows_from row_of limit columns (row + 1) rs) _ xs a.2 in
      let good = each row r a.0 (counted_then row columns r (row_of row r) a.0 a.1) in
      let below : row < limit + 2 = leb-false (limit + 2) row c.0 in
      let rest = rows_good (row + 1) rs b.0 (omega (arith, below)) b.1 in
      rw (← same_ok (a.0 ∷ b.0) xs b.2) (All-cons P a.0 b.0 good rest.0, omega (arith, rest.1))

pub table_good : {A : Type 0} (P : A → Type 0) (row_of : ℕ → Record → Result A TableFault) (limit least : ℕ) (header : List (List ℕ)) (rs : List Record) (xs : List A)
    → ((row : ℕ) (r : Record) (x : A) → row_of row r ≡ Ok x → P x) → table_of row_of limit least header rs ≡ Ok xs → All P xs × (length xs ≤ limit)
table_good P row_of limit least header [] xs each h = cc
table_good P row_of limit least header (r ∷ rs) xs each h =
    let a = bind_ok (header_in least header r) (λ columns. rows_from row_of limit columns 2 rs) xs h in
    let good = rows_good P row_of each limit a.0 2 rs xs (omega arith) a.2 in
    (good.0, omega (arith, good.1))

module _ {A : Type 0} (P : A → Type 0) (row_of : ℕ → Record → Result A TableFault) (each : (row : ℕ) (r : Record) (x : A) → row_of row r ≡ Ok x → P x)
    (limit least : ℕ) (header : List (List ℕ)) (rs : List Record) where
  -- what is known of the rows of an answer
  pub answer_fields : (r : Result (Vec A Global) (Stop TableFault)) → Gives (table_of row_of limit least header rs) (rows_of r) → IfOk r (λ v. All P v.items)
  answer_fields (Ok v) h = (table_good P row_of limit least header rs v.items each h).0
  answer_fields (Err e) h = tt

  -- a table's answer has at most as many rows as its limit
  pub answer_few : (r : Result (Vec A Global) (Stop TableFault)) → Gives (table_of row_of limit least header rs) (rows_of r) → IfOk r (λ v. length v.items ≤ limit)
  answer_few (Ok v) h = (table_good P row_of limit least header rs v.items each h).1
  answer_few (Err e) h = tt
