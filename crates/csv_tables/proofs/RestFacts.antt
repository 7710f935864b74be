-- How the records that are left go on.
use Rattle.std.proofs.Common.{◌≡◌, ◌==◌, ℕ, zero, suc, ◌+◌, ◌<◌, ◌≤◌, Bool, true, false, List, [], ◌∷◌, length, Option, Some, None, refl, sym, ap, ◌∙◌, arith, add-one, ◌⊎◌, inl, inr, ◌++◌, subst, length-append, if◌then◌else◌, Bor}
use Rattle.csv.specs.Machine.{ends_at_end, ends_with, fields_after, field_after, in_field, is_end, next_record, Read, start_field, start_record, step}
use Rattle.csv.specs.Reading.{default_config, NextIs, pending_of, ReadRecord, ReadsNext, records_from, records_next, source_of, strip_bom, is_bom, reader_state}
use Rattle.csv.specs.declared.parser.State.{State}
use Rattle.csv.specs.declared.parser.State.TheVariants as st
use Rattle.csv.specs.declared.parser.Action.{Action}
use Rattle.csv.specs.declared.parser.Action.TheVariants as act
use Rattle.csv.specs.declared.parser.Terminator.TheVariants as term
use Rattle.csv.specs.declared.reader.Reader.{Reader}
use Rattle.csv_tables.specs.Rest.{is_between, IsTable, records_left, rest_of, slice_left, TakesFirst, Record}
use Rattle.std.proofs.lemmas.Bool.{false≢true}

-- a step that ends a record stops between records
StopsBetween : State × Action → Type 0
StopsBetween x = is_end x.1 ≡ true → is_between x.0 ≡ true

pick : (b : Bool) (x y : State × Action) → StopsBetween x → StopsBetween y → StopsBetween (if b then x else y)
pick true x y h k = h
pick false x y h k = k

after_end_between : (b : Bool) → is_between (if b then st.AfterCr else st.StartRecord) ≡ true
after_end_between true = refl
after_end_between false = refl

in_field_between : (c : ℕ) → StopsBetween (in_field default_config c)
unfolding StopsBetween
in_field_between c =
    pick (c == 44) _ _ (λ h. absurd (false≢true h))
    (pick (ends_with term.CRLF c) _ _ (λ h. after_end_between (c == 13)) (λ h. absurd (false≢true h)))

start_field_between : (c : ℕ) → StopsBetween (start_field default_config c)
unfolding StopsBetween
start_field_between c = pick (c == 34) _ _ (λ h. absurd (false≢true h)) (in_field_between c)

start_record_between : (c : ℕ) → StopsBetween (start_record default_config c)
unfolding StopsBetween
start_record_between c = pick (ends_with term.CRLF c) _ _ (λ h. absurd (false≢true h)) (start_field_between c)

step_between : (s : State) (c : ℕ) → StopsBetween (step default_config s c)
unfolding StopsBetween
step_between st.StartRecord c = start_record_between c
step_between st.StartField c = start_field_between c
step_between st.InField c = in_field_between c
step_between st.InQuoted c = pick (c == 34) _ _ (λ h. absurd (false≢true h)) (λ h. absurd (false≢true h))
step_between st.InEscape c = λ h. absurd (false≢true h)
step_between st.AfterQuote c = pick (c == 34) _ _ (λ h. absurd (false≢true h)) (in_field_between c)
step_between st.InComment c = pick (c == 10) _ _ (λ h. absurd (false≢true h)) (λ h. absurd (false≢true h))
step_between st.AfterCr c = pick (c == 10) _ _ (λ h. absurd (false≢true h)) (start_record_between c)

chosen : {A : Type 0} (b : Bool) (x y z : A) → (if b then x else y) ≡ z → ((b ≡ true) × (x ≡ z)) ⊎ ((b ≡ false) × (y ≡ z))
chosen true x y z h = inl (refl, h)
chosen false x y z h = inr (refl, h)

some_same : (x p : Read) → ◌≡◌ {A = Option Read} (Some x) (Some p) → x ≡ p
some_same x p h = cc

none_no_some : (p : Read) → ◌≡◌ {A = Option Read} None (Some p) → ⊥
none_no_some p h = cc

-- what is left behind a record is no longer than the text, and it begins between records
next_shorter : (s : State) (f : List (List ℕ)) (fl xs : List ℕ) (p : Read) → next_record default_config s f fl xs ≡ Some p
    → (length p.2 ≤ length xs) × (is_between p.1 ≡ true)
unfolding next_record StopsBetween
next_shorter s f fl [] p h =
    elim (chosen (ends_at_end s) (Some (f ++ (fl ∷ []), st.StartRecord, [])) None (Some p) h) [
      | inl w ↦ subst (λ (q : Read). (length q.2 ≤ 0) × (is_between q.1 ≡ true)) (some_same _ p w.1) (omega arith, refl)
      | inr w ↦ absurd (none_no_some p w.1)
    ]
next_shorter s f fl (c ∷ rest) p h =
    elim (chosen (is_end (step default_config s c).1) (Some (fields_after (step default_config s c).1 f fl, (step default_config s c).0, rest))
    (next_record default_config (step default_config s c).0 (fields_after (step default_config s c).1 f fl) (field_after (step default_config s c).1 c fl) rest) (Some p) h) [
      | inl w ↦ subst (λ (q : Read). (length q.2 ≤ suc (length rest)) × (is_between q.1 ≡ true)) (some_same _ p w.1) (omega arith, step_between s c w.0)
      | inr w ↦
          let k = next_shorter (step default_config s c).0 (fields_after (step default_config s c).1 f fl) (field_after (step default_config s c).1 c fl) rest p w.1 in
          (omega (arith, k.0), k.1)
    ]

between_goes : (s : State) → is_between s ≡ true → ends_at_end s ≡ false
between_goes st.StartRecord h = refl
between_goes st.AfterCr h = refl
between_goes st.StartField h = absurd (false≢true h)
between_goes st.InField h = absurd (false≢true h)
between_goes st.InQuoted h = absurd (false≢true h)
between_goes st.AfterQuote h = absurd (false≢true h)
between_goes st.InEscape h = absurd (false≢true h)
between_goes st.InComment h = absurd (false≢true h)

-- behind a record that begins between records there is less than the text
first_shorter : (s : State) (xs : List ℕ) (p : Read) → is_between s ≡ true → next_record default_config s [] [] xs ≡ Some p
    → (length p.2 < length xs) × (is_between p.1 ≡ true)
unfolding next_record StopsBetween
first_shorter s [] p b h = absurd (none_no_some p (rw (between_goes s b) at h))
first_shorter s (c ∷ rest) p b h =
    elim (chosen (is_end (step default_config s c).1) (Some (fields_after (step default_config s c).1 [] [], (step default_config s c).0, rest))
    (next_record default_config (step default_config s c).0 (fields_after (step default_config s c).1 [] []) (field_after (step default_config s c).1 c []) rest) (Some p) h) [
      | inl w ↦ subst (λ (q : Read). (length q.2 < suc (length rest)) × (is_between q.1 ≡ true)) (some_same _ p w.1) (omega arith, step_between s c w.0)
      | inr w ↦
          let k = next_shorter (step default_config s c).0 (fields_after (step default_config s c).1 [] []) (field_after (step default_config s c).1 c []) rest p w.1 in
          (omega (arith, k.0), k.1)
    ]

after : (n m : ℕ) (o : Option Read) → ((p : Read) → o ≡ Some p → records_from default_config n p.1 p.2 ≡ records_from default_config m p.1 p.2)
    → records_next (records_from default_config n) o ≡ records_next (records_from default_config m) o
after n m None h = refl
after n m (Some p) h = ap (λ (t : List Record). p.0 ∷ t) (h p refl)

-- more turns than bytes give the same records
same_records : (n m : ℕ) (s : State) (xs : List ℕ) → is_between s ≡ true → length xs < n → length xs < m
    → records_from default_config n s xs ≡ records_from default_config m s xs
unfolding records_from
same_records zero m s xs b hn hm = absurd (omega arith)
same_records (suc n) zero s xs b hn hm = absurd (omega arith)
same_records (suc n) (suc m) s xs b hn hm =
    after n m (next_record default_config s [] [] xs) (λ p e.
    let k = first_shorter s xs p b e in same_records n m p.1 p.2 k.1 (omega (arith, k.0)) (omega (arith, k.0)))

left_next : (s : State) (bytes : List ℕ) → records_left s (Some bytes) ≡ records_next (records_from default_config (length bytes)) (next_record default_config s [] [] bytes)
unfolding records_from
left_next s bytes = rw add-one refl

length_fields_after : (a : Action) (f : List (List ℕ)) (fl : List ℕ) → length (fields_after a f fl) ≤ length f + 1
length_fields_after act.EndField f fl = omega (arith, length-append f (fl ∷ []))
length_fields_after act.EndRecord f fl = omega (arith, length-append f (fl ∷ []))
length_fields_after act.Copy f fl = omega arith
length_fields_after act.Skip f fl = omega arith

either : (b : Bool) (x y : List ℕ) (n : ℕ) → length x ≤ n → length y ≤ n → length (if b then x else y) ≤ n
either true x y n h k = h
either false x y n h k = k

-- a record has no more fields than bytes, and one
next_fields : (s : State) (f : List (List ℕ)) (fl xs : List ℕ) (p : Read) → next_record default_config s f fl xs ≡ Some p
    → length p.0 + length p.2 ≤ length f + length xs + 1
unfolding next_record
next_fields s f fl [] p h =
    elim (chosen (ends_at_end s) (Some (f ++ (fl ∷ []), st.StartRecord, [])) None (Some p) h) [
      | inl w ↦ subst (λ (q : Read). length q.0 + length q.2 ≤ length f + 0 + 1) (some_same _ p w.1) (omega (arith, length-append f (fl ∷ [])))
      | inr w ↦ absurd (none_no_some p w.1)
    ]
next_fields s f fl (c ∷ rest) p h =
    let m = length_fields_after (step default_config s c).1 f fl in
    elim (chosen (is_end (step default_config s c).1) (Some (fields_after (step default_config s c).1 f fl, (step default_config s c).0, rest))
    (next_record default_config (step default_config s c).0 (fields_after (step default_config s c).1 f fl) (field_after (step default_config s c).1 c fl) rest) (Some p) h) [
      | inl w ↦ subst (λ (q : Read). length q.0 + length q.2 ≤ length f + suc (length rest) + 1) (some_same _ p w.1) (omega (arith, m))
      | inr w ↦
          let k = next_fields (step default_config s c).0 (fields_after (step default_config s c).1 f fl) (field_after (step default_config s c).1 c fl) rest p w.1 in
          omega (arith, k, m)
    ]

-- what a read found: all of a record's fields, and what is left is no longer
Small : List ℕ → List ℕ → Record → Type 0
Small bytes z fields = (length z ≤ length bytes) × (length fields ≤ length bytes + 1)

takes_go : (s s2 : State) (bytes z : List ℕ) (o : Option Read) (found : Bool) (fields : Record) → is_between s ≡ true
    → next_record default_config s [] [] bytes ≡ o → NextIs o found fields s2 z
    → TakesFirst (records_next (records_from default_config (length bytes)) o) found fields (records_left s2 (Some z))
    × (found ≡ true → (is_between s2 ≡ true) × Small bytes z fields)
unfolding Small
takes_go s s2 bytes z None found fields b e n = (n, λ h. absurd (false≢true (sym n ∙ h)))
takes_go s s2 bytes z (Some p) found fields b e n =
    let k = first_shorter s bytes p b e in
    let m = next_fields s [] [] bytes p e in (
      (n.0, n.1, rw (n.2, n.3) (same_records (length p.2 + 1) (length bytes) p.1 p.2 k.1 (omega arith) k.0)),
      λ h. (rw n.2 k.1, (rw n.3 (omega (arith, k.0)), rw n.1 (omega (arith, m)))),
    )

takes : (s s2 : State) (bytes : List ℕ) (left : Option (List ℕ)) (found : Bool) (fields : Record) → is_between s ≡ true
    → ReadsNext default_config s (Some bytes) left found fields s2
    → TakesFirst (records_left s (Some bytes)) found fields (records_left s2 left)
    × (z : List ℕ) × (left ≡ Some z) × (found ≡ true → (is_between s2 ≡ true) × Small bytes z fields)
takes s s2 bytes None found fields b r = absurd r
takes s s2 bytes (Some z) found fields b r =
    let t = takes_go s s2 bytes z (next_record default_config s [] [] bytes) found fields b refl r in
    (rw (left_next s bytes) t.0, z, refl, t.1)

-- what one read of a table does
pub read_takes : (old new : Reader (Bor (List ℕ))) (found : Bool) (fields : Record) → IsTable old → ReadRecord slice_left old new found fields
    → TakesFirst (rest_of old) found fields (rest_of new)
    × (z : List ℕ) × (source_of slice_left new ≡ Some z)
    × (found ≡ true → (is_between (reader_state new) ≡ true) × (length z ≤ 4194304) × (length fields ≤ 4194305))
unfolding Small
read_takes old new found fields t r =
    let now : source_of slice_left new ≡ pending_of (slice_left new.rdr) new = rw r.1 refl in
    let k = takes (reader_state old) (reader_state new) t.5 (pending_of (slice_left new.rdr) new) found fields t.4 (rw (t.1, t.6) at r.0) in
    (rw (t.6, now) k.0, k.1, now ∙ k.2, λ h. let m = k.3 h in (m.0, omega (arith, m.1.0, t.7), omega (arith, m.1.1, t.7)))

-- a byte order mark only takes bytes away
pub length_strip_bom : (xs : List ℕ) → length (strip_bom xs) ≤ length xs
unfolding strip_bom
length_strip_bom [] = omega arith
length_strip_bom (a ∷ []) = omega arith
length_strip_bom (a ∷ b ∷ []) = omega arith
length_strip_bom (a ∷ b ∷ c ∷ rest) = either (is_bom a b c) rest (a ∷ b ∷ c ∷ rest) (suc (suc (suc (length rest)))) (omega arith) (omega arith)
