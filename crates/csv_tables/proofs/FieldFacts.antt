-- What is known of a field that was read.
use Rattle.std.proofs.Common.{◌≡◌, ℕ, ◌≤◌, Bool, true, false, ◌&&◌, nat_le, List, Result, Ok, Err, refl, sym, if◌then◌else◌, subst}
use Rattle.std.proofs.lemmas.Bool.{and_parts, leb-true, false≢true, true≢false}
use Rattle.exact_ratio.specs.Decimal.{decimal_of}
use Rattle.exact_ratio.specs.declared.decimal.Decimal.{Decimal}
use Rattle.exact_ratio.specs.declared.decimal.NumberFault.{NumberFault}
use Rattle.spares_input.specs.Names.{is_name}
use Rattle.spares_input.specs.Rows.{IsNumberField}
use Rattle.csv_tables.specs.Fields.{has_none, name_in, number_in, used_in, within}
use Rattle.csv_tables.specs.declared.fault.TableFault.{TableFault}
use Rattle.csv_tables.specs.declared.fault.TableFault.TheVariants as fault

-- a test that went well
kept : {A : Type 0} (b : Bool) (x y : A) (e : TableFault) → (if b then Ok x else Err e) ≡ Ok y → (b ≡ true) × (x ≡ y)
kept true x y e h = (refl, same x y h)
  where
    same : {A : Type 0} (x y : A) → ◌≡◌ {A = Result A TableFault} (Ok x) (Ok y) → x ≡ y
    same x y h = cc
kept false x y e h = cc

missed : {A : Type 0} (b : Bool) (t : Result A TableFault) (y : A) (e : TableFault) → (if b then Err e else t) ≡ Ok y → t ≡ Ok y
missed true t y e h = cc
missed false t y e h = h

-- a field that holds a name obeys the name rule
pub named : (row column : ℕ) (text name : List ℕ) → name_in row column text ≡ Ok name → is_name name ≡ true
named row column text name h =
    let k = kept (is_name text) text name (fault.BadName row column) h in
    subst (λ t. is_name t ≡ true) k.1 k.0

in_range : (row column least most : ℕ) (o : Result Decimal NumberFault) (n : ℕ) → within row column least most o ≡ Ok n → (least ≤ n) × (n ≤ most)
in_range row column least most (Err f) n h = cc
in_range row column least most (Ok d) n h =
    let k = kept (nat_le least d.units && nat_le d.units most) d.units n (fault.OutOfRange row column) h in
    let both = and_parts (nat_le least d.units) (nat_le d.units most) k.0 in
    subst (λ m. (least ≤ m) × (m ≤ most)) k.1 (leb-true least d.units both.0, leb-true d.units most both.1)

-- a number that a field holds is within the column's range
pub number_range : (row column places least most : ℕ) (text : List ℕ) (n : ℕ) → number_in row column places least most text ≡ Ok n → (least ≤ n) × (n ≤ most)
number_range row column places least most text n h =
    in_range row column least most (decimal_of text places) n (missed (has_none text) (within row column least most (decimal_of text places)) n (fault.FieldEmpty row column) h)

-- a field that is used is within its range, and else it is 0
pub used_field : (used : Bool) (row column places least most : ℕ) (text : List ℕ) (n : ℕ) → used_in used row column places least most text ≡ Ok n → IsNumberField used least most n
used_field true row column places least most text n h = record { within = λ _. number_range row column places least most text n h; empty = λ e. absurd (true≢false e) }
used_field false row column places least most text n h = record {
  within = λ e. absurd (false≢true e);
  empty = λ _. sym (kept (has_none text) 0 n (fault.FieldNotEmpty row column) h).1;
}
