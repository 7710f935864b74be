-- The rules of a name, and a lemma that `Model for Name` cites.
use Rattle.std.specs.Prelude.{◌≡◌, ℕ, ◌-◌, ◌≤◌, Bool, true, not, ◌&&◌, ◌==◌, nat_le, List, ◌++◌, length, take, get_or, replicate}
use Rattle.std.proofs.Common.{arith, sym, length-take-le}
use Rattle.std.specs.List.{list_all}
use Rattle.spares_input.specs.declared.name.Name.TheInside.{Inside}

-- a byte that a name may have: printable ASCII without comma and double quote
abbrev pub name_byte : ℕ → Bool
name_byte b = nat_le 0x20 b && nat_le b 0x7E && not (b == 0x2C) && not (b == 0x22)

-- a name has 1 to 24 bytes
abbrev pub has_length : List ℕ → Bool
has_length bytes = nat_le 1 (length bytes) && nat_le (length bytes) 24

-- there is no space at either end
abbrev pub is_trimmed : List ℕ → Bool
is_trimmed bytes = not (get_or bytes 0 0 == 0x20) && not (get_or bytes (length bytes - 1) 0 == 0x20)

-- 1 to 24 such bytes, with no space at either end
unfoldable pub is_name : List ℕ → Bool
is_name bytes = has_length bytes && is_trimmed bytes && list_all name_byte bytes

-- a name's bytes
abbrev pub bytes_of : Inside → List ℕ
bytes_of n = take n.len n.bytes

-- the stored form of a name: its bytes, and then zeros up to 24
pub record IsKept (n : Inside) : Type 0 where
  pub name : is_name (take n.len n.bytes) ≡ true
  pub few : n.len ≤ 24
  pub room : length n.bytes ≡ 24
  pub padded : n.bytes ≡ take n.len n.bytes ++ replicate (24 - n.len) 0

-- the stored form of these bytes: with zeros up to 24
abbrev pub kept : List ℕ → Inside
kept bytes = record { bytes = bytes ++ replicate (24 - length bytes) 0; len = length bytes }

-- the bytes of a name determine its stored form
pub kept_bytes_of : (a : Inside) → IsKept a → kept (bytes_of a) ≡ a
kept_bytes_of a h =
    let len : length (take a.len a.bytes) ≡ a.len = length-take-le a.len a.bytes (omega (arith, h.few, h.room)) in
    let bytes : take a.len a.bytes ++ replicate (24 - length (take a.len a.bytes)) 0 ≡ a.bytes =
    rw len (sym h.padded) in
    λ i. record { bytes = bytes i; len = len i }
