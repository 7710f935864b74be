-- A shelf and a sink in memory, whose calls fail by a list.
use Rattle.std.specs.Prelude.{◌≡◌, ◌-◌, ◌/◌, ◌++◌, ◌==◌, ◌&&◌, ℕ, Bool, true, false, not, nat_le, if◌then◌else◌, List, [], ◌∷◌, length, take, bytes_eq, position, is_none, Option, Some, None, Result, Ok, Err, OnOk, IsOkUnless, refl}
use Rattle.std.specs.List.{list_any}
use Rattle.std.specs.Coded.{Coded, code_by, coded×, coded_list, coded_ℕ}
use Rattle.std.specs.FinMap as map
use Rattle.spares_io.specs.declared.shelf.ShelfError.{ShelfError}
use Rattle.spares_io.specs.declared.shelf.ShelfError.TheVariants.{NoMemory, Failed, TooLong}
use Rattle.spares_io.specs.Causes.{next_count}
use Rattle.spares_io.specs.Shelf.{Files, file_of, with_file}

-- calls are numbered from 1, and those of the list fail
abbrev pub is_listed : List ℕ → ℕ → Bool
is_listed fails number = list_any (λ listed. listed == number) fails

-- the map of a list of files, each a name with its bytes
abbrev pub files_of : List (List ℕ × List ℕ) → Files
files_of files = map.from_entries files

-- the names are distinct
abbrev pub are_distinct : List (List ℕ × List ℕ) → Bool
are_distinct [] = true
are_distinct (file ∷ files) = is_none (position (λ later. bytes_eq file.0 later.0) files) && are_distinct files

-- the first half of a list of bytes, rounded down
abbrev pub first_half : List ℕ → List ℕ
first_half bytes = take (length bytes / 2) bytes

-- the files of a shelf, the numbers of its calls that are to fail, and the counts of its calls, failed reads and failed
-- writes
pub record ShelfMemory : Type 0 where
  pub files : Files
  pub fails : List ℕ
  pub calls : ℕ
  pub failed_reads : ℕ
  pub failed_writes : ℕ

-- a shelf coded by lists and numbers alone
abbrev pub shelf_code : Coded ShelfMemory
shelf_code = code_by (Files × (List ℕ × (ℕ × (ℕ × ℕ))))
    (coded× (map.code (coded_list coded_ℕ) (coded_list coded_ℕ))
    (coded× (coded_list coded_ℕ) (coded× coded_ℕ (coded× coded_ℕ coded_ℕ))))
    (λ s. (s.files, (s.fails, (s.calls, (s.failed_reads, s.failed_writes)))))
    (λ p. record { files = p.0; fails = p.1.0; calls = p.1.1.0; failed_reads = p.1.1.1.0; failed_writes = p.1.1.1.1 })
    (λ _. refl)

-- whether the next call is to fail
abbrev pub shelf_fails : ShelfMemory → Bool
shelf_fails shelf = is_listed shelf.fails (next_count shelf.calls)

-- the shelf after a call that is only numbered
abbrev pub counted : ShelfMemory → ShelfMemory
counted shelf = record shelf { calls = next_count shelf.calls }

-- the result of reading a name
abbrev pub within : ℕ → Option (List ℕ) → Result (List ℕ) ShelfError
within limit None = Err Failed
within limit (Some bytes) = if nat_le (length bytes) limit then Ok bytes else Err TooLong

-- the result of a read
abbrev pub read_of : ShelfMemory → List ℕ → ℕ → Result (List ℕ) ShelfError
read_of shelf name limit = if shelf_fails shelf then Err Failed else within limit (file_of shelf.files name)

-- a read returns exactly this, but instead of bytes it may return `NoMemory`
abbrev pub Reads : Result (List ℕ) ShelfError → Result Unit ShelfError → List ℕ → Type 0
Reads (Ok bytes) result into = IsOkUnless result NoMemory × OnOk result (into ≡ bytes)
Reads (Err error) result into = result ≡ Err error

-- the shelf after a read; a listed read counts as failed
abbrev pub after_read : ShelfMemory → ShelfMemory
after_read shelf =
    if shelf_fails shelf then record shelf {
      calls = next_count shelf.calls;
      failed_reads = next_count shelf.failed_reads;
    } else counted shelf

-- a write fails exactly if it is listed: then the name has the first half of the bytes, and the write counts as failed;
-- without memory it is only numbered
abbrev pub Writes : ShelfMemory → List ℕ → List ℕ → Result Unit ShelfError → ShelfMemory → Type 0
Writes old name bytes (Ok _) new =
    (shelf_fails old ≡ false) × (new ≡ record (counted old) { files = with_file old.files name bytes })
Writes old name bytes (Err Failed) new =
    (shelf_fails old ≡ true) × (new ≡ record (counted old) {
      files = with_file old.files name (first_half bytes);
      failed_writes = next_count old.failed_writes;
    })
Writes old name bytes (Err NoMemory) new = new ≡ counted old
Writes old name bytes (Err TooLong) new = ⊥

-- the bytes and the capacity of a sink, the numbers of its calls that are to fail, and the counts of its calls and
-- faults
pub record SinkMemory : Type 0 where
  pub bytes : List ℕ
  pub room : ℕ
  pub fails : List ℕ
  pub calls : ℕ
  pub faults : ℕ

-- whether the next put is to fail
abbrev pub sink_fails : SinkMemory → Bool
sink_fails sink = is_listed sink.fails (next_count sink.calls)

-- the number of bytes that still fit
abbrev pub room_left : SinkMemory → ℕ
room_left sink = sink.room - length sink.bytes

-- a put succeeds if it isn't listed and all of its bytes fit
abbrev pub can_put : SinkMemory → List ℕ → Bool
can_put sink piece = not (sink_fails sink) && nat_le (length piece) (room_left sink)

-- the bytes that a put keeps: those that fit, and for a listed put at most the first half
abbrev pub kept_of : SinkMemory → List ℕ → List ℕ
kept_of sink piece = take (room_left sink) (if sink_fails sink then first_half piece else piece)

-- the sink after a put
abbrev pub after_put : SinkMemory → List ℕ → SinkMemory
after_put sink piece = record sink {
  bytes = sink.bytes ++ kept_of sink piece;
  calls = next_count sink.calls;
  faults = if can_put sink piece then sink.faults else next_count sink.faults;
}
