-- The effect of a call on the file that it opened, if contracts know the file's bytes.
use Rattle.std.specs.Prelude.{◌≡◌, ◌<◌, ℕ, List, Option, IfSome, length}
use Rattle.std.specs.Io.KnownBytes.{Appends}

-- these are all the bytes that such a file had left
abbrev pub ReadsAll : {File : Type 0} → (File → Type 0) → (File → Option (List ℕ)) → List ℕ → Type 0
ReadsAll {File} IsOpened remaining bytes =
    (file : File) × IsOpened file × IfSome (remaining file) (λ left. bytes ≡ left)

-- such a file had more bytes left than this
abbrev pub ReadsMore : {File : Type 0} → (File → Type 0) → (File → Option (List ℕ)) → ℕ → Type 0
ReadsMore {File} IsOpened remaining limit =
    (file : File) × IsOpened file × IfSome (remaining file) (λ left. limit < length left)

-- such a file gained exactly these bytes
abbrev pub WritesAll : {File : Type 0} → (File → Type 0) → (File → Option (List ℕ)) → List ℕ → Type 0
WritesAll {File} IsOpened contents bytes =
    (file : File) × IsOpened file × (after : File) × Appends (contents file) (contents after) bytes
