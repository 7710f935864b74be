-- The files that an order reads, and the results of reading them.
use Rattle.std.specs.Prelude.{◌≡◌, ◌⊎◌, ◌≤◌, ⊤, ℕ, List, [], ◌∷◌, length, get_or, Option, Some, None, Result, Ok, Err, if◌then◌else◌, nat_le}
use Rattle.spares_io.specs.Causes.{Rose}
use Rattle.spares_io.specs.Shelf.{Files, Holds, HoldsMore, Lacks, file_of}
use Rattle.spares_words.specs.declared.order.Order.{Order}
use Rattle.spares_words.specs.declared.order.Order.TheVariants as order
use Rattle.spares_words.specs.declared.order.WordsFault.{WordsFault}
use Rattle.refusals.specs.declared.failure.Failure.{Failure}
use Rattle.order_inputs.specs.declared.files.Input.{Input}
use Rattle.refusals.specs.declared.refusal.File.{File}
use Rattle.refusals.specs.declared.refusal.File.TheVariants.{Sites, Parts, Rates, Stocks, OnHand, Certificate, Edits}
use Rattle.refusals.specs.declared.refusal.Refusal.TheVariants as refusal
use Rattle.answers.specs.Steps.{◌>>=◌}
use Rattle.refusals.specs.Causes.{plain_failure}
use Rattle.csv_tables.specs.Rest.{table_limit}
use Rattle.price_certificate.specs.Certificates.{certificate_limit}

-- the input of a table
abbrev pub table_in : File → List ℕ → Input
table_in file name = record { file = file; name = name; limit = table_limit }

-- the input of a certificate
abbrev pub certificate_in : List ℕ → Input
certificate_in name = record { file = Certificate; name = name; limit = certificate_limit }

-- the tables of a case, then these inputs
abbrev pub case_in : List ℕ → List ℕ → List ℕ → List Input → List Input
case_in sites parts rates more = table_in Sites sites ∷ table_in Parts parts ∷ table_in Rates rates ∷ more

-- one more file, if one is named: a table of stocks, or edits
abbrev pub if_named : File → Option (List ℕ) → List Input
if_named file None = []
if_named file (Some name) = table_in file name ∷ []

-- the inputs of an order, in the order of reading
abbrev pub inputs : Order → List Input
inputs (order.Single mean variance stock) = []
inputs (order.Eval sites parts rates stocks bits) = case_in sites parts rates (if_named Stocks (Some stocks))
inputs (order.Plan sites parts rates on_hand budget format objective certificate) =
    case_in sites parts rates (if_named OnHand on_hand)
inputs (order.Check certificate) = certificate_in certificate ∷ []
inputs (order.Demo number lines) = []
inputs (order.Sweep sites parts rates) = case_in sites parts rates []
inputs (order.Target sites parts rates backorders) = case_in sites parts rates []
inputs (order.Session sites parts rates edits) = case_in sites parts rates (if_named Edits (Some edits))
inputs (order.Compare sites parts rates stocks) = case_in sites parts rates (if_named Stocks (Some stocks))

-- the inputs of the order of words; words with a fault read none
abbrev pub inputs_of : Result Order WordsFault → List Input
inputs_of (Ok o) = inputs o
inputs_of (Err fault) = []

-- the name that an order writes
abbrev pub output_of : Result Order WordsFault → Option (List ℕ)
output_of (Ok (order.Single mean variance stock)) = None
output_of (Ok (order.Eval sites parts rates stocks bits)) = None
output_of (Ok (order.Plan sites parts rates on_hand budget format objective certificate)) = Some certificate
output_of (Ok (order.Check certificate)) = None
output_of (Ok (order.Demo number lines)) = None
output_of (Ok (order.Sweep sites parts rates)) = None
output_of (Ok (order.Target sites parts rates backorders)) = None
output_of (Ok (order.Session sites parts rates edits)) = None
output_of (Ok (order.Compare sites parts rates stocks)) = None
output_of (Err fault) = None

-- the bytes of an input
abbrev pub bytes_at : List (List ℕ) → ℕ → List ℕ
bytes_at bytes place = get_or bytes place []

-- the bytes of the tables of a case
pub record CaseBytes : Type 0 where
  pub sites : List ℕ
  pub parts : List ℕ
  pub rates : List ℕ

-- the tables of a case among the bytes of the inputs
abbrev pub tables_in : List (List ℕ) → CaseBytes
tables_in bytes = record { sites = bytes_at bytes 0; parts = bytes_at bytes 1; rates = bytes_at bytes 2 }

-- ---- over known files

-- the content of an input, or the reason why it is refused
abbrev pub content_of : Input → Option (List ℕ) → Result (List ℕ) Failure
content_of input None = Err (plain_failure (refusal.ReadFault input.file))
content_of input (Some bytes) =
    if nat_le (length bytes) input.limit then Ok bytes else Err (plain_failure (refusal.TooLong input.file))

-- the contents of all inputs, or the first refusal
abbrev pub reads : Files → List Input → Result (List (List ℕ)) Failure
reads held [] = Ok []
reads held (input ∷ rest) = do
  bytes ← content_of input (file_of held input.name)
  more ← reads held rest
  Ok (bytes ∷ more)

-- ---- over a shelf

-- all counts are as before
abbrev pub StandStill : (List ℕ → ℕ) → (List ℕ → ℕ) → Type 0
StandStill before now = (name : List ℕ) → now name ≡ before name

-- These are the bytes of an input: they are within its limit, and if the contents of the shelf are known, they are the
-- content of the input's name.
abbrev pub Gave : Option Files → Input → List ℕ → Type 0
Gave told input bytes = Holds told input.name bytes × (length bytes ≤ input.limit)

-- these are the bytes of all inputs, in order
abbrev pub AllGave : Option Files → List Input → List (List ℕ) → Type 0
AllGave told [] [] = ⊤
AllGave told (input ∷ rest) (bytes ∷ more) = Gave told input bytes × AllGave told rest more
AllGave told [] (bytes ∷ more) = ⊥
AllGave told (input ∷ rest) [] = ⊥

-- an input wasn't read: the count of its name's failed reads rose, or the shelf is known to lack the name
abbrev pub IsUnread : Option Files → (List ℕ → ℕ) → (List ℕ → ℕ) → Input → Failure → Type 0
IsUnread told before now input failure =
    (failure ≡ plain_failure (refusal.ReadFault input.file))
    × (Rose (before input.name) (now input.name) ⊎ Lacks told input.name)

-- The input is too long. If the contents of the shelf aren't known, no bytes show it, and this says only which input is
-- refused.
abbrev pub IsTooLong : Option Files → Input → Failure → Type 0
IsTooLong told input failure = (failure ≡ plain_failure (refusal.TooLong input.file))
    × HoldsMore told input.name input.limit

-- the first unreadable input is refused, after all inputs before it were read
abbrev pub StopsAt : Option Files → (List ℕ → ℕ) → (List ℕ → ℕ) → List Input → Failure → Type 0
StopsAt told before now [] failure = ⊥
StopsAt told before now (input ∷ rest) failure =
    IsUnread told before now input failure ⊎ (IsTooLong told input failure
    ⊎ ((bytes : List ℕ) × (Gave told input bytes × StopsAt told before now rest failure)))

-- no count of failed reads rose, for any input's name
abbrev pub NoneRose : (List ℕ → ℕ) → (List ℕ → ℕ) → List Input → Type 0
NoneRose before now [] = ⊤
NoneRose before now (input ∷ rest) = ¬ Rose (before input.name) (now input.name) × NoneRose before now rest

-- The result of reading the inputs in order: the bytes of all, with no failed read, or the first refusal. The counts
-- are the failed reads before and now.
abbrev pub Reads : Option Files → (List ℕ → ℕ) → (List ℕ → ℕ) → List Input → Result (List (List ℕ)) Failure → Type 0
Reads told before now inputs (Ok bytes) = AllGave told inputs bytes × StandStill before now
Reads told before now inputs (Err failure) = StopsAt told before now inputs failure
