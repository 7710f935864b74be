-- The state of the shelf and the output after a command.
use Rattle.std.specs.Prelude.{◌≡◌, ◌⊎◌, ℕ, List, Option, Some, None, IsSomeAnd}
use Rattle.std.specs.Option.{option_map}
use Rattle.spares_io.specs.Causes.{Rose}
use Rattle.spares_io.specs.Shelf.{Files, KeepsOthers, with_file}
use Rattle.spares_io.specs.Sink.{Gains, GainsPart}
use Rattle.order_inputs.specs.Files.{StandStill}
use Rattle.command_outcomes.specs.declared.done.TaskOutcome.{TaskOutcome}
use Rattle.command_outcomes.specs.declared.done.Written.{Written}
use Rattle.command_outcomes.specs.Texts.{done_text}

-- The shelf and the output at a moment: their contents, if they are known, and their counts of faults.
pub record Scene : Type 0 where
  pub held : Option Files
  pub read_faults : List ℕ → ℕ
  pub write_faults : List ℕ → ℕ
  pub out : Option (List ℕ)
  pub faults : ℕ

-- a scene from its parts
abbrev pub scene : Option Files → (List ℕ → ℕ) → (List ℕ → ℕ) → Option (List ℕ) → ℕ → Scene
scene held read_faults write_faults out faults =
    record { held = held; read_faults = read_faults; write_faults = write_faults; out = out; faults = faults }

-- the contents after a write: the written name has its bytes, and all others are as before
abbrev pub after_write : Option Written → Option Files → Option Files
after_write None held = held
after_write (Some written) held = option_map (λ files. with_file files written.name written.bytes) held

-- nothing was written, and no put failed
pub record IsUntouched (old new : Scene) : Type 0 where
  pub held : new.held ≡ old.held
  pub out : new.out ≡ old.out
  pub faults : new.faults ≡ old.faults

-- an outcome was written and put, nothing else was written, and no write and no put failed
pub record HasDelivered (outcome : TaskOutcome) (old new : Scene) : Type 0 where
  pub held : new.held ≡ after_write outcome.writes old.held
  pub out : Gains old.out new.out (done_text outcome.done)
  pub faults : new.faults ≡ old.faults
  pub writes : StandStill old.write_faults new.write_faults

-- the write of a name failed: this name may have any content, all others are as before, and nothing was put
pub record HasFailedToWrite (written : Written) (old new : Scene) : Type 0 where
  pub held : KeepsOthers written.name old.held new.held
  pub out : new.out ≡ old.out
  pub faults : new.faults ≡ old.faults
  pub rose : Rose (old.write_faults written.name) (new.write_faults written.name)

-- the put of the report failed: the write is complete, and the output got a prefix of the report
pub record HasFailedToPut (outcome : TaskOutcome) (old new : Scene) : Type 0 where
  pub held : new.held ≡ after_write outcome.writes old.held
  pub out : GainsPart old.out new.out (done_text outcome.done)
  pub rose : Rose old.faults new.faults
  pub writes : StandStill old.write_faults new.write_faults

-- the delivery of an outcome failed at one of its two places
abbrev pub HasFailed : TaskOutcome → Scene → Scene → Type 0
HasFailed outcome old new = IsSomeAnd outcome.writes (λ written. HasFailedToWrite written old new)
    ⊎ HasFailedToPut outcome old new
