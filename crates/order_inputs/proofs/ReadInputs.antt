-- The reading of inputs in turn.
use Rattle.std.proofs.Common.{◌≡◌, ◌∙◌, ◌<◌, ◌++◌, ◌∷◌, [], ap, inl, inr, refl, subst, sym, take, drop, get_or, ◌+◌, ℕ, List, length, Option, Some, None, Result, Ok, Err, IsSomeAnd, IfOk, if◌then◌else◌}
use Rattle.std.specs.Prelude.{◌⊎◌}
use Rattle.std.proofs.lemmas.Bool.{le-leb, lt-leb}
use Rattle.std.proofs.lemmas.List.{append_assoc, take-append-drop, take_more}
use Rattle.spares_io.specs.Causes.{Rose}
use Rattle.spares_io.specs.Shelf.{Files, HoldsMore, Lacks, file_of}
use Rattle.refusals.specs.declared.failure.Failure.{Failure}
use Rattle.order_inputs.specs.declared.files.Input.{Input}
use Rattle.refusals.specs.declared.refusal.File.{File}
use Rattle.refusals.specs.declared.refusal.Refusal.TheVariants as refusal
use Rattle.refusals.specs.Causes.{of_reading, kind_of, plain_failure}
use Rattle.order_inputs.specs.Files.{AllGave, Gave, IsTooLong, IsUnread, NoneRose, Reads, StandStill, StopsAt, content_of, reads}
use Rattle.answers.specs.declared.stop.Stop.{Stop}
use Rattle.answers.specs.declared.stop.Stop.TheVariants as stop
use Rattle.order_inputs.specs.Reading.{AreWithin, ReadsGive, Unread}

-- ---- one more input

-- these inputs gave their bytes, and no read failed
pub record IsReadSoFar (told now_told : Option Files) (before now write_before write_now : List ℕ → ℕ) (inputs : List Input) (files : List (List ℕ)) : Type 0 where
  pub held : now_told ≡ told
  pub gave : AllGave told inputs files
  pub still : StandStill before now
  pub writes : StandStill write_before write_now

pub gave_more : (told : Option Files) (inputs : List Input) (files : List (List ℕ)) (input : Input) (bytes : List ℕ)
    → AllGave told inputs files → Gave told input bytes → AllGave told (inputs ++ input ∷ []) (files ++ bytes ∷ [])
gave_more told [] [] input bytes h g = (g, tt)
gave_more told (i ∷ is) (b ∷ bs) input bytes h g = (h.0, gave_more told is bs input bytes h.1 g)
gave_more told [] (b ∷ bs) input bytes h g = absurd h
gave_more told (i ∷ is) [] input bytes h g = absurd h

-- the input behind those that gave their bytes is the one that is refused
pub stops_after : (told : Option Files) (before now : List ℕ → ℕ) (inputs rest : List Input) (files : List (List ℕ)) (input : Input) (failure : Failure)
    → AllGave told inputs files → IsUnread told before now input failure ⊎ IsTooLong told input failure
    → StopsAt told before now (inputs ++ input ∷ rest) failure
stops_after told before now [] rest [] input failure h (inl u) = inl u
stops_after told before now [] rest [] input failure h (inr l) = inr (inl l)
stops_after told before now (i ∷ is) rest (b ∷ bs) input failure h u = inr (inr (b, (h.0, stops_after told before now is rest bs input failure h.1 u)))
stops_after told before now [] rest (b ∷ bs) input failure h u = absurd h
stops_after told before now (i ∷ is) rest [] input failure h u = absurd h

split_at : (inputs : List Input) (k : ℕ) (d : Input) → k < length inputs → take k inputs ++ get_or inputs k d ∷ drop (k + 1) inputs ≡ inputs
split_at inputs k d lt =
    sym (append_assoc (take k inputs) (get_or inputs k d ∷ []) (drop (k + 1) inputs)) ∙ ap (λ l. l ++ drop (k + 1) inputs) (sym (take_more inputs k d lt))
    ∙ take-append-drop (k + 1) inputs

module _ (told now_told : Option Files) (before mid write_before write_mid : List ℕ → ℕ) (inputs : List Input) (k : ℕ) (input : Input) (lt : k < length inputs)
    (is : input ≡ get_or inputs k input) (files : List (List ℕ)) (far : IsReadSoFar told now_told before mid write_before write_mid (take k inputs) files) where
  -- the reading stops at the next input
  pub reading_stops : (now : List ℕ → ℕ) (e : Stop Failure) → Unread now_told mid now input e → ReadsGive told before now inputs (Err e)
  reading_stops now stop.NoMemory h = tt
  reading_stops now (stop.Fault failure) h =
      subst (λ i. StopsAt told before now i failure) (split_at inputs k input lt)
      (subst (λ i. StopsAt told before now (take k inputs ++ i ∷ drop (k + 1) inputs) failure) is
      (stops_after told before now (take k inputs) (drop (k + 1) inputs) files input failure far.gave (from_entry h)))
    where
      from_entry : IsUnread now_told mid now input failure ⊎ IsTooLong now_told input failure → IsUnread told before now input failure ⊎ IsTooLong told input failure
      from_entry (inl (e, inl rose)) = inl (e, inl (subst (λ n. Rose n (now input.name)) (far.still input.name) rose))
      from_entry (inl (e, inr lacks)) = inl (e, inr (subst (λ t. Lacks t input.name) far.held lacks))
      from_entry (inr (e, long)) = inr (e, subst (λ t. HoldsMore t input.name input.limit) far.held long)

  -- the next input gave its bytes
  pub reading_goes_on : (later_told : Option Files) (now write_now : List ℕ → ℕ) (bytes : List ℕ) → later_told ≡ now_told → Gave now_told input bytes → StandStill mid now
      → StandStill write_mid write_now
      → IsReadSoFar told later_told before now write_before write_now (take (k + 1) inputs) (files ++ bytes ∷ [])
  reading_goes_on later_told now write_now bytes same gave still writes = record {
    held = same ∙ far.held;
    gave = subst (λ i. AllGave told i (files ++ bytes ∷ [])) (sym (take_more inputs k input lt))
        (subst (λ i. AllGave told (take k inputs ++ i ∷ []) (files ++ bytes ∷ [])) is
        (gave_more told (take k inputs) files input bytes far.gave (subst (λ t. Gave t input bytes) far.held gave)));
    still = λ name. still name ∙ far.still name;
    writes = λ name. writes name ∙ far.writes name;
  }

within_of : (told : Option Files) (inputs : List Input) (files : List (List ℕ)) → AllGave told inputs files → AreWithin inputs files
within_of told [] [] h = tt
within_of told (i ∷ is) (b ∷ bs) h = (h.0.1, within_of told is bs h.1)
within_of told [] (b ∷ bs) h = absurd h
within_of told (i ∷ is) [] h = absurd h

-- the files that were read are within the limits of their inputs
pub reads_within : (told : Option Files) (before now : List ℕ → ℕ) (inputs : List Input) (read : Result (List (List ℕ)) (Stop Failure))
    → ReadsGive told before now inputs read → IfOk read (AreWithin inputs)
reads_within told before now inputs (Ok files) h = within_of told inputs files h.0
reads_within told before now inputs (Err e) h = tt

-- what stops the reading of inputs is a refusal of the kind that reading a file has
pub stops_kind : (told : Option Files) (before now : List ℕ → ℕ) (inputs : List Input) (failure : Failure) → StopsAt told before now inputs failure
    → (file : File) × (kind_of failure.refusal ≡ of_reading file)
stops_kind told before now [] failure h = absurd h
stops_kind told before now (i ∷ is) failure (inl u) = (i.file, ap (λ (f : Failure). kind_of f.refusal) u.0)
stops_kind told before now (i ∷ is) failure (inr (inl l)) = (i.file, ap (λ (f : Failure). kind_of f.refusal) l.0)
stops_kind told before now (i ∷ is) failure (inr (inr h)) = stops_kind told before now is failure h.1.1

-- ---- where the shelf tells what it holds

module _ (held : Files) where
  gives : (input : Input) (bytes : List ℕ) → Gave (Some held) input bytes → content_of input (file_of held input.name) ≡ Ok bytes
  gives input bytes g =
      rw g.0 (ap (λ b. if b then Ok bytes else Err (plain_failure (refusal.TooLong input.file))) (le-leb (length bytes) input.limit g.1))

  long_by : (input : Input) (found : Option (List ℕ)) → IsSomeAnd found (λ bytes. input.limit < length bytes)
      → content_of input found ≡ Err (plain_failure (refusal.TooLong input.file))
  long_by input None h = absurd h
  long_by input (Some bytes) h =
      ap (λ b. if b then Ok bytes else Err (plain_failure (refusal.TooLong input.file))) (lt-leb (length bytes) input.limit h)

  lacks_by : (input : Input) → Lacks (Some held) input.name → content_of input (file_of held input.name) ≡ Err (plain_failure (refusal.ReadFault input.file))
  lacks_by input h = ap (content_of input) h

  all_give : (inputs : List Input) (files : List (List ℕ)) → AllGave (Some held) inputs files → reads held inputs ≡ Ok files
  all_give [] [] h = refl
  all_give (i ∷ is) (b ∷ bs) h = rw (gives i b h.0, all_give is bs h.1) refl
  all_give [] (b ∷ bs) h = absurd h
  all_give (i ∷ is) [] h = absurd h

  stop_is : (before now : List ℕ → ℕ) (inputs : List Input) (failure : Failure) → NoneRose before now inputs → StopsAt (Some held) before now inputs failure
      → reads held inputs ≡ Err failure
  stop_is before now [] failure n h = absurd h
  stop_is before now (i ∷ is) failure n (inl (e, inl rose)) = absurd (n.0 rose)
  stop_is before now (i ∷ is) failure n (inl (e, inr lacks)) = rw (e, lacks_by i lacks) refl
  stop_is before now (i ∷ is) failure n (inr (inl (e, long))) = rw (e, long_by i (file_of held i.name) long) refl
  stop_is before now (i ∷ is) failure n (inr (inr (bytes, (gave, more)))) = rw (gives i bytes gave, stop_is before now is failure n.1 more) refl

  -- where no count of failed reads rose, what was read is what the shelf holds
  pub read_is : (before now : List ℕ → ℕ) (inputs : List Input) (read : Result (List (List ℕ)) Failure) → NoneRose before now inputs
      → Reads (Some held) before now inputs read → reads held inputs ≡ read
  read_is before now inputs (Ok files) n h = all_give inputs files h.0
  read_is before now inputs (Err failure) n h = stop_is before now inputs failure n h

  -- without inputs nothing is told
  pub none_is : (told : Option Files) (before now : List ℕ → ℕ) (read : Result (List (List ℕ)) Failure) → Reads told before now [] read → reads held [] ≡ read
  none_is told before now (Ok []) h = refl
  none_is told before now (Ok (b ∷ bs)) h = absurd h.0
  none_is told before now (Err failure) h = absurd h
