-- What an order promises, from what is made and delivered; and what `run` promises.
use Rattle.std.proofs.Common.{◌≡◌, ◌∙◌, [], ap, arith, inl, inr, refl, sym, subst, Option, Some, None, Result, Ok, Err, IsSomeAnd, MatchResult, List, ℕ}
use Rattle.std.specs.Option.{option_map}
use Rattle.std.specs.Prelude.{IfOk, IfSome, ⊤}
use Rattle.demand_rates.specs.declared.fault.RateFault.{RateFault}
use Rattle.spares_io.specs.Causes.{Rose}
use Rattle.spares_io.specs.Shelf.{Files, KeepsOthers}
use Rattle.spares_io.specs.Sink.{Gains, GainsPart}
use Rattle.answers.specs.declared.stop.Stop.{Stop}
use Rattle.answers.specs.declared.stop.Stop.TheVariants as stop
use Rattle.spares_words.specs.Order.{order_of}
use Rattle.spares_words.specs.declared.order.Order.{Order}
use Rattle.spares_words.specs.declared.order.Order.TheVariants as order
use Rattle.spares_words.specs.declared.order.WordsFault.{WordsFault}
use Rattle.order_inputs.specs.Cases.{case_to_edit, case_within_work, stocked_by}
use Rattle.order_inputs.specs.Files.{Reads, StandStill, StopsAt, bytes_at, inputs, inputs_of, output_of, reads, tables_in}
use Rattle.order_inputs.specs.Reading.{ReadsGive}
use Rattle.command_outcomes.specs.declared.done.Done.{Done}
use Rattle.command_outcomes.specs.declared.done.TaskOutcome.{TaskOutcome}
use Rattle.command_outcomes.specs.declared.done.Written.{Written}
use Rattle.refusals.specs.declared.failure.Failure.{Failure}
use Rattle.refusals.specs.declared.refusal.File.TheVariants as file
use Rattle.refusals.specs.declared.refusal.Refusal.TheVariants as refusal
use Rattle.command_outcomes.specs.Answer.{Answers, HaveGiven, IsDue, RefusesBy, words_refusal}
use Rattle.answers.specs.Answers.{Gives}
use Rattle.answers.specs.Steps.{◌>>=◌}
use Rattle.refusals.specs.Causes.{Kind, of_words, of_reading, of_writing, of_memory, of_task, kind_of, or_refuse, plain_failure, stopped}
use Rattle.refusals.specs.Lines.{no_names}
use Rattle.spares_input.specs.Cases.{CaseRows}
use Rattle.command_outcomes.specs.Making.{ComesOf, Delivers, HasNotDelivered, Is, IsMade, MakesBy}
use Rattle.command_outcomes.specs.Promises.{Completes, Errors, NoneFailed, Performs, PutsLine, Runs, Serves}
use Rattle.command_outcomes.specs.State.{HasDelivered, HasFailed, HasFailedToWrite, IsUntouched, Scene, after_write}
use Rattle.command_outcomes.specs.Checks.{claimed_of}
use Rattle.command_outcomes.specs.Plans.{planning_of}
use Rattle.command_outcomes.specs.Task.{Fulfils, Task, confirm, demonstrate, evaluate, make_plan, plan_in_turn, price_target, set_beside, show_pipeline, sweep_budgets, task_of, task_on, task_on_words, unless_refused}
use Rattle.command_outcomes.specs.Texts.{done_text}
use Rattle.case_edits.specs.Edits.{session_of}
use Rattle.order_inputs.proofs.Public.{none_is, read_is, stops_kind}
use Rattle.command_outcomes.proofs.OfTask.{task_kind}

-- ---- what is due

made_by : (P Q : Result Task Failure → Type 0) → ((t : Result Task Failure) → P t → Q t) → (r : Result TaskOutcome (Stop Failure)) → MakesBy P r → MakesBy Q r
made_by P Q f (Ok outcome) h = record { task = h.task; is_due = f (Ok h.task) h.is_due; fulfils = h.fulfils; is_true = h.is_true; prints = h.prints }
made_by P Q f (Err stop.NoMemory) h = tt
made_by P Q f (Err (stop.Fault failure)) h = f (Err failure) h

module _ (o : Order) (told : Option Files) (before now : List ℕ → ℕ) where
  -- what is made of the bytes of the inputs comes of the order
  pub made_of : (files : List (List ℕ)) (r : Result TaskOutcome (Stop Failure)) → Reads told before now (inputs o) (Ok files) → MakesBy (Is (task_on o files)) r
      → MakesBy (ComesOf o told before now) r
  made_of files r h m = made_by (Is (task_on o files)) (ComesOf o told before now) (λ t e. record { read = Ok files; reads = h; task_is = e }) r m

  -- where the reading stops, its refusal does
  pub unread : (e : Stop Failure) → ReadsGive told before now (inputs o) (Err e) → MakesBy (ComesOf o told before now) (Err e)
  unread stop.NoMemory h = tt
  unread (stop.Fault failure) h = record { read = Err failure; reads = h; task_is = refl }

-- the name that a task writes
abbrev name_of : Task → Option (List ℕ)
name_of (show_pipeline mean variance stock) = None
name_of (evaluate case stocks bits) = None
name_of (make_plan planning name) = Some name
name_of (confirm claimed) = None
name_of (demonstrate number lines) = None
name_of (sweep_budgets case) = None
name_of (price_target case backorders) = None
name_of (plan_in_turn due) = None
name_of (set_beside case stocks) = None

abbrev written_name : TaskOutcome → Option (List ℕ)
written_name outcome = option_map (λ (w : Written). w.name) outcome.writes

-- what fulfils a task is written under its name
written_as : (task : Task) (outcome : TaskOutcome) → Fulfils task outcome → written_name outcome ≡ name_of task
written_as (show_pipeline mean variance stock) outcome h = ap written_name h
written_as (evaluate case stocks bits) outcome h = ap written_name h
written_as (make_plan planning name) outcome h = ap written_name h.is
written_as (confirm claimed) outcome h = ap written_name h
written_as (demonstrate number lines) outcome h = ap written_name h.is
written_as (sweep_budgets case) outcome h = ap written_name h.is
written_as (price_target case backorders) outcome h = ap written_name h.is
written_as (plan_in_turn due) outcome h = ap written_name h.is
written_as (set_beside case stocks) outcome h = ap written_name h

-- a task that comes of accepted inputs
then_named : {A : Type 0} (r : Result A Failure) (next : A → Task) (name : Option (List ℕ)) (task : Task) → ((a : A) → name_of (next a) ≡ name)
    → (r >>= λ a. Ok (next a)) ≡ Ok task → name_of task ≡ name
then_named (Ok a) next name task h e = subst (λ (r : Result Task Failure). MatchResult r (λ t. name_of t ≡ name) (λ f. ⊤)) e (h a)
then_named (Err failure) next name task h e = grind (arith, e)

rated_name : (fault : Option RateFault) (next task : Task) → unless_refused fault next ≡ Ok task → name_of task ≡ name_of next
rated_name None next task e = subst (λ (r : Result Task Failure). MatchResult r (λ t. name_of t ≡ name_of next) (λ f. ⊤)) e refl
rated_name (Some fault) next task e = grind (arith, e)

session_named : (given : Result CaseRows Failure) (edits : List ℕ) (task : Task)
    → (given >>= λ case. (or_refuse no_names refusal.Edit (session_of case edits) >>= λ due. Ok (plan_in_turn due))) ≡ Ok task → name_of task ≡ None
session_named (Ok case) edits task e = then_named (or_refuse no_names refusal.Edit (session_of case edits)) plan_in_turn None task (λ due. refl) e
session_named (Err failure) edits task e = grind (arith, e)

-- the task of an order is written under the name that the order gives
task_named : (o : Order) (bytes : List (List ℕ)) (task : Task) → task_on o bytes ≡ Ok task → name_of task ≡ output_of (Ok o)
task_named (order.Single mean variance stock) bytes task e = rated_name _ _ task e
task_named (order.Eval sites parts rates stocks bits) bytes task e =
    then_named (stocked_by file.Stocks (tables_in bytes) (bytes_at bytes 3)) (λ stocked. evaluate stocked.case stocked.stocks bits) None task (λ stocked. refl) e
task_named (order.Plan sites parts rates on_hand budget format objective certificate) bytes task e =
    then_named (planning_of (tables_in bytes) (option_map (λ name. bytes_at bytes 3) on_hand) _) (λ planning. make_plan planning certificate) (Some certificate) task
    (λ planning. refl) e
task_named (order.Check certificate) bytes task e = then_named (claimed_of (bytes_at bytes 0)) confirm None task (λ claimed. refl) e
task_named (order.Demo number lines) bytes task e = subst (λ (r : Result Task Failure). MatchResult r (λ t. name_of t ≡ None) (λ f. ⊤)) e refl
task_named (order.Sweep sites parts rates) bytes task e = then_named (case_within_work (tables_in bytes)) sweep_budgets None task (λ case. refl) e
task_named (order.Target sites parts rates backorders) bytes task e =
    then_named (case_within_work (tables_in bytes)) (λ case. price_target case backorders) None task (λ case. refl) e
task_named (order.Session sites parts rates edits) bytes task e = session_named (case_to_edit (tables_in bytes)) (bytes_at bytes 3) task e
task_named (order.Compare sites parts rates stocks) bytes task e =
    then_named (stocked_by file.Stocks (tables_in bytes) (bytes_at bytes 3)) (λ stocked. set_beside stocked.case stocked.stocks) None task (λ stocked. refl) e

nothing_of : (written : Option Written) (name : Option (List ℕ)) → option_map (λ (w : Written). w.name) written ≡ name → name ≡ None → written ≡ None
nothing_of None name e n = refl
nothing_of (Some w) name e n = grind (arith, e, n)

names_due : (order : Result Order WordsFault) (bytes : List (List ℕ)) (task : Task) (outcome : TaskOutcome) → task_on_words order bytes ≡ Ok task → Fulfils task outcome
    → written_name outcome ≡ output_of order
names_due (Ok o) bytes task outcome e f = written_as task outcome f ∙ task_named o bytes task e
names_due (Err fault) bytes task outcome e f = grind (arith, e)

-- ---- an order

module _ (o : Order) (old new : Scene) where
  -- what is due stays due while no read fails
  due_by : (mid : List ℕ → ℕ) (task : Task) (read : Result (List (List ℕ)) Failure) → StandStill mid new.read_faults
      → Reads old.held old.read_faults mid (inputs o) read → Ok task ≡ (read >>= task_on o) → IsDue (Ok o) old new task
  due_by mid task (Ok files) still h e = record { bytes = files; given = record { reads = (h.0, λ name. still name ∙ h.1 name) }; is_due = sym e }
  due_by mid task (Err failure) still h e = grind (arith, e)

  module _ (failure : Failure) (untouched : IsUntouched old new) where
    -- where all inputs gave their bytes, the task is refused
    given_by : (files : List (List ℕ)) (k : Kind) → kind_of failure.refusal ≡ k → Reads old.held old.read_faults new.read_faults (inputs o) (Ok files)
        → task_on o files ≡ Err failure → RefusesBy (Ok o) old new failure k
    given_by files k is h e =
        subst (λ x. RefusesBy (Ok o) old new failure x) (sym (task_kind o files failure e) ∙ is)
        (record { bytes = files; given = record { reads = h }; is_refused = e; has_order = refl; untouched = untouched })

    -- where one didn't, the reading is refused
    stopped_by : (k : Kind) → kind_of failure.refusal ≡ k → StopsAt old.held old.read_faults new.read_faults (inputs o) failure → RefusesBy (Ok o) old new failure k
    stopped_by k is h =
        let s = stops_kind old.held old.read_faults new.read_faults (inputs o) failure h in
        subst (λ x. RefusesBy (Ok o) old new failure x) (sym s.1 ∙ is) (record { stops = h; untouched = untouched })

    refuses_by : (read : Result (List (List ℕ)) Failure) → Reads old.held old.read_faults new.read_faults (inputs o) read → Err failure ≡ (read >>= task_on o)
        → RefusesBy (Ok o) old new failure (kind_of failure.refusal)
    refuses_by (Ok files) h e = given_by files (kind_of failure.refusal) refl h (sym e)
    refuses_by (Err f) h e = stopped_by (kind_of failure.refusal) refl (subst (StopsAt old.held old.read_faults new.read_faults (inputs o)) (sym (subst (λ (r : Result Task Failure). MatchResult r (λ t. ⊥) (λ x. x ≡ f)) (sym e) refl)) h)

  module _ (untouched : IsUntouched old new) (reads : inputs o ≡ [] → StandStill old.read_faults new.read_faults) (writes : StandStill old.write_faults new.write_faults) where
    -- there was no memory
    pub wanting : Performs (Ok o) old new (Err (plain_failure refusal.NoMemory))
    wanting = record { answers = record { failure_is = refl; untouched = untouched }; reads = reads; writes = λ none. writes }

    -- nothing was made
    pub stops : (e : Stop Failure) → MakesBy (ComesOf o old.held old.read_faults new.read_faults) (Err e) → Performs (Ok o) old new (Err (stopped e))
    stops stop.NoMemory h = wanting
    stops (stop.Fault failure) h = record {
      answers = refuses_by failure untouched h.read h.reads h.task_is;
      reads = reads;
      writes = λ none. writes;
    }

-- the scene in the middle, when all was read and nothing was written
pub record IsBefore (old mid new : Scene) : Type 0 where
  pub untouched : IsUntouched old mid
  pub writes : StandStill old.write_faults mid.write_faults
  pub reads : StandStill mid.read_faults new.read_faults

module _ (outcome : TaskOutcome) (old mid new : Scene) (b : IsBefore old mid new) where
  untouched_from : IsUntouched mid new → IsUntouched old new
  untouched_from h = record { held = h.held ∙ b.untouched.held; out = h.out ∙ b.untouched.out; faults = h.faults ∙ b.untouched.faults }

  delivered_from : HasDelivered outcome mid new → HasDelivered outcome old new
  delivered_from h = record {
    held = h.held ∙ ap (after_write outcome.writes) b.untouched.held;
    out = subst (λ out. Gains out new.out (done_text outcome.done)) b.untouched.out h.out;
    faults = h.faults ∙ b.untouched.faults;
    writes = λ name. h.writes name ∙ b.writes name;
  }

  unwritten_from : (written : Option Written) → IsSomeAnd written (λ w. HasFailedToWrite w mid new) → IsSomeAnd written (λ w. HasFailedToWrite w old new)
  unwritten_from None h = absurd h
  unwritten_from (Some w) h = record {
    held = subst (λ held. KeepsOthers w.name held new.held) b.untouched.held h.held;
    out = h.out ∙ b.untouched.out;
    faults = h.faults ∙ b.untouched.faults;
    rose = subst (λ count. Rose count (new.write_faults w.name)) (b.writes w.name) h.rose;
  }

  failed_from : HasFailed outcome mid new → HasFailed outcome old new
  failed_from (inl h) = inl (unwritten_from outcome.writes h)
  failed_from (inr h) = inr (record {
    held = h.held ∙ ap (after_write outcome.writes) b.untouched.held;
    out = subst (λ out. GainsPart out new.out (done_text outcome.done)) b.untouched.out h.out;
    rose = subst (λ count. Rose count new.faults) b.untouched.faults h.rose;
    writes = λ name. h.writes name ∙ b.writes name;
  })

  module _ (o : Order) (made : IsMade (ComesOf o old.held old.read_faults mid.read_faults) outcome)
      (reads : inputs o ≡ [] → StandStill old.read_faults mid.read_faults) (nothing : outcome.writes ≡ None → StandStill mid.write_faults new.write_faults) where
    due_still : IsDue (Ok o) old new made.task
    due_still = due_by o old new mid.read_faults made.task made.is_due.read b.reads made.is_due.reads made.is_due.task_is

    answers : HasDelivered outcome mid new → Answers (Ok o) old new (Ok outcome.done)
    answers h = record {
      task = made.task;
      is_due = due_still;
      outcome = outcome;
      done_is = refl;
      fulfils = made.fulfils;
      is_true = made.is_true;
      delivered = delivered_from h;
    }

    refuses : (failure : Failure) → HasNotDelivered outcome mid new failure → Answers (Ok o) old new (Err failure)
    refuses failure (inl (is, h)) = subst (λ (f : Failure). Answers (Ok o) old new (Err f)) (sym is) (record { failure_is = refl; untouched = untouched_from h })
    refuses failure (inr (is, h)) = subst (λ (f : Failure). Answers (Ok o) old new (Err f)) (sym is) (record {
      failure_is = refl;
      task = made.task;
      is_due = due_still;
      outcome = outcome;
      fulfils = made.fulfils;
      is_true = made.is_true;
      failed = failed_from h;
    })

    performs : (result : Result Done Failure) → Answers (Ok o) old new result → Performs (Ok o) old new result
    performs result h = record {
      answers = h;
      reads = λ none name. b.reads name ∙ reads none name;
      writes = λ none name. nothing (nothing_of outcome.writes (output_of (Ok o)) (names_due (Ok o) due_still.bytes made.task outcome due_still.is_due made.fulfils) none) name ∙ b.writes name;
    }

    delivers : HasDelivered outcome mid new → Performs (Ok o) old new (Ok outcome.done)
    delivers h = performs (Ok outcome.done) (answers h)

    fails : (failure : Failure) → HasNotDelivered outcome mid new failure → Performs (Ok o) old new (Err failure)
    fails failure h = performs (Err failure) (refuses failure h)

    -- what was made is delivered, or its delivery fails
    pub performed : (result : Result Done Failure) → Delivers outcome mid new result → IfOk result (λ done. done ≡ outcome.done) → Performs (Ok o) old new result
    performed (Ok done) h is = subst (λ (d : Done). Performs (Ok o) old new (Ok d)) (sym is) (delivers h)
    performed (Err failure) h is = fails failure h

-- ---- the words

-- a fault of the words
pub wordless : (order : Result Order WordsFault) (fault : WordsFault) (scene : Scene) → order ≡ Err fault
    → Performs order scene scene (Err (plain_failure (refusal.Words fault)))
wordless (Ok o) fault scene e = grind (arith, e)
wordless (Err f) fault scene e = record {
  answers = record { order_is = e; failure_is = refl; untouched = record { held = refl; out = refl; faults = refl } };
  reads = λ none name. refl;
  writes = λ none name. refl;
}

-- no order from the words: a fault of theirs, or want of memory
pub refused_words : (order : Result Order WordsFault) (why : Stop WordsFault) (scene : Scene) → Gives {T = Order} order (Err why)
    → Performs order scene scene (Err (plain_failure (words_refusal why)))
refused_words order stop.NoMemory scene h = record {
  answers = record { failure_is = refl; untouched = record { held = refl; out = refl; faults = refl } };
  reads = λ none name. refl;
  writes = λ none name. refl;
}
refused_words order (stop.Fault fault) scene h = wordless order fault scene h

-- ---- completeness

module _ (order : Result Order WordsFault) (old new : Scene) (held : Files) (failed : NoneFailed order old new) where
  told_due : (read : Result (List (List ℕ)) Failure) → Serves order old.held held → Reads old.held old.read_faults new.read_faults (inputs_of order) read
      → reads held (inputs_of order) ≡ read
  told_due read (inl told) h =
      read_is held old.read_faults new.read_faults (inputs_of order) read failed.reads
      (subst (λ t. Reads t old.read_faults new.read_faults (inputs_of order) read) told h)
  told_due read (inr none) h =
      subst (λ i. reads held i ≡ read) (sym none) (none_is held old.held old.read_faults new.read_faults read
      (subst (λ i. Reads old.held old.read_faults new.read_faults i read) none h))

  module _ (serves : Serves order old.held held) where
    -- the task over the files that are held is that of the bytes that were given
    given_is : (bytes : List (List ℕ)) → HaveGiven order old new bytes → task_of order held ≡ task_on_words order bytes
    given_is bytes h = ap (λ r. r >>= task_on_words order) (told_due (Ok bytes) serves h.reads)

    is_answer : (failure : Failure) → task_of order held ≡ Err failure → Completes (task_of order held) (Err failure)
    is_answer failure e = inr (rw e refl)

    no_write : (written : Option Written) → option_map (λ (w : Written). w.name) written ≡ output_of order → ¬ IsSomeAnd written (λ w. HasFailedToWrite w old new)
    no_write None e h = absurd h
    no_write (Some w) e h = subst (λ (n : Option (List ℕ)). IfSome n (λ name. ¬ Rose (old.write_faults name) (new.write_faults name))) (sym e) failed.writes h.rose

    undelivered : (outcome : TaskOutcome) → option_map (λ (w : Written). w.name) outcome.writes ≡ output_of order → ¬ HasFailed outcome old new
    undelivered outcome e (inl w) = no_write outcome.writes e w
    undelivered outcome e (inr p) = failed.puts p.rose

    complete_by : (failure : Failure) (k : Kind) → RefusesBy order old new failure k → Completes (task_of order held) (Err failure)
    complete_by failure (of_words fault) h =
        is_answer failure (subst (λ (f : Failure). task_of order held ≡ Err f) (sym h.failure_is) (ap (λ o. task_of o held) h.order_is))
    complete_by failure (of_reading file) h = is_answer failure (ap (λ r. r >>= task_on_words order) (told_due (Err failure) serves h.stops))
    complete_by failure of_task h = is_answer failure (given_is h.bytes h.given ∙ h.is_refused)
    complete_by failure of_memory h = inl (ap Err h.failure_is)
    complete_by failure of_writing h = absurd (undelivered h.outcome (names_due order h.is_due.bytes h.task h.outcome h.is_due.is_due h.fulfils) h.failed)

    pub complete : (result : Result Done Failure) → Answers order old new result → Completes (task_of order held) result
    complete (Ok done) h = inr (rw (given_is h.is_due.bytes h.is_due.given ∙ h.is_due.is_due) (h.outcome, (h.fulfils, h.done_is)))
    complete (Err failure) h = complete_by failure (kind_of failure.refusal) h

-- ---- run

-- what an order performs with a report is a run, where nothing is put to the place for refusals
pub done : (words : List (List ℕ)) (old new : Scene) (before after : Errors) (report : Done) → Performs (order_of words) old new (Ok report)
    → after.bytes ≡ before.bytes → after.faults ≡ before.faults → Runs words old new before after (Ok report)
done words old new before after report h b f = record {
  line = [];
  performs = h;
  completes = λ held serves failed. complete (order_of words) old new held failed serves (Ok report) h.answers;
  puts = (b, f);
}

-- what an order performs with a failure is a run, where the failure's line is put there
pub refused : (words : List (List ℕ)) (old new : Scene) (before after : Errors) (failure : Failure) → Performs (order_of words) old new (Err failure)
    → PutsLine failure.line before.bytes before.faults after.bytes after.faults → Runs words old new before after (Err failure.refusal)
refused words old new before after failure h puts = record {
  line = failure.line;
  performs = h;
  completes = λ held serves none. complete (order_of words) old new held none serves (Err failure) h.answers;
  puts = puts;
}
