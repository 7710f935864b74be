-- A task's own refusals are of its kind.
use Rattle.std.proofs.Common.{◌≡◌, refl, Option, Some, None, Err, ℕ, List}
use Rattle.std.specs.Option.{option_map}
use Rattle.case_edits.specs.Edits.{session_of}
use Rattle.case_tables.proofs.Public.{Refuses, is_of_task, or_refuses, then_refuses}
use Rattle.demand_rates.specs.declared.fault.RateFault.{RateFault}
use Rattle.held_work.specs.Work.{held_work_of}
use Rattle.price_certificate.specs.declared.certificate.Terms.{Terms}
use Rattle.refusals.specs.Causes.{of_task, kind_of, or_refuse}
use Rattle.refusals.specs.Lines.{no_names}
use Rattle.refusals.specs.declared.failure.Failure.{Failure}
use Rattle.refusals.specs.declared.refusal.File.TheVariants as file
use Rattle.refusals.specs.declared.refusal.Refusal.TheVariants as refusal
use Rattle.spares_input.specs.Cases.{frame_rows}
use Rattle.spares_words.specs.declared.order.Order.{Order}
use Rattle.spares_words.specs.declared.order.Order.TheVariants as order
use Rattle.order_inputs.specs.Cases.{case_to_edit, case_within_work, stocked_by}
use Rattle.order_inputs.specs.Files.{CaseBytes, bytes_at, tables_in}
use Rattle.order_inputs.proofs.Public.{at_stocks_refuses, to_edit_refuses, within_work_refuses}
use Rattle.command_outcomes.specs.Checks.{claimed_of, form_of, judged_of}
use Rattle.command_outcomes.specs.Plans.{planning_of}
use Rattle.command_outcomes.specs.Task.{Task, task_on, unless_refused}

-- the tables of a plan, or its work
planning_refuses : (tables : CaseBytes) (on_hand : Option (List ℕ)) (terms : Terms) → Refuses (planning_of tables on_hand terms)
planning_refuses tables None terms = then_refuses (case_within_work tables) _ (within_work_refuses tables) (λ case. tt)
planning_refuses t (Some stocks) terms =
    then_refuses (stocked_by file.OnHand t stocks) _ (at_stocks_refuses file.OnHand t stocks) (λ given.
    then_refuses (or_refuse no_names refusal.Work (held_work_of given.case given.stocks.list)) _
    (or_refuses no_names refusal.Work (held_work_of given.case given.stocks.list) (λ count. refl)) (λ work. tt))

-- a certificate, by its form or by a rule
claimed_refuses : (bytes : List ℕ) → Refuses (claimed_of bytes)
unfolding claimed_of
claimed_refuses bytes =
    then_refuses (or_refuse no_names refusal.Cert (form_of bytes)) _ (or_refuses no_names refusal.Cert (form_of bytes) (λ fault. refl)) (λ claimed.
    then_refuses (or_refuse (frame_rows claimed.certificate.case) refusal.Rejected (judged_of claimed)) _
    (or_refuses (frame_rows claimed.certificate.case) refusal.Rejected (judged_of claimed) (λ reject. refl)) (λ accepted. tt))

rate_refuses : (fault : Option RateFault) (task : Task) → Refuses (unless_refused fault task)
rate_refuses None task = tt
rate_refuses (Some fault) task = refl

task_refuses : (o : Order) (bytes : List (List ℕ)) → Refuses (task_on o bytes)
task_refuses (order.Single mean variance stock) bytes = rate_refuses _ _
task_refuses (order.Eval sites parts rates stocks bits) bytes =
    then_refuses (stocked_by file.Stocks (tables_in bytes) (bytes_at bytes 3)) _ (at_stocks_refuses file.Stocks (tables_in bytes) (bytes_at bytes 3)) (λ stocked. tt)
task_refuses (order.Plan sites parts rates on_hand budget format objective certificate) bytes =
    then_refuses (planning_of (tables_in bytes) (option_map (λ name. bytes_at bytes 3) on_hand) _) _
    (planning_refuses (tables_in bytes) (option_map (λ name. bytes_at bytes 3) on_hand) _) (λ planning. tt)
task_refuses (order.Check certificate) bytes = then_refuses (claimed_of (bytes_at bytes 0)) _ (claimed_refuses (bytes_at bytes 0)) (λ claimed. tt)
task_refuses (order.Demo number lines) bytes = tt
task_refuses (order.Sweep sites parts rates) bytes = then_refuses (case_within_work (tables_in bytes)) _ (within_work_refuses (tables_in bytes)) (λ case. tt)
task_refuses (order.Target sites parts rates backorders) bytes =
    then_refuses (case_within_work (tables_in bytes)) _ (within_work_refuses (tables_in bytes)) (λ case. tt)
task_refuses (order.Session sites parts rates edits) bytes =
    then_refuses (case_to_edit (tables_in bytes)) _ (to_edit_refuses (tables_in bytes)) (λ case.
    then_refuses (or_refuse no_names refusal.Edit (session_of case (bytes_at bytes 3))) _ (or_refuses no_names refusal.Edit (session_of case (bytes_at bytes 3)) (λ fault. refl)) (λ due. tt))
task_refuses (order.Compare sites parts rates stocks) bytes =
    then_refuses (stocked_by file.Stocks (tables_in bytes) (bytes_at bytes 3)) _ (at_stocks_refuses file.Stocks (tables_in bytes) (bytes_at bytes 3)) (λ stocked. tt)

-- the kind of a task's own refusal
pub task_kind : (o : Order) (bytes : List (List ℕ)) (failure : Failure) → task_on o bytes ≡ Err failure → kind_of failure.refusal ≡ of_task
task_kind o bytes failure e = is_of_task (task_on o bytes) failure (task_refuses o bytes) e
