use Rattle.std.proofs.Common.{◌≡◌, ◌∙◌, ap, sym, true, false, Some}
use Rattle.std.specs.FinMap.{remove}
use Rattle.spares_io.specs.Causes.{next_count}
use Rattle.spares_io.specs.Memory.{ShelfMemory, counted, first_half, shelf_fails}
use Rattle.spares_io.specs.Shelf.{Files, with_file}
use Rattle.spares_io.proofs.Find.{remove_insert}
use Rattle.spares_io.proofs.memory_shelf.MemShelfShelf.write.Goals as goal

pub returns-then-begin_call-clause-others : goal.returns-then-begin_call-clause-others
returns-then-begin_call-clause-others c = λ _.
    ap (λ (files : Files). Some (remove files c.args.name.now)) c.in_ok-write_file.ensures.written
    ∙ ap Some (remove_insert _ c.args.name.now _)
    ∙ ap (λ (shelf : ShelfMemory). Some (remove shelf.files c.args.name.now)) c.self.view_is

pub returns-then-begin_call-clause-calls : goal.returns-then-begin_call-clause-calls
returns-then-begin_call-clause-calls c =
    let listed : shelf_fails c.args.self.now ≡ true = ap shelf_fails (sym c.self.view_is) ∙ sym c.begin_call.ensures.listed ∙ c.if-begin_call.true in (
      listed,
      (λ i. record {
        files = c.in_ok-write_file.ensures.written i;
        fails = c.begin_call.ensures.fails i;
        calls = c.begin_call.ensures.calls i;
        failed_reads = c.self.inside.failed_reads;
        failed_writes = c.saturating_add-self-inside.ensures i;
      })
          ∙ ap (λ (shelf : ShelfMemory). record (counted shelf) {
            files = with_file shelf.files c.args.name.now (first_half c.args.bytes.now);
            failed_writes = next_count shelf.failed_writes;
          }) c.self.view_is,
    )

pub returns-clause-calls : goal.returns-clause-calls
returns-clause-calls c =
    let unlisted : shelf_fails c.args.self.now ≡ false = ap shelf_fails (sym c.self.view_is) ∙ sym c.begin_call.ensures.listed ∙ c.if-begin_call.false in (
      unlisted,
      (λ i. record {
        files = c.in_ok-write_file-2.ensures.written i;
        fails = c.begin_call.ensures.fails i;
        calls = c.begin_call.ensures.calls i;
        failed_reads = c.self.inside.failed_reads;
        failed_writes = c.self.inside.failed_writes;
      })
          ∙ ap (λ (shelf : ShelfMemory). record (counted shelf) {
            files = with_file shelf.files c.args.name.now c.args.bytes.now;
          }) c.self.view_is,
    )
