use Rattle.std.proofs.Common.{◌∙◌, ap, sym, subst, refl, Bool, Err, Some, if◌then◌else◌}
use Rattle.spares_io.specs.Causes.{next_count}
use Rattle.spares_io.specs.Memory.{ShelfMemory, after_read, counted, files_of, read_of, Reads, within}
use Rattle.spares_io.specs.Shelf.{file_of}
use Rattle.spares_io.specs.declared.shelf.ShelfError.TheVariants.{Failed}
use Rattle.spares_io.proofs.memory_shelf.MemShelfShelf.read.Goals as goal

pub returns-then-begin_call-clause-held : goal.returns-then-begin_call-clause-held
returns-then-begin_call-clause-held c = ap (λ (shelf : ShelfMemory). Some shelf.files) c.self.view_is

pub returns-then-begin_call-clause-answer : goal.returns-then-begin_call-clause-answer
returns-then-begin_call-clause-answer c =
    let bytes = file_of (files_of c.self.inside.files.items) c.args.name.now in
    subst (λ (shelf : ShelfMemory). Reads (read_of shelf c.args.name.now c.args.limit) (Err Failed) c.clear.new.self.items) c.self.view_is
    (subst (λ (b : Bool). Reads (if b then Err Failed else within c.args.limit bytes) (Err Failed) c.clear.new.self.items)
    (sym c.if-begin_call.true ∙ c.begin_call.ensures.listed) refl)

pub returns-then-begin_call-clause-state : goal.returns-then-begin_call-clause-state
returns-then-begin_call-clause-state c =
    let old : ShelfMemory = record {
      files = files_of c.self.inside.files.items;
      fails = c.self.inside.schedule.fails.items;
      calls = c.self.inside.schedule.calls;
      failed_reads = c.self.inside.failed_reads;
      failed_writes = c.self.inside.failed_writes;
    } in
    (λ i. record {
      files = old.files;
      fails = c.begin_call.ensures.fails i;
      calls = c.begin_call.ensures.calls i;
      failed_reads = c.saturating_add-self-inside.ensures i;
      failed_writes = old.failed_writes;
    })
    ∙ ap (λ b. if b then record old { calls = next_count old.calls; failed_reads = next_count old.failed_reads } else counted old)
    (sym c.if-begin_call.true ∙ c.begin_call.ensures.listed)
    ∙ ap after_read c.self.view_is

pub returns-clause-held : goal.returns-clause-held
returns-clause-held c = ap (λ (shelf : ShelfMemory). Some shelf.files) c.self.view_is

pub returns-clause-answer : goal.returns-clause-answer
returns-clause-answer c =
    let bytes = file_of (files_of c.self.inside.files.items) c.args.name.now in
    let result = c.read_file.result in
    let into = c.read_file.new.into.items in
    subst (λ (shelf : ShelfMemory). Reads (read_of shelf c.args.name.now c.args.limit) result into) c.self.view_is
    (subst (λ (b : Bool). Reads (if b then Err Failed else within c.args.limit bytes) result into) (sym c.if-begin_call.false ∙ c.begin_call.ensures.listed)
    (rw c.as_slice.ensures.value at c.read_file.ensures.answer))

pub returns-clause-state : goal.returns-clause-state
returns-clause-state c =
    let old : ShelfMemory = record {
      files = files_of c.self.inside.files.items;
      fails = c.self.inside.schedule.fails.items;
      calls = c.self.inside.schedule.calls;
      failed_reads = c.self.inside.failed_reads;
      failed_writes = c.self.inside.failed_writes;
    } in
    (λ i. record {
      files = old.files;
      fails = c.begin_call.ensures.fails i;
      calls = c.begin_call.ensures.calls i;
      failed_reads = old.failed_reads;
      failed_writes = old.failed_writes;
    })
    ∙ ap (λ b. if b then record old { calls = next_count old.calls; failed_reads = next_count old.failed_reads } else counted old)
    (sym c.if-begin_call.false ∙ c.begin_call.ensures.listed)
    ∙ ap after_read c.self.view_is
