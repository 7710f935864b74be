use Rattle.std.proofs.Common.{subst, ◌∙◌}
use Rattle.order_inputs.specs.Reading.{ReadsGive}
use Rattle.order_inputs.proofs.ReadInputs.{reads_within}
use Rattle.order_inputs.proofs.files.files_of.Goals as goal

pub returns-clause-reads : goal.returns-clause-reads
returns-clause-reads g c =
    subst (λ i. ReadsGive (g.H.Shelf.held c.args.shelf.now) (g.H.Shelf.read_faults c.args.shelf.now) (g.H.Shelf.read_faults c.read_files.new.shelf) i c.read_files.result)
    (c.as_slice.ensures.value ∙ c.in_ok-inputs.ensures) c.read_files.ensures.reads

pub returns-clause-nothing : goal.returns-clause-nothing
returns-clause-nothing g c = λ none. c.read_files.ensures.nothing (c.as_slice.ensures.value ∙ c.in_ok-inputs.ensures ∙ none)

pub returns-clause-within : goal.returns-clause-within
returns-clause-within g c = reads_within _ _ _ _ _ (returns-clause-reads g c)
