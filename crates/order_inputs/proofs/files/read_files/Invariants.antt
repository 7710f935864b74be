use Rattle.std.proofs.Common.{take}
use Rattle.order_inputs.proofs.ReadInputs.{IsReadSoFar}
use Rattle.order_inputs.proofs.files.read_files.Given as goal

abbrev pub invariant-loop-input : goal.invariant-loop-input
invariant-loop-input g l =
    IsReadSoFar (g.H.Shelf.held l.initial.shelf) (g.H.Shelf.held l.shelf) (g.H.Shelf.read_faults l.initial.shelf) (g.H.Shelf.read_faults l.shelf)
    (g.H.Shelf.write_faults l.initial.shelf) (g.H.Shelf.write_faults l.shelf) (take l.input-index l.inputs) l.files.items
