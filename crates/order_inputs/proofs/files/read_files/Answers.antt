use Rattle.std.proofs.lemmas.Result.{err_from_is_err_and}
use Rattle.order_inputs.proofs.ReadInputs.{reading_goes_on, reading_stops}
use Rattle.order_inputs.proofs.files.read_files.Goals as goal

pub returns-in_err-bytes-clause-reads : goal.returns-in_err-bytes-clause-reads
returns-in_err-bytes-clause-reads g c =
    let p = err_from_is_err_and c.from_residual.result c.from_residual.ensures.1 in
    rw (p.1, p.2) (reading_stops _ _ _ _ _ _ c.args.inputs.now c.loop-input.input-index c.input-item.result c.loop-input-test.true c.input-item.is c.loop-input.files.items
    c.loop-input.invariant _ _ c.in_err-bytes.ensures.stops)

pub loop-input-preserved : goal.loop-input-preserved
loop-input-preserved g c =
    rw c.in_ok-push.ensures.items (reading_goes_on (g.H.Shelf.held c.args.shelf.now) (g.H.Shelf.held c.loop-input.shelf) (g.H.Shelf.read_faults c.args.shelf.now)
    (g.H.Shelf.read_faults c.loop-input.shelf) (g.H.Shelf.write_faults c.args.shelf.now) (g.H.Shelf.write_faults c.loop-input.shelf) c.args.inputs.now
    c.loop-input.input-index c.input-item.result c.loop-input-test.true c.input-item.is c.loop-input.files.items c.loop-input.invariant
    (g.H.Shelf.held c.read_file.new.shelf) (g.H.Shelf.read_faults c.read_file.new.shelf) (g.H.Shelf.write_faults c.read_file.new.shelf) c.in_ok-bytes.bytes
    c.in_ok-bytes.ensures.held c.in_ok-bytes.ensures.bytes c.in_ok-bytes.ensures.still c.in_ok-bytes.ensures.writes)
