use Rattle.std.proofs.Common.{refl}
use Rattle.std.proofs.lemmas.Result.{err_from_is_err_and}
use Rattle.command_outcomes.specs.State.{scene}
use Rattle.command_outcomes.proofs.Public.{performed, stops}
use Rattle.spares_top.proofs.work.perform.Goals as goal

pub returns-in_err-outcome : goal.returns-in_err-outcome
returns-in_err-outcome g c =
    let p = err_from_is_err_and c.from_residual.result c.from_residual.ensures.1 in
    rw (p.1, p.2) (stops c.args.order.now _ _ (record { held = c.outcome_of.ensures.held; out = refl; faults = refl }) c.outcome_of.ensures.reads c.outcome_of.ensures.writes
    _ c.in_err-outcome.ensures.makes)

pub returns : goal.returns
returns g c =
    performed c.in_ok-outcome.outcome _
    (scene (g.H.Shelf.held c.outcome_of.new.shelf) (g.H.Shelf.read_faults c.outcome_of.new.shelf) (g.H.Shelf.write_faults c.outcome_of.new.shelf)
    (g.W.Sink.bytes c.args.out.now) (g.W.Sink.faults c.args.out.now)) _
    (record { untouched = record { held = c.outcome_of.ensures.held; out = refl; faults = refl }; writes = c.outcome_of.ensures.writes; reads = c.finish.ensures.reads })
    c.args.order.now c.in_ok-outcome.ensures.makes c.outcome_of.ensures.reads c.finish.ensures.nothing c.finish.result c.finish.ensures.delivers c.finish.ensures.report
