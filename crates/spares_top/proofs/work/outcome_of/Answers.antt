use Rattle.std.proofs.Common.{subst}
use Rattle.std.proofs.lemmas.Result.{err_from_is_err_and}
use Rattle.command_outcomes.specs.Making.{Is, MakesBy}
use Rattle.command_outcomes.specs.Task.{task_on}
use Rattle.command_outcomes.proofs.Public.{made_of, unread}
use Rattle.spares_top.proofs.work.outcome_of.Goals as goal

pub returns-clause-makes : goal.returns-clause-makes
returns-clause-makes g c =
    made_of c.args.order.now (g.H.Shelf.held c.args.shelf.now) (g.H.Shelf.read_faults c.args.shelf.now) (g.H.Shelf.read_faults c.files_of.new.shelf) c.in_ok-files.files
    c.outcome_on.result c.in_ok-files.ensures.reads
    (subst (λ files. MakesBy (Is (task_on c.args.order.now files)) c.outcome_on.result) c.as_slice.ensures c.outcome_on.ensures)

pub returns-in_err-files-clause-makes : goal.returns-in_err-files-clause-makes
returns-in_err-files-clause-makes g c =
    let p = err_from_is_err_and c.from_residual.result c.from_residual.ensures.1 in
    rw (p.1, p.2) (unread c.args.order.now (g.H.Shelf.held c.args.shelf.now) (g.H.Shelf.read_faults c.args.shelf.now) (g.H.Shelf.read_faults c.files_of.new.shelf) _
    c.in_err-files.ensures.reads)
