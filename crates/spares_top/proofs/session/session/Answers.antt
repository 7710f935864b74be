use Rattle.order_inputs.specs.Cases.{case_to_edit}
use Rattle.order_inputs.specs.Given.{bytes_of}
use Rattle.spares_top.proofs.Answered.{answered}
use Rattle.spares_top.proofs.session.session.Goals as goal

pub returns-in-Ok : goal.returns-in-Ok
returns-in-Ok c =
    rw c.printed.ensures
    (answered c.in_ok-case.case c.args.edits.now (case_to_edit (bytes_of c.args.tables.now)) c.in_ok-case.ensures.answer c.in-Ok.report c.in-Ok.ensures.answer c.in-Ok.ensures.fits)
