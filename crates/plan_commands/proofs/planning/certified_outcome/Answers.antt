use Rattle.std.proofs.Common.{Ok, Some, ap, ◌∙◌, sym, subst}
use Rattle.certified_plan.specs.Certificates.{certificate_of, text_of}
use Rattle.certified_plan.specs.Inputs.{IsPlanOn}
use Rattle.plan_report.specs.declared.plan.PlanReport.{PlanReport}
use Rattle.price_certificate.specs.declared.certificate.Certificate.{Certificate}
use Rattle.spares_input.specs.Stocks.{StockList}
use Rattle.command_outcomes.specs.Making.{Is, IsMade}
use Rattle.plan_commands.specs.Planning.{planning_on}
use Rattle.command_outcomes.specs.Task.{make_plan}
use Rattle.command_outcomes.specs.declared.done.Done.TheVariants.{Planned}
use Rattle.command_outcomes.specs.declared.done.Written.{Written}
use Rattle.plan_commands.proofs.Planned.{made_of, on_plan, well_held}
use Rattle.plan_commands.proofs.planning.certified_outcome.Goals as goal

pub certificate-requires : goal.certificate-requires
certificate-requires c =
    let g = c.args.ground in
    subst (λ (s : StockList). IsPlanOn g.given.case s g.terms c.args.plan) (sym c.requires.held) (on_plan g c.requires.ground c.args.plan c.requires.plan)

pub certificate_text-requires-clause-held : goal.certificate_text-requires-clause-held
certificate_text-requires-clause-held c =
    let cert = c.in_ok-made.ensures.certificate in
    well_held c.args.ground c.requires.ground c.in_ok-made.made.certificate c.in_ok-made.ensures.formed
    (ap (λ (x : Certificate). x.case) cert, ap (λ (x : Certificate). x.format) cert)

pub returns : goal.returns
returns c =
    let g = c.args.ground in
    let text = c.in_ok-bytes.ensures ∙ ap (λ (k : Certificate). text_of k g.on_hand)
    (c.in_ok-made.ensures.certificate ∙ ap (λ (s : StockList). certificate_of g.given.case s g.terms c.args.plan) c.requires.held) in
    subst (λ (w : Written). IsMade (Is (Ok (make_plan (planning_on g) c.args.name.now))) (record { done = Planned c.in_ok-made.made.report; writes = Some w }))
    (sym c.in_ok-written.ensures)
    (subst (λ (r : PlanReport). IsMade (Is (Ok (make_plan (planning_on g) c.args.name.now)))
    (record { done = Planned r; writes = Some (record { name = c.args.name.now; bytes = c.in_ok-bytes.bytes.items }) }))
    (sym c.in_ok-made.ensures.report)
    (made_of g c.requires.ground c.args.plan c.requires.plan c.args.name.now c.in_ok-bytes.bytes.items text))
