use Rattle.std.proofs.Common.{List, sym, subst}
use Rattle.price_certificate.specs.declared.certificate.Node.{Node}
use Rattle.price_certificate.specs.Certificates.{IsWellFormed}
use Rattle.certified_plan.proofs.Formed.{well_formed}
use Rattle.certified_plan.proofs.certifying.certificate.Goals as goal

pub returns-clause-formed : goal.returns-clause-formed
returns-clause-formed c =
    let terms = c.args.terms in
    let plan = c.args.plan in
    subst (λ (z : List (List Node)). IsWellFormed (record { format = terms.format; objective = terms.objective; case = c.args.case; budget = terms.budget; price = plan.price; floors = plan.floors; covers = z; stocks = plan.stocks; upper = plan.upper; bound = plan.report.bound }))
    (sym c.in_ok-covers.ensures)
    (well_formed c.args.case c.args.held.now terms plan c.requires)
