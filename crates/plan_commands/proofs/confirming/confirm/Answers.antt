use Rattle.std.proofs.Common.{◌≡◌, None, subst, sym}
use Rattle.family_points.specs.Points.{plain_ends}
use Rattle.gap_rules.specs.Refusals.{reject_of}
use Rattle.price_certificate.specs.Certificates.{IsWellFormed}
use Rattle.price_certificate.specs.declared.certificate.Certificate.{Certificate}
use Rattle.price_certificate.specs.declared.certificate.Objective.TheVariants.{Backorders}
use Rattle.spares_input.specs.Stocks.{nothing_held}
use Rattle.plan_commands.proofs.confirming.confirm.Goals as goal

pub check_sound-requires-clause-formed : goal.check_sound-requires-clause-formed
check_sound-requires-clause-formed c = subst IsWellFormed (sym c.in_ok-back.ensures) c.requires.formed

pub check_sound-requires-clause-objective : goal.check_sound-requires-clause-objective
check_sound-requires-clause-objective c = subst (λ (x : Certificate). x.objective ≡ Backorders) (sym c.in_ok-back.ensures) c.requires.objective

pub check_sound-requires-clause-accepted : goal.check_sound-requires-clause-accepted
check_sound-requires-clause-accepted c =
    subst (λ (x : Certificate). reject_of plain_ends x (nothing_held x.case) ≡ None) (sym c.in_ok-back.ensures) c.requires.accepted
