use Rattle.held_certificate.proofs.Refused.{held_form, plain_form}
use Rattle.held_certificate.proofs.exactness.forms_are_told_apart.Goals as goal

pub returns-clause-held : goal.returns-clause-held
returns-clause-held c = λ h. held_form h

pub returns-clause-plain : goal.returns-clause-plain
returns-clause-plain c = λ x. plain_form x
