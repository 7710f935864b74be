use Rattle.held_certificate.proofs.Exact.{held_format_is_exact}
use Rattle.held_certificate.proofs.Inverse.{again, its_text, bad_line}
use Rattle.held_certificate.proofs.Refused.{bad_case, only_bad_case}
use Rattle.held_certificate.proofs.exactness.held_certificates_are_exact.Goals as goal

pub returns-clause-exact : goal.returns-clause-exact
returns-clause-exact c = held_format_is_exact

pub returns-clause-again : goal.returns-clause-again
returns-clause-again c = λ h w. again h w

pub returns-clause-its_text : goal.returns-clause-its_text
returns-clause-its_text c = λ bytes h e. (its_text bytes h e).1

pub returns-clause-bad_line : goal.returns-clause-bad_line
returns-clause-bad_line c = λ bytes n e. bad_line bytes n e

pub returns-clause-bad_case : goal.returns-clause-bad_case
returns-clause-bad_case c = λ bytes f e. bad_case bytes f e

pub returns-clause-only_bad_case : goal.returns-clause-only_bad_case
returns-clause-only_bad_case c = λ bytes f h. only_bad_case bytes f h
