-- A certificate that isn't read, as the answer of a call that reads one of the two forms.
use Rattle.std.proofs.Common.{ap, Result, Err}
use Rattle.answers.specs.Answers.{Gives}
use Rattle.answers.specs.declared.stop.Stop.{Stop}
use Rattle.answers.specs.declared.stop.Stop.TheVariants as stop
use Rattle.held_certificate.specs.declared.held.HeldCertificate.{HeldCertificate}
use Rattle.price_certificate.specs.declared.certificate.Certificate.{Certificate}
use Rattle.price_certificate.specs.declared.fault.CertFault.{CertFault}
use Rattle.command_outcomes.specs.Checks.{with_held, with_nothing}

-- a held certificate that isn't read
pub held_unread : (given : Result HeldCertificate CertFault) (e : Stop CertFault) → Gives given (Err e) → Gives (with_held given) (Err e)
held_unread given stop.NoMemory h = tt
held_unread given (stop.Fault fault) h = ap with_held h

-- another certificate that isn't read
pub plain_unread : (given : Result Certificate CertFault) (e : Stop CertFault) → Gives given (Err e) → Gives (with_nothing given) (Err e)
plain_unread given stop.NoMemory h = tt
plain_unread given (stop.Fault fault) h = ap with_nothing h
