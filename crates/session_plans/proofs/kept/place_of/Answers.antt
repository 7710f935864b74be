use Rattle.std.proofs.Common.{sym}
use Rattle.session_plans.proofs.Families.{place_found, place_there}
use Rattle.session_plans.proofs.kept.place_of.Goals as goal

pub returns-in-Some : goal.returns-in-Some
returns-in-Some c =
    let found = place_found c.args.case.now c.invariant.ensures.valid c.line_units.result.now c.line_units.ensures c.args.part.0 c.home_of.result.0 c.in-Some.place c.home_of.ensures.home (sym c.in-Some.ensures) in
    record { place = found.0; within = found.1 }

pub returns-in-None : goal.returns-in-None
returns-in-None c = absurd (place_there c.args.case.now c.invariant.ensures.valid c.line_units.result.now c.line_units.ensures c.home_of.result.0 c.home_of.ensures.line (sym c.in-None.ensures))
