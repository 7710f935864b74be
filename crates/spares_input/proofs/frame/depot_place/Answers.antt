use Rattle.std.proofs.Common.{sym}
use Rattle.spares_input.proofs.SiteFacts.{kinds_no_depot, kinds_no_base, kinds_both}
use Rattle.spares_input.proofs.frame.depot_place.Goals as goal

pub returns-in_default : goal.returns-in_default
returns-in_default c = kinds_no_depot c.args.sites.now (sym c.in_default.ensures)

pub returns-then-not-has_base : goal.returns-then-not-has_base
returns-then-not-has_base c = kinds_no_base c.args.sites.now c.in-Some.depot (sym c.in-Some.ensures) (sym c.if-not-has_base.ensures)

pub returns : goal.returns
returns c =
    let place = sym c.in-Some.ensures in
    (kinds_both c.args.sites.now c.in-Some.depot place (sym c.if-not-has_base.ensures), place)
