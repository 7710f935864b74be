use Rattle.std.proofs.Common.{sym, ◌∙◌}
use Rattle.spares_input.proofs.SiteFacts.{site_place}
use Rattle.spares_input.proofs.PartFacts.{site_named}
use Rattle.spares_input.proofs.frame.Frame.find_site.Goals as goal

pub returns-in-Some-clause-place : goal.returns-in-Some-clause-place
returns-in-Some-clause-place c =
    rw (← c.self.view_is) (sym (site_place c.args.name.now c.self.inside.sites.items ∙ rw c.as_slice.ensures.value at (sym c.in-Some.ensures)))

pub returns-in-Some-clause-row : goal.returns-in-Some-clause-row
returns-in-Some-clause-row c =
    let place = site_place c.args.name.now c.self.inside.sites.items ∙ rw c.as_slice.ensures.value at (sym c.in-Some.ensures) in
    rw (← c.self.view_is) (site_named c.self.inside.sites.items c.args.name.now c.in-Some.place place)

pub returns-in-None-clause-place : goal.returns-in-None-clause-place
returns-in-None-clause-place c =
    rw (← c.self.view_is) (sym (site_place c.args.name.now c.self.inside.sites.items ∙ rw c.as_slice.ensures.value at (sym c.in-None.ensures)))
