use Rattle.std.proofs.Common.{subst, sym}
use Rattle.spares_input.specs.Cases.{CaseRows, frame_rows, IsRateOf}
use Rattle.spares_input.proofs.CaseFacts.{set_valid}
use Rattle.spares_input.proofs.case.Case.set_rate.Goals as goal

pub invariant_of-self : goal.invariant_of-self
invariant_of-self c =
    set_valid (record { sites = c.self.inside.frame.sites; parts = c.self.inside.frame.parts; rates = c.self.inside.rates.items })
    c.args.row c.pair_place.result c.self.invariant
    (subst (λ (v : CaseRows). IsRateOf (frame_rows v) c.args.row) (sym c.self.view_is) c.requires)
    (rw c.site_count-sites.ensures.count at c.pair_place.ensures.place)
