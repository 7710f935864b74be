use Rattle.std.proofs.Common.{refl, sym, length}
use Rattle.spares_input.specs.First.{first}
use Rattle.spares_input.specs.Frames.{site_fault}
use Rattle.spares_input.proofs.Firsts.{first_more, first_found}
use Rattle.spares_input.proofs.frame.sites_fault.Goals as goal

pub loop-k-init : goal.loop-k-init
unfolding first
loop-k-init c = refl

pub returns-in-Some : goal.returns-in-Some
returns-in-Some c =
    sym (first_found (site_fault c.args.sites.now) c.loop-k.k (length c.args.sites.now) c.in-Some.fault c.loop-k.invariant (sym c.in-Some.ensures) c.loop-k-test.true)

pub loop-k-preserved : goal.loop-k-preserved
loop-k-preserved c = first_more (site_fault c.args.sites.now) c.loop-k.k c.loop-k.invariant (sym c.in_default.ensures)
