use Rattle.std.proofs.Common.{◌+◌, ap, ◌∙◌, subst, sym}
use Rattle.price_bounds.specs.Sums.{cost_of}
use Rattle.step_walk.specs.Prefix.{picked}
use Rattle.part_filling.specs.Known.{IsFound}
use Rattle.part_filling.specs.Widening.{AllStay, HasWidened}
use Rattle.part_filling.proofs.Found.{IsBestKnown, found_known, most_small}
use Rattle.part_filling.proofs.filling.next_change.Goals as goal

pub settle-requires-clause-most : goal.settle-requires-clause-most
settle-requires-clause-most g c =
    let i = c.passes.invariant in
    most_small (g.F.Families.points c.args.families.now) c.passes.known.curves.items c.passes.known.windows.items c.passes.known.beyond.items c.requires.families i.known
    c.passes.known.picks.items _ c.passes.change c.most_of.result i.vertices i.best c.most_of.ensures

pub returns-clause-found : goal.returns-clause-found
returns-clause-found g c =
    let i = c.passes.invariant in
    let e = c.in_ok-settle.ensures in
    let change = c.passes.change in
    let left = c.args.left in
    let stay : AllStay c.passes.known c.settle.new.known = subst (λ w. HasWidened w c.passes.known c.settle.new.known) c.if-branch.false e.widened in
    let known = c.settle.new.known.curves.items in
    let picks = c.settle.new.known.picks.items in
    let best : IsBestKnown known (cost_of (picked known picks) + left) picks change =
    subst (λ ks. IsBestKnown ks (cost_of (picked ks picks) + left) picks change) (sym stay.curves)
    (subst (λ ps. IsBestKnown c.passes.known.curves.items (cost_of (picked c.passes.known.curves.items ps) + left) ps change) (sym stay.picks) i.best) in
    subst (λ m. IsFound (g.F.Families.points c.args.families.now) m known picks change) (ap (λ vs. cost_of vs + left) (e.picks ∙ i.picks))
    (found_known (g.F.Families.points c.args.families.now) known c.settle.new.known.windows.items c.settle.new.known.beyond.items c.requires.families e.known
    picks left c.most_of.result change e.vertices e.settled best c.most_of.ensures)
