use Rattle.std.proofs.Common.{◌∷◌, ◌++◌, [], length, sym, ap, ◌∙◌, subst, arith, OnOk}
use Rattle.hull.specs.declared.point.Point.{Point}
use Rattle.hull.specs.Curves.{InRange, StandFor}
use Rattle.family_points.proofs.Public.{choice_range}
use Rattle.family_bases.proofs.curves.take_choice.Goals as goal

pub take-requires-clause-order : goal.take-requires-clause-order
take-requires-clause-order g c = λ v m. (let order = c.requires.order v m in omega (arith, order, ap (λ (p : Point). p.cost) c.spot_by_row-spot.ensures, c.requires.choice.cost))

pub take-requires-clause-range : goal.take-requires-clause-range
take-requires-clause-range g c =
    let here = c.args.here.now in
    subst InRange (sym c.spot_by_row-spot.ensures)
    (choice_range here.family.now c.requires.here.valid here.site.0 c.args.choice.now c.requires.choice c.requires.here.site g.S.Score.ends g.met.S.Score.leaves_room here.depot.now c.requires.here.depot)

pub take-requires-clause-width : goal.take-requires-clause-width
take-requires-clause-width g c = λ v m. c.requires.width v m ∙ sym (ap (λ (p : Point). length p.stocks) c.spot_by_row-spot.ensures)

pub returns-clause-stands : goal.returns-clause-stands
returns-clause-stands g c =
    subst (λ (p : Point). OnOk c.take.result (StandFor (c.args.chain.now ++ p ∷ []) c.take.new.self)) c.spot_by_row-spot.ensures c.take.ensures.stands
