use Rattle.std.proofs.Common.{◌≡◌, ◌∙◌, subst}
use Rattle.std.specs.Prelude.{nat_le}
use Rattle.std.proofs.lemmas.Result.{IfOk-weaker}
use Rattle.hull.specs.Curves.{lagrangian}
use Rattle.family_points.specs.Inputs.{FamilyBox, box_points}
use Rattle.family_points.specs.Least.{Decides, least}
use Rattle.family_points.specs.Points.{points_within}
use Rattle.family_points.proofs.Public.{box_some, decided}
use Rattle.family_floors.proofs.least.is_at_least.Goals as goal

pub returns : goal.returns
returns g c =
    let p = c.args.price.p in
    let q = c.args.price.q in
    let b = c.args.bounds.now in
    let floor = c.args.floor in
    let x = c.in_ok-sources.sources.family.now in
    IfOk-weaker c.all_are_at_least.result (Decides p q floor (box_points g.S.Score.ends x))
    (λ answer. answer ≡ nat_le floor (least (lagrangian p q) (points_within c.args.case.now c.args.line.0 g.S.Score.ends b.held b.low b.high)))
    (λ answer decides. decided p q floor (points_within c.args.case.now c.args.line.0 g.S.Score.ends b.held b.low b.high) answer
    (box_some c.args.case.now c.args.line.0 g.S.Score.ends b.held b.low b.high c.requires.ordered.low_least)
    (subst (λ (x : FamilyBox). Decides p q floor (box_points g.S.Score.ends x) answer)
    (c.in_ok-sources.ensures.family ∙ c.of-family.ensures) decides)) c.all_are_at_least.ensures

pub of-family-requires-clause-rates : goal.of-family-requires-clause-rates
of-family-requires-clause-rates g c = c.requires.rates

pub of-family-requires-clause-line : goal.of-family-requires-clause-line
of-family-requires-clause-line g c = c.requires.line

pub of-family-requires-clause-ordered : goal.of-family-requires-clause-ordered
of-family-requires-clause-ordered g c = c.requires.ordered

pub all_are_at_least-requires-clause-most_money : goal.all_are_at_least-requires-clause-most_money
all_are_at_least-requires-clause-most_money g c = c.requires.most_money

pub all_are_at_least-requires-clause-price : goal.all_are_at_least-requires-clause-price
all_are_at_least-requires-clause-price g c = c.requires.price

pub all_are_at_least-requires-clause-sources : goal.all_are_at_least-requires-clause-sources
all_are_at_least-requires-clause-sources g c = c.in_ok-sources.ensures.are
