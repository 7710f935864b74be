use Rattle.std.proofs.Common.{IfOk, ◌∙◌, subst}
use Rattle.family_points.specs.Inputs.{FamilyBox, box_points}
use Rattle.family_points.specs.Points.{HasUpper}
use Rattle.family_floors.proofs.upper.upper_within.Goals as goal

pub returns-clause-upper : goal.returns-clause-upper
returns-clause-upper g c =
    subst (λ (x : FamilyBox). IfOk c.upper_at_least.result (HasUpper (box_points g.S.Score.ends x)))
    (c.in_ok-sources.ensures.family ∙ c.of-family.ensures) c.upper_at_least.ensures.upper

pub of-family-requires-clause-rates : goal.of-family-requires-clause-rates
of-family-requires-clause-rates g c = c.requires.rates

pub of-family-requires-clause-line : goal.of-family-requires-clause-line
of-family-requires-clause-line g c = c.requires.line

pub of-family-requires-clause-ordered : goal.of-family-requires-clause-ordered
of-family-requires-clause-ordered g c = c.requires.ordered

pub upper_at_least-requires : goal.upper_at_least-requires
upper_at_least-requires g c = record { sources = c.in_ok-sources.ensures.are }

pub returns-clause-most : goal.returns-clause-most
returns-clause-most g c = c.upper_at_least.ensures.most
