use Rattle.std.proofs.Common.{ℕ, List, length, ◌≡◌, sym, subst}
use Rattle.fleet_model.specs.Rows.{line_units}
use Rattle.certified_plan.proofs.Formed.{floor_each, price_most}
use Rattle.certified_plan.proofs.certifying.covers_in.Goals as goal

pub covers_of-requires-clause-held : goal.covers_of-requires-clause-held
covers_of-requires-clause-held c = c.requires.is_held

pub covers_of-requires-clause-price : goal.covers_of-requires-clause-price
covers_of-requires-clause-price c = price_most c.args.case.now c.args.held.now c.args.terms c.args.plan.now c.requires

pub covers_of-requires-clause-floors : goal.covers_of-requires-clause-floors
covers_of-requires-clause-floors c =
    subst (λ (floors : List ℕ). length floors ≡ length (line_units c.args.case.now)) (sym c.as_slice.ensures)
    (floor_each c.args.case.now c.args.held.now c.args.terms c.args.plan.now c.requires)
