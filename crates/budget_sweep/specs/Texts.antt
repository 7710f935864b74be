-- The texts of sweeps and targets. Commas (44) separate fields, and each line ends with a line feed (10).
use Rattle.std.specs.Prelude.{ℕ, Option, Some, None, List, ◌∷◌, ◌++◌, length, codes}
use Rattle.std.specs.List.{flat_map}
use Rattle.std.specs.Fmt.{decimal}
use Rattle.fixed_interval.specs.Text.{fixed_text}
use Rattle.hull.specs.declared.price.Price.{Price}
use Rattle.plan_report.specs.Texts.{interval_text, line, price_text}
use Rattle.budget_sweep.specs.declared.report.SweepPoint.{SweepPoint}
use Rattle.budget_sweep.specs.declared.report.SweepReport.{SweepReport}
use Rattle.budget_sweep.specs.declared.report.TargetReport.{TargetReport}
use Rattle.budget_sweep.specs.Truth.{ends_of}

-- the cost of a point, and both its ends with 6 decimals, the lower one rounded down and the upper one up
abbrev pub state_text : SweepPoint → List ℕ
state_text point = decimal point.cost ++ (44 ∷ interval_text 48 (ends_of point))

-- a price, or `none`
abbrev pub next_price_text : Option Price → List ℕ
next_price_text None = codes "none"
next_price_text (Some price) = price_text price

-- the line of a point: its cost, its ends and the price of the next step
abbrev pub point_text : SweepPoint → List ℕ
point_text point = line (codes "point") (state_text point ++ (44 ∷ next_price_text point.price))

-- the report of a sweep
abbrev pub sweep_text : SweepReport → List ℕ
sweep_text report = line (codes "sweep") (decimal (length report.points)) ++ flat_map point_text report.points

-- the line of the point that reaches the target, or of `none`
abbrev pub reach_text : Option SweepPoint → List ℕ
reach_text None = line (codes "reach") (codes "none")
reach_text (Some point) = line (codes "reach") (state_text point)

-- the line of the least cost of the target, or of `none`
abbrev pub least_text : Option ℕ → List ℕ
least_text None = line (codes "at-least") (codes "none")
least_text (Some cost) = line (codes "at-least") (decimal cost)

-- the report of a target
abbrev pub target_text : TargetReport → List ℕ
target_text report =
    line (codes "target") (fixed_text 4 report.target.units) ++ (reach_text report.reach ++ least_text report.at_least)
