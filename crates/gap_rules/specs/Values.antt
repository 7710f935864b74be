-- What a leaf shows of its vectors' Lagrangians, and how many tables that takes.
use Rattle.std.specs.Prelude.{ℕ, ◌*◌, nat_lt, List, sum_by, Option, Some, None, if◌then◌else◌}
use Rattle.hull.specs.declared.price.Price.{Price}
use Rattle.hull.specs.Curves.{lagrangian}
use Rattle.spares_input.specs.Cases.{CaseRows}
use Rattle.family_points.specs.declared.bounds.Bounds.{Bounds}
use Rattle.family_points.specs.Points.{added_cost, points_within, ScoreEnds}
use Rattle.family_points.specs.Least.{least}
use Rattle.family_points.specs.Counts.{tables_between}
use Rattle.gap_rules.specs.declared.leaf.Leaf.{Leaf}
use Rattle.gap_rules.specs.declared.leaf.Leaf.TheVariants as leaf

-- the least Lagrangian of the vectors of a box of the family of the line unit l
unfoldable pub least_within : CaseRows → ℕ → ScoreEnds → Price → Bounds → ℕ
least_within c l score price box = least (lagrangian price.p price.q)
    (points_within c l score box.held box.low box.high)

-- The value of a leaf: by cost alone the price of its low corner, or else the least Lagrangian of its vectors.
unfoldable pub value_of_leaf : CaseRows → ℕ → ScoreEnds → Price → Leaf → ℕ
value_of_leaf c l score price (leaf.Cost box) = price.p * added_cost c l box.held box.low
value_of_leaf c l score price (leaf.Whole box) = least_within c l score price box

-- a value, where it is below the floor
abbrev pub below : ℕ → ℕ → Option ℕ
below floor value = if nat_lt value floor then Some value else None

-- the tables that it takes
unfoldable pub leaf_tables : CaseRows → ℕ → Leaf → ℕ
leaf_tables c l (leaf.Cost box) = 0
leaf_tables c l (leaf.Whole box) = tables_between c l box.low box.high

-- the tables that the leaves of a cover take together
abbrev pub cover_tables : CaseRows → ℕ → List Leaf → ℕ
cover_tables c l ls = sum_by (leaf_tables c l) ls
