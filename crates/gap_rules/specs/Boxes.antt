-- Boxes of vectors.
use Rattle.std.specs.Prelude.{ℕ, ◌≤◌, List}
use Rattle.std.specs.List.{AllZip}
use Rattle.spares_input.specs.Cases.{CaseRows}
use Rattle.family_points.specs.declared.bounds.Bounds.{Bounds}
use Rattle.family_points.specs.Points.{AreOrdered}

-- the vectors have the same length, and at each place the first has no more than the second
abbrev pub AtMost : List ℕ → List ℕ → Type 0
AtMost xs ys = AllZip (λ x y. x ≤ y) xs ys

-- the held stocks are at most the low corner of a box, the low corner at most the high one, and this within the limits
abbrev pub IsOrdered : CaseRows → ℕ → Bounds → Type 0
IsOrdered c l box = AreOrdered c l box.held box.low box.high
