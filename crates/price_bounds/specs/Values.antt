-- The model's values of a choice, as fractions, compared with the ends of its intervals.
use Rattle.std.specs.Prelude.{ℕ, ◌*◌, ◌^◌, ◌≤◌, List, [], ◌∷◌}
use Rattle.exact_model.specs.Fraction.{Fraction, whole, ◌+ℚ◌, Contains}
use Rattle.hull.specs.declared.point.Point.{Point}

-- the sum of a list of fractions
unfoldable pub sum_of : List Fraction → Fraction
sum_of [] = whole 0
sum_of (t ∷ ts) = t +ℚ sum_of ts

-- each value is within the ends of its point
abbrev pub AllContain : List Point → List Fraction → Type 0
AllContain [] [] = Unit {0}
AllContain [] (t ∷ ts) = ⊥
AllContain (v ∷ vs) [] = ⊥
AllContain (v ∷ vs) (t ∷ ts) = Contains 48 v.lo v.hi t × AllContain vs ts

-- the value is at least `units` units of 2^-48
pub record IsAtLeast (units : ℕ) (q : Fraction) : Type 0 where
  pub low : units * q.den ≤ q.num * 2 ^ 48

-- the value is at most `units` units of 2^-48
pub record IsAtMost (units : ℕ) (q : Fraction) : Type 0 where
  pub high : q.num * 2 ^ 48 ≤ units * q.den
