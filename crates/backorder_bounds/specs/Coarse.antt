-- Numbers of 36 binary places beside numbers of f places. No promise of the crate rests on these words.
use Rattle.std.specs.Prelude.{ℕ, ◌-◌, ◌*◌, ◌^◌, ◌≤◌}
use Rattle.fixed_interval.specs.Ends.{Ends}
use Rattle.backorder_bounds.specs.declared.scale.Coarse.{Coarse}

-- a unit of 36 places, in units of f places
abbrev pub coarse_unit : ℕ → ℕ
coarse_unit f = 2 ^ (f - 36)

-- the coarse ends enclose the exact ones
pub record IsCoarse (f : ℕ) (exact : Ends) (coarse : Coarse) : Type 0 where
  pub low : coarse.lo * coarse_unit f ≤ exact.lo
  pub high : exact.hi ≤ coarse.hi * coarse_unit f
