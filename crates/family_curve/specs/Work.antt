-- The scratch lists of a family's curve. No promise of the crate rests on these words.
use Rattle.std.specs.Prelude.{◌≡◌, List, length}
use Rattle.family_points.specs.declared.order.Base.{Base}
use Rattle.family_curve.specs.declared.joining.Work.{Work}

-- there is a chain for each base, of exact points and of lower bounds
pub record HaveChains (bases : List Base) (work : Work) : Type 0 where
  pub exact : length work.exact.chains.items ≡ length bases
  pub lows : length work.lows.chains.items ≡ length bases
