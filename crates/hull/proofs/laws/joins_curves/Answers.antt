use Rattle.hull.proofs.Stand.{curve_of_both}
use Rattle.hull.proofs.laws.joins_curves.Goals as goal

pub returns : goal.returns
returns c = curve_of_both
