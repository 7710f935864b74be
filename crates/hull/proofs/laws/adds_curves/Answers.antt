use Rattle.hull.specs.Curves.{sums}
use Rattle.hull.proofs.Stand.{curve_stands, stand_for}
use Rattle.hull.proofs.Sums.{stand_for_sums}
use Rattle.hull.proofs.laws.adds_curves.Goals as goal

pub returns : goal.returns
returns c = λ ps qs x y e a b widths h. stand_for (sums ps qs) (sums x y) e (stand_for_sums ps qs x y (curve_stands ps x a) (curve_stands qs y b) widths) h
