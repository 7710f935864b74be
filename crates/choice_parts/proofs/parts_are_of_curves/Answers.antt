use Rattle.choice_parts.proofs.OfCurves.{curves_exist, parts_of_curves}
use Rattle.choice_parts.proofs.parts_are_of_curves.Goals as goal

pub returns-clause-curves : goal.returns-clause-curves
returns-clause-curves c = curves_exist

pub returns-clause-parts : goal.returns-clause-parts
returns-clause-parts c = parts_of_curves
