use Rattle.case_plan.proofs.PointsServe.{points_are_families, points_have_vectors}
use Rattle.case_plan.proofs.truth.points_serve.Goals as goal

pub returns : goal.returns
returns r = λ ends c held accepted room h. (points_are_families ends c held accepted room h, points_have_vectors ends c held)
