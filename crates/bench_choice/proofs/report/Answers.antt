use Rattle.std.proofs.Common.{sym, subst}
use Rattle.step_walk.specs.Prefix.{AreVertices}
use Rattle.bench_choice.proofs.report.Goals as goal

pub fill-requires-clause-vertices : goal.fill-requires-clause-vertices
fill-requires-clause-vertices c = subst (λ l. AreVertices c.as_slice-curves.result.now l) (sym c.into_vec-picks.ensures) c.in-Ok.ensures.choice.prefix.vertices
