use Rattle.std.proofs.Common.{subst}
use Rattle.marginal_alloc.specs.Choice.{IsHullChoice}
use Rattle.marginal_alloc.proofs.Told.{told}
use Rattle.marginal_alloc.proofs.AtCritical.{critical_vertex_least}
use Rattle.marginal_alloc.proofs.laws.critical_is_least.Goals as goal

pub returns : goal.returns
returns c = λ families curves budget chosen critical h is. critical_vertex_least families curves budget chosen.picks chosen.cost chosen.price h.areas h.shapes critical
    (subst (λ x. IsHullChoice curves budget (told chosen.picks chosen.cost chosen.price x)) is h.choice)
