use Rattle.std.proofs.Common.{◌+◌, ◌<◌, List, ℕ, sym, ◌∙◌, subst}
use Rattle.price_bounds.specs.Sums.{cost_of, hi_of}
use Rattle.step_walk.specs.Prefix.{AreVertices, picked}
use Rattle.marginal_alloc.specs.Filling.{Fills, IsBestChange, IsFull, full, change}
use Rattle.marginal_alloc.proofs.Filled.{hi_falls, changed_vertices}
use Rattle.marginal_alloc.proofs.filling.fill.Goals as goal

best : (c : goal.After-take_change-left) → IsBestChange c.args.curves.now (cost_of (picked c.args.curves.now c.changes.picks.items) + c.changes.left) c.changes.picks.items c.in-Some.change.family c.in-Some.change.vertex
best c =
    let curves = c.args.curves.now in
    subst (λ l. IsBestChange curves (cost_of (picked curves l) + c.changes.left) l c.in-Some.change.family c.in-Some.change.vertex) c.as_slice-in-changes.ensures.value c.in-Some.ensures.some

pub changes-smaller : goal.changes-smaller
changes-smaller c =
    let curves = c.args.curves.now in
    let picks = c.changes.picks.items in
    let b = best c in
    subst (λ (l : List ℕ). hi_of (picked curves l) < hi_of (picked curves picks)) (sym c.take_change-left.ensures.picks)
    (hi_falls curves picks c.in-Some.change.family c.in-Some.change.vertex b.change.family c.changes.invariant.vertices.count b.change.lower)

pub changes-preserved : goal.changes-preserved
changes-preserved c =
    let i = c.changes.invariant in
    let curves = c.args.curves.now in
    let picks = c.changes.picks.items in
    let f = c.in-Some.change.family in
    let k = c.in-Some.change.vertex in
    let b = best c in
    let is = c.take_change-left.ensures.picks in
    record {
      vertices = subst (AreVertices curves) (sym is) (changed_vertices curves picks f k b.change.family b.change.vertex i.vertices);
      money = c.take_change-left.ensures.money ∙ i.money;
      on = λ end more. i.on end (change f k (subst (λ z. IsBestChange curves z picks f k) i.money b) (subst (λ (l : List ℕ). Fills curves c.args.budget l end) is more));
    }

pub returns : goal.returns
returns c =
    let curves = c.args.curves.now in
    let picks = c.changes.picks.items in
    let none : IsFull curves (cost_of (picked curves picks) + c.changes.left) picks = subst (λ l. IsFull curves (cost_of (picked curves l) + c.changes.left) l) c.as_slice-in-changes.ensures.value c.in_default.ensures.none in
    record {
      fills = c.changes.invariant.on picks (full (subst (λ b. IsFull curves b picks) c.changes.invariant.money none));
      vertices = c.changes.invariant.vertices;
    }
