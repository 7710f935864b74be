use Rattle.std.proofs.Common.{rules}
use Rattle.std.proofs.lemmas.List.Sorted.{IsNonDecreasingBy-from_sort_by_key}
use Rattle.family_points.specs.declared.order.Choice.{Choice}
use Rattle.family_points.proofs.order.in_order.Goals as goal

pub returns-clause-sorted : goal.returns-clause-sorted
returns-clause-sorted c =
    IsNonDecreasingBy-from_sort_by_key (λ (v : Choice). v.cost) _ c.sort_unstable_by_key.ensures.sorted (λ a r q k. search rules)
