use Rattle.spares_input.proofs.FrameFacts.{depot_within}
use Rattle.spares_input.proofs.frame.links_of.Goals as goal

pub put_first-requires : goal.put_first-requires
put_first-requires c =
    let n = rw c.as_slice.ensures.value at c.in_ok-places.ensures.numbered in
    rw (← c.as_slice.ensures.len, c.as_slice.ensures.value) (depot_within _ _ _ n)

pub families_of-requires-clause-distinct : goal.families_of-requires-clause-distinct
families_of-requires-clause-distinct c = c.in_ok-places.ensures.numbered.distinct_parts

pub returns-clause-linked : goal.returns-clause-linked
returns-clause-linked c =
    let n = rw c.as_slice.ensures.value at c.in_ok-places.ensures.numbered in
    record {
      depot = c.in_ok-places.depot;
      numbered = n;
      moved_is = c.in-Ok.ensures;
      lines = c.in_ok-parents.ensures;
      units_are = c.in_ok-lines.ensures;
      shops = c.in_ok-families.ensures;
    }
