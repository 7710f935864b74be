use Rattle.std.proofs.Common.{◌≡◌, map, take}
use Rattle.std.specs.List.{All}
use Rattle.family_rows.specs.Sources.{AreSources}
use Rattle.family_rows.specs.declared.sources.Sources.{Sources}
use Rattle.held_plan.proofs.sample.sources_of.Given as goal

abbrev pub invariant-loop-k : goal.invariant-loop-k
invariant-loop-k l = record {
  are : All AreSources l.sources.items;
  families : map (λ (s : Sources). s.family.now) l.sources.items ≡ take l.k l.families;
}
