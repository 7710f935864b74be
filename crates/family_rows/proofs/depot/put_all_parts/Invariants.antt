use Rattle.std.proofs.Common.{◌≡◌, ◌-◌, length, map, take}
use Rattle.std.specs.List.{range_with_len}
use Rattle.family_rows.specs.Tabled.{parts_at}
use Rattle.family_rows.proofs.depot.put_all_parts.Given as goal

abbrev pub invariant-loop-j : goal.invariant-loop-j
invariant-loop-j l = record {
  count : length l.parts.items ≡ length l.sources.bases.items;
  made : map (λ r. r.items) (take (l.j - 1) l.parts.items) ≡ map (parts_at l.fn.sources.family.now l.fn.depot) (range_with_len 1 (l.j - 1));
}
