use Rattle.std.proofs.Common.{◌≡◌, map, take}
use Rattle.std.specs.List.{All}
use Rattle.family_tables.specs.declared.keys.Kept.{Kept}
use Rattle.family_tables.specs.Kept.{Grows, IsKept, with_keys}
use Rattle.family_tables.proofs.making.keep_each.Given as goal

abbrev pub invariant-loop-n : goal.invariant-loop-n
invariant-loop-n g l = record {
  kept : All (IsKept g.row.F l.fn.numbers) l.kept.items;
  grows : Grows l.fn.keys (map (λ (x : Kept g.row.F). x.key) l.initial.kept.items) (map (λ (x : Kept g.row.F). x.key) l.kept.items);
  keys : map (λ (x : Kept g.row.F). x.key) l.kept.items ≡ with_keys (map (λ (x : Kept g.row.F). x.key) l.initial.kept.items) (take l.n l.fn.keys);
}
