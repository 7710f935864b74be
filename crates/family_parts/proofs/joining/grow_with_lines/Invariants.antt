use Rattle.std.proofs.Common.{◌≡◌, ◌+◌, ◌*◌, ◌<◌, ◌≤◌, drop, flat_map, length}
use Rattle.std.specs.List.{range_with_len}
use Rattle.family_points.specs.Inputs.{vertex_count}
use Rattle.family_bases.specs.Joining.{HaveWidthOf, vertices_of}
use Rattle.family_parts.specs.Growing.{Grows, turn_points}
use Rattle.family_parts.proofs.joining.grow_with_lines.Given as goal

abbrev pub invariant-loop-n : goal.invariant-loop-n
invariant-loop-n g l = record {
  few : length (vertices_of l.part) ≤ length (vertices_of l.fn.part) + l.n * vertex_count l.sources.family.now;
  part : Grows l.low l.high (flat_map (turn_points g.S.Score.ends l.sources.family.now (drop 1 l.fn.stocks) l.begin) (range_with_len 0 l.n)) (vertices_of l.fn.part) l.fn.beyond (vertices_of l.part) l.beyond;
  work : length l.work.parts.items ≡ length l.sources.bases.items;
  widths : HaveWidthOf l.sources.family.now (vertices_of l.part);
  some : 0 < length l.stocks;
  shops : drop 1 l.stocks ≡ drop 1 l.fn.stocks;
}
