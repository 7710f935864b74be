use Rattle.std.proofs.Common.{◌≡◌, ◌-◌, ◌*◌, ◌^◌, ◌≤◌, [], flat_map, get_or, length}
use Rattle.std.specs.List.{range_with_len}
use Rattle.family_points.specs.Inputs.{line_stocks, shop_vectors, vertex_count}
use Rattle.family_points.specs.Separation.{shop_points}
use Rattle.family_bases.specs.Joining.{HaveWidthOf, vertices_of}
use Rattle.family_parts.specs.Growing.{Grows, in_turn}
use Rattle.family_parts.proofs.joining.whole_part.Given as goal

abbrev pub invariant-loop-n : goal.invariant-loop-n
invariant-loop-n g l = record {
  few : length (vertices_of l.part) ≤ l.n * (length (line_stocks l.sources.family.now 0) * vertex_count l.sources.family.now);
  part : Grows l.low l.high (flat_map (λ k. shop_points g.S.Score.ends l.sources.family.now (get_or (shop_vectors l.sources.family.now 0) (in_turn l.middle (length (shop_vectors l.sources.family.now 0) - 1) k) [])) (range_with_len 0 l.n)) [] (2 ^ 128 - 1) (vertices_of l.part) l.beyond;
  work : length l.work.parts.items ≡ length l.sources.bases.items;
  widths : HaveWidthOf l.sources.family.now (vertices_of l.part);
}
