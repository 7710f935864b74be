use Rattle.std.proofs.Common.{◌≡◌, map, take}
use Rattle.family_numbers.specs.Numbers.{shop_part}
use Rattle.family_points.specs.Inputs.{shop_vectors}
use Rattle.family_rows.specs.Tabled.{box_numbers}
use Rattle.family_rows.proofs.depot.put_parts.Given as goal

abbrev pub invariant-loop-n : goal.invariant-loop-n
invariant-loop-n l = l.parts.items ≡ map (shop_part 48 (box_numbers l.fn.sources.family.now) l.fn.site.0 l.fn.depot) (take l.n (shop_vectors l.fn.sources.family.now l.fn.site.0))
