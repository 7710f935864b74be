use Rattle.std.proofs.Common.{◌≡◌, flat_map, map, take}
use Rattle.fleet_model.specs.Rows.{all_sites}
use Rattle.spares_input.specs.declared.rows.PartId.{PartId}
use Rattle.family_numbers.specs.Numbers.{pair_numbers}
use Rattle.family_numbers.proofs.numbers.all_numbers.Given as goal

abbrev pub invariant-loop-part : goal.invariant-loop-part
invariant-loop-part g l = l.numbers.items ≡ flat_map (λ (p : PartId). map (pair_numbers g.row.F l.fn.rated.case p.0) (all_sites l.fn.rated.case)) (take l.part-index l.fn.parts)
