use Rattle.std.proofs.Common.{◌≡◌, ◌^◌, ◌*◌, ◌%◌, arith, lit<}
use Rattle.std.proofs.lemmas.Nat.{shl_whole}
use Rattle.backorder_bounds.proofs.Falls.{fallen_first}
use Rattle.backorder_bounds.proofs.falling.Falling.first.Goals as goal

pub returns-clause-fallen : goal.returns-clause-fallen
returns-clause-fallen g c m v e h =
    let z : 1 * 2 ^ g.row.F % 2 ^ 64 ≡ 1 * 2 ^ g.row.F = shl_whole 1 1 g.row.F 64 (lit< tt) (omega (arith, c.requires.most)) in
    fallen_first g.row.F m v c.args.lead c.args.mean (1 * 2 ^ g.row.F % 2 ^ 64) e (omega (arith, z)) h

pub returns-clause-flat : goal.returns-clause-flat
returns-clause-flat g c m e h =
    let z : 1 * 2 ^ g.row.F % 2 ^ 64 ≡ 1 * 2 ^ g.row.F = shl_whole 1 1 g.row.F 64 (lit< tt) (omega (arith, c.requires.most)) in
    record { inverse = h; tail = omega (arith, z); low = omega (arith, e) }
