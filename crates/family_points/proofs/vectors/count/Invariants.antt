use Rattle.std.proofs.Common.{◌≡◌, ◌*◌, ◌^◌, ◌≤◌, drop}
use Rattle.family_points.specs.Counts.{product, widths}
use Rattle.family_points.proofs.vectors.count.Given as goal

abbrev pub invariant-loop-i : goal.invariant-loop-i
invariant-loop-i l =
    (l.count * product (widths (drop l.i l.low) (drop l.i l.high)) ≡ product (widths l.low l.high)) × (l.count ≤ 64 ^ l.i)
