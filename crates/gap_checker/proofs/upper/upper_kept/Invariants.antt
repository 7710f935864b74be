use Rattle.std.proofs.Common.{◌≡◌, ◌+◌, ◌*◌, ◌^◌, ◌≤◌, drop, map}
use Rattle.fleet_model.specs.Rows.{line_units}
use Rattle.price_bounds.specs.Sums.{hi_of}
use Rattle.gap_rules.specs.Refusals.{chosen_point, upper_of}
use Rattle.gap_checker.proofs.upper.upper_kept.Given as goal

abbrev pub invariant-loop-f : goal.invariant-loop-f
invariant-loop-f g l = record {
  sum : l.upper + hi_of (map (chosen_point g.S.Score.ends l.fn.cert l.fn.held) (drop l.f (line_units l.fn.cert.case))) ≡ upper_of g.S.Score.ends l.fn.cert l.fn.held;
  most : l.upper ≤ l.f * 2 ^ 78;
}
