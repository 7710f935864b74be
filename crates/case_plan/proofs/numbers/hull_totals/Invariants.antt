use Rattle.std.proofs.Common.{◌≡◌, ◌-◌, ◌*◌, ◌^◌, ◌≤◌}
use Rattle.hull.specs.Curves.{lagrangian}
use Rattle.case_plan.specs.Parts.{part}
use Rattle.case_plan.proofs.numbers.hull_totals.Given as goal

abbrev pub invariant-loop-f : goal.invariant-loop-f
invariant-loop-f l = record {
  lagrangian : l.lagrangian ≡ part (lagrangian l.price.p l.price.q) l.curves l.picks l.f;
  width : l.width ≡ part (λ v. v.hi - v.lo) l.curves l.picks l.f;
  lagrangian_small : l.lagrangian ≤ l.f * 2 ^ 115;
  width_small : l.width ≤ l.f * 2 ^ 74;
}
