use Rattle.std.proofs.Common.{◌≡◌, ◌*◌, ◌^◌, ◌≤◌}
use Rattle.case_plan.specs.Parts.{part}
use Rattle.case_plan.proofs.numbers.totals_of.Given as goal

abbrev pub invariant-loop-f : goal.invariant-loop-f
invariant-loop-f l = record {
  cost : l.cost ≡ part (λ v. v.cost) l.curves l.picks l.f;
  lo : l.lo ≡ part (λ v. v.lo) l.curves l.picks l.f;
  hi : l.hi ≡ part (λ v. v.hi) l.curves l.picks l.f;
  ordered : l.lo ≤ l.hi;
  cost_small : l.cost ≤ l.f * 1000000000000;
  hi_small : l.hi ≤ l.f * 2 ^ 74;
}
