use Rattle.std.proofs.Common.{◌≡◌, ◌+◌, All, length}
use Rattle.spares_input.specs.Rows.{IsSiteRow}
use Rattle.test_families.proofs.case_rates_tests.sites_of.Given as goal

abbrev pub invariant-loop-k : goal.invariant-loop-k
invariant-loop-k l = record {
  rows : All IsSiteRow l.sites.items;
  count : length l.sites.items ≡ l.k + 1;
}
