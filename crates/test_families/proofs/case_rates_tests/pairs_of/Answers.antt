use Rattle.std.proofs.Common.{arith}
use Rattle.test_families.proofs.case_rates_tests.pairs_of.Goals as goal

pub demand-requires : goal.demand-requires
demand-requires c =
    c.requires.has c.loop-p.p c.loop-k.k (omega (arith, c.loop-p-test.true, c.part_count-parts.ensures.count))
    (omega (arith, c.loop-k-test.true, c.site_count-sites.ensures.count))
