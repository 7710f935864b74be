use Rattle.list_laws.proofs.Public.{mapped_more}
use Rattle.family_numbers.specs.Numbers.{pair_numbers}
use Rattle.family_numbers.proofs.numbers.part_numbers.Goals as goal

pub loop-k-preserved : goal.loop-k-preserved
loop-k-preserved g c =
    mapped_more (pair_numbers g.row.F c.args.rated.now.case c.args.part.0) c.loop-k.k c.loop-k.numbers.items c.push.new.self.items c.pair_numbers.result
    c.in_ok-push.ensures.items c.loop-k.invariant c.pair_numbers.ensures
