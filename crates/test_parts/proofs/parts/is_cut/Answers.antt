use Rattle.std.proofs.Common.{mul-le-mul_right}
use Rattle.test_parts.proofs.parts.is_cut.Goals as goal

pub part-requires-clause-window : goal.part-requires-clause-window
part-requires-clause-window c = record {
  steep = c.requires.some;
  money = c.requires.some_money;
  order = mul-le-mul_right c.args.money c.requires.order;
}
