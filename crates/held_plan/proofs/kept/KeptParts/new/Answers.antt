use Rattle.std.proofs.Common.{arith}
use Rattle.held_plan.proofs.KeptFacts.{none_kept}
use Rattle.held_plan.proofs.kept.KeptParts.new.Goals as goal

pub returns : goal.returns
returns c = λ families long.
    none_kept _ families c.in_ok-parts.parts.items c.args.count
    (record {
      window = record { steep = omega arith; money = omega arith; order = omega arith };
      low_price = omega arith;
      high_money = omega arith;
      low_small = record { p = omega arith; q = omega arith };
      high_small = record { p = omega arith; q = omega arith };
    })
    c.in_ok-parts.ensures long
