use Rattle.std.proofs.Common.{◌+◌, arith}
use Rattle.list_laws.proofs.Public.{part_below}
use Rattle.line_text.proofs.Numerals.{value_more}
use Rattle.line_text.proofs.numbers.value_after.Goals as goal

pub returns-in_default : goal.returns-in_default
returns-in_default c =
    let m = value_more c.args.front c.loop-c.c-index c.args.digits.now c.loop-c-test.true c.requires in
    omega (arith, m, part_below c.args.front (c.loop-c.c-index + 1) c.args.digits.now, c.loop-c.invariant, c.in_default.ensures)

pub returns-in_default-checked_add : goal.returns-in_default-checked_add
returns-in_default-checked_add c =
    let m = value_more c.args.front c.loop-c.c-index c.args.digits.now c.loop-c-test.true c.requires in
    omega (arith, m, part_below c.args.front (c.loop-c.c-index + 1) c.args.digits.now, c.loop-c.invariant, c.in-Some.ensures, c.in_default-checked_add.ensures)

pub loop-c-preserved : goal.loop-c-preserved
loop-c-preserved c =
    let m = value_more c.args.front c.loop-c.c-index c.args.digits.now c.loop-c-test.true c.requires in
    omega (arith, m, c.loop-c.invariant, c.in-Some.ensures, c.in-Some-checked_add.ensures)
