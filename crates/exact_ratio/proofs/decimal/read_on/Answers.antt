use Rattle.std.proofs.Common.{◌+◌, arith}
use Rattle.list_laws.proofs.Public.{part_below}
use Rattle.exact_ratio.proofs.Reading.{after_more}
use Rattle.exact_ratio.proofs.decimal.read_on.Goals as goal

pub returns-in_default : goal.returns-in_default
returns-in_default c =
    let m = after_more c.args.start c.loop-c.c-index c.args.digits.now c.loop-c-test.true (c.requires c.loop-c.c-index c.loop-c-test.true) in
    omega (arith, m, part_below c.args.start (c.loop-c.c-index + 1) c.args.digits.now, c.loop-c.invariant, c.in_default.ensures)

pub returns-in_default-checked_add : goal.returns-in_default-checked_add
returns-in_default-checked_add c =
    let m = after_more c.args.start c.loop-c.c-index c.args.digits.now c.loop-c-test.true (c.requires c.loop-c.c-index c.loop-c-test.true) in
    omega (arith, m, part_below c.args.start (c.loop-c.c-index + 1) c.args.digits.now, c.loop-c.invariant, c.in-Some.ensures, c.in_default-checked_add.ensures)

pub loop-c-preserved : goal.loop-c-preserved
loop-c-preserved c =
    let m = after_more c.args.start c.loop-c.c-index c.args.digits.now c.loop-c-test.true (c.requires c.loop-c.c-index c.loop-c-test.true) in
    omega (arith, m, c.loop-c.invariant, c.in-Some.ensures, c.in-Some-checked_add.ensures)
