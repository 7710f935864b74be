use Rattle.std.proofs.Common.{◌≤◌, ◌-◌, arith, length}
use Rattle.std.specs.Fmt.{decimal}
use Rattle.std.proofs.lemmas.Fmt.{length-decimal-le}
use Rattle.std.proofs.lemmas.List.{length-set}
use Rattle.line_text.proofs.decimals.put_short_fixed.Goals as goal

pub write_digits-start-requires : goal.write_digits-start-requires
write_digits-start-requires c =
    let whole = c.end_with_digits-whole.result in
    let bytes = c.end_with_digits-whole.new.bytes in
    let few : length (decimal whole) ≤ 20 = length-decimal-le 20 whole (omega arith) (omega arith) (omega arith) in
    (omega arith, omega (arith, c.end_with_digits-whole.array_long, length-set bytes (39 - c.args.places) 46))
