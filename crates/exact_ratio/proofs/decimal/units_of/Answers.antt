use Rattle.std.proofs.Common.{◌*◌, ◌++◌, arith, sym, ◌∙◌, ap}
use Rattle.std.specs.Str.Parse.{digits_value, digits_value_after}
use Rattle.exact_ratio.proofs.Reading.{joined_value, joined_grows, scaled_grows, some_or_over}
use Rattle.exact_ratio.proofs.decimal.units_of.Goals as goal

pub returns-in_default : goal.returns-in_default
returns-in_default c =
    omega (arith, joined_grows c.args.whole.now c.args.kept.now, scaled_grows (digits_value 10 (c.args.whole.now ++ c.args.kept.now)) c.args.missing, c.in_default.ensures)

pub returns-in_default-read_on : goal.returns-in_default-read_on
returns-in_default-read_on c =
    let j = joined_value c.args.whole.now c.args.kept.now
    ∙ ap (λ n. digits_value_after 10 n c.args.kept.now) (sym c.in-Some.ensures) in
    omega (arith, j, scaled_grows (digits_value 10 (c.args.whole.now ++ c.args.kept.now)) c.args.missing, c.in_default-read_on.ensures)

pub returns : goal.returns
returns c =
    let j = joined_value c.args.whole.now c.args.kept.now
    ∙ ap (λ n. digits_value_after 10 n c.args.kept.now) (sym c.in-Some.ensures)
    ∙ sym c.in-Some-read_on.ensures in
    rw (j, ← c.power_of_ten.ensures) (some_or_over c.checked_mul.result (c.in-Some-read_on.number * c.power_of_ten.result) c.checked_mul.ensures)
