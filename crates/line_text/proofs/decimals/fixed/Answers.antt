use Rattle.std.proofs.Common.{◌<◌, ◌^◌, refl, arith}
use Rattle.std.proofs.lemmas.Bool.{false≢true}
use Rattle.line_text.proofs.FixedLaws.{no_digits, too_large, too_low, too_high, read_found}
use Rattle.line_text.proofs.decimals.fixed.Goals as goal

pub returns-in_default-value_after : goal.returns-in_default-value_after
returns-in_default-value_after c =
    let small : c.args.most < 2 ^ 128 = omega arith in
    too_large c.args.text.now c.in-Some.whole.now c.in-Some.part.now c.args.places c.args.least c.args.most small c.in-Some.ensures.0 c.in-Some.ensures.1
    c.in-Some-number.front c.in-Some-number.ensures c.in_default-value_after.ensures

pub returns-then-not-are_digits : goal.returns-then-not-are_digits
returns-then-not-are_digits c =
    let small : c.args.most < 2 ^ 128 = omega arith in
    no_digits c.args.text.now c.in-Some.whole.now c.in-Some.part.now c.args.places c.args.least c.args.most small c.in-Some.ensures.0 c.in-Some.ensures.1
    (λ d. false≢true (c.if-not-are_digits.ensures.1 d))

pub returns-then-n-least : goal.returns-then-n-least
returns-then-n-least c =
    let small : c.args.most < 2 ^ 128 = omega arith in
    too_low c.args.text.now c.in-Some.whole.now c.in-Some.part.now c.args.places c.args.least c.args.most small c.in-Some.ensures.0 c.in-Some.ensures.1
    c.in-Some-number.front c.in-Some-value_after.n c.in-Some-number.ensures c.in-Some-value_after.ensures c.if-n-least.true

pub returns-then-n-most : goal.returns-then-n-most
returns-then-n-most c =
    let small : c.args.most < 2 ^ 128 = omega arith in
    too_high c.args.text.now c.in-Some.whole.now c.in-Some.part.now c.args.places c.args.least c.args.most small c.in-Some.ensures.0 c.in-Some.ensures.1
    c.in-Some-number.front c.in-Some-value_after.n c.in-Some-number.ensures c.in-Some-value_after.ensures c.if-n-most.true

pub returns : goal.returns
returns c =
    let small : c.args.most < 2 ^ 128 = omega arith in
    read_found c.args.text.now c.in-Some.whole.now c.in-Some.part.now c.args.places c.args.least c.args.most small c.in-Some.ensures.0 c.in-Some.ensures.1
    c.in-Some-number.front c.in-Some-value_after.n c.in-Some-number.ensures (c.if-not-are_digits.ensures.0 refl) c.in-Some-value_after.ensures c.if-n-least.false c.if-n-most.false
