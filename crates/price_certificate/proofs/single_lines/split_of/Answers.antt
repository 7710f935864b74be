use Rattle.std.proofs.Common.{true}
use Rattle.line_text.specs.Formats.{one}
use Rattle.line_text.specs.Texts.{number, word}
use Rattle.price_certificate.proofs.Fields.{three_read}
use Rattle.price_certificate.proofs.single_lines.split_of.Goals as goal
use lib.Chars.{codes}

pub returns : goal.returns
returns c =
    three_read (word (codes "split")) (one (number 0 143)) (one (number 1 63)) (λ x. x.1) (λ x. (tt, x)) (λ _. true)
    c.args.fields.now c.word.new.self c.number.new.self c.number-2.new.self tt c.in_ok-at.at c.in_ok-from.from c.in_ok-word.ensures c.in_ok-at.ensures c.in_ok-from.ensures
