use Rattle.std.proofs.Common.{◌^◌, true}
use Rattle.line_text.specs.Formats.{one}
use Rattle.line_text.specs.Texts.{number, word}
use Rattle.price_certificate.proofs.Fields.{three_read}
use Rattle.price_certificate.proofs.single_lines.price_of.Goals as goal
use lib.Chars.{codes}

pub returns : goal.returns
returns c =
    three_read (word (codes "price")) (one (number 0 (2 ^ 74))) (one (number 1 (10 ^ 12))) (λ x. record { p = x.1.0; q = x.1.1 }) (λ price. (tt, (price.p, price.q))) (λ _. true)
    c.args.fields.now c.word.new.self c.number.new.self c.number-2.new.self tt c.in_ok-p.p c.in_ok-q.q c.in_ok-word.ensures c.in_ok-p.ensures c.in_ok-q.ensures
