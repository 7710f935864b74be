use Rattle.std.proofs.Common.{◌^◌, length, refl}
use Rattle.line_text.specs.Texts.{number_line}
use Rattle.price_certificate.proofs.Written.{counted_written}
use Rattle.price_certificate.proofs.writing.put_floors.Goals as goal
use lib.Chars.{codes}
use Rattle.list_laws.proofs.Public.{after_ok}

pub returns : goal.returns
returns c = after_ok c.put_each_floor.result
    (λ h families. counted_written (codes "floors") families families (number_line (2 ^ 115)) c.args.list.now c.args.out.now.items c.put_count_line.new.out.items c.put_each_floor.new.out.items (length c.args.list.now) refl (c.in_ok-put_count_line.ensures families families) h)
    c.put_each_floor.ensures
