use Rattle.std.proofs.Common.{refl, ◌^◌, ◌++◌, length}
use Rattle.line_text.proofs.Public.{text_from, print_step, print_end}
use Rattle.line_text.specs.Texts.{number_line}
use Rattle.price_certificate.proofs.writing.put_each_floor.Goals as goal

pub loop-k-preserved : goal.loop-k-preserved
loop-k-preserved c =
    let xs = c.args.list.now in
    print_step (λ _ _. number_line (2 ^ 115)) xs 0 (length xs) c.loop-k.k c.loop-k.out.items c.put_number_line.new.out.items (c.args.out.now.items ++ text_from (λ _ _. number_line (2 ^ 115)) xs (length xs) 0)
    c.loop-k-test.true c.loop-k-test.true (c.in_ok-put_number_line.ensures (2 ^ 115)) c.loop-k.invariant

pub loop-k-init : goal.loop-k-init
loop-k-init c = refl

pub returns : goal.returns
returns c = print_end (λ _ _. number_line (2 ^ 115)) c.args.list.now (length c.args.list.now) c.loop-k.k c.loop-k.out.items c.args.out.now.items c.loop-k-test.false c.loop-k.invariant
