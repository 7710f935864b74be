use Rattle.std.proofs.Common.{refl, ◌++◌, length}
use Rattle.line_text.proofs.Public.{text_from, print_step, print_end}
use Rattle.line_text.specs.Texts.{number_line}
use Rattle.price_certificate.proofs.writing.put_each_stock.Goals as goal

pub loop-k-preserved : goal.loop-k-preserved
loop-k-preserved c = λ most.
    let xs = c.args.list.now in
    let i = c.loop-k.k in
    print_step (λ _ i. number_line (most i)) xs 0 (length xs) i c.loop-k.out.items c.put_number_line.new.out.items (c.args.out.now.items ++ text_from (λ _ i. number_line (most i)) xs (length xs) 0)
    c.loop-k-test.true c.loop-k-test.true (c.in_ok-put_number_line.ensures (most i)) (c.loop-k.invariant most)

pub loop-k-init : goal.loop-k-init
loop-k-init c = λ most. refl

pub returns : goal.returns
returns c = λ most.
    let xs = c.args.list.now in
    print_end (λ _ i. number_line (most i)) xs (length xs) c.loop-k.k c.loop-k.out.items c.args.out.now.items c.loop-k-test.false (c.loop-k.invariant most)
