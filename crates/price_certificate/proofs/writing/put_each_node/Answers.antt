use Rattle.std.proofs.Common.{refl, ◌++◌, length}
use Rattle.line_text.proofs.Public.{text_from, print_step, print_end}
use Rattle.price_certificate.specs.declared.certificate.Node.TheVariants as node
use Rattle.price_certificate.specs.Grammar.{node_line}
use Rattle.price_certificate.proofs.writing.put_each_node.Goals as goal

pub loop-k-preserved : goal.loop-k-preserved
loop-k-preserved c =
    let xs = c.args.nodes.now in
    print_step (λ _ _. node_line) xs (node.Split 0 0) (length xs) c.loop-k.k c.loop-k.out.items c.put_node.new.out.items (c.args.out.now.items ++ text_from (λ _ _. node_line) xs (length xs) 0)
    c.loop-k-test.true c.loop-k-test.true c.in_ok-put_node.ensures c.loop-k.invariant

pub loop-k-init : goal.loop-k-init
loop-k-init c = refl

pub returns : goal.returns
returns c = print_end (λ _ _. node_line) c.args.nodes.now (length c.args.nodes.now) c.loop-k.k c.loop-k.out.items c.args.out.now.items c.loop-k-test.false c.loop-k.invariant
