use Rattle.std.proofs.Common.{refl, ◌++◌, List, [], length, ap, ◌∙◌}
use Rattle.std.specs.List.{concat}
use Rattle.std.proofs.lemmas.List.{get_or_default}
use Rattle.line_text.proofs.Public.{text_from, print_step, print_end}
use Rattle.price_certificate.specs.declared.certificate.Node.{Node}
use Rattle.price_certificate.specs.Grammar.{cover}
use Rattle.price_certificate.proofs.writing.put_each_cover.Goals as goal

pub loop-k-preserved : goal.loop-k-preserved
loop-k-preserved c =
    let xs = c.args.list.now in
    let k = c.loop-k.k in
    print_step (λ _ _. cover) xs [] (length xs) k c.loop-k.out.items c.put_cover.new.out.items (c.args.out.now.items ++ text_from (λ _ _. cover) xs (length xs) 0)
    c.loop-k-test.true c.loop-k-test.true
    (c.in_ok-put_cover.ensures ∙ ap (λ (x : List Node). c.loop-k.out.items ++ concat (cover.print x)) (c.index-list-k.is ∙ get_or_default xs k c.index-list-k.result [] c.loop-k-test.true)) c.loop-k.invariant

pub loop-k-init : goal.loop-k-init
loop-k-init c = refl

pub returns : goal.returns
returns c = print_end (λ _ _. cover) c.args.list.now (length c.args.list.now) c.loop-k.k c.loop-k.out.items c.args.out.now.items c.loop-k-test.false c.loop-k.invariant
