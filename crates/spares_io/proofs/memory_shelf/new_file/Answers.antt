use Rattle.std.proofs.Common.{◌≡◌, ◌∙◌}
use Rattle.spares_io.proofs.memory_shelf.new_file.Goals as goal

pub returns : goal.returns
returns c =
    let content : c.of.result ≡ c.args.bytes.now = c.of.ensures ∙ c.in_ok-to_vec.ensures.items_if_clones_equal (λ x y e. e) in
    λ i. (c.in_ok-key.ensures i, content i)
