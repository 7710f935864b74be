use Rattle.std.proofs.Common.{◌≡◌, ◌∙◌, ap, sym, is_some, drop, bytes_eq, position, List, ℕ, ◌+◌, get_or}
use Rattle.std.proofs.lemmas.List.{take_rest}
use Rattle.spares_io.proofs.Find.{Entry, are_distinct_met, are_distinct_unmet}
use Rattle.spares_io.proofs.memory_shelf.MemShelf.are_distinct.Goals as goal
use Rattle.spares_io.proofs.memory_shelf.MemShelf.are_distinct.Goals.{After-is_some}

-- the place where the name stands later, by the list and the index alone
found_later : (c : After-is_some)
    → c.is_some.result ≡ is_some (position (λ later. bytes_eq (get_or c.args.files.now c.loop-index.index c.index-files-index.result).0 later.0) (drop (c.loop-index.index + 1) c.args.files.now))
found_later c =
    c.is_some.ensures
    ∙ ap is_some (c.find_place.ensures
    ∙ ap (position (λ (later : Entry). bytes_eq c.as_str.result.now later.0)) (take_rest c.args.files.now (c.loop-index.index + 1))
    ∙ ap (λ (name : List ℕ). position (λ (later : Entry). bytes_eq name later.0) (drop (c.loop-index.index + 1) c.args.files.now))
    (c.as_str.ensures ∙ ap (λ (file : Entry). file.0) c.index-files-index.is))

pub returns-then-is_some : goal.returns-then-is_some
returns-then-is_some c =
    sym (c.loop-index.invariant
    ∙ are_distinct_met c.args.files.now c.loop-index.index c.index-files-index.result c.loop-index-test.true
    (sym (found_later (goal.at.returns-then-is_some c).After-is_some) ∙ c.if-is_some.true))

pub loop-index-preserved : goal.loop-index-preserved
loop-index-preserved c =
    c.loop-index.invariant
    ∙ are_distinct_unmet c.args.files.now c.loop-index.index c.index-files-index.result c.loop-index-test.true
    (sym (found_later (goal.at.loop-index-preserved c).After-is_some) ∙ c.if-is_some.false)
