use Rattle.std.proofs.Common.{List, ℕ, ap, ◌∙◌}
use Rattle.price_certificate.specs.Covers.{places_of, trimmed, nodes_of}
use Rattle.certified_plan.proofs.Made.{held_count, held_within}
use Rattle.certified_plan.proofs.certifying.cover_of.Goals as goal

pub trim-requires-clause-count : goal.trim-requires-clause-count
trim-requires-clause-count c =
    held_count c.args.case.now c.args.held.now.list c.args.line.0 c.as_slice.result.now (c.as_slice.ensures ∙ c.in_ok-vector.ensures)

pub trim-requires-clause-within : goal.trim-requires-clause-within
trim-requires-clause-within c =
    held_within c.args.case.now c.args.held.now c.args.line.0 c.as_slice.result.now c.requires.line c.requires.held (c.as_slice.ensures ∙ c.in_ok-vector.ensures)

pub returns : goal.returns
returns c =
    c.of.ensures ∙ c.in_ok-nodes.ensures.nodes
    ∙ ap (λ (v : List ℕ). nodes_of (trimmed c.args.price.p c.args.floor (places_of c.args.case.now c.args.line.0 v))) (c.as_slice.ensures ∙ c.in_ok-vector.ensures)
