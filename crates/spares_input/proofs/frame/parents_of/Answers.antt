use Rattle.std.proofs.Common.{◌≡◌, ◌+◌, get_or, None, sym, ap, ◌∙◌}
use Rattle.std.proofs.lemmas.List.{get_or_read}
use Rattle.std.specs.Option.{option_map, option_and_then}
use Rattle.spares_input.specs.Rows.{no_part}
use Rattle.spares_input.specs.Frames.{line_of, part_names, place_of}
use Rattle.spares_input.specs.declared.rows.PartRow.{PartRow}
use Rattle.spares_input.specs.declared.rows.PartId.{PartId}
use Rattle.spares_input.proofs.PartFacts.{parents_more}
use Rattle.spares_input.proofs.PartPlaces.{line_by_name}
use Rattle.spares_input.proofs.frame.parents_of.Goals as goal

pub loop-part-preserved : goal.loop-part-preserved
loop-part-preserved c =
    let parts = c.args.parts.now in
    let i = c.loop-part.part-index in
    let inv = c.loop-part.invariant in
    let row = get_or_read parts i c.part-item.result c.loop-part-test.true c.part-item.is no_part in
    let here : option_map (λ (l : PartId). l.0) c.parent_of.result ≡ line_of parts i =
    ap (option_map (λ (l : PartId). l.0)) c.parent_of.ensures ∙ line_by_name parts c.args.places.now c.part-item.result.parent c.requires
    ∙ ap (λ (r : PartRow). option_and_then (λ name. place_of name (part_names parts)) r.parent) row in
    record {
      whole = sym c.push.new.self.ok.0 ∙ c.in_ok-push.ensures.len ∙ ap (λ n. n + 1) (c.loop-part.parents.ok.0 ∙ inv.whole);
      each = λ p b. ap (λ xs. option_map (λ (l : PartId). l.0) (get_or xs p None)) c.in_ok-push.ensures.items
          ∙ parents_more parts c.loop-part.parents.items c.parent_of.result i inv.whole here inv.each p b;
    }
