use Rattle.spares_input.proofs.FrameFacts.{frame_numbered, frame_answer}
use Rattle.spares_input.proofs.frame.Frame.build.Goals as goal

pub invariant_of-result : goal.invariant_of-result
invariant_of-result c =
    let l = rw c.as_slice.ensures.value at c.in_ok-links.ensures.linked in
    let f = frame_numbered _ _ _ l.depot l.numbered c.requires.few_sites c.requires.few_parts c.requires.site_rows c.requires.part_rows l.moved_is in
    let placed = rw c.as_slice.ensures.value at c.in_ok-links.ensures.placed in
    (f, placed, l.lines, l.units_are, l.shops)

pub returns : goal.returns
returns c =
    let l = rw c.as_slice.ensures.value at c.in_ok-links.ensures.linked in
    frame_answer _ _ _ l.depot l.numbered l.moved_is
