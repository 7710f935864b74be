use Rattle.case_maker.proofs.case.frame_of.Goals as goal

pub unreachable-requires : goal.unreachable-requires
unreachable-requires c = c.requires.whole c.in-Err-Fault.field-0-0 (rw c.in-Err-Fault.field-0-is at c.in-Err-Fault.ensures)
