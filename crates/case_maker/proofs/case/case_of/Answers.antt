use Rattle.case_maker.proofs.case.case_of.Goals as goal

pub unreachable-requires : goal.unreachable-requires
unreachable-requires c =
    c.requires.whole c.in-Err-default-Fault.field-0-1-0 (rw c.in-Err-default-Fault.field-0-1-is at c.in-Err-default-Fault.ensures.answer)
