-- The case of lines.
use Rattle.std.specs.Prelude.{Result, Ok, Err}
use Rattle.spares_input.specs.Frames.{FrameRows, frame_of}
use Rattle.spares_input.specs.Cases.{CaseRows}
use Rattle.spares_input.specs.declared.fault.CaseFault.{CaseFault}
use Rattle.case_lines.specs.declared.reading.CaseLines.{CaseLines}

-- the rows of lines
abbrev pub rows_of : CaseLines → CaseRows
rows_of c = record { sites = c.sites; parts = c.parts; rates = c.rates }

-- these rows, if there is a frame
abbrev pub with_frame : CaseRows → Result FrameRows CaseFault → Result CaseRows CaseFault
with_frame c (Ok frame) = Ok c
with_frame c (Err fault) = Err fault

-- the case whose lines have these rows, or the first rule that their sites and parts break
abbrev pub framed : CaseRows → Result CaseRows CaseFault
framed c = with_frame c (frame_of c.sites c.parts)
