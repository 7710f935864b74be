-- A case is that of its own lines.
use Rattle.std.proofs.Common.{◌≡◌, Ok, ap}
use Rattle.spares_input.specs.Cases.{CaseRows, frame_rows, IsCase}
use Rattle.spares_input.proofs.Public.{own_frame}
use Rattle.case_lines.specs.Framed.{with_frame, framed}

-- the rows of a valid case are read as that case
pub framed_again : (c : CaseRows) → IsCase c → framed c ≡ Ok c
framed_again c v = ap (with_frame c) (own_frame (frame_rows c) v.frame)
