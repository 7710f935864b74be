use Rattle.line_text.proofs.Public.{all_put}
use Rattle.case_lines.proofs.parts.put_parts_line.Goals as goal

pub returns-else-weighted : goal.returns-else-weighted
returns-else-weighted c = rw c.if-weighted.false (all_put _ _ _ _ (c.put_count_line.ensures 0 2000))
