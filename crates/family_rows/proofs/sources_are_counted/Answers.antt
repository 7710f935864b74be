use Rattle.family_rows.proofs.Counted as counted
use Rattle.family_rows.proofs.sources_are_counted.Goals as goal

pub returns : goal.returns
returns c = counted.sources_are_counted
