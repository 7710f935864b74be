use Rattle.metric_compare.proofs.Shown.{fits, shown}
use Rattle.metric_compare.proofs.comparisons_enclose.Goals as goal

pub returns : goal.returns
returns c = record { shows = shown; printed = fits }
