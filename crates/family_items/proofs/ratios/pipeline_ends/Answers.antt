use Rattle.std.proofs.Common.{◌∙◌}
use Rattle.family_items.proofs.Shifted.{pipeline_shifted}
use Rattle.family_items.proofs.ratios.pipeline_ends.Goals as goal

pub returns : goal.returns
returns g c = record { ends = c.quotient_ends.ensures ∙ pipeline_shifted g.row.F c.args.num c.requires.scale.0 c.requires.scale.1 c.requires.small }
