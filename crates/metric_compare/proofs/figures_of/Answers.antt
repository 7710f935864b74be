use Rattle.std.proofs.Common.{◌∙◌, lit<, refl}
use Rattle.metric_compare.proofs.figures_of.Goals as goal

pub figures_at-requires : goal.figures_at-requires
figures_at-requires c = (lit< tt, (refl, (c.requires.inputs, c.as_slice.ensures.value ∙ c.in_ok-families.ensures.ends)))
