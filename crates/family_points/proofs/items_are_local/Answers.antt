use Rattle.family_points.proofs.Items.{item_same}
use Rattle.family_points.proofs.items_are_local.Goals as goal

pub returns : goal.returns
returns c = item_same
