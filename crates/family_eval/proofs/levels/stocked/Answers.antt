use Rattle.std.proofs.Common.{ap}
use Rattle.moment_table.specs.declared.kinds.Row.{Row}
use Rattle.family_items.specs.declared.item.Item.{Item}
use Rattle.family_items.specs.Profile.{stocked}
use Rattle.family_eval.proofs.levels.stocked.Goals as goal

pub returns : goal.returns
unfolding stocked
returns g c =
    ap {B = Item g.row.F} (λ (row : Row g.row.F). record {
      part = c.args.pair.part;
      site = c.args.pair.site;
      stock = c.args.pair.stock;
      mean = c.args.moments.mean;
      variance = c.args.moments.variance;
      backorders = row.ebo;
      spread = row.vbo;
    }) c.in_ok-row.ensures.ends
