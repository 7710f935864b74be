use Rattle.std.proofs.Common.{sym}
use Rattle.spares_input.proofs.NameFacts.{is_name_fits}
use Rattle.spares_input.proofs.name.Name.of.Goals as goal

pub padded-requires : goal.padded-requires
padded-requires c = is_name_fits c.args.bytes.now (sym c.if-not-is_name.ensures)
