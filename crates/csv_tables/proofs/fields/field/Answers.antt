use Rattle.std.proofs.Common.{sym, refl}
use Rattle.csv_tables.specs.Fields.{trim_start, trim_end}
use Rattle.csv_tables.proofs.fields.field.Goals as goal

pub returns-in-None : goal.returns-in-None
unfolding trim_start trim_end
returns-in-None c = rw (sym c.in-None.ensures.value) refl
