use Rattle.family_tables.proofs.KeptItems.{kept_item}
use Rattle.family_tables.proofs.kept_are_items.Goals as goal

pub returns : goal.returns
returns c = λ f case l e s o d p i k valid line en has at m only. kept_item f case l valid line s o d has e p i k en at m only
