use Rattle.family_items.proofs.Enclosed.{item_in, item_small}
use Rattle.family_items.proofs.Families.{evaluable, line_in}
use Rattle.family_items.proofs.items_enclose.Goals as goal

pub returns-clause-encloses : goal.returns-clause-encloses
returns-clause-encloses r f c s p k h lp lk = item_in f c s.list h.scale.0 (evaluable f c s h) p k lp lk

pub returns-clause-line : goal.returns-clause-line
returns-clause-line r f c s l j h line base = line_in f c s.list l j h.scale.0 (evaluable f c s h) line base

pub returns-clause-small : goal.returns-clause-small
returns-clause-small r f c s p k h lp lk = item_small f c s.list h.scale.0 (evaluable f c s h) p k lp lk
