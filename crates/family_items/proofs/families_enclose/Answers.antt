use Rattle.family_items.proofs.Families.{evaluable, family_in, family_small}
use Rattle.family_items.proofs.families_enclose.Goals as goal

pub returns-clause-encloses : goal.returns-clause-encloses
returns-clause-encloses r f c s l h line = family_in f c s l h.scale.0 (evaluable f c s h) line

pub returns-clause-small : goal.returns-clause-small
returns-clause-small r f c s l h line = family_small f c s l h.scale.0 (evaluable f c s h) line
