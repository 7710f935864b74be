use Rattle.std.proofs.Common.{inl, refl, ◌∷◌, []}
use Rattle.gap_rules.proofs.Trees.{finds, apart}
use Rattle.gap_rules.proofs.laws.leaves_cover.Goals as goal

pub returns-clause-cover : goal.returns-clause-cover
returns-clause-cover c = λ nodes box ls v h i. (let f = finds nodes (box ∷ []) ls v box.held box h (inl refl) i refl in record { leaf = f.leaf; among = f.among; inside = f.inside })

pub returns-clause-apart : goal.returns-clause-apart
returns-clause-apart c = λ nodes box ls h. apart nodes (box ∷ []) ls h (λ other v m i j. m, tt)
