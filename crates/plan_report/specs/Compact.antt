-- The pieces of a pair's line, from its compact item. No promise of the crate rests on these words.
use Rattle.std.specs.Prelude.{ℕ, List, ◌∷◌, ◌++◌, codes}
use Rattle.std.specs.Fmt.{decimal}
use Rattle.case_figures.specs.declared.compact.CompactItem.{CompactItem}
use Rattle.plan_report.specs.Texts.{interval_text}

-- the start of a pair's line: its names and its stock
abbrev pub names_text : List ℕ → List ℕ → ℕ → List ℕ
names_text part site stock = codes "item," ++ (part ++ (44 ∷ site ++ (44 ∷ decimal stock)))

-- the four intervals of a pair with f binary places, each after a comma
abbrev pub compact_text : ℕ → CompactItem → List ℕ
compact_text f x =
    (44 ∷ interval_text f x.mean)
    ++ ((44 ∷ interval_text f x.variance)
    ++ ((44 ∷ interval_text f x.backorders)
    ++ (44 ∷ interval_text f x.spread)))
