-- The bytes of fields that a line has or leaves empty, and of the lines that have them. No promise of the crate rests
-- on these words.
use Rattle.std.specs.Prelude.{ℕ, Bool, not, ◌&&◌, List, [], ◌∷◌, ◌++◌, Option, Some, None, if◌then◌else◌}
use Rattle.std.specs.Fmt.{decimal}
use Rattle.fixed_interval.specs.Text.{fixed_text}
use Rattle.spares_input.specs.declared.rows.PartRow.{PartRow}
use Rattle.spares_input.specs.declared.rows.RateRow.{RateRow}

-- a number in decimal, or an empty field
abbrev pub number_text : Bool → ℕ → List ℕ
number_text has n = if has then decimal n else []

-- a number with this count of decimals, or an empty field
abbrev pub fixed_text_if : Bool → ℕ → ℕ → List ℕ
fixed_text_if has places n = if has then fixed_text places n else []

-- the name of a parent, or an empty field
abbrev pub parent_text : Option (List ℕ) → List ℕ
parent_text None = []
parent_text (Some name) = name

-- the last field of a part with the comma before it
abbrev pub weight_text : Bool → Bool → ℕ → List ℕ
weight_text weighted line n = if weighted then 44 ∷ number_text line n else []

-- the line of a part: a line unit or not, with a weight or not
abbrev pub part_text : Bool → Bool → PartRow → List ℕ
part_text line weighted r =
    r.name ++ 44 ∷ (parent_text r.parent ++ 44 ∷ (decimal r.cost ++ 44 ∷ (number_text line r.per_system
    ++ 44 ∷ (decimal r.max_depot ++ 44 ∷ (decimal r.max_base ++ (weight_text weighted line r.weight ++ 10 ∷ []))))))

-- the line of a pair's rates, by the names of its part and its site; the pair determines which fields it has
abbrev pub rate_text : Bool → Bool → List ℕ → List ℕ → RateRow → List ℕ
rate_text line depot part site r =
    part ++ 44 ∷ (site ++ 44 ∷ (fixed_text_if (line && not depot) 4 r.demand
    ++ 44 ∷ (fixed_text_if (not depot) 4 r.repair_here
    ++ 44 ∷ (fixed_text_if (not line) 4 r.share ++ 44 ∷ (fixed_text 2 r.repair_days ++ 10 ∷ [])))))
