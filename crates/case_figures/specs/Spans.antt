-- Intervals of one of the three widths, as numbers.
use Rattle.std.specs.Prelude.{ℕ, ◌==◌, if◌then◌else◌}
use Rattle.fixed_interval.specs.Ends.{Ends}
use Rattle.case_figures.specs.declared.figures.Span.{Span}
use Rattle.case_figures.specs.declared.figures.Span.TheVariants.{Bits32, Bits48, Bits52}

-- the count of binary places of a span
abbrev pub places : Span → ℕ
places (Bits32 x) = 32
places (Bits48 x) = 48
places (Bits52 x) = 52

-- the ends of an interval of any width
abbrev pub ends : Span → Ends
ends (Bits32 x) = x
ends (Bits48 x) = x
ends (Bits52 x) = x

-- an interval with f places
abbrev pub span_of : ℕ → Ends → Span
span_of f x = if f == 32 then Bits32 x else if f == 48 then Bits48 x else Bits52 x
