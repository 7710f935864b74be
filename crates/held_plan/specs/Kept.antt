-- The parts of curves that are kept from one choice of stocks to the next.
use Rattle.std.specs.Prelude.{◌≡◌, ℕ, List, length, get_or, Option, None, IfSome}
use Rattle.hull.specs.declared.point.Point.{Point}
use Rattle.step_walk.specs.Prefix.{curve_at}
use Rattle.curve_parts.specs.Beyond.{IsKnownPart}
use Rattle.part_filling.specs.declared.window.Window.{Window}
use Rattle.part_filling.specs.Known.{IsPriceWindow}

-- a window, and for each family in order its part with how high all vertices behind it lie, if the part is kept
pub record KeptRows : Type 0 where
  pub window : Window
  pub parts : List (Option (List Point × ℕ))

-- the part is that of the points between the prices of the window, and all vertices behind it lie as high as its number
abbrev pub IsPartIn : Window → List Point → List Point × ℕ → Type 0
IsPartIn w points part = IsKnownPart w.low w.high points part.0 part.1

-- There is a place for each family, and a part that is kept there is the family's between the prices of the window.
pub record AreKeptIn (w : Window) (families : List (List Point)) (parts : List (Option (List Point × ℕ))) : Type 0 where
  pub prices : IsPriceWindow w.low w.high
  pub count : length parts ≡ length families
  pub each : (f : ℕ) → IfSome (get_or parts f None) (IsPartIn w (curve_at families f))

-- the parts that are kept are those of the families between the prices of their window
abbrev pub AreKeptParts : List (List Point) → KeptRows → Type 0
AreKeptParts families x = AreKeptIn x.window families x.parts
