-- Boxes of vectors, and their vectors by number.
use Rattle.std.specs.Prelude.{ℕ, ◌+◌, ◌/◌, ◌%◌, ◌≤◌, List, [], ◌∷◌, length, All}
use Rattle.std.specs.List.{AllZip}
use Rattle.spares_input.specs.Limits.{most_family, most_stock}
use Rattle.family_points.specs.Counts.{product, widths}

-- the bounds of a site: a stock for each of at most 9 parts, none above 63, from the least to the most
pub record IsBox (low high : List ℕ) : Type 0 where
  pub few : length low ≤ most_family
  pub ordered : AllZip (λ x y. x ≤ y) low high
  pub small : All (λ x. x ≤ most_stock) high

-- the n-th of the vectors from low to high, from 0 on
abbrev pub nth : List ℕ → List ℕ → ℕ → List ℕ
nth [] high n = []
nth (a ∷ low) [] n = []
nth (a ∷ low) (b ∷ high) n = (a + n / product (widths low high)) ∷ nth low high (n % product (widths low high))
