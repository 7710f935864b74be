-- Rows that each belong to one pair of a part and a site. A pair has a place: by part and then by site.
use Rattle.std.specs.Prelude.{◌==◌, ℕ, ◌+◌, ◌*◌, ◌/◌, ◌%◌, Bool, List, map, find, Option, is_some, unwrap_or}
use Rattle.std.specs.List.{range_with_len}
use Rattle.spares_input.specs.declared.rows.PartId.{PartId}
use Rattle.spares_input.specs.declared.rows.SiteId.{SiteId}

-- the place of part p at site k, with n sites
abbrev pub pair_place : ℕ → ℕ → ℕ → ℕ
pair_place n p k = p * n + k

-- the part of the pair at place i
abbrev pub part_of_place : ℕ → ℕ → PartId
part_of_place n i = record { 0 = i / n }

-- the site of the pair at place i
abbrev pub site_of_place : ℕ → ℕ → SiteId
site_of_place n i = record { 0 = i % n }

module _ {A : Type 0} (place : A → ℕ) where
  -- the first row at a place
  unfoldable pub row_at : List A → ℕ → Option A
  row_at rows i = find (λ r. place r == i) rows

  -- whether a row has this place
  abbrev pub has_row : List A → ℕ → Bool
  has_row rows i = is_some (row_at rows i)

  -- the rows of the first n places, in their order
  abbrev pub rows_in_order : A → ℕ → List A → List A
  rows_in_order none n rows = map (λ i. unwrap_or (row_at rows i) none) (range_with_len 0 n)
