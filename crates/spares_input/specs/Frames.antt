-- The sites and parts of a case: their rules, and the first rule that rows break.
use Rattle.std.specs.Prelude.{◌≡◌, ℕ, ◌+◌, ◌<◌, ◌≤◌, Bool, true, false, not, ◌&&◌, nat_le, get_or, List, [], ◌∷◌, ◌++◌, map, filter, take, length, All, Option, Some, None, Result, if◌then◌else◌, bytes_eq, position, count_by}
use Rattle.std.specs.List.{list_any, range_with_len, IsDistinct}
use Rattle.std.specs.Option.{option_map_or, option_and_then}
use Rattle.spares_input.specs.First.{first, first_of, unless}
use Rattle.spares_input.specs.Limits.{most_sites, most_parts, most_shop_units}
use Rattle.spares_input.specs.Rows.{is_line, IsSiteRow, IsPartRow, no_site, no_part}
use Rattle.spares_input.specs.declared.rows.SiteRow.{SiteRow}
use Rattle.spares_input.specs.declared.rows.PartRow.{PartRow}
use Rattle.spares_input.specs.declared.fault.CaseFault.{CaseFault}
use Rattle.spares_input.specs.declared.fault.CaseFault.TheVariants as fault

-- a frame as contracts see it: the depot and then the bases in file order, and the parts in file order
pub record FrameRows : Type 0 where
  pub sites : List SiteRow
  pub parts : List PartRow

-- row k of the sites
abbrev pub site_at : List SiteRow → ℕ → SiteRow
site_at sites k = get_or sites k no_site

-- row p of the parts
abbrev pub part_at : List PartRow → ℕ → PartRow
part_at parts p = get_or parts p no_part

-- the names of the sites, in their order
abbrev pub site_names : List SiteRow → List (List ℕ)
site_names = map (λ r. r.name)

-- the names of the parts, in their order
abbrev pub part_names : List PartRow → List (List ℕ)
part_names = map (λ r. r.name)

-- a name is one of these
abbrev pub is_among : List ℕ → List (List ℕ) → Bool
is_among name names = list_any (bytes_eq name) names

-- the first place of a name
abbrev pub place_of : List ℕ → List (List ℕ) → Option ℕ
place_of name names = position (bytes_eq name) names

-- the place of the part that a shop unit belongs to; a line unit has none
abbrev pub line_of : List PartRow → ℕ → Option ℕ
line_of parts p = option_and_then (λ name. place_of name (part_names parts)) (part_at parts p).parent

-- a row is a shop unit of this line unit
abbrev pub is_shop_of : PartRow → PartRow → Bool
is_shop_of line r = option_map_or (bytes_eq line.name) r.parent false

-- the site is the depot
abbrev pub is_depot : SiteRow → Bool
is_depot r = r.depot

-- the site is a base
abbrev pub is_base : SiteRow → Bool
is_base r = not r.depot

-- the rule that row k of the sites breaks; in its file this is row k + 2
abbrev pub site_fault : List SiteRow → ℕ → Option CaseFault
site_fault sites k =
    if is_among (site_at sites k).name (site_names (take k sites)) then Some (fault.DoubleSite (k + 2))
    else if (site_at sites k).depot && list_any is_depot (take k sites) then Some (fault.TwoDepots (k + 2))
    else None

-- the rule that the sites break as a whole
abbrev pub kinds_fault : List SiteRow → Option CaseFault
kinds_fault sites =
    if not (list_any is_depot sites) then Some fault.NoDepot
    else if not (list_any is_base sites) then Some fault.NoBase
    else None

-- the rule that row k of the parts breaks by its name
abbrev pub double_part : List PartRow → ℕ → Option CaseFault
double_part parts k =
    if is_among (part_at parts k).name (part_names (take k parts)) then Some (fault.DoublePart (k + 2)) else None

-- the rule that row k of the parts breaks as a shop unit, given its parent's place or that no part has that name
abbrev pub shop_fault : List PartRow → ℕ → Option ℕ → Option CaseFault
shop_fault parts k None = Some (fault.UnknownParent (k + 2))
shop_fault parts k (Some l) =
    if not (is_line (part_at parts l)) then Some (fault.ParentNotLine (k + 2))
    else if nat_le most_shop_units (count_by (is_shop_of (part_at parts l)) (take k parts))
    then Some (fault.TooManyShopUnits (k + 2))
    else None

-- the rule that row k of the parts breaks by its parent
abbrev pub parent_fault : List PartRow → ℕ → Option CaseFault
parent_fault parts k = if is_line (part_at parts k) then None else shop_fault parts k (line_of parts k)

-- the first rule that the rows break
abbrev pub frame_fault : List SiteRow → List PartRow → Option CaseFault
frame_fault sites parts = first_of (
    first (site_fault sites) (length sites)
    ∷ kinds_fault sites
    ∷ first (double_part parts) (length parts)
    ∷ first (parent_fault parts) (length parts)
    ∷ [])

-- the depot, and then the bases in file order
abbrev pub sites_in_order : List SiteRow → List SiteRow
sites_in_order sites = filter is_depot sites ++ filter is_base sites

-- the frame of the rows, or the first rule that they break
abbrev pub frame_of : List SiteRow → List PartRow → Result FrameRows CaseFault
frame_of sites parts = unless (frame_fault sites parts) (record { sites = sites_in_order sites; parts = parts })

-- the parent of a shop unit is the name of a line unit
abbrev pub has_line : List PartRow → ℕ → Bool
has_line parts p = option_map_or (λ l. is_line (part_at parts l)) (line_of parts p) false

-- the line units among the first n parts, in part order
abbrev pub lines_below : List PartRow → ℕ → List ℕ
lines_below parts n = filter (λ p. is_line (part_at parts p)) (range_with_len 0 n)

-- the line units, in part order
abbrev pub line_units : List PartRow → List ℕ
line_units parts = lines_below parts (length parts)

-- the shop units of line unit l among the first n parts, in part order
abbrev pub shops_below : List PartRow → ℕ → ℕ → List ℕ
shops_below parts l n = filter (λ p. is_shop_of (part_at parts l) (part_at parts p)) (range_with_len 0 n)

-- the shop units of line unit l, in part order
abbrev pub shop_units_among : List PartRow → ℕ → List ℕ
shop_units_among parts l = shops_below parts l (length parts)

-- the family of line unit l: l, and then its shop units. A shop unit has none: its family is itself alone.
abbrev pub family_of_line : List PartRow → ℕ → List ℕ
family_of_line parts l = l ∷ shop_units_among parts l

-- the invariant of every frame
pub record IsFrame (f : FrameRows) : Type 0 where
  pub fewest_sites : 2 ≤ length f.sites
  pub most_sites : length f.sites ≤ most_sites
  pub most_parts : length f.parts ≤ most_parts
  pub depot : (site_at f.sites 0).depot ≡ true
  pub bases : (k : ℕ) → 0 < k → k < length f.sites → (site_at f.sites k).depot ≡ false
  pub distinct_sites : IsDistinct bytes_eq (site_names f.sites)
  pub distinct_parts : IsDistinct bytes_eq (part_names f.parts)
  pub parents : (p : ℕ) → p < length f.parts → is_line (part_at f.parts p) ≡ false → has_line f.parts p ≡ true
  pub few_shop_units : (l : ℕ) → l < length f.parts → length (shop_units_among f.parts l) ≤ most_shop_units
  pub site_rows : All IsSiteRow f.sites
  pub part_rows : All IsPartRow f.parts
