-- Facts about the rows between the steps of a build. No promise of the crate rests on these words.
use Rattle.std.specs.Prelude.{◌≡◌, ℕ, ◌<◌, List, [], ◌∷◌, length, take, map, slice_get, Option, Some, None, is_some, Result, Ok, Err, if◌then◌else◌, position, bytes_eq, get_or, count_by, ⊤}
use Rattle.answers.specs.declared.stop.Stop.{Stop}
use Rattle.answers.specs.declared.stop.Stop.TheVariants as stop
use Rattle.std.specs.List.{IsDistinct}
use Rattle.std.specs.List.{remove}
use Rattle.std.specs.HashMap.{HashMap, get}
use Rattle.std.specs.Option.{option_flatten, option_map, option_map_or}
use Rattle.spares_input.specs.Frames.{part_at, part_names, is_shop_of, place_of, line_of, frame_fault, line_units, family_of_line, shops_below, is_depot}
use Rattle.spares_input.specs.Pairs.{row_at, part_of_place, site_of_place}
use Rattle.spares_input.specs.declared.rows.SiteRow.{SiteRow}
use Rattle.spares_input.specs.declared.rows.PartRow.{PartRow}
use Rattle.spares_input.specs.declared.fault.CaseFault.{CaseFault}
use Rattle.spares_input.specs.declared.fault.CaseFault.TheVariants as fault
use Rattle.spares_input.specs.declared.fault.StockFault.{StockFault}
use Rattle.spares_input.specs.declared.fault.StockFault.TheVariants as stock_fault
use Rattle.spares_input.specs.declared.rows.PartId.{PartId}
use Rattle.spares_input.specs.declared.rows.SiteId.{SiteId}

-- the call refuses by exactly this fault; it may always find no memory
abbrev pub StopsAt : {T E : Type 0} → Option E → Result T (Stop E) → Type 0
StopsAt due (Ok value) = due ≡ None
StopsAt due (Err stop.NoMemory) = ⊤
StopsAt due (Err (stop.Fault fault)) = due ≡ Some fault

-- no two parts have one name
abbrev pub AreDistinct : List PartRow → Type 0
AreDistinct parts = IsDistinct bytes_eq (part_names parts)

-- the map has the place of each part's name, and no other name
abbrev pub ArePlaces : {S : Type 0} → HashMap (List ℕ) PartId S → List PartRow → Type 0
ArePlaces places parts = (name : List ℕ)
    → option_map (λ (p : PartId). p.0) (get bytes_eq places name) ≡ place_of name (part_names parts)

-- a list with the element at a place put before all others
abbrev pub to_front : {X : Type 0} → List X → ℕ → List X
to_front xs place = option_map_or (λ x. x ∷ remove xs place) (slice_get xs place) xs

-- rows that break no rule, and the place of the depot
pub record IsNumbered (sites : List SiteRow) (parts : List PartRow) (depot : ℕ) : Type 0 where
  pub no_fault : frame_fault sites parts ≡ None
  pub distinct_parts : AreDistinct parts
  pub depot_place : position is_depot sites ≡ Some depot

-- the places of the line units of the parts, each at its shop unit's place
pub record AreParents (parts : List PartRow) (parents : List (Option PartId)) : Type 0 where
  pub whole : length parents ≡ length parts
  pub each : (p : ℕ) → p < length parts → option_map (λ line. line.0) (get_or parents p None) ≡ line_of parts p

-- each part's number of shop units among the first k parts
pub record AreCounts (parts : List PartRow) (k : ℕ) (counts : List ℕ) : Type 0 where
  pub whole : length counts ≡ length parts
  pub each : (l : ℕ) → l < length parts → get_or counts l 0 ≡ count_by (is_shop_of (part_at parts l)) (take k parts)

-- the numbers of these parts
abbrev pub ids : List PartId → List ℕ
ids parts = map (λ (p : PartId). p.0) parts

-- list l is the family of part l
pub record AreFamilies (parts : List PartRow) (families : List (List ℕ)) : Type 0 where
  pub whole : length families ≡ length parts
  pub each : (l : ℕ) → l < length parts → get_or families l [] ≡ family_of_line parts l

-- list l has l and its shop units among the first n parts
pub record AreFamiliesBelow (parts : List PartRow) (n : ℕ) (families : List (List ℕ)) : Type 0 where
  pub whole : length families ≡ length parts
  pub each : (l : ℕ) → l < length parts → get_or families l [] ≡ l ∷ shops_below parts l n

-- each of the first places has its first row, if any
pub record ArePlaced {A : Type 0} (place : A → ℕ) (count : ℕ) (rows : List A) (slots : List (Option A)) : Type 0 where
  pub whole : length slots ≡ count
  pub each : (i : ℕ) → i < count → slice_get slots i ≡ Some (row_at place rows i)

-- a row's pair is one of these numbers of sites and parts
abbrev pub IsPairOf : ℕ → ℕ → PartId → SiteId → Type 0
IsPairOf sites parts part site = (part.0 < parts) × (site.0 < sites)

-- the fault of a place without a row
abbrev pub vacant : {A E : Type 0} → (ℕ → E) → List (Option A) → ℕ → Option E
vacant fault slots i = if is_some (option_flatten (slice_get slots i)) then None else Some (fault i)

-- the fault of a place without a row of rates, with n sites
abbrev pub missing_rate_at : ℕ → ℕ → CaseFault
missing_rate_at n i = fault.MissingRate (part_of_place n i) (site_of_place n i)

-- the fault of a place without a row of stocks, with n sites
abbrev pub missing_stock_at : ℕ → ℕ → StockFault
missing_stock_at n i = stock_fault.Missing (part_of_place n i) (site_of_place n i)

-- rows that break no rule, the sites with the depot moved to the front, and the parents, the line units and the
-- families of the parts
pub record AreLinked (sites moved : List SiteRow) (parts : List PartRow) (parents : List (Option PartId))
    (units : List ℕ) (families : List (List ℕ)) : Type 0 where
  pub depot : ℕ
  pub numbered : IsNumbered sites parts depot
  pub moved_is : moved ≡ to_front sites depot
  pub lines : AreParents parts parents
  pub units_are : units ≡ line_units parts
  pub shops : AreFamilies parts families
