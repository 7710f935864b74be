-- The rows of the table of sites.
use Rattle.std.specs.Prelude.{ℕ, Bool, true, false, not, List, [], ◌∷◌, Result, Ok, Err, if◌then◌else◌, bytes_eq, codes}
use Rattle.spares_input.specs.Limits.{most_sites, most_days}
use Rattle.spares_input.specs.declared.rows.SiteRow.{SiteRow}
use Rattle.csv_tables.specs.Rest.{Record, all_records}
use Rattle.answers.specs.Steps.{◌>>=◌}
use Rattle.csv_tables.specs.Fields.{field, name_in, used_in}
use Rattle.csv_tables.specs.Tables.{table_of}
use Rattle.csv_tables.specs.declared.fault.TableFault.{TableFault}
use Rattle.csv_tables.specs.declared.fault.TableFault.TheVariants as fault

-- the kind of a site: whether it is the depot
abbrev pub depot_in : ℕ → List ℕ → Result Bool TableFault
depot_in row text =
    if bytes_eq text (codes "depot") then Ok true
    else if bytes_eq text (codes "base") then Ok false
    else Err (fault.BadKind row)

-- the site of a record: a base has systems, and days of shipment with 2 decimals
unfoldable pub site_of : ℕ → Record → Result SiteRow TableFault
site_of row r = do
  name ← name_in row 1 (field r 0)
  depot ← depot_in row (field r 1)
  systems ← used_in (not depot) row 3 0 1 10000 (field r 2)
  ship ← used_in (not depot) row 4 2 0 most_days (field r 3)
  Ok (record { name = name; depot = depot; systems = systems; ship = ship })

-- the columns of the table of sites
abbrev pub sites_header : List (List ℕ)
sites_header = codes "site" ∷ codes "kind" ∷ codes "systems" ∷ codes "ship_days" ∷ []

-- the rows of a table of sites, or its first fault
abbrev pub sites_of : List ℕ → Result (List SiteRow) TableFault
sites_of bytes = table_of site_of most_sites 4 sites_header (all_records bytes)
