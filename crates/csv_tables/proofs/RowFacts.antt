-- The rows that tables give have the fields of rows of a case.
use Rattle.std.proofs.Common.{◌≡◌, ◌==◌, ℕ, ◌<◌, Bool, true, false, not, ◌&&◌, List, length, Option, Some, None, is_none, Result, Ok, refl, sym, ◌∙◌, if◌then◌else◌, subst, arith}
use Rattle.std.proofs.lemmas.Bool.{false≢true, true≢false}
use Rattle.std.proofs.lemmas.Option.{none-some, same_Some}
use Rattle.spares_input.specs.Names.{is_name}
use Rattle.spares_input.specs.Rows.{is_line, IsNumberField, IsSiteRow, IsPartRow}
use Rattle.spares_input.specs.Frames.{FrameRows, part_at, part_names, place_of, site_names}
use Rattle.spares_input.specs.Cases.{IsRateOf}
use Rattle.spares_input.specs.Stocks.{IsStockOf}
use Rattle.spares_input.specs.declared.rows.SiteRow.{SiteRow}
use Rattle.spares_input.specs.declared.rows.PartRow.{PartRow}
use Rattle.spares_input.specs.declared.rows.RateRow.{RateRow}
use Rattle.spares_input.specs.declared.rows.StockRow.{StockRow}
use Rattle.spares_input.proofs.Public.{part_named, site_named}
use Rattle.csv_tables.specs.Rest.{Record}
use Rattle.answers.specs.Steps.{◌>>=◌}
use Rattle.csv_tables.specs.Fields.{field, has_none, name_in, number_in, used_in}
use Rattle.csv_tables.specs.Sites.{depot_in, site_of}
use Rattle.csv_tables.specs.Parts.{parent_in, part_of, weight_in}
use Rattle.csv_tables.specs.Rates.{found_or, part_in, rate_in, rate_of, site_in}
use Rattle.csv_tables.specs.Stocks.{stock_of}
use Rattle.csv_tables.specs.declared.fault.TableFault.{TableFault}
use Rattle.csv_tables.specs.declared.fault.TableFault.TheVariants as fault
use Rattle.csv_tables.proofs.TableFacts.{bind_ok, same_ok}
use Rattle.csv_tables.proofs.FieldFacts.{named, number_range, used_field}

-- the row of a record of sites is valid
pub site_good : (row : ℕ) (r : Record) (x : SiteRow) → site_of row r ≡ Ok x → IsSiteRow x
unfolding site_of
site_good row r x h =
    let name = bind_ok (name_in row 1 (field r 0)) _ x h in
    let depot = bind_ok (depot_in row (field r 1)) _ x name.2 in
    let systems = bind_ok (used_in (not depot.0) row 3 0 1 10000 (field r 2)) _ x depot.2 in
    let ship = bind_ok (used_in (not depot.0) row 4 2 0 999999 (field r 3)) _ x systems.2 in
    subst IsSiteRow (same_ok _ x ship.2) (record {
      name = named row 1 (field r 0) name.0 name.1;
      systems = used_field (not depot.0) row 3 0 1 10000 (field r 2) systems.0 systems.1;
      ship = used_field (not depot.0) row 4 2 0 999999 (field r 3) ship.0 ship.1;
    })

parent_named : (row : ℕ) (text : List ℕ) (b : Bool) (parent : Option (List ℕ))
    → (if b then Ok None else name_in row 2 text >>= λ name. Ok (Some name)) ≡ Ok parent → (name : List ℕ) → parent ≡ Some name → is_name name ≡ true
parent_named row text true parent h name e = absurd (none-some name (same_ok None parent h ∙ e))
parent_named row text false parent h name e =
    let a = bind_ok (name_in row 2 text) (λ name. Ok (Some name)) parent h in
    let same : a.0 ≡ name = same_Some a.0 name (same_ok (Some a.0) parent a.2 ∙ e) in
    subst (λ t. is_name t ≡ true) same (named row 2 text a.0 a.1)

default_weight : (line : Bool) (n : ℕ) → ◌≡◌ {A = Result ℕ TableFault} (Ok (if line then 1 else 0)) (Ok n) → IsNumberField line 1 100 n
default_weight true n h = let e : 1 ≡ n = same_ok 1 n h in record { within = λ _. (omega (arith, e), omega (arith, e)); empty = λ k. absurd (true≢false k) }
default_weight false n h = record { within = λ k. absurd (false≢true k); empty = λ _. sym (same_ok 0 n h) }

weight_field : (line : Bool) (row : ℕ) (r : Record) (n : ℕ) (b : Bool)
    → (if b then used_in line row 7 0 1 100 (field r 6) else Ok (if line then 1 else 0)) ≡ Ok n → IsNumberField line 1 100 n
weight_field line row r n true h = used_field line row 7 0 1 100 (field r 6) n h
weight_field line row r n false h = default_weight line n h

-- the row of a record of parts is valid
pub part_good : (row : ℕ) (r : Record) (x : PartRow) → part_of row r ≡ Ok x → IsPartRow x
unfolding part_of
part_good row r x h =
    let name = bind_ok (name_in row 1 (field r 0)) _ x h in
    let parent = bind_ok (parent_in row 2 (field r 1)) _ x name.2 in
    let line = is_none parent.0 in
    let cost = bind_ok (number_in row 3 0 1 100000000 (field r 2)) _ x parent.2 in
    let per_system = bind_ok (used_in line row 4 0 1 100 (field r 3)) _ x cost.2 in
    let max_depot = bind_ok (number_in row 5 0 0 63 (field r 4)) _ x per_system.2 in
    let max_base = bind_ok (number_in row 6 0 0 63 (field r 5)) _ x max_depot.2 in
    let weight = bind_ok (weight_in line row r) _ x max_base.2 in
    subst IsPartRow (same_ok _ x weight.2) (record {
      name = named row 1 (field r 0) name.0 name.1;
      parent = parent_named row (field r 1) (has_none (field r 1)) parent.0 parent.1;
      cost = number_range row 3 0 1 100000000 (field r 2) cost.0 cost.1;
      per_system = used_field line row 4 0 1 100 (field r 3) per_system.0 per_system.1;
      max_depot = (number_range row 5 0 0 63 (field r 4) max_depot.0 max_depot.1).1;
      max_base = (number_range row 6 0 0 63 (field r 5) max_base.0 max_base.1).1;
      weight = weight_field line row r weight.0 (length r == 7) weight.1;
    })

found : {A : Type 0} (e : TableFault) (o : Option A) (x : A) → found_or e o ≡ Ok x → o ≡ Some x
found e None x h = cc
found e (Some y) x h = rw (same_ok y x h) refl

part_known : (f : FrameRows) (row : ℕ) (text : List ℕ) (p : ℕ) → part_in f row 1 text ≡ Ok p → p < length f.parts
part_known f row text p h =
    let a = bind_ok (name_in row 1 text) _ p h in
    (part_named f.parts a.0 p (found (fault.UnknownPart row) (place_of a.0 (part_names f.parts)) p a.2)).0

site_known : (f : FrameRows) (row : ℕ) (text : List ℕ) (s : ℕ) → site_in f row 2 text ≡ Ok s → s < length f.sites
site_known f row text s h =
    let a = bind_ok (name_in row 2 text) _ s h in
    (site_named f.sites a.0 s (found (fault.UnknownSite row) (place_of a.0 (site_names f.sites)) s a.2)).0

-- the row of a record of rates is one of the frame
pub rate_good : (f : FrameRows) (row : ℕ) (r : Record) (x : RateRow) → rate_of f row r ≡ Ok x → IsRateOf f x
unfolding rate_in
rate_good f row r x h =
    let part = bind_ok (part_in f row 1 (field r 0)) _ x h in
    let site = bind_ok (site_in f row 2 (field r 1)) _ x part.2 in
    let line = is_line (part_at f.parts part.0) in
    let base = not (site.0 == 0) in
    let demand = bind_ok (used_in (line && base) row 3 4 0 1000000000 (field r 2)) _ x site.2 in
    let repair_here = bind_ok (used_in base row 4 4 0 10000 (field r 3)) _ x demand.2 in
    let share = bind_ok (used_in (not line) row 5 4 0 10000 (field r 4)) _ x repair_here.2 in
    let repair_days = bind_ok (number_in row 6 2 0 999999 (field r 5)) _ x share.2 in
    subst (IsRateOf f) (same_ok _ x repair_days.2) (record {
      part = part_known f row (field r 0) part.0 part.1;
      site = site_known f row (field r 1) site.0 site.1;
      fields = record {
        demand = used_field (line && base) row 3 4 0 1000000000 (field r 2) demand.0 demand.1;
        repair_here = used_field base row 4 4 0 10000 (field r 3) repair_here.0 repair_here.1;
        share = used_field (not line) row 5 4 0 10000 (field r 4) share.0 share.1;
        repair_days = (number_range row 6 2 0 999999 (field r 5) repair_days.0 repair_days.1).1;
      };
    })

-- the row of a record of stocks is one of the frame
pub stock_good : (f : FrameRows) (row : ℕ) (r : Record) (x : StockRow) → stock_of f row r ≡ Ok x → IsStockOf f x
unfolding stock_of
stock_good f row r x h =
    let part = bind_ok (part_in f row 1 (field r 0)) _ x h in
    let site = bind_ok (site_in f row 2 (field r 1)) _ x part.2 in
    let stock = bind_ok (number_in row 3 0 0 63 (field r 2)) _ x site.2 in
    subst (IsStockOf f) (same_ok _ x stock.2) (record {
      part = part_known f row (field r 0) part.0 part.1;
      site = site_known f row (field r 1) site.0 site.1;
    })
