-- A case: a frame with the rates of each pair, and the first rule that the rows of rates break.
use Rattle.std.specs.Prelude.{◌≡◌, ◌==◌, ℕ, ◌+◌, ◌*◌, ◌<◌, List, [], ◌∷◌, take, length, get_or, All, Option, Some, None, Result, Ok, Err, if◌then◌else◌}
use Rattle.answers.specs.declared.stop.Stop.{Stop}
use Rattle.spares_input.specs.First.{first, first_of, unless}
use Rattle.spares_input.specs.Rows.{is_line, no_rate, IsRateRow}
use Rattle.spares_input.specs.Frames.{FrameRows, IsFrame, part_at}
use Rattle.spares_input.specs.Pairs.{pair_place, part_of_place, site_of_place, has_row, rows_in_order}
use Rattle.spares_input.specs.declared.rows.SiteRow.{SiteRow}
use Rattle.spares_input.specs.declared.rows.PartRow.{PartRow}
use Rattle.spares_input.specs.declared.rows.RateRow.{RateRow}
use Rattle.spares_input.specs.declared.fault.CaseFault.{CaseFault}
use Rattle.spares_input.specs.declared.fault.CaseFault.TheVariants as fault

-- a case as contracts see it: the rows of its frame, and the rows of rates by part and then by site
pub record CaseRows : Type 0 where
  pub sites : List SiteRow
  pub parts : List PartRow
  pub rates : List RateRow

-- the sites and parts of a case
abbrev pub frame_rows : CaseRows → FrameRows
frame_rows c = record { sites = c.sites; parts = c.parts }

-- the rates of part p at site k
abbrev pub rate_at : CaseRows → ℕ → ℕ → RateRow
rate_at c p k = get_or c.rates (pair_place (length c.sites) p k) no_rate

-- the place of a row's pair, with n sites
abbrev pub rate_place : ℕ → RateRow → ℕ
rate_place n r = pair_place n r.part.0 r.site.0

-- the number of a frame's pairs
abbrev pub pair_count : FrameRows → ℕ
pair_count f = length f.parts * length f.sites

-- row k of the rates has the pair of an earlier row; in its file this is row k + 2
abbrev pub double_rate : ℕ → List RateRow → ℕ → Option CaseFault
double_rate n rates k =
    if has_row (rate_place n) (take k rates) (rate_place n (get_or rates k no_rate))
    then Some (fault.DoubleRate (k + 2))
    else None

-- the pair at a place has no row
abbrev pub missing_rate : ℕ → List RateRow → ℕ → Option CaseFault
missing_rate n rates i =
    if has_row (rate_place n) rates i then None
    else Some (fault.MissingRate (part_of_place n i) (site_of_place n i))

-- the first rule that rows of rates break, with these numbers of sites and pairs
abbrev pub rates_fault : ℕ → ℕ → List RateRow → Option CaseFault
rates_fault n count rates = first_of (
    first (double_rate n rates) (length rates)
    ∷ first (missing_rate n rates) count
    ∷ [])

-- the case of a frame and rows of rates, or the first rule that these break
abbrev pub case_of : FrameRows → List RateRow → Result CaseRows CaseFault
case_of f rates = unless (rates_fault (length f.sites) (pair_count f) rates) (record {
  sites = f.sites;
  parts = f.parts;
  rates = rows_in_order (rate_place (length f.sites)) no_rate (pair_count f) rates;
})

-- a row of rates has a pair of the frame, and the fields of such a pair; site 0 is the depot
pub record IsRateOf (f : FrameRows) (r : RateRow) : Type 0 where
  pub part : r.part.0 < length f.parts
  pub site : r.site.0 < length f.sites
  pub fields : IsRateRow (is_line (part_at f.parts r.part.0)) (r.site.0 == 0) r

-- the invariant of every case
pub record IsCase (c : CaseRows) : Type 0 where
  pub frame : IsFrame (frame_rows c)
  pub rate_count : length c.rates ≡ pair_count (frame_rows c)
  pub pairs : (p k : ℕ) → p < length c.parts → k < length c.sites → ((rate_at c p k).part.0 ≡ p)
      × ((rate_at c p k).site.0 ≡ k)
  pub rate_rows : All (IsRateOf (frame_rows c)) c.rates

-- the same result without the frame that a refusal returns
abbrev pub without_frame : {C F E : Type 0} → Result C (F × Stop E) → Result C (Stop E)
without_frame (Ok c) = Ok c
without_frame (Err refusal) = Err refusal.1
