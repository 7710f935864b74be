-- The line of a refusal. Commas (44) separate fields, and the line ends with a line feed (10).
use Rattle.std.specs.Prelude.{ℕ, List, [], ◌∷◌, ◌++◌, codes, Option, Some, None}
use Rattle.std.specs.Fmt.{decimal}
use Rattle.case_edits.specs.declared.fault.EditFault.{EditFault}
use Rattle.case_edits.specs.declared.fault.EditFault.TheVariants as edit
use Rattle.csv_tables.specs.declared.fault.TableFault.{TableFault}
use Rattle.csv_tables.specs.declared.fault.TableFault.TheVariants as table
use Rattle.demand_rates.specs.declared.fault.Place.{Place}
use Rattle.demand_rates.specs.declared.fault.Place.TheVariants.{Single, Pair}
use Rattle.demand_rates.specs.declared.fault.RateFault.{RateFault}
use Rattle.demand_rates.specs.declared.fault.RateFault.TheVariants.{ThinPipeline, PipelineTooLarge, PipelineRatio}
use Rattle.check_answers.specs.declared.refusal.Reject.{Reject}
use Rattle.check_answers.specs.declared.refusal.Reject.TheVariants as reject
use Rattle.price_certificate.specs.declared.fault.CertFault.{CertFault}
use Rattle.price_certificate.specs.declared.fault.CertFault.TheVariants as cert
use Rattle.spares_input.specs.Frames.{FrameRows, part_at, site_at}
use Rattle.spares_input.specs.declared.fault.CaseFault.{CaseFault}
use Rattle.spares_input.specs.declared.fault.CaseFault.TheVariants as case
use Rattle.spares_input.specs.declared.fault.StockFault.{StockFault}
use Rattle.spares_input.specs.declared.fault.StockFault.TheVariants as stock
use Rattle.spares_input.specs.declared.rows.PartId.{PartId}
use Rattle.spares_input.specs.declared.rows.SiteId.{SiteId}
use Rattle.spares_words.specs.declared.order.Which.{Which}
use Rattle.spares_words.specs.declared.order.Which.TheVariants as which
use Rattle.spares_words.specs.declared.order.WordsFault.{WordsFault}
use Rattle.spares_words.specs.declared.order.WordsFault.TheVariants.{Shape, Number, Range}
use Rattle.refusals.specs.declared.refusal.File.{File}
use Rattle.refusals.specs.declared.refusal.File.TheVariants as file
use Rattle.refusals.specs.declared.refusal.Refusal.{Refusal}
use Rattle.refusals.specs.declared.refusal.Refusal.TheVariants as refusal

-- a frame without names, for a refusal that names no pair
abbrev pub no_names : FrameRows
no_names = record { sites = []; parts = [] }

-- the names of a frame, if there is one
abbrev pub names_of : Option FrameRows → FrameRows
names_of None = no_names
names_of (Some frame) = frame

-- the word for a number of the command line
abbrev pub which_text : Which → List ℕ
which_text which.Mean = codes "mean"
which_text which.Stock = codes "stock"
which_text which.Variance = codes "variance"
which_text which.Budget = codes "budget"
which_text which.Bits = codes "bits"
which_text which.Format = codes "format"
which_text which.Objective = codes "objective"
which_text which.Number = codes "number"
which_text which.Lines = codes "lines"
which_text which.Target = codes "target"

-- the word for a file
abbrev pub file_text : File → List ℕ
file_text file.Sites = codes "sites"
file_text file.Parts = codes "parts"
file_text file.Rates = codes "rates"
file_text file.Stocks = codes "stocks"
file_text file.OnHand = codes "on-hand"
file_text file.Certificate = codes "certificate"
file_text file.Edits = codes "edits"

-- one more field with a number
abbrev pub number_field : ℕ → List ℕ
number_field n = 44 ∷ decimal n

-- a pair, by the names of its part and its site
abbrev pub pair_text : FrameRows → PartId → SiteId → List ℕ
pair_text names part site = (part_at names.parts part.0).name ++ (44 ∷ (site_at names.sites site.0).name)

-- the place of a refused pipeline
abbrev pub place_text : FrameRows → Place → List ℕ
place_text names Single = codes "single"
place_text names (Pair part site) = pair_text names part site

-- a fault of the words: their shape, or a number by its name
abbrev pub words_text : WordsFault → List ℕ
words_text Shape = codes "words"
words_text (Number which fault) = codes "number," ++ which_text which
words_text (Range which) = codes "range," ++ which_text which

-- a fault of a table: its file, and its row and column if it has them
abbrev pub table_text : File → TableFault → List ℕ
table_text file table.NoHeader = codes "no-header," ++ file_text file
table_text file (table.FieldCount row found) =
    codes "field-count," ++ (file_text file ++ (number_field row ++ number_field found))
table_text file (table.Header column) = codes "header," ++ (file_text file ++ number_field column)
table_text file table.TooManyRows = codes "too-many-rows," ++ file_text file
table_text file (table.BadName row column) =
    codes "bad-name," ++ (file_text file ++ (number_field row ++ number_field column))
table_text file (table.BadKind row) = codes "bad-kind," ++ (file_text file ++ number_field row)
table_text file (table.UnknownPart row) = codes "unknown-part," ++ (file_text file ++ number_field row)
table_text file (table.UnknownSite row) = codes "unknown-site," ++ (file_text file ++ number_field row)
table_text file (table.FieldEmpty row column) =
    codes "field-empty," ++ (file_text file ++ (number_field row ++ number_field column))
table_text file (table.FieldNotEmpty row column) =
    codes "field-not-empty," ++ (file_text file ++ (number_field row ++ number_field column))
table_text file (table.BadNumber row column fault) =
    codes "bad-number," ++ (file_text file ++ (number_field row ++ number_field column))
table_text file (table.OutOfRange row column) =
    codes "out-of-range," ++ (file_text file ++ (number_field row ++ number_field column))

-- a broken rule of a case: the row, or the names of the pair
abbrev pub case_text : FrameRows → CaseFault → List ℕ
case_text names (case.DoubleSite row) = codes "double-site" ++ number_field row
case_text names (case.TwoDepots row) = codes "two-depots" ++ number_field row
case_text names case.NoDepot = codes "no-depot"
case_text names case.NoBase = codes "no-base"
case_text names (case.DoublePart row) = codes "double-part" ++ number_field row
case_text names (case.UnknownParent row) = codes "unknown-parent" ++ number_field row
case_text names (case.ParentNotLine row) = codes "parent-not-line" ++ number_field row
case_text names (case.TooManyShopUnits row) = codes "too-many-shop-units" ++ number_field row
case_text names (case.DoubleRate row) = codes "double-rate" ++ number_field row
case_text names (case.MissingRate part site) = codes "missing-rate," ++ pair_text names part site

-- a broken rule of stocks: the row, or the names of the pair
abbrev pub stock_text : FrameRows → StockFault → List ℕ
stock_text names (stock.OverLimit row) = codes "over-limit" ++ number_field row
stock_text names (stock.Double row) = codes "double-stock" ++ number_field row
stock_text names (stock.Missing part site) = codes "missing-stock," ++ pair_text names part site

-- a pipeline beyond the limits of the model, with the names of its pair
abbrev pub rate_text : FrameRows → RateFault → List ℕ
rate_text names (ThinPipeline place direct) = codes "thin-pipeline," ++ place_text names place
rate_text names (PipelineTooLarge place mean) = codes "pipeline-too-large," ++ place_text names place
rate_text names (PipelineRatio place mean direct) = codes "pipeline-ratio," ++ place_text names place

-- a fault of a certificate: its first bad line, or a case that breaks a rule
abbrev pub cert_text : CertFault → List ℕ
cert_text (cert.BadLine line) = codes "bad-line" ++ number_field line
cert_text (cert.BadCase fault) = codes "bad-case"

-- the reason why a certificate is rejected, with the numbers that show it
abbrev pub reject_text : FrameRows → Reject → List ℕ
reject_text names (reject.Rate fault) = codes "rejected,rate"
reject_text names (reject.CoverGap family) = codes "rejected,cover-gap" ++ number_field family
reject_text names (reject.WorkTooLarge count) = codes "rejected,work" ++ number_field count
reject_text names (reject.StocksOverLimit part site stock) =
    codes "rejected,stocks-over-limit," ++ (pair_text names part site ++ number_field stock)
reject_text names (reject.StocksBelowHeld part site stock) =
    codes "rejected,stocks-below-held," ++ (pair_text names part site ++ number_field stock)
reject_text names (reject.OverBudget cost) = codes "rejected,over-budget" ++ number_field cost
reject_text names (reject.FloorTooHigh family floor least) =
    codes "rejected,floor-too-high" ++ (number_field family ++ (number_field floor ++ number_field least))
reject_text names (reject.LeafTooLow family leaf floor least) =
    codes "rejected,leaf-too-low"
    ++ (number_field family ++ (number_field leaf ++ (number_field floor ++ number_field least)))
reject_text names (reject.UpperTooLow claimed upper) =
    codes "rejected,upper-too-low" ++ (number_field claimed ++ number_field upper)
reject_text names (reject.BoundTooHigh claimed largest) =
    codes "rejected,bound-too-high" ++ (number_field claimed ++ number_field largest)

-- the reason why edits are refused; for refused rates of a plan it is the plan's line
abbrev pub edit_text : EditFault → List ℕ
edit_text edit.TooManyLines = codes "edit-lines"
edit_text (edit.BadLine line) = codes "edit" ++ number_field line
edit_text (edit.TooManyPlans line) = codes "edit-plans" ++ number_field line
edit_text (edit.Rate line fault) = codes "edit-rate" ++ number_field line

-- the fields of a refusal's line
abbrev pub refusal_text : FrameRows → Refusal → List ℕ
refusal_text names (refusal.Words fault) = words_text fault
refusal_text names (refusal.ReadFault file) = codes "read," ++ file_text file
refusal_text names (refusal.TooLong file) = codes "too-long," ++ file_text file
refusal_text names (refusal.Table file fault) = table_text file fault
refusal_text names (refusal.Case fault) = case_text names fault
refusal_text names (refusal.Stock fault) = stock_text names fault
refusal_text names (refusal.Rate fault) = rate_text names fault
refusal_text names (refusal.Work count) = codes "work" ++ number_field count
refusal_text names (refusal.Cert fault) = cert_text fault
refusal_text names (refusal.Rejected reject) = reject_text names reject
refusal_text names (refusal.Edit fault) = edit_text fault
refusal_text names refusal.WriteFault = codes "write"
refusal_text names refusal.NoMemory = codes "memory"

-- the line of a refusal, with these names
unfoldable pub line_of_refusal : FrameRows → Refusal → List ℕ
line_of_refusal names refusal = codes "fault," ++ (refusal_text names refusal ++ 10 ∷ [])
