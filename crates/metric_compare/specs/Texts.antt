-- The text of a comparison. Commas (44) separate fields, and each line ends with a line feed (10).
use Rattle.std.specs.Prelude.{ℕ, List, ◌∷◌, ◌++◌, codes}
use Rattle.std.specs.List.{flat_map}
use Rattle.std.specs.Fmt.{decimal}
use Rattle.fixed_interval.specs.Ends.{Ends}
use Rattle.plan_report.specs.Texts.{interval_text, line}
use Rattle.metric_compare.specs.declared.report.CompareItem.{CompareItem}
use Rattle.metric_compare.specs.declared.report.CompareReport.{CompareReport}

-- the two columns: the model's ends, and the Poisson ends
abbrev pub columns_text : Ends → Ends → List ℕ
columns_text model poisson = interval_text 48 model ++ (44 ∷ interval_text 48 poisson)

-- the names and the stock of a pair
abbrev pub compare_pair_text : CompareItem → List ℕ
compare_pair_text item = item.part ++ (44 ∷ item.site ++ (44 ∷ decimal item.stock))

-- the line of a pair
abbrev pub compared_text : CompareItem → List ℕ
compared_text item = line (codes "item") (compare_pair_text item ++ (44 ∷ columns_text item.backorders item.poisson))

-- the line of the totals
abbrev pub totals_text : CompareReport → List ℕ
totals_text report = line (codes "total") (columns_text report.total report.poisson_total)

-- the report of a comparison, which has 48 binary places
abbrev pub compare_text : CompareReport → List ℕ
compare_text report = line (codes "compare") (decimal 48) ++ (flat_map compared_text report.items ++ totals_text report)
