-- What is printed of an interval encloses what the interval does.
use Rattle.std.proofs.Common.{ℕ, refl, subst, sym}
use Rattle.exact_model.specs.Fraction.{Encloses, Fraction}
use Rattle.exact_model.specs.Series.{ebo, vbo}
use Rattle.fixed_interval.proofs.Public.{down_below, up_above}
use Rattle.fixed_interval.specs.Ends.{Ends, In}
use Rattle.moment_table.specs.Rows.{EnclosesRow}
use Rattle.moment_table.specs.declared.kinds.Row.{Row}
use Rattle.case_figures.specs.Shows.{ShowsFigures, ShowsSpan}
use Rattle.case_figures.specs.Spans.{ends, places}
use Rattle.case_figures.specs.declared.figures.Figures.{Figures}
use Rattle.case_figures.specs.declared.figures.Span.{Span}
use Rattle.spares_input.specs.Cases.{CaseRows}
use Rattle.spares_input.specs.Stocks.{StockList}
use Rattle.metric_compare.specs.Shows.{ShowsComparison}
use Rattle.metric_compare.specs.declared.report.CompareReport.{CompareReport}
use Rattle.command_outcomes.specs.Headline.{IsTrueComparison, PrintsAround, ShowsValue, ShowsCase, ShowsModel}

-- the two printed numbers of an interval enclose what the interval does
pub shown : (x : Ends) (value : ℕ → Fraction) → Encloses 48 x.lo x.hi value → ShowsValue x value
shown x value h = record {
  encloses = h;
  above_low = λ n deep. down_below 48 6 x (value n) (h n deep);
  below_high = λ n deep. up_above 48 6 x (value n) (h n deep);
}

-- a report of a row that encloses the model
pub model_shown : (m v : Ends) (row : Row 48) (u w : Fraction) (stock : ℕ) → EnclosesRow 48 m v stock row → In 48 m u → In 48 v w
    → ShowsModel u w stock (record { backorders = row.ebo; spread = row.vbo })
model_shown m v row u w stock h a c = record {
  backorders = shown row.ebo (λ n. ebo n u w stock) (λ n deep. (h u w a c n deep).ebo);
  spread = shown row.vbo (λ n. vbo n u w stock) (λ n deep. (h u w a c n deep).vbo);
}

-- the two numbers that are printed of a span enclose what it does
pub span_prints : (bits : ℕ) (x : Span) (value : ℕ → Fraction) → ShowsSpan bits value x → PrintsAround x value
span_prints bits x value h =
    let e : Encloses (places x) (ends x).lo (ends x).hi value =
    subst (λ f. Encloses f (ends x).lo (ends x).hi value) (sym h.places_are) h.encloses in
    record {
      above_low = λ n deep. down_below (places x) 6 (ends x) (value n) (e n deep);
      below_high = λ n deep. up_above (places x) 6 (ends x) (value n) (e n deep);
    }

-- the report of figures shows what the figures show, and its decimals too
pub case_shown : (bits : ℕ) (c : CaseRows) (s : StockList) (figures : Figures) → ShowsFigures bits c s figures
    → ShowsCase bits c s (record { bits = bits; figures = figures })
case_shown bits c s figures h = record { bits_are = refl; shows = h; prints = span_prints bits }

-- a comparison that shows the two columns is true of them, as are its printed decimals
pub comparison_true : (c : CaseRows) (s : StockList) (report : CompareReport) → ShowsComparison c s report → IsTrueComparison c s report
comparison_true c s report h = record { says = h; prints = shown }
