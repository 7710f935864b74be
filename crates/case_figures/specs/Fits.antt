-- The figures that a text can show: their upper ends are below 2^86 units.
use Rattle.std.specs.Prelude.{◌^◌, ◌<◌, All}
use Rattle.case_figures.specs.Spans.{ends}
use Rattle.case_figures.specs.declared.figures.BaseLine.{BaseLine}
use Rattle.case_figures.specs.declared.figures.Figures.{Figures}
use Rattle.case_figures.specs.declared.figures.ItemLine.{ItemLine}
use Rattle.case_figures.specs.declared.figures.Span.{Span}

-- the upper end is below 2^86 units
abbrev pub SpanFits : Span → Type 0
SpanFits x = (ends x).hi < 2 ^ 86

-- each of the four intervals of an item fits
pub record ItemFits (item : ItemLine) : Type 0 where
  pub mean : SpanFits item.mean
  pub variance : SpanFits item.variance
  pub backorders : SpanFits item.backorders
  pub spread : SpanFits item.spread

-- the availability of a base fits
abbrev pub BaseFits : BaseLine → Type 0
BaseFits base = SpanFits base.availability

-- every interval of the figures fits
pub record FitsPrint (figures : Figures) : Type 0 where
  pub items : All ItemFits figures.items
  pub bases : All BaseFits figures.bases
  pub fleet : SpanFits figures.fleet
  pub total : SpanFits figures.total
