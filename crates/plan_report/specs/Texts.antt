-- The texts of the reports. Commas (44) separate fields, and each line ends with a line feed (10).
use Rattle.std.specs.Prelude.{ℕ, ◌+◌, ◌*◌, ◌/◌, ◌^◌, ◌<◌, ◌≤◌, List, [], ◌∷◌, ◌++◌, Option, Some, None, codes}
use Rattle.std.specs.Int.{div_ceil}
use Rattle.std.specs.List.{flat_map}
use Rattle.std.specs.Fmt.{decimal}
use Rattle.exact_model.specs.Fraction.{Fraction, whole, ◌≤ℚ◌, ◌/ℚ◌}
use Rattle.fixed_interval.specs.Ends.{Ends, In}
use Rattle.fixed_interval.specs.Text.{fixed_text, text_value}
use Rattle.case_figures.specs.Spans.{places, ends}
use Rattle.case_figures.specs.declared.figures.BaseLine.{BaseLine}
use Rattle.case_figures.specs.declared.figures.Figures.{Figures}
use Rattle.case_figures.specs.declared.figures.ItemLine.{ItemLine}
use Rattle.case_figures.specs.declared.figures.Span.{Span}
use Rattle.hull.specs.declared.price.Price.{Price}
use Rattle.plan_report.specs.declared.single.SingleReport.{SingleReport}
use Rattle.plan_report.specs.declared.eval.EvalReport.{EvalReport}
use Rattle.plan_report.specs.declared.plan.CriticalLine.{CriticalLine}
use Rattle.plan_report.specs.declared.plan.PlanReport.{PlanReport}
use Rattle.plan_report.specs.declared.check.CheckReport.{CheckReport}
use Rattle.plan_report.specs.declared.summary.Summary.{Summary}

-- ---- numbers

-- n units of 2 ^ -f in millionths, rounded down
abbrev pub millionths_down : ℕ → ℕ → ℕ
millionths_down f n = n * 10 ^ 6 / 2 ^ f

-- n units of 2 ^ -f in millionths, rounded up
abbrev pub millionths_up : ℕ → ℕ → ℕ
millionths_up f n = div_ceil (n * 10 ^ 6) (2 ^ f)

-- the lower end of an interval in millionths, rounded down
abbrev pub lower_millionths : ℕ → Ends → ℕ
lower_millionths f x = millionths_down f x.lo

-- the upper end of an interval in millionths, rounded up
abbrev pub upper_millionths : ℕ → Ends → ℕ
upper_millionths f x = millionths_up f x.hi

-- both ends with 6 decimals
abbrev pub interval_text : ℕ → Ends → List ℕ
interval_text f x = fixed_text 6 (lower_millionths f x) ++ (44 ∷ fixed_text 6 (upper_millionths f x))

-- each number in the interval lies between the two printed numbers
abbrev pub PrintsOutward : ℕ → Ends → Type 0
PrintsOutward f x = (q : Fraction) → In f x q
    → (text_value 6 (lower_millionths f x) ≤ℚ q) × (q ≤ℚ text_value 6 (upper_millionths f x))

-- n units of 2 ^ -48 with 6 decimals, rounded down
abbrev pub down_text : ℕ → List ℕ
down_text n = fixed_text 6 (millionths_down 48 n)

-- n units of 2 ^ -48 with 6 decimals, rounded up
abbrev pub up_text : ℕ → List ℕ
up_text n = fixed_text 6 (millionths_up 48 n)

-- n units of 2 ^ -48 as a number
abbrev pub of_units : ℕ → Fraction
of_units n = whole n /ℚ whole (2 ^ 48)

-- the number printed rounded down is at most the number
abbrev pub PrintsBelow : ℕ → Type 0
PrintsBelow n = text_value 6 (millionths_down 48 n) ≤ℚ of_units n

-- the number printed rounded up is at least the number
abbrev pub PrintsAbove : ℕ → Type 0
PrintsAbove n = of_units n ≤ℚ text_value 6 (millionths_up 48 n)

-- if n is at most m plus the rounding, then n printed rounded down is at most m printed rounded down plus the rounding
-- printed rounded up
abbrev pub PrintsWithin : ℕ → ℕ → ℕ → Type 0
PrintsWithin n m rounding =
    n ≤ m + rounding → millionths_down 48 n ≤ millionths_down 48 m + millionths_up 48 rounding

-- a price in backorders per unit of money
abbrev pub price_value : Price → Fraction
price_value price = whole price.p /ℚ whole (price.q * 2 ^ 48)

-- a price in units of 10 ^ -12, rounded down
abbrev pub price_down : Price → ℕ
price_down price = price.p * 10 ^ 12 / (price.q * 2 ^ 48)

-- a price with 12 decimals, rounded down
abbrev pub price_text : Price → List ℕ
price_text price = fixed_text 12 (price_down price)

-- the printed price is at most the price
abbrev pub PrintsPriceBelow : Price → Type 0
PrintsPriceBelow price = 0 < price.q → text_value 12 (price_down price) ≤ℚ price_value price

-- ---- lines

-- a line: a name, a comma and fields
abbrev pub line : List ℕ → List ℕ → List ℕ
line name fields = name ++ (44 ∷ fields ++ (10 ∷ []))

-- both ends of a span
abbrev pub span_text : Span → List ℕ
span_text x = interval_text (places x) (ends x)

-- the report of a single pipeline
abbrev pub single_text : SingleReport → List ℕ
single_text report =
    line (codes "backorders") (interval_text 48 report.backorders)
    ++ line (codes "variance") (interval_text 48 report.spread)

-- ---- figures

-- the names and the stock of a pair
abbrev pub pair_text : ItemLine → List ℕ
pair_text item = item.part ++ (44 ∷ item.site ++ (44 ∷ decimal item.stock))

-- the four intervals of a pair, each after a comma
abbrev pub intervals_text : ItemLine → List ℕ
intervals_text item =
    44 ∷ span_text item.mean
    ++ (44 ∷ span_text item.variance
    ++ (44 ∷ span_text item.backorders
    ++ (44 ∷ span_text item.spread)))

-- the line of a pair
abbrev pub item_text : ItemLine → List ℕ
item_text item = line (codes "item") (pair_text item ++ intervals_text item)

-- the line of a base
abbrev pub base_text : BaseLine → List ℕ
base_text base = line (codes "base") (base.site ++ (44 ∷ span_text base.availability))

-- the lines from the items to the total
abbrev pub stocks_text : Figures → List ℕ
stocks_text figures =
    flat_map item_text figures.items
    ++ (flat_map base_text figures.bases
    ++ (line (codes "fleet") (span_text figures.fleet) ++ line (codes "total") (span_text figures.total)))

-- the line of the cost
abbrev pub cost_text : Figures → List ℕ
cost_text figures = line (codes "cost") (decimal figures.cost)

-- the lines from the cost to the total
abbrev pub figures_text : Figures → List ℕ
figures_text figures = cost_text figures ++ stocks_text figures

-- the report of given stocks
abbrev pub eval_text : EvalReport → List ℕ
eval_text report = line (codes "eval") (decimal report.bits) ++ figures_text report.figures

-- ---- plans

-- the cost of the stocks on hand, if there are any
abbrev pub on_hand_text : Option ℕ → List ℕ
on_hand_text None = []
on_hand_text (Some cost) = line (codes "on-hand") (decimal cost)

-- the loss, if it is the aim
abbrev pub loss_text : Option Ends → List ℕ
loss_text None = []
loss_text (Some loss) = line (codes "loss") (interval_text 48 loss)

-- the line unit and the cost of the critical step, or `none`
abbrev pub critical_text : Option CriticalLine → List ℕ
critical_text None = line (codes "critical") (codes "none")
critical_text (Some step) = line (codes "critical") (step.part ++ (44 ∷ decimal step.cost))

-- the lines from the cost to the loss
abbrev pub gains_text : PlanReport → List ℕ
gains_text report =
    cost_text report.figures
    ++ (on_hand_text report.on_hand ++ (stocks_text report.figures ++ loss_text report.loss))

-- the distance of the stocks from the best
abbrev pub bounds_text : PlanReport → List ℕ
bounds_text report =
    line (codes "bound") (down_text report.bound)
    ++ (line (codes "gap") (up_text report.gap)
    ++ (line (codes "rounding") (up_text report.rounding)))

-- the price of the bound, the hull cost and the critical step
abbrev pub steps_text : PlanReport → List ℕ
steps_text report =
    line (codes "price") (price_text report.price)
    ++ (line (codes "hull") (decimal report.hull) ++ critical_text report.critical)

-- the report of a plan
abbrev pub plan_text : PlanReport → List ℕ
plan_text report =
    line (codes "plan") (decimal report.budget) ++ (gains_text report ++ (bounds_text report ++ steps_text report))

-- ---- certificates

-- the report of an accepted certificate
abbrev pub check_text : CheckReport → List ℕ
check_text report =
    line (codes "accepted") (decimal report.format)
    ++ (line (codes "budget") (decimal report.budget)
    ++ (line (codes "cost") (decimal report.cost)
    ++ (on_hand_text report.on_hand
    ++ (line (codes "upper") (up_text report.upper) ++ line (codes "bound") (down_text report.bound)))))

-- ---- demonstrations

-- the lines of the case
abbrev pub case_text : Summary → List ℕ
case_text summary =
    line (codes "demo") (decimal summary.number ++ (44 ∷ decimal summary.lines))
    ++ line (codes "parts") (decimal summary.parts)

-- the lines of its plan: budget, cost, total, bound and gap
abbrev pub planned_text : Summary → List ℕ
planned_text summary =
    line (codes "budget") (decimal summary.budget)
    ++ (line (codes "cost") (decimal summary.cost)
    ++ (line (codes "total") (interval_text 48 summary.total)
    ++ (line (codes "bound") (down_text summary.bound) ++ line (codes "gap") (up_text summary.gap))))

-- the report of a demonstration case, whose certificate was accepted
abbrev pub summary_text : Summary → List ℕ
summary_text summary = case_text summary ++ (planned_text summary ++ (codes "accepted" ++ (10 ∷ [])))
