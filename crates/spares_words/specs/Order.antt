-- The order of the words of a command line.
use Rattle.std.specs.Prelude.{◌≡◌, ◌≢◌, ◌≤◌, ⊤, ℕ, List, [], ◌∷◌, Option, Some, None, IfSome, MatchResult, Result, Ok, Err, if◌then◌else◌, ◌&&◌, nat_le, codes, unwrap_or}
use Rattle.clap.specs.Words.{Row, Text, first_of, found_of, rows_of, matches_of, fault_of}
use Rattle.clap.specs.Values.{kind_of}
use Rattle.clap.specs.Walk.{is_empty}
use Rattle.clap.specs.declared.error.Error.{Error}
use Rattle.clap.specs.declared.error.kind.ErrorKind.TheVariants as kind
use Rattle.clap.specs.declared.parser.matches.ArgMatches.{ArgMatches}
use Rattle.exact_ratio.specs.Decimal.{decimal_of}
use Rattle.exact_ratio.specs.declared.Decimal.{Decimal}
use Rattle.exact_ratio.specs.declared.NumberFault.{NumberFault}
use Rattle.fixed_interval.specs.Widths.{is_width, IsWidth}
use Rattle.price_certificate.specs.Grammar.{objective_word}
use Rattle.price_certificate.specs.declared.certificate.Objective.{Objective}
use Rattle.price_certificate.specs.declared.certificate.Objective.TheVariants as objective
use Rattle.price_certificate.specs.declared.certificate.Terms.{Terms}
use Rattle.spares_input.specs.Limits.{most_stock}
use Rattle.spares_input.specs.Money.{most_budget}
use Rattle.answers.specs.Answers.{Gives}
use Rattle.answers.specs.Steps.{◌>>=◌}
use Rattle.answers.specs.declared.stop.Stop.{Stop}
use Rattle.answers.specs.declared.stop.Stop.TheVariants as stop
use Rattle.spares_words.specs.Commands.{app_named, command_named}
use Rattle.spares_words.specs.declared.commands.CommandName.{CommandName}
use Rattle.spares_words.specs.declared.commands.CommandName.TheVariants as command
use Rattle.spares_words.specs.declared.order.Order.{Order}
use Rattle.spares_words.specs.declared.order.Order.TheVariants.{Single, Eval, Plan, Check, Demo, Sweep, Target, Session, Compare}
use Rattle.spares_words.specs.declared.order.Which.{Which}
use Rattle.spares_words.specs.declared.order.Which.TheVariants as which
use Rattle.spares_words.specs.declared.order.WordsFault.{WordsFault}
use Rattle.spares_words.specs.declared.order.WordsFault.TheVariants.{Shape, Number, Range}
use Rattle.spares_words.specs.declared.values.Names.{Names}

-- the value of a required argument
abbrev pub text_of : List Row → Text → Text
text_of rows id = unwrap_or (first_of id rows) []

-- a fault of a number carries the argument's name
abbrev pub named : Which → Result Decimal NumberFault → Result Decimal WordsFault
named which (Ok number) = Ok number
named which (Err fault) = Err (Number which fault)

-- the number that an argument's text spells with this count of decimals
abbrev pub number_of : Which → ℕ → Text → Result Decimal WordsFault
number_of which places text = named which (decimal_of text places)

-- the same for an argument that may be left out
abbrev pub optional_of : Which → ℕ → Option Text → Result (Option Decimal) WordsFault
optional_of which places None = Ok None
optional_of which places (Some text) = do
  number ← number_of which places text
  Ok (Some number)

-- the number if it is from `least` to `most` units
abbrev pub within : Which → ℕ → ℕ → ℕ → Text → Result Decimal WordsFault
within which places least most text = do
  number ← number_of which places text
  if nat_le least number.units && nat_le number.units most then Ok number else Err (Range which)

-- a whole number from `least` to `most`
abbrev pub whole_word : Which → ℕ → ℕ → Text → Result ℕ WordsFault
whole_word which least most text = do
  number ← within which 0 least most text
  Ok number.units

-- `single` from the texts of its arguments: the mean, then the variance, then the stock of at most 63
abbrev pub single_from : Text → Option Text → Text → Result Order WordsFault
single_from mean_text variance_text stock_text = do
  mean ← number_of which.Mean 4 mean_text
  variance ← optional_of which.Variance 4 variance_text
  stock ← whole_word which.Stock 0 most_stock stock_text
  Ok (Single mean variance stock)

-- the order of `single` from the rows of its words
abbrev pub single_of : List Row → Result Order WordsFault
single_of rows =
    single_from (text_of rows (codes "mean")) (first_of (codes "variance") rows) (text_of rows (codes "stock"))

-- the bits of a text, by default 48
abbrev pub bits_of : Option Text → Result ℕ WordsFault
bits_of None = Ok 48
bits_of (Some text) = do
  number ← number_of which.Bits 0 text
  if is_width number.units then Ok number.units else Err (Range which.Bits)

-- the names of the tables of a case
abbrev pub names_of : List Row → Names
names_of rows = record {
  sites = text_of rows (codes "sites");
  parts = text_of rows (codes "parts");
  rates = text_of rows (codes "rates");
}

-- `eval` from the texts of its options: four names, and the bits
abbrev pub eval_from : Names → Text → Option Text → Result Order WordsFault
eval_from names stocks bits_text = do
  bits ← bits_of bits_text
  Ok (Eval names.sites names.parts names.rates stocks bits)

-- the order of `eval` from the rows of its words
abbrev pub eval_of : List Row → Result Order WordsFault
eval_of rows = eval_from (names_of rows) (text_of rows (codes "stocks")) (first_of (codes "bits") rows)

-- the objective of a text, if an objective has this name; by default backorders
abbrev pub objective_of : Option Text → Option Objective
objective_of None = Some objective.Backorders
objective_of (Some name) = objective_word.read name

-- a named objective must exist
abbrev pub objective_from : Option Objective → Result Objective WordsFault
objective_from (Some objective) = Ok objective
objective_from None = Err (Range which.Objective)

-- the lowest format that a plan may have: 2 with stocks on hand or with the loss of availability
abbrev pub lowest_format : Option Text → Option Objective → ℕ
lowest_format (Some on_hand) _ = 2
lowest_format None (Some objective.LogAvailability) = 2
lowest_format None (Some objective.Backorders) = 1
lowest_format None None = 1

-- the format of a text, by default the lowest
abbrev pub format_of : ℕ → Option Text → Result ℕ WordsFault
format_of lowest None = Ok lowest
format_of lowest (Some text) = whole_word which.Format lowest 2 text

-- the numbers and the objective of `plan`: the budget, then the format, then the objective
abbrev pub plan_terms_from : Option Text → Text → Option Text → Option Text → Result Terms WordsFault
plan_terms_from on_hand budget_text format_text objective_text = do
  budget ← whole_word which.Budget 0 most_budget budget_text
  format ← format_of (lowest_format on_hand (objective_of objective_text)) format_text
  objective ← objective_from (objective_of objective_text)
  Ok (record { budget = budget; format = format; objective = objective })

-- budget, format and objective of `plan` from the rows of its words
abbrev pub plan_terms_of : List Row → Result Terms WordsFault
plan_terms_of rows =
    plan_terms_from (first_of (codes "on-hand") rows) (text_of rows (codes "budget"))
    (first_of (codes "format") rows) (first_of (codes "objective") rows)

-- `plan` from its names and its terms
abbrev pub plan_from : Names → Option Text → Result Terms WordsFault → Text → Result Order WordsFault
plan_from names on_hand terms_read certificate = do
  terms ← terms_read
  Ok (Plan names.sites names.parts names.rates on_hand terms.budget terms.format terms.objective certificate)

-- the order of `plan` from the rows of its words
abbrev pub plan_of : List Row → Result Order WordsFault
plan_of rows =
    plan_from (names_of rows) (first_of (codes "on-hand") rows) (plan_terms_of rows)
    (text_of rows (codes "certificate"))

-- `check` takes any name
abbrev pub check_of : List Row → Result Order WordsFault
check_of rows = Ok (Check (text_of rows (codes "certificate")))

-- `demo` from the texts of its arguments: the number in 32 bits, then 1 to 80 lines
abbrev pub demo_from : Text → Text → Result Order WordsFault
demo_from number_text lines_text = do
  number ← whole_word which.Number 0 4294967295 number_text
  lines ← whole_word which.Lines 1 80 lines_text
  Ok (Demo number lines)

-- the order of `demo` from the rows of its words
abbrev pub demo_of : List Row → Result Order WordsFault
demo_of rows = demo_from (text_of rows (codes "number")) (text_of rows (codes "lines"))

-- `sweep` from the names of its tables
abbrev pub sweep_of : List Row → Result Order WordsFault
sweep_of rows = let names = names_of rows in Ok (Sweep names.sites names.parts names.rates)

-- the largest target, in ten-thousandths of a backorder
abbrev pub most_target : ℕ
most_target = 10000000000000

-- `target` from the texts of its options
abbrev pub target_from : Names → Text → Result Order WordsFault
target_from names backorders_text = do
  backorders ← within which.Target 4 0 most_target backorders_text
  Ok (Target names.sites names.parts names.rates backorders)

-- the order of `target` from the rows of its words
abbrev pub target_of : List Row → Result Order WordsFault
target_of rows = target_from (names_of rows) (text_of rows (codes "backorders"))

-- the order of `session` from the rows of its words
abbrev pub session_of : List Row → Result Order WordsFault
session_of rows =
    let names = names_of rows in
    Ok (Session names.sites names.parts names.rates (text_of rows (codes "edits")))

-- the order of `compare` from the rows of its words
abbrev pub compare_of : List Row → Result Order WordsFault
compare_of rows =
    let names = names_of rows in
    Ok (Compare names.sites names.parts names.rates (text_of rows (codes "stocks")))

-- the order of a command, from the rows of its words
abbrev pub order_named : CommandName → List Row → Result Order WordsFault
order_named command.Single = single_of
order_named command.Eval = eval_of
order_named command.Plan = plan_of
order_named command.Check = check_of
order_named command.Demo = demo_of
order_named command.Sweep = sweep_of
order_named command.Target = target_of
order_named command.Session = session_of
order_named command.Compare = compare_of

-- the order of a command's words, if the command takes them
unfoldable pub by_command : CommandName → List Text → Result Order WordsFault
by_command command words =
    if is_empty (fault_of (app_named command) words) then order_named command (matches_of (app_named command) words)
    else Err Shape

-- the same, if there is such a command
abbrev pub by_named : Option CommandName → List Text → Result Order WordsFault
by_named None words = Err Shape
by_named (Some command) words = by_command command words

-- the first word names the command
unfoldable pub order_of : List Text → Result Order WordsFault
order_of [] = Err Shape
order_of (name ∷ rest) = by_named (command_named name) (name ∷ rest)

-- the ranges of the budget and the format of `plan`
abbrev pub AreInRange : Option Text → Terms → Type 0
AreInRange on_hand terms =
    (terms.budget ≤ most_budget) × (lowest_format on_hand (Some terms.objective) ≤ terms.format) × (terms.format ≤ 2)

-- the ranges of the numbers of an order
abbrev pub IsInRange : Order → Type 0
IsInRange (Single mean variance stock) =
    (mean.places ≡ 4) × IfSome variance (λ v. v.places ≡ 4) × (stock ≤ most_stock)
IsInRange (Eval sites parts rates stocks bits) = IsWidth bits
IsInRange (Plan sites parts rates on_hand budget format objective certificate) =
    AreInRange on_hand (record { budget = budget; format = format; objective = objective })
IsInRange (Check certificate) = ⊤
IsInRange (Demo number lines) = (number ≤ 4294967295) × (1 ≤ lines) × (lines ≤ 80)
IsInRange (Sweep sites parts rates) = ⊤
IsInRange (Target sites parts rates backorders) = (backorders.places ≡ 4) × (backorders.units ≤ most_target)
IsInRange (Session sites parts rates edits) = ⊤
IsInRange (Compare sites parts rates stocks) = ⊤

-- the stop for an error of `clap`: a fault of the words only if there was memory
abbrev pub StopsBy : Error → Stop WordsFault → Type 0
StopsBy error stop.NoMemory = ⊤
StopsBy error (stop.Fault fault) = (kind_of error ≢ kind.OutOfMemory) × (fault ≡ Shape)

-- the order of a command, from the answer of `clap` for its words
abbrev pub Follows : CommandName → Result ArgMatches Error → Result Order (Stop WordsFault) → Type 0
Follows name (Ok matches) answer = Gives (order_named name (rows_of (found_of matches))) answer
Follows name (Err error) answer = MatchResult answer (λ _. ⊥) (StopsBy error)
