-- The lines of a certificate.
use Rattle.std.specs.Prelude.{ℕ, Bool, true, false, ◌==◌, List, [], count_by, length, if◌then◌else◌, bytes_eq}
use Rattle.line_text.specs.Formats.{Token, Text, Format, spelled, one, and_then, as_shape}
use Rattle.line_text.specs.Files.{line}
use Rattle.line_text.specs.Texts.{number, word, no_field, word_line, number_line, count_line, counted, Either, Left, Right, either}
use Rattle.hull.specs.declared.price.Price.{Price}
use Rattle.hull.specs.Limits.{most_price_units, most_price_money, most_floor, most_total}
use Rattle.spares_input.specs.Limits.{most_stock}
use Rattle.spares_input.specs.Rows.{is_line}
use Rattle.spares_input.specs.Cases.{CaseRows, frame_rows, pair_count}
use Rattle.spares_input.specs.Money.{most_budget}
use Rattle.spares_input.specs.Stocks.{StockList}
use Rattle.spares_input.specs.declared.rows.PartRow.{PartRow}
use Rattle.case_lines.specs.Grammar.{case_format}
use Rattle.price_certificate.specs.declared.certificate.Certificate.{Certificate}
use Rattle.price_certificate.specs.declared.certificate.Objective.{Objective}
use Rattle.price_certificate.specs.declared.certificate.Objective.TheVariants as objective
use Rattle.price_certificate.specs.declared.certificate.Node.{Node}
use Rattle.price_certificate.specs.declared.certificate.Node.TheVariants as node
use lib.Chars.{codes}

-- ---- the objective

-- the word of an objective
abbrev pub objective_name : Objective → Token
objective_name objective.Backorders = codes "backorders"
objective_name objective.LogAvailability = codes "log-availability"

-- the objective of a word
abbrev pub objective_named : Token → Objective
objective_named t = if bytes_eq t (codes "backorders") then objective.Backorders else objective.LogAvailability

-- the text of an objective: its word
abbrev pub objective_word : Text Objective
objective_word = spelled objective_name objective_named (λ _. true)

-- objective,NAME
abbrev pub objective_fields : Format Objective
objective_fields =
    as_shape (and_then (word (codes "objective")) (λ _. one objective_word))
    (λ x. x.1) (λ o. (tt, o)) (λ _. true)

-- the objective is backorders, as in format 1, which has no line for it
abbrev pub aims_at_backorders : Objective → Bool
aims_at_backorders objective.Backorders = true
aims_at_backorders objective.LogAvailability = false

-- only format 2 has a line for the objective
abbrev pub objective_line : ℕ → Format Objective
objective_line format = if format == 2 then one (line objective_fields)
    else no_field objective.Backorders aims_at_backorders

-- ---- budget and price

-- budget,B
abbrev pub budget_line : Format ℕ
budget_line = count_line (codes "budget") 0 most_budget

-- price,P,Q
abbrev pub price_fields : Format Price
price_fields =
    as_shape (and_then (word (codes "price"))
    (λ _. and_then (one (number 0 most_price_units)) (λ _. one (number 1 most_price_money))))
    (λ x. record { p = x.1.0; q = x.1.1 })
    (λ price. (tt, (price.p, price.q)))
    (λ _. true)

-- the fields of a price as a line
abbrev pub price_line : Format Price
price_line = one (line price_fields)

-- ---- floors, one for each line unit

-- the count of line units, which is the count of families
abbrev pub family_count : List PartRow → ℕ
family_count parts = count_by is_line parts

-- the count of families, and then the floor of each
abbrev pub floors : ℕ → Format (List ℕ)
floors families = counted (codes "floors") families families (λ _. number_line most_floor)

-- ---- covers, one for each line unit, only in format 2

-- the last place of a family: it has at most 9 parts at 16 sites
abbrev pub last_place : ℕ
last_place = 143

-- the most nodes of a cover
abbrev pub most_nodes : ℕ
most_nodes = 100000

-- split,AT,FROM
abbrev pub split_fields : Format (ℕ × ℕ)
split_fields =
    as_shape
    (and_then (word (codes "split"))
    (λ _. and_then (one (number 0 last_place)) (λ _. one (number 1 most_stock))))
    (λ x. x.1) (λ x. (tt, x)) (λ _. true)

-- split,AT,FROM or cost or whole
abbrev pub node_text : Text (Either (ℕ × ℕ) (Either (Unit {0}) (Unit {0})))
node_text = either (line split_fields) (either (line (word (codes "cost"))) (line (word (codes "whole"))))

-- the node of a line
abbrev pub node_of : Either (ℕ × ℕ) (Either (Unit {0}) (Unit {0})) → Node
node_of (Left x) = node.Split x.0 x.1
node_of (Right (Left _)) = node.Cost
node_of (Right (Right _)) = node.Whole

-- the line of a node, by its fields
abbrev pub node_parts : Node → Either (ℕ × ℕ) (Either (Unit {0}) (Unit {0}))
node_parts (node.Split at from) = Left (at, from)
node_parts node.Cost = Right (Left tt)
node_parts node.Whole = Right (Right tt)

-- the line of a node
abbrev pub node_line : Format Node
node_line = as_shape (one node_text) node_of node_parts (λ _. true)

-- the count of nodes, and then each in preorder
abbrev pub cover : Format (List Node)
cover = counted (codes "cover") 1 most_nodes (λ _. node_line)

-- there are no covers, as in format 1
abbrev pub is_empty : List (List Node) → Bool
is_empty covers = length covers == 0

-- the cover of each family, if the format has covers
abbrev pub covers : ℕ → ℕ → Format (List (List Node))
covers format families = if format == 2 then counted (codes "covers") families families (λ _. cover)
    else no_field [] is_empty

-- ---- stocks, by part and then by site

-- the count of pairs, and then a stock for each
abbrev pub stock_lines : ℕ → Format (List ℕ)
stock_lines pairs = counted (codes "stocks") pairs pairs (λ _. number_line most_stock)

-- the stocks of a case from these lines: the number of sites is the case's own
abbrev pub stocks : CaseRows → Format StockList
stocks c =
    as_shape (stock_lines (pair_count (frame_rows c))) (λ list. record { sites = length c.sites; list = list })
    (λ s. s.list) (λ s. s.sites == length c.sites)

-- ---- the lines after the price

-- upper,U, the upper end, bound,B, and then the word end
abbrev pub ending : Format (ℕ × (ℕ × Unit {0}))
ending = and_then (count_line (codes "upper") 0 most_total)
    (λ _. and_then (count_line (codes "bound") 0 most_total) (λ _. word_line (codes "end")))

-- floors, covers, stocks, and the last three lines
abbrev pub lists : ℕ → CaseRows → Format (List ℕ × (List (List Node) × (StockList × (ℕ × (ℕ × Unit {0})))))
lists format c = and_then (floors (family_count c.parts))
    (λ _. and_then (covers format (family_count c.parts)) (λ _. and_then (stocks c) (λ _. ending)))

-- ---- a certificate, of this format or a later one

-- objective, case, budget, price, and the lists with the last three lines
abbrev pub certificate_format : ℕ → Format Certificate
certificate_format least =
    as_shape
    (and_then (count_line (codes "spares-certificate") least 2) (λ format. and_then (objective_line format)
    (λ _. and_then case_format (λ c. and_then budget_line (λ _. and_then price_line (λ _. lists format c))))))
    (λ x. record {
      format = x.0;
      objective = x.1.0;
      case = x.1.1.0;
      budget = x.1.1.1.0;
      price = x.1.1.1.1.0;
      floors = x.1.1.1.1.1.0;
      covers = x.1.1.1.1.1.1.0;
      stocks = x.1.1.1.1.1.1.1.0;
      upper = x.1.1.1.1.1.1.1.1.0;
      bound = x.1.1.1.1.1.1.1.1.1.0;
    })
    (λ c. (
      c.format,
      (c.objective, (c.case, (c.budget, (c.price, (c.floors, (c.covers, (c.stocks, (c.upper, (c.bound, tt))))))))),
    ))
    (λ _. true)
