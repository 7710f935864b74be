-- The contents of lines before the case is built from them.
use Rattle.std.specs.Prelude.{ℕ, List, Bool, length, if◌then◌else◌}
use Rattle.line_text.specs.Formats.{Text, Format, and_then}
use Rattle.line_text.specs.Files.{line}
use Rattle.line_text.specs.Texts.{word, Either, Left, Right, either}
use Rattle.hull.specs.declared.price.Price.{Price}
use Rattle.spares_input.specs.Cases.{CaseRows}
use Rattle.spares_input.specs.Stocks.{StockList}
use Rattle.case_lines.specs.Framed.{rows_of}
use Rattle.price_certificate.specs.declared.certificate.Certificate.{Certificate}
use Rattle.price_certificate.specs.declared.certificate.Node.{Node}
use Rattle.price_certificate.specs.Grammar.{budget_line, price_line, lists}
use Rattle.price_certificate.specs.declared.reading.LaterLines.{LaterLines}
use Rattle.price_certificate.specs.declared.reading.CertificateLines.{CertificateLines}
use Rattle.price_certificate.specs.declared.reading.Lists.{Lists}
use Rattle.price_certificate.specs.declared.reading.Ending.{Ending}
use lib.Chars.{codes}

-- cost or whole
abbrev pub leaf_text : Text (Either (Unit {0}) (Unit {0}))
leaf_text = either (line (word (codes "cost"))) (line (word (codes "whole")))

-- the leaf that is shown whole, or else the leaf that is shown by its cost
abbrev pub leaf_named : Bool → Either (Unit {0}) (Unit {0})
leaf_named is_whole = if is_whole then Right tt else Left tt

-- the values of the last three lines
abbrev pub ending_of : Ending → ℕ × (ℕ × Unit {0})
ending_of e = (e.upper, (e.bound, tt))

-- the values of the lines after the price, for this number of sites
abbrev pub lists_of : ℕ → Lists → List ℕ × (List (List Node) × (StockList × (ℕ × (ℕ × Unit {0}))))
lists_of sites l = (l.floors, (l.covers, (record { sites = sites; list = l.stocks }, ending_of l.ending)))

-- budget, price, and the lists with the last three lines
abbrev pub later_lines : ℕ → CaseRows
    → Format (ℕ × (Price × (List ℕ × (List (List Node) × (StockList × (ℕ × (ℕ × Unit {0})))))))
later_lines format c = and_then budget_line (λ _. and_then price_line (λ _. lists format c))

-- the values of the lines after the case, for this number of sites
abbrev pub later_of : ℕ → LaterLines
    → ℕ × (Price × (List ℕ × (List (List Node) × (StockList × (ℕ × (ℕ × Unit {0}))))))
later_of sites l = (l.budget, (l.price, lists_of sites l.lists))

-- the certificate of these lines; its case may be invalid
abbrev pub draft_of : CertificateLines → Certificate
draft_of d = record {
  format = d.format;
  objective = d.objective;
  case = rows_of d.case;
  budget = d.budget;
  price = d.price;
  floors = d.lists.floors;
  covers = d.lists.covers;
  stocks = record { sites = length d.case.sites; list = d.lists.stocks };
  upper = d.lists.ending.upper;
  bound = d.lists.ending.bound;
}
