-- The certificate of a plan, and its text.
use Rattle.std.specs.Prelude.{◌==◌, ℕ, List, [], length, map, get_or, Option, Some, None, if◌then◌else◌}
use Rattle.std.specs.List.{range_with_len}
use Rattle.spares_input.specs.Cases.{CaseRows}
use Rattle.spares_input.specs.Stocks.{StockList}
use Rattle.fleet_model.specs.Rows.{line_units}
use Rattle.family_points.specs.Vectors.{vector_of}
use Rattle.case_plan.specs.declared.outcome.Outcome.{Outcome}
use Rattle.price_certificate.specs.declared.certificate.Certificate.{Certificate}
use Rattle.price_certificate.specs.declared.certificate.Node.{Node}
use Rattle.price_certificate.specs.Covers.{places_of, trimmed, nodes_of}
use Rattle.price_certificate.specs.Certificates.{cert_text}
use Rattle.held_certificate.specs.Held.{held_text}
use Rattle.price_certificate.specs.declared.certificate.Terms.{Terms}

-- the trimmed cover of the family of the line unit l at a price and a floor, over its vectors from the held stocks to
-- the limits
abbrev pub trimmed_cover : CaseRows → List ℕ → ℕ → ℕ → ℕ → List Node
trimmed_cover c held p floor l = nodes_of (trimmed p floor (places_of c l (vector_of c l held)))

-- the cover of family f, at its floor
abbrev pub cover_at : CaseRows → List ℕ → ℕ → List ℕ → ℕ → List Node
cover_at c held p floors f = trimmed_cover c held p (get_or floors f 0) (get_or (line_units c) f 0)

-- a cover for each line unit, in order
abbrev pub covers_of : CaseRows → List ℕ → ℕ → List ℕ → List (List Node)
covers_of c held p floors = map (cover_at c held p floors) (range_with_len 0 (length (line_units c)))

-- format 1 has no covers
abbrev pub covers_in : CaseRows → List ℕ → ℕ → ℕ → List ℕ → List (List Node)
covers_in c held format p floors = if format == 2 then covers_of c held p floors else []

-- The certificate of a plan's outcome on these terms.
abbrev pub certificate_of : CaseRows → StockList → Terms → Outcome → Certificate
certificate_of c held terms outcome = record {
  format = terms.format;
  objective = terms.objective;
  case = c;
  budget = terms.budget;
  price = outcome.price;
  floors = outcome.floors;
  covers = covers_in c held.list terms.format outcome.price.p outcome.floors;
  stocks = outcome.stocks;
  upper = outcome.upper;
  bound = outcome.report.bound;
}

-- the text of a certificate, with the held stocks if there are any
abbrev pub text_of : Certificate → Option StockList → List ℕ
text_of cert None = cert_text cert
text_of cert (Some held) = held_text (record { certificate = cert; held = held })
