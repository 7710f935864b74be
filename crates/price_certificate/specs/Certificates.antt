-- Well formed certificates, their text, and their reading.
use Rattle.std.specs.Prelude.{◌≡◌, ⊤, ℕ, ◌≤◌, List, [], length, All, Result, Ok, Err}
use Rattle.line_text.specs.Files.{file_text, file_answer}
use Rattle.spares_input.specs.Limits.{most_stock}
use Rattle.spares_input.specs.Frames.{FrameRows, frame_of}
use Rattle.spares_input.specs.Cases.{IsCase}
use Rattle.spares_input.specs.Money.{most_budget}
use Rattle.spares_input.specs.Stocks.{IsFor}
use Rattle.spares_input.specs.declared.fault.CaseFault.{CaseFault}
use Rattle.hull.specs.Limits.{most_price_units, most_price_money, most_floor, most_total}
use Rattle.price_certificate.specs.declared.certificate.Certificate.{Certificate}
use Rattle.price_certificate.specs.declared.certificate.Objective.TheVariants as objective
use Rattle.price_certificate.specs.declared.certificate.Node.{Node}
use Rattle.price_certificate.specs.declared.certificate.Node.TheVariants as node
use Rattle.price_certificate.specs.declared.fault.CertFault.{CertFault}
use Rattle.price_certificate.specs.declared.fault.CertFault.TheVariants as fault
use Rattle.price_certificate.specs.Grammar.{family_count, certificate_format, last_place, most_nodes}

-- the most bytes of a certificate
abbrev pub certificate_limit : ℕ
certificate_limit = 16777216

-- ---- well formed

-- no number is above `most`
abbrev pub AreUpTo : ℕ → List ℕ → Type 0
AreUpTo most numbers = All (λ n. n ≤ most) numbers

-- a cut is at one of 144 places and from 1 to 63 units; any leaf is a node
abbrev pub IsNode : Node → Type 0
IsNode (node.Split at from) = (at ≤ last_place) × ((1 ≤ from) × (from ≤ most_stock))
IsNode node.Cost = ⊤
IsNode node.Whole = ⊤

-- a cover has 1 to 100,000 nodes, each within its ranges
pub record IsCover (cover : List Node) : Type 0 where
  pub some : 1 ≤ length cover
  pub few : length cover ≤ most_nodes
  pub nodes : All IsNode cover

-- format 1 has no covers, and its objective is backorders
pub record IsFirst (c : Certificate) : Type 0 where
  pub objective : c.objective ≡ objective.Backorders
  pub covers : c.covers ≡ []

-- format 2 has a cover for each line unit
pub record IsSecond (c : Certificate) : Type 0 where
  pub count : length c.covers ≡ family_count c.case.parts
  pub covers : All IsCover c.covers

-- every number is within its range, and there is a floor for each line unit and a stock for each pair
pub record IsWellFormed (c : Certificate) : Type 0 where
  pub fewest : 1 ≤ c.format
  pub most : c.format ≤ 2
  pub case : IsCase c.case
  pub budget : c.budget ≤ most_budget
  pub price : c.price.p ≤ most_price_units
  pub money : (1 ≤ c.price.q) × (c.price.q ≤ most_price_money)
  pub floor_count : length c.floors ≡ family_count c.case.parts
  pub floors : AreUpTo most_floor c.floors
  pub first : c.format ≡ 1 → IsFirst c
  pub second : c.format ≡ 2 → IsSecond c
  pub stocks : IsFor c.case c.stocks
  pub stock_numbers : AreUpTo most_stock c.stocks.list
  pub upper : c.upper ≤ most_total
  pub bound : c.bound ≤ most_total

-- ---- text and reading

-- the bytes of a certificate's file
abbrev pub cert_text : Certificate → List ℕ
cert_text c = file_text (certificate_format 1) c

-- the certificate, if its sites and parts form a frame
abbrev pub with_frame : Certificate → Result FrameRows CaseFault → Result Certificate CertFault
with_frame c (Ok frame) = Ok c
with_frame c (Err f) = Err (fault.BadCase f)

-- the certificate that was read, if its sites and parts form a frame, or its bad line
abbrev pub judged : Result Certificate ℕ → Result Certificate CertFault
judged (Ok c) = with_frame c (frame_of c.case.sites c.case.parts)
judged (Err n) = Err (fault.BadLine n)

-- the certificate with this text, or the first bad line, or the case fault if every line is in the grammar
abbrev pub cert_of : List ℕ → Result Certificate CertFault
cert_of bytes = judged (file_answer (certificate_format 1) bytes)
