-- Held certificates: their lines, their text, and their reading.
use Rattle.std.specs.Prelude.{◌≡◌, ℕ, ◌/◌, ◌%◌, Bool, true, ◌==◌, List, ◌++◌, length, take, Option, Some, None, Result, Ok, Err, bytes_eq}
use Rattle.std.proofs.Common.{Vec, Global}
use Rattle.line_text.specs.Formats.{Token, Format, and_then, as_shape}
use Rattle.line_text.specs.Files.{lines_of, file_text, file_answer}
use Rattle.line_text.specs.Texts.{word_line, count_line, counted}
use Rattle.spares_input.specs.Frames.{FrameRows, frame_of}
use Rattle.spares_input.specs.Cases.{CaseRows, frame_rows, pair_count}
use Rattle.spares_input.specs.Stocks.{AreStocksOf, StockList, limit_at}
use Rattle.spares_input.specs.declared.fault.CaseFault.{CaseFault}
use Rattle.price_certificate.specs.declared.certificate.Certificate.{Certificate}
use Rattle.price_certificate.specs.declared.fault.CertFault.{CertFault}
use Rattle.price_certificate.specs.declared.fault.CertFault.TheVariants as fault
use Rattle.price_certificate.specs.Grammar.{certificate_format}
use Rattle.line_text.specs.Texts.{number_line}
use Rattle.price_certificate.specs.Certificates.{IsWellFormed, cert_text}
use Rattle.held_certificate.specs.declared.held.HeldCertificate.{HeldCertificate}
use lib.Chars.{codes}

-- ---- lines

-- a number up to the limit of pair i
abbrev pub held_line : CaseRows → ℕ → Format ℕ
held_line c i = number_line (limit_at c.parts (i / length c.sites) (i % length c.sites))

-- the line that counts the pairs, and a line for each pair's held stock
abbrev pub held_lines : CaseRows → Format (List ℕ)
held_lines c = counted (codes "held") (pair_count (frame_rows c)) (pair_count (frame_rows c)) (held_line c)

-- these lines as stocks of the case
abbrev pub held : CaseRows → Format StockList
held c = as_shape (held_lines c) (λ list. record { sites = length c.sites; list = list }) (λ s. s.list)
    (λ s. s.sites == length c.sites)

-- spares-held,1 and then a certificate of format 2 with its own end
abbrev pub front : Format Certificate
front =
    as_shape (and_then (count_line (codes "spares-held") 1 1) (λ _. certificate_format 2))
    (λ x. x.1) (λ c. (1, c)) (λ _. true)

-- the lines after this `end`
abbrev pub rest : CaseRows → Format (StockList × Unit {0})
rest c = and_then (held c) (λ _. word_line (codes "end"))

-- the held stocks from a list of numbers, and the `end` after them
abbrev pub rest_of : ℕ → Vec ℕ Global → StockList × Unit {0}
rest_of sites v = (record { sites = sites; list = v.items }, tt)

-- the lines of a held certificate: the certificate, the held stocks, and a second `end`
abbrev pub held_format : Format HeldCertificate
held_format =
    as_shape (and_then front (λ c. rest c.case))
    (λ x. record { certificate = x.0; held = x.1.0 })
    (λ h. (h.certificate, (h.held, tt)))
    (λ _. true)

-- ---- text and reading

-- a well formed certificate of format 2, and a held stock for each pair, within its limit
pub record IsWellHeld (h : HeldCertificate) : Type 0 where
  pub certificate : IsWellFormed h.certificate
  pub format : h.certificate.format ≡ 2
  pub held : AreStocksOf h.certificate.case h.held

-- the text of a held certificate
abbrev pub held_text : HeldCertificate → List ℕ
held_text h = file_text held_format h

-- the rule that sites and parts break, if they break one
abbrev pub refusal : Result FrameRows CaseFault → Option CaseFault
refusal (Ok frame) = None
refusal (Err f) = Some f

-- the rule that sites and parts break, if the lines up to the first `end` are in the grammar
abbrev pub case_fault : Result (Certificate × List Token) (List Token) → Option CaseFault
case_fault (Ok x) = refusal (frame_of x.0.case.sites x.0.case.parts)
case_fault (Err left) = None

-- this fault if there is one, or else the reading of the lines
abbrev pub held_judged : Option CaseFault → Result HeldCertificate ℕ → Result HeldCertificate CertFault
held_judged (Some f) answer = Err (fault.BadCase f)
held_judged None (Ok h) = Ok h
held_judged None (Err n) = Err (fault.BadLine n)

-- The held certificate with this text, or the case fault of the lines up to the first `end`, or the first bad line. The
-- case fault comes before a bad line after this `end`.
abbrev pub held_of : List ℕ → Result HeldCertificate CertFault
held_of bytes = held_judged (case_fault (front.read (lines_of bytes))) (file_answer held_format bytes)

-- ---- first lines

-- the first line of a held certificate, with its line feed
abbrev pub first_line : List ℕ
first_line = codes "spares-held,1\n"

-- the bytes begin with this line
abbrev pub is_held_form : List ℕ → Bool
is_held_form bytes = bytes_eq first_line (take (length first_line) bytes)

-- All lines up to the first `end` are in the grammar, and their sites and parts break this rule. Anything may follow.
pub record HasCaseFault (bytes : List ℕ) (f : CaseFault) : Type 0 where
  pub certificate : Certificate
  pub fits : (certificate_format 2).fits certificate ≡ true
  pub rest : List ℕ
  pub begins : bytes ≡ first_line ++ cert_text certificate ++ rest
  pub refused : frame_of certificate.case.sites certificate.case.parts ≡ Err f
