use Rattle.std.proofs.Common.{◌≡◌, ℕ, List, [], length, Ok, Err, refl, ap, subst, sym, Vec, Global, ◌∙◌}
use Rattle.line_text.specs.Reading.{Gathers}
use Rattle.line_text.specs.declared.bad_line.BadLine.{BadLine}
use Rattle.answers.specs.declared.stop.Stop.{Stop}
use Rattle.std.proofs.lemmas.Bool.{false≢true}
use Rattle.line_text.specs.Formats.{Token}
use Rattle.spares_input.specs.Stocks.{StockList}
use Rattle.price_certificate.specs.declared.certificate.Certificate.{Certificate}
use Rattle.price_certificate.specs.declared.fault.CertFault.TheVariants as fault
use Rattle.held_certificate.specs.declared.held.HeldCertificate.{HeldCertificate}
use Rattle.held_certificate.specs.Held.{rest, rest_of}
use Rattle.held_certificate.proofs.Inverse.{bad_rest, some_rest, whole_rest, pairs_read, whole_pairs}
use Rattle.held_certificate.proofs.reading.held_after.Goals as goal

abbrev stocks_at : ℕ → List ℕ → StockList
stocks_at n list = record { sites = n; list = list }

abbrev held_as : Certificate → StockList → HeldCertificate
held_as c s = record { certificate = c; held = s }

pub of-requires-clause-whole : goal.of-requires-clause-whole
of-requires-clause-whole c =
    let rows = c.args.certificate.now.case in
    whole_pairs rows c.site_count-sites.result c.in-Ok.held.items
    (pairs_read rows c.site_count-sites.ensures.valid c.args.lines.now c.rest_lines.new.lines c.in-Ok.held.items (length rows.sites) c.in-Ok.ensures) c.site_count-sites.ensures.count

pub returns-then-is_empty : goal.returns-then-is_empty
returns-then-is_empty c =
    let d = c.args.certificate.now in
    let list = c.in-Ok.held.items in
    let s : StockList = record { sites = length d.case.sites; list = list } in
    let whole : (rest d.case).read c.args.lines.now ≡ Ok ((s, tt), []) = c.in-Ok.ensures ∙ ap (λ (ts : List Token). Ok ((s, tt), ts)) (c.if-is_empty.ensures.0 refl) in
    let same : s ≡ c.of.result = ap (λ (n : ℕ). stocks_at n list) (sym c.site_count-sites.ensures.count) ∙ sym c.of.ensures in
    whole_rest c.args.bytes.now d c.args.lines.now c.requires.front s c.requires.no_fault whole ∙ ap (λ (x : StockList). Ok (held_as d x)) same

pub returns-else-is_empty : goal.returns-else-is_empty
returns-else-is_empty c =
    let d = c.args.certificate.now in
    some_rest c.args.bytes.now d c.args.lines.now c.requires.front (rest_of (length d.case.sites) c.in-Ok.held) c.rest_lines.new.lines (λ e. false≢true (c.if-is_empty.ensures.1 e))
    c.requires.no_fault c.in-Ok.ensures
    ∙ ap (λ (n : ℕ). Err (fault.BadLine n)) (sym c.line_number.ensures)

pub returns-in-Err-Fault : goal.returns-in-Err-Fault
returns-in-Err-Fault c =
    let d = c.args.certificate.now in
    let refused : (rest d.case).read c.args.lines.now ≡ Err c.rest_lines.new.lines =
    subst (λ (e : Stop BadLine). Gathers {X = Vec ℕ Global} {Y = StockList × Unit {0}} (rest_of (length d.case.sites)) (Err e) c.rest_lines.new.lines ((rest d.case).read c.args.lines.now))
    c.in-Err-Fault.field-0-is c.in-Err-Fault.ensures in
    bad_rest c.args.bytes.now d c.args.lines.now c.requires.front c.rest_lines.new.lines c.requires.no_fault refused
    ∙ ap (λ (n : ℕ). Err (fault.BadLine n)) (sym c.line_number-in-Err-Fault.ensures)
