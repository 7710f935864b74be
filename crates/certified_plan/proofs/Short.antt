-- A plan's certificate has few numbers, and its text is within what is read.
use Rattle.std.proofs.Common.{◌==◌, ℕ, ◌+◌, ◌*◌, ◌<◌, ◌≤◌, Bool, true, false, cond, List, [], length, get_or, sym, subst, arith}
use Rattle.std.specs.List.{AllByRecursion}
use Rattle.std.proofs.lemmas.List.Elements.{recursion_from_All, All-from_get_or}
use Rattle.line_text.proofs.Public.{concat_most}
use Rattle.spares_input.specs.Stocks.{StockList}
use Rattle.spares_input.specs.Cases.{CaseRows, IsCase}
use Rattle.fleet_model.specs.Rows.{line_units}
use Rattle.fleet_model.proofs.Public.{few_lines}
use Rattle.family_points.specs.Vectors.{vector_of}
use Rattle.fleet_plan.specs.Plans.{CasePlan}
use Rattle.case_plan.specs.declared.outcome.Outcome.{Outcome}
use Rattle.price_certificate.specs.declared.certificate.Certificate.{Certificate}
use Rattle.price_certificate.specs.declared.certificate.Node.{Node}
use Rattle.price_certificate.specs.Covers.{places_of}
use Rattle.price_certificate.specs.Certificates.{cert_text, certificate_limit}
use Rattle.price_certificate.specs.Grammar.{certificate_format}
use Rattle.held_certificate.specs.declared.held.HeldCertificate.{HeldCertificate}
use Rattle.held_certificate.specs.Held.{held_format, held_text}
use Rattle.price_certificate.specs.declared.certificate.Terms.{Terms}
use Rattle.certified_plan.specs.Certificates.{cover_at, covers_of, certificate_of}
use Rattle.certified_plan.specs.Inputs.{IsPlanOn}
use Rattle.certified_plan.proofs.Formed.{few_of, line_is, cover_is, covers_count, fits, made, made_formed}
use Rattle.certified_plan.proofs.Sizes.{IsShort, HasFew, certificate_most, held_most}
use Rattle.certified_plan.proofs.Trees.{few_nodes}

short_at : (c : CaseRows) (held : StockList) (p : ℕ) (floors : List ℕ) (f : ℕ) → IsCase c → f < length (line_units c) → IsShort (cover_at c held.list p floors f)
short_at c held p floors f valid b =
    let l = get_or (line_units c) f 0 in
    let line = line_is c f valid b in
    let places = places_of c l (vector_of c l held.list) in
    let few = few_nodes p (get_or floors f 0) places in
    let most = few_of c l (vector_of c l held.list) valid line in
    omega (arith, few, most)

all_short : (c : CaseRows) (held : StockList) (p : ℕ) (floors : List ℕ) → IsCase c → AllByRecursion IsShort (covers_of c held.list p floors)
all_short c held p floors valid =
    recursion_from_All IsShort (covers_of c held.list p floors) (All-from_get_or IsShort (covers_of c held.list p floors) [] (λ f b.
    let k : f < length (line_units c) = (let n = covers_count c held.list p floors in omega (arith, n, b)) in
    subst IsShort (sym (cover_is c held.list p floors f k)) (short_at c held p floors f valid k)))

covers_by : (b : Bool) (covers : List (List Node)) → length covers ≤ 2000 → AllByRecursion IsShort covers → (length (cond b covers []) ≤ 2000) × AllByRecursion IsShort (cond b covers [])
covers_by true covers few all = (few, all)
covers_by false covers few all = (omega arith, tt)

module _ (c : CaseRows) (held : StockList) (terms : Terms) (o : Outcome) (on : IsPlanOn c held terms o) where
  abbrev p : CasePlan
  p = on.plan

  abbrev own : Certificate
  own = certificate_of c held terms (made c held terms o on)

  has_few : HasFew own
  has_few =
      let n = (fits c held terms o on).floor_count in
      let m = few_lines c on.accepted.valid in
      let k = covers_count c held.list p.numbers.price.p p.floors in
      let covers = covers_by (terms.format == 2) (covers_of c held.list p.numbers.price.p p.floors) (omega (arith, m, k)) (all_short c held p.numbers.price.p p.floors on.accepted.valid) in
      record { formed = made_formed c held terms o on; floors = omega (arith, n, m); covers = covers.0; short = covers.1 }

  -- the text of a plan's certificate is within the most bytes that are read
  pub text_short : length (cert_text (certificate_of c held terms o)) ≤ certificate_limit
  text_short =
      let a = concat_most ((certificate_format 1).print own) in
      let b = certificate_most own has_few in
      let short : length (cert_text own) ≤ certificate_limit = omega (arith, a, b) in
      subst (λ (z : Outcome). length (cert_text (certificate_of c held terms z)) ≤ certificate_limit) (sym on.is) short

  abbrev held_cert : HeldCertificate
  held_cert = record { certificate = own; held = held }

  -- the text of a plan's certificate with what is held is within the most bytes that are read
  pub held_short : length (held_text (record { certificate = certificate_of c held terms o; held = held })) ≤ certificate_limit
  held_short =
      let a = concat_most (held_format.print held_cert) in
      let b = held_most held_cert has_few on.is_held in
      let short : length (held_text held_cert) ≤ certificate_limit = omega (arith, a, b) in
      subst (λ (z : Outcome). length (held_text (record { certificate = certificate_of c held terms z; held = held })) ≤ certificate_limit) (sym on.is) short
