-- No certificate that the checker accepts has a bound above a plan's bound plus its rounding.
use Rattle.std.proofs.Common.{ℕ, ◌+◌, ◌≤◌, sym, subst}
use Rattle.spares_input.specs.Cases.{CaseRows}
use Rattle.spares_input.specs.Stocks.{StockList, IsFor}
use Rattle.certified_plan.specs.Accepted as bounds
use Rattle.fleet_plan.specs.Plans.{AreAcceptable}
use Rattle.fleet_plan.proofs.Public.{from_points, plan_true}
use Rattle.case_plan.specs.declared.outcome.Outcome.{Outcome}
use Rattle.gap_rules.proofs.Public.{accepted_are_acceptable}
use Rattle.gap_rules.specs.Scores.{ends_of, value_of}
use Rattle.price_certificate.specs.declared.certificate.Certificate.{Certificate}
use Rattle.price_certificate.specs.declared.certificate.Terms.{Terms}
use Rattle.certified_plan.specs.Inputs.{IsPlanOn}
use Rattle.certified_plan.specs.Laws.{IsAcceptedFor, NoCertificateShowsMore}
use Rattle.certified_plan.proofs.Scores.{scores_enclose}

module _ (c : CaseRows) (held : StockList) (terms : Terms) where
  -- the claims of an accepted certificate are acceptable for the case
  acceptable : IsFor c held → (cert : Certificate) → IsAcceptedFor c held terms cert → AreAcceptable (ends_of terms.objective) c held.list terms.budget (bounds.case_claims_of cert)
  acceptable is_for cert h =
      let own : AreAcceptable (ends_of terms.objective) cert.case held.list cert.budget (bounds.case_claims_of cert) =
      from_points (ends_of terms.objective) cert.case held.list cert.budget (bounds.case_claims_of cert) h.formed.case h.formed.stocks.pairs
      (accepted_are_acceptable (ends_of terms.objective) cert held h.formed.case h.formed (subst (λ (d : CaseRows). IsFor d held) (sym h.case_is) is_for) h.breaks_none) in
      subst (λ (d : CaseRows). AreAcceptable (ends_of terms.objective) d held.list terms.budget (bounds.case_claims_of cert)) h.case_is
      (subst (λ (budget : ℕ). AreAcceptable (ends_of terms.objective) cert.case held.list budget (bounds.case_claims_of cert)) h.budget_is own)

  -- so their bound is at most the plan's bound plus its rounding
  pub nearest : (o : Outcome) → IsPlanOn c held terms o → NoCertificateShowsMore c held terms (o.report.bound + o.report.rounding)
  nearest o on cert h =
      let t = plan_true (ends_of terms.objective) (value_of terms.objective) c held.list on.accepted (scores_enclose terms.objective) terms.budget on.plan on.is_plan in
      subst (λ (z : Outcome). cert.bound ≤ z.report.bound + z.report.rounding) (sym on.is) (t.no_claims (bounds.case_claims_of cert) (acceptable on.is_held.is_for cert h))
