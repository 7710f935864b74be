-- What a plan makes is what its task asks for, and it is true.
use Rattle.std.proofs.Common.{◌≡◌, ◌∙◌, ap, refl, subst, sym, Option, Some, None, Result, Ok, ℕ, ◌+◌, ◌≤◌, List, length, IfSome}
use Rattle.spares_input.specs.Cases.{CaseRows, IsCase}
use Rattle.spares_input.specs.Stocks.{AreStocksOf, StockList, nothing_held}
use Rattle.case_plan.specs.Report.{IsOutcome, IsPlanned, outcome_of, report_of}
use Rattle.case_plan.specs.Truth.{IsTruePlanReport, IsTrueReport}
use Rattle.case_plan.specs.declared.outcome.Outcome as plans
use Rattle.case_plan.specs.declared.request.Request.{Request}
use Rattle.case_plan.proofs.Public.{plain_true, planned_true, report_fits}
use Rattle.certified_plan.specs.Certificates.{certificate_of, text_of}
use Rattle.certified_plan.specs.Inputs.{IsPlanOn}
use Rattle.price_certificate.specs.declared.certificate.Terms.{Terms}
use Rattle.certified_plan.proofs.Public.{well_formed, accepted, nearest, scores_enclose, scores_leave_room, held_short, text_short}
use Rattle.family_points.specs.Counts.{work_of}
use Rattle.held_work.proofs.Public.{all_work}
use Rattle.std.specs.Prelude.{IfOk}
use Rattle.std.specs.Result.{IsOk}
use Rattle.answers.specs.declared.stop.NoMemory.{NoMemory}
use Rattle.certified_plan.specs.Laws.{NoCertificateShowsMore}
use Rattle.gap_rules.specs.Scores.{ends_of, value_of}
use Rattle.fleet_plan.specs.Plans.{CasePlan, IsCasePlan}
use Rattle.gap_rules.specs.Refusals.{reject_of}
use Rattle.price_certificate.specs.declared.certificate.Objective.{Objective}
use Rattle.price_certificate.specs.declared.certificate.Objective.TheVariants.{Backorders}
use Rattle.held_work.specs.Work.{IsNothing, held_work_of}
use Rattle.family_points.specs.Points.{ScoreEnds}
use Rattle.held_certificate.specs.Held.{IsWellHeld, held_text}
use Rattle.held_certificate.specs.declared.held.HeldCertificate.{HeldCertificate}
use Rattle.held_certificate.proofs.Public.{again as held_inverse_again}
use Rattle.held_certificate.proofs.Public.{held_form, plain_form}
use Rattle.price_certificate.specs.Certificates.{IsWellFormed, cert_text, certificate_limit}
use Rattle.price_certificate.specs.declared.certificate.Certificate.{Certificate}
use Rattle.price_certificate.proofs.Public.{again}
use Rattle.demo_accepts.proofs.Public.{zeros_hold}
use Rattle.command_outcomes.specs.Making.{Is, IsMade}
use Rattle.command_outcomes.specs.Task.{make_plan}
use Rattle.command_outcomes.specs.declared.checking.Claim.{Claim}
use Rattle.command_outcomes.specs.declared.done.Done.TheVariants.{Planned}
use Rattle.command_outcomes.specs.Checks.{claimed_of, form_of}
use Rattle.command_outcomes.specs.Headline.{IsTrueAndShown}
use Rattle.command_outcomes.specs.Held.{held_in}
use Rattle.plan_commands.specs.Planning.{IsGround, IsPlanFor, planning_on}
use Rattle.command_outcomes.specs.Plans.{Planning, certificate_text, held_stocks_of, plan_certificate, plan_request, planned}
use Rattle.plan_commands.specs.declared.planning.Ground.{Ground}
use Rattle.command_outcomes.proofs.Public.{span_prints}

-- ---- the certificate's text is read back

plain_formed : (cert : Certificate) → IsWellFormed cert → form_of (cert_text cert) ≡ Ok (record { certificate = cert; on_hand = None })
plain_formed cert formed = rw (plain_form cert, again cert formed) refl

held_formed : (k : HeldCertificate) → IsWellHeld k → form_of (held_text k) ≡ Ok (record { certificate = k.certificate; on_hand = Some k.held })
held_formed k well = rw (held_form k, held_inverse_again k well) refl

-- the outcome of a plan
same_outcome : (x : Planning) (name : List ℕ) (o : plans.Outcome) (p : CasePlan) (bytes : List ℕ) → o ≡ outcome_of (ends_of x.terms.objective) x.case (plan_request x) p
    → bytes ≡ certificate_text x p → record { done = Planned o.report; writes = Some (record { name = name; bytes = bytes }) } ≡ planned x name p
same_outcome x name o p bytes h e = rw (h, e) refl

-- and breaks no rule
claimed_by_form : (bytes : List ℕ) (y : Claim) → form_of bytes ≡ Ok y
    → reject_of (ends_of y.certificate.objective) y.certificate (held_in y.certificate.case y.on_hand) ≡ None → claimed_of bytes ≡ Ok y
unfolding claimed_of
claimed_by_form bytes y form none = rw (form, none) refl

-- the work from nothing is that of all vectors
pub plain_work : (c : CaseRows) (held : StockList) → IsCase c → held ≡ nothing_held c → IsOk (work_of c) → IsOk (held_work_of c held.list)
plain_work c held valid none work =
    subst (λ (s : StockList). IsOk (held_work_of c s.list)) (sym none)
    (subst (λ (r : Result ℕ ℕ). IsOk r) (sym (all_work c (nothing_held c).list valid (zeros_hold c))) work)

-- the plan by the score of the objective, from the held stocks and as it is asked for, is the planning's
pub planned_by : (x : Planning) (held : StockList) (request : Request) (o : Objective) (r : Result plans.Outcome NoMemory) → x.terms.objective ≡ o → held ≡ held_stocks_of x
    → request ≡ plan_request x → IfOk r (IsOutcome (ends_of o) x.case held.list request)
    → IfOk r (IsOutcome (ends_of x.terms.objective) x.case (held_stocks_of x).list (plan_request x))
planned_by x held request o r is held_is request_is h =
    subst (λ (o : Objective). IfOk r (IsOutcome (ends_of o) x.case (held_stocks_of x).list (plan_request x))) (sym is)
    (subst (λ (s : StockList). IfOk r (IsOutcome (ends_of o) x.case s.list (plan_request x))) held_is
    (subst (λ (k : Request). IfOk r (IsOutcome (ends_of o) x.case held.list k)) request_is h))

-- the text of a plan's certificate is short enough to be read
short : (c : CaseRows) (on_hand : Option StockList) (terms : Terms) (o : plans.Outcome) → IsPlanOn c (held_in c on_hand) terms o
    → length (text_of (certificate_of c (held_in c on_hand) terms o) on_hand) ≤ certificate_limit
short c None = text_short c (nothing_held c)
short c (Some held) = held_short c held

-- over the stocks on hand a certificate is well held
pub well_held : (g : Ground) → IsGround g → (cert : Certificate) → IsWellFormed cert → cert.case ≡ g.given.case × (cert.format ≡ g.terms.format)
    → IfSome g.on_hand (λ (s : StockList). IsWellHeld (record { certificate = cert; held = s }))
well_held g h cert formed (case_is, format_is) = held_by g.on_hand h.held h.format
  where
    held_by : (on_hand : Option StockList) → AreStocksOf g.given.case (held_in g.given.case on_hand) → IfSome on_hand (λ _. g.terms.format ≡ 2)
        → IfSome on_hand (λ (s : StockList). IsWellHeld (record { certificate = cert; held = s }))
    held_by None k two = tt
    held_by (Some s) k two = record {
      certificate = formed;
      format = format_is ∙ two;
      held = subst (λ (c : CaseRows). AreStocksOf c s) (sym case_is) k;
    }

module _ (g : Ground) (h : IsGround g) where
  abbrev x : Planning
  x = planning_on g

  abbrev aimed : Objective
  aimed = g.terms.objective

  module _ (o : plans.Outcome) (is : IsPlanFor g o) where
    abbrev plan : CasePlan
    plan = is.plan

    -- the outcome is that of a plan on the ground's terms
    pub on_plan : IsPlanOn x.case (held_stocks_of x) x.terms o
    on_plan = record { accepted = h.accepted; are_terms = h.terms; is_held = h.held; plan = plan; is_plan = is.is_plan; request = plan_request x; same_budget = refl; is = is.is }

    abbrev report : IsPlanned (ends_of aimed) x.case (held_stocks_of x).list (plan_request x) o.report
    report = record { plan = plan; is_plan = is.is_plan; is = ap (λ (z : plans.Outcome). z.report) is.is }

    says : IsTrueReport (ends_of aimed) (value_of aimed) x.case (held_stocks_of x).list (plan_request x) plan o.report
    says = planned_true (ends_of aimed) (value_of aimed) x.case (held_stocks_of x).list (plan_request x) o.report h.accepted (scores_enclose aimed) report

    -- with no stocks on hand, in the plain words
    plainly : aimed ≡ Backorders → x.on_hand ≡ None → IsTruePlanReport x.case x.terms.budget plan.stocks o.report
    plainly e off =
        plain_true x.case (held_stocks_of x).list (plan_request x) o.report h.accepted
        (subst (λ (on_hand : Option StockList). IsNothing (held_in x.case on_hand).list) (sym off) (zeros_hold x.case))
        (record {
          plan = plan;
          is_plan = subst (λ (ends : ScoreEnds). IsCasePlan ends x.case (held_stocks_of x).list x.terms.budget plan) (ap ends_of e) is.is_plan;
          is = subst (λ (ends : ScoreEnds). o.report ≡ report_of ends x.case (plan_request x) plan) (ap ends_of e) report.is;
        })

    -- no accepted certificate shows more than the report's bound and rounding
    no_certificate : NoCertificateShowsMore x.case (held_stocks_of x) x.terms (o.report.bound + o.report.rounding)
    no_certificate = nearest x.case (held_stocks_of x) x.terms o on_plan

    -- ---- the certificate

    abbrev certificate : Certificate
    certificate = plan_certificate x plan

    own : certificate_of x.case (held_stocks_of x) x.terms o ≡ plan_certificate x plan
    own = ap (certificate_of x.case (held_stocks_of x) x.terms) is.is

    formed : IsWellFormed (plan_certificate x plan)
    formed = subst IsWellFormed own (well_formed x.case (held_stocks_of x) x.terms o on_plan)

    acceptable : reject_of (ends_of aimed) (plan_certificate x plan) (held_stocks_of x) ≡ None
    acceptable = subst (λ (k : Certificate). reject_of (ends_of aimed) k (held_stocks_of x) ≡ None) own (accepted x.case (held_stocks_of x) x.terms o on_plan h.work)

    within : length (certificate_text x plan) ≤ certificate_limit
    within = subst (λ (k : Certificate). length (text_of k x.on_hand) ≤ certificate_limit) own (short x.case x.on_hand x.terms o on_plan)

    confirmed : claimed_of (certificate_text x plan) ≡ Ok (record { certificate = certificate; on_hand = x.on_hand })
    confirmed =
        claimed_by_form (certificate_text x plan) (record { certificate = certificate; on_hand = x.on_hand })
        (form_by x.on_hand (well_held g h certificate formed (refl, refl))) acceptable
      where
        form_by : (on_hand : Option StockList) → IfSome on_hand (λ (s : StockList). IsWellHeld (record { certificate = certificate; held = s }))
            → form_of (text_of certificate on_hand) ≡ Ok (record { certificate = certificate; on_hand = on_hand })
        form_by None w = plain_formed certificate formed
        form_by (Some s) w = held_formed (record { certificate = certificate; held = s }) w

    -- ---- the whole

    module _ (name : List ℕ) where
      is_true : IsTrueAndShown x name (Some (record { name = name; bytes = certificate_text x plan })) o.report
      is_true = record {
        plan = plan;
        accepted = h.accepted;
        says = says;
        plainly = plainly;
        no_certificate = no_certificate;
        prints = span_prints 48;
        written = refl;
        acceptable = acceptable;
        within = within;
        confirmed = confirmed;
      }

      made : IsMade (Is (Ok (make_plan x name))) (record { done = Planned o.report; writes = Some (record { name = name; bytes = certificate_text x plan }) })
      made = record {
        task = make_plan x name;
        is_due = refl;
        fulfils = record { plan = plan; is_plan = is.is_plan; is = same_outcome x name o plan (certificate_text x plan) is.is refl };
        is_true = record { report = o.report; is = refl; holds = is_true };
        prints = report_fits (ends_of aimed) (value_of aimed) x.case (held_stocks_of x).list (plan_request x) o.report h.accepted (scores_enclose aimed) (scores_leave_room aimed) report;
      }

      -- the bytes of the outcome's certificate under the name are what the task asks for
      pub made_of : (bytes : List ℕ) → bytes ≡ text_of (certificate_of x.case (held_stocks_of x) x.terms o) x.on_hand
          → IsMade (Is (Ok (make_plan x name))) (record { done = Planned o.report; writes = Some (record { name = name; bytes = bytes }) })
      made_of bytes text =
          subst (λ (z : List ℕ). IsMade (Is (Ok (make_plan x name))) (record { done = Planned o.report; writes = Some (record { name = name; bytes = z }) }))
          (sym (text ∙ ap (λ (k : Certificate). text_of k x.on_hand) own)) made
