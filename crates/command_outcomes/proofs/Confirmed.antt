-- What a check confirms.
use Rattle.std.proofs.Common.{◌≡◌, ◌∙◌, ◌^◌, ap, arith, refl, subst, sym, Option, Some, None, Result, Ok, Err, ℕ, List}
use Rattle.std.specs.Option.{option_map}
use Rattle.exact_model.specs.Fraction.{Contains, Fraction, whole, ◌*ℚ◌, ◌≤ℚ◌}
use Rattle.fixed_interval.specs.Text.{text_value}
use Rattle.fixed_interval.proofs.Public.{up_above}
use Rattle.spares_input.specs.Cases.{CaseRows, frame_rows}
use Rattle.spares_input.specs.Frames.{FrameRows}
use Rattle.spares_input.specs.First.{unless}
use Rattle.spares_input.specs.Stocks.{AreStocksOf, StockList, cost_of_stocks}
use Rattle.answers.specs.declared.stop.Stop.TheVariants as stop
use Rattle.price_certificate.specs.declared.certificate.Objective.{Objective}
use Rattle.price_certificate.specs.declared.certificate.Objective.TheVariants.{Backorders}
use Rattle.case_plan.specs.Truth.{NoneHasLessThanPrinted}
use Rattle.certified_plan.specs.Accepted.{case_claims_of}
use Rattle.certified_plan.proofs.Public.{accepted_true, plain_true, scores_enclose}
use Rattle.gap_rules.specs.Scores.{ends_of, value_of}
use Rattle.fleet_plan.specs.Plans.{AreTrueClaims, ArePlainClaims}
use Rattle.gap_rules.specs.Refusals.{case_cost_above, reject_of}
use Rattle.gap_rules.proofs.Public.{breaks_none, added_is}
use Rattle.check_answers.specs.declared.refusal.Accepted.{Accepted}
use Rattle.check_answers.specs.declared.refusal.Reject.{Reject}
use Rattle.plan_report.specs.declared.check.CheckReport.{CheckReport}
use Rattle.plan_report.specs.Fits.{FitsCheck}
use Rattle.plan_report.specs.Texts.{millionths_up}
use Rattle.refusals.specs.Lines.{no_names}
use Rattle.refusals.specs.declared.refusal.Refusal.TheVariants as refusal
use Rattle.fleet_model.specs.Aims.{aim, cost_beyond}
use Rattle.fleet_model.specs.Fleet.{cost}
use Rattle.fleet_model.proofs.Public.{cost_holds}
use Rattle.fleet_plan.proofs.Public.{families_beyond}
use Rattle.case_plan.proofs.Public.{below_printed}
use Rattle.answers.specs.Answers.{Gives}
use Rattle.answers.specs.Steps.{◌>>=◌}
use Rattle.answers.specs.declared.stop.Stop.{Stop}
use Rattle.refusals.specs.Causes.{or_refuse}
use Rattle.refusals.specs.declared.failure.Failure.{Failure}
use Rattle.command_outcomes.specs.Making.{Is, MakesBy}
use Rattle.command_outcomes.specs.Task as task
use Rattle.command_outcomes.specs.Task.{check_task, confirm}
use Rattle.command_outcomes.specs.declared.done.Done.TheVariants.{Checked}
use Rattle.command_outcomes.specs.Checking.{IsClaim}
use Rattle.command_outcomes.specs.Checks.{check_of, claimed_of, form_of, judged_of}
use Rattle.command_outcomes.specs.Headline.{HasNoMoreThanPrinted}
use Rattle.command_outcomes.specs.Held.{held_in}
use Rattle.command_outcomes.specs.declared.checking.Claim.{Claim}

-- it was accepted
none_by : (names : FrameRows) (r : Option Reject) (a b : Accepted) → or_refuse names refusal.Rejected (unless r a) ≡ Ok b → r ≡ None
none_by names None a b e = refl
none_by names (Some reject) a b e = grind (arith, e)

-- a value that is at most an upper end in units of 2^-48 is at most the end's printed number
upper_contains : (upper : ℕ) (q : Fraction) → q *ℚ whole (2 ^ 48) ≤ℚ whole upper → Contains 48 0 upper q
unfolding whole ◌*ℚ◌
upper_contains upper q h = record { low = omega arith; high = (let c = h.cross in omega (arith, c)) }

above_printed : (upper : ℕ) (q : Fraction) → q *ℚ whole (2 ^ 48) ≤ℚ whole upper → q ≤ℚ text_value 6 (millionths_up 48 upper)
above_printed upper q h = up_above 48 6 (record { lo = 0; hi = upper }) q (upper_contains upper q h)

-- the cost of stocks on hand, in the words of the model
on_hand_cost : (c : CaseRows) (on_hand : Option StockList) → AreStocksOf c (held_in c on_hand)
    → option_map (cost_of_stocks c) on_hand ≡ option_map (λ (s : StockList). cost c s.list) on_hand
on_hand_cost c (Some held) h = ap Some (sym (cost_holds c held h.is_for))
on_hand_cost c None h = refl

module _ (x : Claim) (h : IsClaim x) (bytes : List ℕ) (form : or_refuse no_names refusal.Cert (form_of bytes) ≡ Ok x) where
  abbrev aimed : Objective
  aimed = x.certificate.objective

  abbrev case : CaseRows
  case = x.certificate.case

  abbrev held : StockList
  held = held_in case x.on_hand

  abbrev answer : Result Accepted Failure
  answer = or_refuse (frame_rows case) refusal.Rejected (judged_of x)

  -- ---- accepted

  module _ (accepted : Accepted) (j : answer ≡ Ok accepted) where
    none : reject_of (ends_of aimed) x.certificate held ≡ None
    none = none_by _ _ _ accepted j

    claimed_is : claimed_of bytes ≡ Ok x
    unfolding claimed_of
    claimed_is = rw (form, j) refl

    says : AreTrueClaims (value_of aimed) case held.list x.certificate.budget (case_claims_of x.certificate)
    says = accepted_true (ends_of aimed) (value_of aimed) x.certificate held (scores_enclose aimed) h.formed h.held.is_for none

    printed : NoneHasLessThanPrinted (value_of aimed) case held.list x.certificate.budget x.certificate.bound
    printed n deep s a f = below_printed x.certificate.bound (aim (value_of aimed) case s n) (says.none_less n deep s a f)

    printed_upper : HasNoMoreThanPrinted (value_of aimed) case x.certificate.stocks.list x.certificate.upper
    printed_upper n deep = above_printed x.certificate.upper (aim (value_of aimed) case x.certificate.stocks.list n) (says.no_more n deep)

    cost_is : case_cost_above case held x.certificate.stocks ≡ cost_beyond case held.list x.certificate.stocks.list
    cost_is =
        sym (added_is case held x.certificate.stocks h.formed.case h.held.is_for h.formed.stocks (breaks_none (ends_of aimed) x.certificate held none).kept)
        ∙ families_beyond case held.list x.certificate.stocks.list h.formed.case

    plainly : aimed ≡ Backorders → x.on_hand ≡ None → ArePlainClaims case x.certificate.budget (case_claims_of x.certificate)
    plainly o off =
        plain_true x.certificate h.formed
        (subst (λ (on_hand : Option StockList). reject_of (ends_of Backorders) x.certificate (held_in case on_hand) ≡ None) off
        (subst (λ (o : Objective). reject_of (ends_of o) x.certificate held ≡ None) o none))

    fits : FitsCheck (check_of x)
    fits = let u = h.formed.upper in let b = h.formed.bound in record { upper = omega (arith, u); bound = omega (arith, b) }

    -- what is told of an accepted claim is what the task of a check asks for
    confirmed : MakesBy (Is (check_task bytes)) (Ok (task.printed (Checked (check_of x))))
    confirmed = record {
      task = confirm x;
      is_due = rw claimed_is refl;
      fulfils = refl;
      is_true = record {
        report = check_of x;
        is = refl;
        holds = record {
          report_is = refl;
          says = says;
          printed = printed;
          printed_upper = printed_upper;
          cost_is = cost_is;
          on_hand_is = on_hand_cost case x.on_hand h.held;
          plainly = plainly;
        };
      };
      prints = fits;
    }

  -- ---- refused

  rejected_is : (failure : Failure) → answer ≡ Err failure → claimed_of bytes ≡ Err failure
  unfolding claimed_of
  rejected_is failure j = rw (form, j) refl

  -- the rule that a rejected claim breaks is the refusal that a check has to make
  rejected : (failure : Failure) → answer ≡ Err failure → MakesBy (Is (check_task bytes)) (Err (stop.Fault failure))
  rejected failure j = rw (rejected_is failure j) refl

  -- ---- either

  -- the report of an accepted claim is what the task of a check asks for
  pub confirmed_by : (judged : Result Accepted Failure) → answer ≡ judged → (report : CheckReport) → (judged >>= λ accepted. Ok (check_of x)) ≡ Ok report
      → MakesBy (Is (check_task bytes)) (Ok (task.printed (Checked report)))
  confirmed_by (Ok accepted) j report e = let is : check_of x ≡ report = cc in rw (← is) (confirmed accepted j)
  confirmed_by (Err failure) j report e = cc

  -- and the refusal of a rejected one is the refusal that it has to make
  pub rejected_by : (judged : Result Accepted Failure) → answer ≡ judged → (e : Stop Failure)
      → Gives {T = CheckReport} (judged >>= λ accepted. Ok (check_of x)) (Err e) → MakesBy (Is (check_task bytes)) (Err e)
  rejected_by judged j stop.NoMemory g = tt
  rejected_by (Ok accepted) j (stop.Fault failure) g = cc
  rejected_by (Err broken) j (stop.Fault failure) g = rejected failure (cc)

-- ---- no certificate

none_claimed : (bytes : List ℕ) (failure : Failure) → or_refuse no_names refusal.Cert (form_of bytes) ≡ Err failure → claimed_of bytes ≡ Err failure
unfolding claimed_of
none_claimed bytes failure e = rw e refl

-- bytes that are no certificate of either form are refused as the check's task says
pub unclaimed : (bytes : List ℕ) (e : Stop Failure) → Gives (or_refuse no_names refusal.Cert (form_of bytes)) (Err e) → MakesBy (Is (check_task bytes)) (Err e)
unclaimed bytes stop.NoMemory h = tt
unclaimed bytes (stop.Fault failure) h = rw (none_claimed bytes failure h) refl
