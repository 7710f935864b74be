-- The first refusal, step by step.
use Rattle.std.proofs.Common.{◌≡◌, ℕ, ◌≤◌, List, [], ◌∷◌, ◌++◌, Option, Some, None, refl, sym, ap, ◌∙◌, subst, ltb-false}
use Rattle.spares_input.specs.First.{first, first_of, or_else, unless}
use Rattle.spares_input.specs.Cases.{frame_rows, pair_count}
use Rattle.spares_input.specs.Stocks.{StockList}
use Rattle.spares_input.specs.Building.{StopsAt}
use Rattle.spares_input.proofs.Public.{or_else_none}
use Rattle.answers.specs.Answers.{Gives}
use Rattle.answers.specs.declared.stop.Stop.{Stop}
use Rattle.answers.specs.declared.stop.Stop.TheVariants as halt
use Rattle.std.specs.Prelude.{Result, Ok, Err, IsErrAnd}
use Rattle.std.specs.Option.{option_map}
use Rattle.demand_rates.specs.Limits.{rate_fault_of}
use Rattle.price_certificate.specs.declared.certificate.Certificate.{Certificate}
use Rattle.check_answers.specs.declared.refusal.Accepted.{Accepted}
use Rattle.check_answers.specs.declared.refusal.Reject.{Reject}
use Rattle.check_answers.specs.declared.refusal.Reject.TheVariants as reject
use Rattle.gap_rules.specs.Refusals.{case_family_count, gap_at, check_work_of, too_much_work, over_limit, below_held, over_budget, case_cost_above, low_reject_at, upper_too_low, bound_too_high, reject_of, judged}
use Rattle.family_points.specs.Points.{ScoreEnds}
use Rattle.gap_rules.proofs.Places.{if_none}
pub use Rattle.fleet_model.proofs.Public.{few_lines}

-- the first of two lists of findings
first_of_both : {A : Type 0} (xs ys : List (Option A)) → first_of (xs ++ ys) ≡ or_else (first_of xs) (first_of ys)
first_of_both [] ys = refl
first_of_both (None ∷ xs) ys = first_of_both xs ys
first_of_both (Some x ∷ xs) ys = refl

-- a step that stops is the answer, after steps that go on
stopped : (due rest : Option Reject) (x : Accepted) (s : Stop Reject) (r : Result Accepted (Stop Reject)) → IsErrAnd r (λ e. e ≡ s) → StopsAt {T = Accepted} {E = Reject} due (Err s) → Gives (unless (or_else due rest) x) r
stopped due rest x s (Ok a) is h = absurd is
stopped due rest x s (Err e) is h = halted e (subst (λ z. StopsAt {T = Accepted} {E = Reject} due (Err z)) (sym is) h)
  where
    halted : (e : Stop Reject) → StopsAt {T = Accepted} {E = Reject} due (Err e) → Gives (unless (or_else due rest) x) (Err e)
    halted halt.NoMemory h = tt
    halted (halt.Fault y) h = ap (λ d. unless (or_else d rest) x) h

goes_on : (due rest : Option Reject) (x : Accepted) (r : Result Accepted (Stop Reject)) → due ≡ None → Gives (unless rest x) r → Gives (unless (or_else due rest) x) r
goes_on due rest x r h k = subst (λ d. Gives (unless (or_else d rest) x) r) (sym h) k

module _ (score : ScoreEnds) (cert : Certificate) (held : StockList) where
  -- the rejects of covers, of stocks, and of claims, in their order
  abbrev pub covers : List (Option Reject)
  covers = first (gap_at cert held) (case_family_count cert.case) ∷ too_much_work cert held ∷ []

  abbrev pub stocks : List (Option Reject)
  stocks = first (over_limit cert.case cert.stocks) (pair_count (frame_rows cert.case))
      ∷ first (below_held cert.case held cert.stocks) (pair_count (frame_rows cert.case)) ∷ over_budget cert held ∷ []

  abbrev pub claims : List (Option Reject)
  claims = first (low_reject_at score cert held) (case_family_count cert.case) ∷ upper_too_low score cert held ∷ bound_too_high cert ∷ []

  abbrev answer : Accepted
  answer = record { bound = cert.bound; upper = cert.upper; cost = case_cost_above cert.case held cert.stocks }

  -- rates first, then covers, stocks and claims
  by_steps : reject_of score cert held ≡ or_else (option_map reject.Rate (rate_fault_of cert.case)) (or_else (first_of covers) (or_else (first_of stocks) (first_of claims)))
  unfolding reject_of
  by_steps = ap (or_else (option_map reject.Rate (rate_fault_of cert.case)))
      (first_of_both covers (stocks ++ claims) ∙ ap (or_else (first_of covers)) (first_of_both stocks claims))

  accepts : (cost : ℕ) → cost ≡ case_cost_above cert.case held cert.stocks → Gives {E = Reject} (unless None answer) (Ok (record { bound = cert.bound; upper = cert.upper; cost = cost }))
  accepts cost is = ap {B = Result Accepted Reject} (λ z. Ok (record { bound = cert.bound; upper = cert.upper; cost = z })) (sym is)

  module _ (r : Result Accepted (Stop Reject)) where
    judged_by : Gives (unless (or_else (option_map reject.Rate (rate_fault_of cert.case)) (or_else (first_of covers) (or_else (first_of stocks) (first_of claims)))) answer) r → Gives (judged score cert held) r
    judged_by h = subst (λ d. Gives (unless d answer) r) (sym by_steps) h

    -- rates that stop are the answer
    pub by_rates : (s : Stop Reject) → IsErrAnd r (λ e. e ≡ s) → StopsAt {T = Accepted} {E = Reject} (option_map reject.Rate (rate_fault_of cert.case)) (Err s) → Gives (judged score cert held) r
    by_rates s is h = judged_by (stopped _ _ answer s r is h)

    module _ (a : rate_fault_of cert.case ≡ None) where
      past_rates : Gives (unless (or_else (first_of covers) (or_else (first_of stocks) (first_of claims))) answer) r → Gives (judged score cert held) r
      past_rates h = judged_by (goes_on _ _ answer r (ap (option_map reject.Rate) a) h)

      -- where these don't, covers that stop are the answer
      pub by_covers : (s : Stop Reject) → IsErrAnd r (λ e. e ≡ s) → StopsAt {T = Accepted} {E = Reject} (first_of covers) (Err s) → Gives (judged score cert held) r
      by_covers s is h = past_rates (stopped _ _ answer s r is h)

      module _ (b : first_of covers ≡ None) where
        past_covers : Gives (unless (or_else (first_of stocks) (first_of claims)) answer) r → Gives (judged score cert held) r
        past_covers h = past_rates (goes_on _ _ answer r b h)

        -- where these don't, stocks that stop are the answer
        pub by_stocks : (s : Stop Reject) → IsErrAnd r (λ e. e ≡ s) → StopsAt {T = Accepted} {E = Reject} (first_of stocks) (Err s) → Gives (judged score cert held) r
        by_stocks s is h = past_covers (stopped _ _ answer s r is h)

        module _ (d : first_of stocks ≡ None) where
          past_stocks : Gives (unless (first_of claims) answer) r → Gives (judged score cert held) r
          past_stocks h = past_covers (goes_on _ _ answer r d h)

          -- where these don't, floors that stop are the answer
          pub by_floors : (s : Stop Reject) → IsErrAnd r (λ e. e ≡ s) → StopsAt {T = Accepted} {E = Reject} (first (low_reject_at score cert held) (case_family_count cert.case)) (Err s) → Gives (judged score cert held) r
          by_floors s is h = past_stocks (stopped _ _ answer s r is h)

          module _ (e : first (low_reject_at score cert held) (case_family_count cert.case) ≡ None) where
            past_floors : Gives (unless (or_else (upper_too_low score cert held) (or_else (bound_too_high cert) None)) answer) r → Gives (judged score cert held) r
            past_floors h = past_stocks (goes_on _ _ answer r e h)

            -- where these don't, an upper end that stops is the answer
            pub by_upper : (s : Stop Reject) → IsErrAnd r (λ e. e ≡ s) → StopsAt {T = Accepted} {E = Reject} (upper_too_low score cert held) (Err s) → Gives (judged score cert held) r
            by_upper s is h = past_floors (stopped _ _ answer s r is h)

            module _ (f : upper_too_low score cert held ≡ None) where
              past_upper : Gives (unless (or_else (bound_too_high cert) None) answer) r → Gives (judged score cert held) r
              past_upper h = past_floors (goes_on _ _ answer r f h)

              -- where it doesn't, a bound that stops is the answer
              pub by_bound : (s : Stop Reject) → IsErrAnd r (λ e. e ≡ s) → StopsAt {T = Accepted} {E = Reject} (bound_too_high cert) (Err s) → Gives (judged score cert held) r
              by_bound s is h = past_upper (stopped _ _ answer s r is h)

              -- where it doesn't either, the certificate is accepted
              pub by_none : bound_too_high cert ≡ None → (cost : ℕ) → cost ≡ case_cost_above cert.case held cert.stocks → r ≡ Ok (record { bound = cert.bound; upper = cert.upper; cost = cost }) → Gives (judged score cert held) r
              by_none h cost is e = past_upper (goes_on _ _ answer r h (subst (λ z. Gives (unless None answer) z) (sym e) (accepts cost is)))

  -- covers without a reject are trees
  pub are_trees : first_of covers ≡ None → first (gap_at cert held) (case_family_count cert.case) ≡ None
  are_trees h = (or_else_none _ _ h).0

  -- covers without a reject take at most 1,000,000 tables
  pub few_tables : first_of covers ≡ None → check_work_of cert held ≤ 1000000
  few_tables h = ltb-false _ _ (if_none _ _ (or_else_none _ _ (or_else_none _ _ h).1).0)

  -- stocks without a reject keep their limits
  pub are_limited : first_of stocks ≡ None → first (over_limit cert.case cert.stocks) (pair_count (frame_rows cert.case)) ≡ None
  are_limited h = (or_else_none _ _ h).0

  -- stocks without a reject keep the held stocks
  pub are_kept : first_of stocks ≡ None → first (below_held cert.case held cert.stocks) (pair_count (frame_rows cert.case)) ≡ None
  are_kept h = (or_else_none _ _ (or_else_none _ _ h).1).0
