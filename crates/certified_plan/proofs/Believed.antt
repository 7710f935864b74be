-- An accepted certificate is true of its case.
use Rattle.std.proofs.Common.{◌≡◌, refl, ℕ, ◌+◌, ◌-◌, ◌*◌, ◌≤◌, inl, inr, List, [], length, replicate, None, sym, ap, ◌∙◌, subst, arith}
use Rattle.std.proofs.lemmas.List.{get_or-replicate, get_or_past, length-replicate}
use Rattle.std.proofs.lemmas.Bool.{cases_lt}
use Rattle.list_laws.proofs.Public.{map_none, sum_each}
use Rattle.hull.specs.Scores.{EnclosesValue}
use Rattle.spares_input.specs.Frames.{part_at}
use Rattle.spares_input.specs.Cases.{CaseRows, frame_rows, pair_count}
use Rattle.spares_input.specs.Stocks.{StockList, IsFor, nothing_held}
use Rattle.fleet_model.specs.Rows.{all_parts, all_sites, stock}
use Rattle.fleet_model.specs.Aims.{Value, weighted_backorders, part_cost_beyond, cost_beyond}
use Rattle.fleet_model.proofs.Public.{plain_words}
use Rattle.family_points.specs.Points.{ScoreEnds, plain_ends}
use Rattle.fleet_plan.specs.Plans.{AreTrueClaims, ArePlainClaims}
use Rattle.fleet_plan.specs.Laws.{IsAcceptedCase}
use Rattle.fleet_plan.proofs.Public.{claims_true, from_points, plain_encloses}
use Rattle.price_certificate.specs.declared.certificate.Certificate.{Certificate}
use Rattle.price_certificate.specs.Certificates.{IsWellFormed}
use Rattle.gap_rules.specs.Refusals.{reject_of}
use Rattle.gap_rules.proofs.Public.{accepted_are_acceptable, breaks_none}
use Rattle.certified_plan.specs.Accepted.{case_claims_of}

-- what a certificate claims is true of its case, where it breaks no rule and its score encloses the value
pub accepted_true : (ends : ScoreEnds) (value : Value) (cert : Certificate) (held : StockList) → EnclosesValue ends value → IsWellFormed cert → IsFor cert.case held
    → reject_of ends cert held ≡ None → AreTrueClaims value cert.case held.list cert.budget (case_claims_of cert)
accepted_true ends value cert held encloses formed is_for none =
    let accepted : IsAcceptedCase cert.case = record { valid = formed.case; no_fault = map_none _ _ (breaks_none ends cert held none).rates } in
    claims_true ends value cert.case held.list accepted encloses cert.budget (case_claims_of cert)
    (from_points ends cert.case held.list cert.budget (case_claims_of cert) formed.case formed.stocks.pairs (accepted_are_acceptable ends cert held formed.case formed is_for none))

-- ---- nothing held

-- where nothing is held, each pair has 0 of that
pub nothing_held_at : (c : CaseRows) (p k : ℕ) → stock c (nothing_held c).list p k ≡ 0
nothing_held_at c p k = elim (cases_lt (p * length c.sites + k) (pair_count (frame_rows c))) [
  | inl h ↦ get_or-replicate (pair_count (frame_rows c)) (p * length c.sites + k) 0 0 h
  | inr h ↦ get_or_past (replicate (pair_count (frame_rows c)) 0) (p * length c.sites + k) 0 (omega (arith, h, length-replicate {A = ℕ} (pair_count (frame_rows c)) 0))
]

pay_same : (s h m : ℕ) → h ≡ 0 → (s - h) * m ≡ (s - 0) * m
pay_same s h m e = ap (λ z. (s - z) * m) e

cost_same : (c : CaseRows) (s : List ℕ) → cost_beyond c (nothing_held c).list s ≡ cost_beyond c [] s
cost_same c s =
    sum_each (part_cost_beyond c (nothing_held c).list s) (part_cost_beyond c [] s) (all_parts c)
    (λ p. sum_each _ _ (all_sites c) (λ k. pay_same (stock c s p k) (stock c (nothing_held c).list p k) (part_at c.parts p).cost (nothing_held_at c p k)))

-- an accepted certificate of weighted backorders, nothing held, is true in the model's plain words
pub plain_true : (cert : Certificate) → IsWellFormed cert → reject_of plain_ends cert (nothing_held cert.case) ≡ None → ArePlainClaims cert.case cert.budget (case_claims_of cert)
plain_true cert formed none =
    plain_of (accepted_true plain_ends weighted_backorders cert (nothing_held cert.case) plain_encloses formed
    (record { sites = refl; pairs = length-replicate {A = ℕ} (pair_count (frame_rows cert.case)) 0 }) none)
  where
    plain_of : AreTrueClaims weighted_backorders cert.case (nothing_held cert.case).list cert.budget (case_claims_of cert) → ArePlainClaims cert.case cert.budget (case_claims_of cert)
    plain_of k =
        let c = cert.case in
        record {
          allocation = k.allocation.allocation;
          fits = subst (λ z. z ≤ cert.budget) (cost_same c cert.stocks.list ∙ (plain_words c cert.stocks.list).cost_is) k.fits;
          no_more = k.no_more;
          fewer = λ n deep s a f.
              k.none_less n deep s
              (record { allocation = a.allocation; keeps = λ p j lp lj. subst (λ z. z ≤ stock c s p j) (sym (nothing_held_at c p j)) (omega arith) })
              (subst (λ z. z ≤ cert.budget) (sym (cost_same c s)) f);
        }
