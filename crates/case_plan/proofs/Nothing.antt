-- A list of zeros holds nothing.
use Rattle.std.proofs.Common.{◌≡◌, ℕ, ◌+◌, ◌*◌, inl, inr, List, [], length, get_or, sym, ap, subst}
use Rattle.std.proofs.lemmas.List.{get_or_past}
use Rattle.std.proofs.lemmas.List.Elements.{All-get_or}
use Rattle.std.proofs.lemmas.Bool.{cases_lt}
use Rattle.hull.specs.declared.point.Point.{Point}
use Rattle.spares_input.specs.Cases.{CaseRows}
use Rattle.fleet_model.specs.Rows.{stock, line_units}
use Rattle.family_points.specs.Vectors.{Pair, places, vector_of, limits}
use Rattle.family_points.specs.Points.{ScoreEnds, point_at_vector, points_within}
use Rattle.marginal_alloc.specs.Plans.{IsPlan}
use Rattle.fleet_plan.specs.Families.{family_points, case_points, points_at}
use Rattle.fleet_plan.specs.Plans.{CasePlan, IsCasePlan}
use Rattle.fleet_plan.proofs.Public.{map_among}
use Rattle.held_work.specs.Work.{IsNothing}

module _ (c : CaseRows) (held : List ℕ) (nothing : IsNothing held) where
  none_at : (i : ℕ) → get_or held i 0 ≡ 0
  none_at i = elim (cases_lt i (length held)) [
    | inl h ↦ All-get_or (λ n. n ≡ 0) held i 0 h nothing
    | inr h ↦ get_or_past held i 0 h
  ]

  same_vector : (l : ℕ) → vector_of c l held ≡ vector_of c l []
  same_vector l = map_among (λ (x : Pair). stock c held x.part x.site) (λ (x : Pair). stock c [] x.part x.site) (places c l) (λ x a. none_at (x.part * length c.sites + x.site))

  same_points : (ends : ScoreEnds) → case_points ends c held ≡ case_points ends c []
  same_points ends = map_among (family_points ends c held) (family_points ends c []) (line_units c) (λ l a. ap (λ v. points_within c l ends v v (limits c l)) (same_vector l))

  same_chosen : (ends : ScoreEnds) (s : List ℕ) → points_at ends c held s ≡ points_at ends c [] s
  same_chosen ends s =
      map_among (λ l. point_at_vector c l ends (vector_of c l held) (vector_of c l s)) (λ l. point_at_vector c l ends (vector_of c l []) (vector_of c l s)) (line_units c)
      (λ l a. ap (λ v. point_at_vector c l ends v (vector_of c l s)) (same_vector l))

  -- where what is held is nothing, a plan from what is held is a plan from no stock
  pub from_nothing : (ends : ScoreEnds) (budget : ℕ) (p : CasePlan) → IsCasePlan ends c held budget p → IsCasePlan ends c [] budget p
  from_nothing ends budget p h = record {
    count = h.count;
    plan = subst (λ (z : List (List Point)). IsPlan z budget (points_at ends c [] p.stocks) p.floors p.numbers) (same_points ends)
        (subst (λ (z : List Point). IsPlan (case_points ends c held) budget z p.floors p.numbers) (same_chosen ends p.stocks) h.plan);
  }

  -- where what is held is nothing, a plan from no stock is a plan from what is held
  pub to_nothing : (ends : ScoreEnds) (budget : ℕ) (p : CasePlan) → IsCasePlan ends c [] budget p → IsCasePlan ends c held budget p
  to_nothing ends budget p h = record {
    count = h.count;
    plan = subst (λ (z : List (List Point)). IsPlan z budget (points_at ends c held p.stocks) p.floors p.numbers) (sym (same_points ends))
        (subst (λ (z : List Point). IsPlan (case_points ends c []) budget z p.floors p.numbers) (sym (same_chosen ends p.stocks)) h.plan);
  }
