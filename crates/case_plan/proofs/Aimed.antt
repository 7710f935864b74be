-- What is aimed at, at the stocks of a plan.
use Rattle.std.proofs.Common.{◌≡◌, ℕ, ◌+◌, ◌≤◌, inl, inr, List, [], ◌∷◌, map, sum_by, refl, sym, ap, ap₂, ◌∙◌, subst}
use Rattle.std.proofs.lemmas.List.Sums.{sum_by-cons}
use Rattle.exact_model.specs.Fraction.{Encloses, ◌+ℚ◌}
use Rattle.exact_model.specs.Sums.{sum_over}
use Rattle.fixed_interval.specs.Ends.{Ends, In, ends_add}
use Rattle.fixed_interval.proofs.Public.{add_encloses, exact_encloses}
use Rattle.hull.specs.declared.point.Point.{Point}
use Rattle.hull.specs.Curves.{Among}
use Rattle.hull.specs.Scores.{EnclosesValue}
use Rattle.spares_input.specs.Cases.{CaseRows, IsCase}
use Rattle.fleet_model.specs.Rows.{line_units}
use Rattle.fleet_model.specs.Aims.{Value, aim, family_aim}
use Rattle.family_items.specs.Inputs.{IsLine, IsSound}
use Rattle.family_points.specs.Vectors.{vector_of, stocks_with}
use Rattle.family_points.specs.Points.{ScoreEnds, scored_total, point_at_vector}
use Rattle.family_points.proofs.Public.{vector_stands}
use Rattle.price_bounds.specs.Sums.{hi_of, lo_of}
use Rattle.price_bounds.specs.Soundness.{stocks_of}
use Rattle.marginal_alloc.specs.Plans.{IsPlan}
use Rattle.marginal_alloc.proofs.Public.{plan_acceptable}
use Rattle.fleet_plan.specs.Families.{case_points, points_at, vectors_at, hi_at}
use Rattle.fleet_plan.specs.Plans.{CasePlan}
use Rattle.fleet_plan.proofs.Public.{hi_same, chosen_in, agree_on, length_vector, lines_are, scored_encloses, scored_total_same}
use Rattle.case_plan.specs.Report.{lo_at, aim_ends}

-- ---- the ends

lo_in : (ends : ScoreEnds) (c : CaseRows) (held s ls : List ℕ) → IsCase c → ((l : ℕ) → Among l ls → IsLine c l)
    → lo_of (map (λ l. point_at_vector c l ends (vector_of c l held) (vector_of c l s)) ls) ≡ sum_by (λ l. (scored_total c l ends s).lo) ls
lo_in ends c held s [] valid lines = refl
lo_in ends c held s (l ∷ ls) valid lines =
    let line = lines l (inl refl) in
    ap₂ (λ a b. a + b)
    (ap (λ (x : Ends). x.lo) (scored_total_same c ends (stocks_with c l (vector_of c l s)) s l line
    (agree_on c l (stocks_with c l (vector_of c l s)) s (vector_stands c l (vector_of c l s) valid line (length_vector c l s)))))
    (lo_in ends c held s ls valid (λ m b. lines m (inr b)))
    ∙ sym (sum_by-cons (λ m. (scored_total c m ends s).lo) l ls)

-- those of the chosen points are those at the plan's stocks
pub aimed : (ends : ScoreEnds) (c : CaseRows) (held : List ℕ) (budget : ℕ) (chosen : List Point) (p : CasePlan) (lower : ℕ) → IsCase c
    → IsPlan (case_points ends c held) budget chosen p.floors p.numbers → stocks_of chosen ≡ vectors_at c p.stocks → lower ≡ lo_of chosen
    → (let x : Ends = record { lo = lower; hi = p.numbers.upper } in x ≡ aim_ends ends c p.stocks)
aimed ends c held budget chosen p lower valid plan e l =
    let same : chosen ≡ points_at ends c held p.stocks =
    chosen_in ends c held p.stocks (line_units c) chosen (plan_acceptable (case_points ends c held) budget chosen p.floors p.numbers plan).within e in
    let lo : lower ≡ lo_at ends c p.stocks = l ∙ ap lo_of same ∙ lo_in ends c held p.stocks (line_units c) valid (lines_are c valid) in
    let hi : p.numbers.upper ≡ hi_at ends c p.stocks = plan.upper ∙ ap hi_of same ∙ hi_same ends c held p.stocks valid in
    ap₂ (λ a b. let x : Ends = record { lo = a; hi = b } in x) lo hi

-- ---- and what they enclose

module _ (ends : ScoreEnds) (value : Value) (c : CaseRows) (s : List ℕ) (encloses : EnclosesValue ends value) (sound : IsSound c s) where
  one_more : (l : ℕ) (ls : List ℕ) → ends_add (scored_total c l ends s) (record { lo = sum_by (λ m. (scored_total c m ends s).lo) ls; hi = sum_by (λ m. (scored_total c m ends s).hi) ls })
      ≡ record { lo = sum_by (λ m. (scored_total c m ends s).lo) (l ∷ ls); hi = sum_by (λ m. (scored_total c m ends s).hi) (l ∷ ls) }
  one_more l ls =
      ap₂ (λ a b. let x : Ends = record { lo = a; hi = b } in x) (sym (sum_by-cons (λ m. (scored_total c m ends s).lo) l ls))
      (sym (sum_by-cons (λ m. (scored_total c m ends s).hi) l ls))

  enclosed_in : (ls : List ℕ) → ((l : ℕ) → Among l ls → IsLine c l) → (n : ℕ) → 1024 ≤ n
      → In 48 (record { lo = sum_by (λ l. (scored_total c l ends s).lo) ls; hi = sum_by (λ l. (scored_total c l ends s).hi) ls }) (sum_over ls (family_aim value c s n))
  unfolding sum_over
  enclosed_in [] lines n deep = exact_encloses 48 0
  enclosed_in (l ∷ ls) lines n deep =
      subst (λ (x : Ends). In 48 x (family_aim value c s n l +ℚ sum_over ls (family_aim value c s n))) (one_more l ls)
      (add_encloses 48 (scored_total c l ends s) (record { lo = sum_by (λ m. (scored_total c m ends s).lo) ls; hi = sum_by (λ m. (scored_total c m ends s).hi) ls })
      (family_aim value c s n l) (sum_over ls (family_aim value c s n))
      (scored_encloses c s l sound (lines l (inl refl)) ends value encloses n deep) (enclosed_in ls (λ m b. lines m (inr b)) n deep))

  -- the ends of what is aimed at enclose the aim of these stocks
  pub aim_enclosed : IsCase c → Encloses 48 (lo_at ends c s) (hi_at ends c s) (aim value c s)
  unfolding aim
  aim_enclosed valid n deep = enclosed_in (line_units c) (lines_are c valid) n deep
