-- The places of the families, and what a change of a row leaves of what is kept of them.
use Rattle.std.proofs.Common.{◌≡◌, ◌≢◌, ℕ, ◌<◌, ◌≤◌, ◌⊎◌, inl, inr, ◌==◌, Bool, true, false, cond, nat_lt, List, [], length, get_or, map, position, set, Option, Some, None, is_some, IsSome, refl, sym, ap, ap₂, ◌∙◌, subst, arith, length-set}
use Rattle.std.specs.List.{position_or_len}
use Rattle.std.proofs.lemmas.Bool.{false≢true, ltb-false}
use Rattle.std.proofs.lemmas.List.{map-set}
use Rattle.std.proofs.lemmas.List.Sums.{fails_before_first}
use Rattle.std.proofs.lemmas.List.Quantifiers.{position-Some}
use Rattle.list_laws.proofs.Public.{same_number}
use Rattle.spares_input.specs.Cases.{CaseRows, frame_rows, rate_place, IsCase, IsRateOf}
use Rattle.spares_input.specs.Edits.{with_rate}
use Rattle.spares_input.proofs.Public.{set_valid}
use Rattle.spares_input.specs.Stocks.{StockList, IsFor}
use Rattle.spares_input.specs.declared.rows.PartId.{PartId}
use Rattle.spares_input.specs.declared.rows.RateRow.{RateRow}
use Rattle.fleet_model.specs.Rows.{line_units}
use Rattle.family_items.specs.Inputs.{IsLine}
use Rattle.family_items.proofs.Public.{line_listed, lines_count}
use Rattle.family_items.specs.declared.item.FamilyResult.{FamilyResult}
use Rattle.family_points.specs.Vectors.{vector_of, limits}
use Rattle.family_points.specs.Local.{home_of, HaveOneFamily}
use Rattle.family_points.proofs.Public.{changed, local}
use Rattle.hull.specs.declared.point.Point.{Point}
use Rattle.hull.specs.Curves.{IsCurve}
use Rattle.fleet_plan.proofs.Public.{apart_at, at_among, lines_apart, lines_are}
use Rattle.step_walk.specs.Prefix.{curve_at}
use Rattle.fleet_plan.specs.Families.{case_points}
use Rattle.held_work.specs.Curves.{IsFamilyCurve}
use Rattle.held_plan.specs.Kept.{KeptRows}
use Rattle.held_plan.proofs.Public.{families_long, kept_elsewhere, kept_with, points_in}
use Rattle.case_plan.specs.Placing.{lines_below}
use Rattle.case_plan.proofs.Public.{line_fewer, line_place}
use Rattle.session_plans.specs.Sessions.{family_place, marks_of, with_row, AreEvaluated, AreKept, AreOfFamilies, ArePartsKept, IsEvaluation, IsSession, SessionRows}
use Rattle.session_plans.specs.declared.evaluated.Evaluated.{Evaluated}
use Rattle.session_plans.proofs.Evaluations.{same_with_rate}
use Rattle.session_plans.proofs.Places.{if_some, kept_within, of_some, some_of, still_kept}
use Rattle.family_points.specs.Points.{plain_ends}

before_or_after : (a b : ℕ) → (a ≡ b) ⊎ ((a < b) ⊎ (b < a))
before_or_after a b = grind arith

number_same : (a b : ℕ) → a ≡ b → (a == b) ≡ true
number_same a b h = grind arith

-- what a search passes over fails its test
not_found : {X : Type 0} (t : X → Bool) (xs : List X) (k : ℕ) (d : X) → position t xs ≡ None → k < length xs → t (get_or xs k d) ≡ false
not_found t xs k d none b =
    let past : length xs ≤ position_or_len t xs = ltb-false (position_or_len t xs) (length xs) (unfound (nat_lt (position_or_len t xs) (length xs)) (position_or_len t xs) none) in
    fails_before_first t xs k d (omega (arith, b, past))
  where
    unfound : (t : Bool) (x : ℕ) → ◌≡◌ {A = Option ℕ} (cond t (Some x) None) None → t ≡ false
    unfound true x h = cc
    unfound false x h = refl

module _ (c : CaseRows) (valid : IsCase c) where
  -- what stands at a place of the line units is a line unit of the case
  pub line_at : (k : ℕ) → k < length (line_units c) → IsLine c (get_or (line_units c) k 0)
  line_at k b = lines_are c valid (get_or (line_units c) k 0) (at_among (line_units c) k b)

  -- so many line units stand before the one at place k
  pub place_of_line : (k : ℕ) → k < length (line_units c) → length (lines_below c (get_or (line_units c) k 0)) ≡ k
  place_of_line k b =
      let l = get_or (line_units c) k 0 in
      let line = line_at k b in
      let below = line_fewer c l line.is_part line.no_parent in
      let same = line_place c l line.is_part line.no_parent in
      elim (before_or_after (length (lines_below c l)) k) [
        | inl e ↦ e
        | inr (inl h) ↦ absurd (apart_at (line_units c) (length (lines_below c l)) k (lines_apart c valid) h b same)
        | inr (inr h) ↦ absurd (apart_at (line_units c) k (length (lines_below c l)) (lines_apart c valid) h below (sym same))
      ]

  -- the place where the line unit of a part's family is found is that of the family
  pub place_found : (units : List PartId) → map (λ (q : PartId). q.0) units ≡ line_units c → (p l k : ℕ) → l ≡ home_of c p → position (λ (q : PartId). q.0 == l) units ≡ Some k
      → (k ≡ family_place c p) × (k < length (line_units c))
  place_found units all p l k home at =
      let found = position-Some (λ (q : PartId). q.0 == l) units k (record { 0 = 0 }) at in
      let within : k < length (line_units c) = omega (arith, found.0, lines_count c units all) in
      let is : get_or (line_units c) k 0 ≡ l = sym (line_listed c units all k (record { 0 = 0 }) found.0) ∙ same_number _ l found.1 in
      (sym (place_of_line k within) ∙ ap (λ m. length (lines_below c m)) (is ∙ home), within)

  -- and it is found
  pub place_there : (units : List PartId) → map (λ (q : PartId). q.0) units ≡ line_units c → (l : ℕ) → IsLine c l → position (λ (q : PartId). q.0 == l) units ≡ None → ⊥
  place_there units all l line none =
      let k = length (lines_below c l) in
      let within : k < length units = omega (arith, line_fewer c l line.is_part line.no_parent, lines_count c units all) in
      let is : (get_or units k (record { 0 = 0 })).0 ≡ l = line_listed c units all k (record { 0 = 0 }) within ∙ line_place c l line.is_part line.no_parent in
      false≢true (sym (not_found (λ (q : PartId). q.0 == l) units k (record { 0 = 0 }) none within) ∙ number_same _ l is)

  -- the family at another place isn't that of part p
  pub other_family : (p k : ℕ) → k < length (line_units c) → k ≢ family_place c p → home_of c p ≢ get_or (line_units c) k 0
  other_family p k b away e = away (sym (place_of_line k b) ∙ ap (λ l. length (lines_below c l)) (sym e))

  module _ (r : RateRow) (row : IsRateOf (frame_rows c) r) where
    same_curve : (l : ℕ) (curve : List Point) → IsLine c l → HaveOneFamily c (with_rate c r) l → IsFamilyCurve plain_ends c [] l curve
        → IsFamilyCurve plain_ends (with_rate c r) [] l curve
    same_curve l curve line one h = record {
      is_curve = subst (λ (points : List Point). IsCurve points curve) (one.points plain_ends (vector_of c l []) (vector_of c l []) (limits c l)) h.is_curve;
      free = h.free;
      within = h.within;
    }

    same_evaluation : (s : StockList) (l : ℕ) (family : FamilyResult 48) → IsLine c l → HaveOneFamily c (with_rate c r) l → IsEvaluation c s l family
        → IsEvaluation (with_rate c r) s l family
    same_evaluation s l family line one h = h ∙ same_with_rate 48 c r l s (one.items 48 s.list)

    -- with the value of its family forgotten, a changed row leaves all that is kept
    kept_by_others : {X : Type 0} (IsOf IsStill : ℕ → X → Type 0) (values : List (Option X)) (place : ℕ)
        → ((l : ℕ) (v : X) → IsLine c l → HaveOneFamily c (with_rate c r) l → IsOf l v → IsStill l v)
        → place ≡ family_place c r.part.0 → place < length (line_units c) → AreOfFamilies IsOf c values
        → AreOfFamilies IsStill (with_rate c r) (set values place None)
    kept_by_others IsOf IsStill values place still e b h = record {
      count = length-set values place None ∙ h.count;
      each = λ k.
          let l = get_or (line_units c) k 0 in
          if_some (get_or (set values place None) k None) (IsStill l) (λ v is.
          let was = still_kept values place k (omega (arith, b, h.count)) (some_of (get_or (set values place None) k None) v is) in
          let own : get_or values k None ≡ Some v = sym was.1 ∙ is in
          let within : k < length (line_units c) = omega (arith, kept_within values k (some_of (get_or values k None) v own), h.count) in
          let line = line_at k within in
          let away = other_family r.part.0 k within (λ i. was.0 (i ∙ sym e)) in
          still l v line (local c (with_rate c r) l valid line (changed c r l valid line row away)) (of_some (get_or values k None) (IsOf l) v own (h.each k)));
    }

    pub curves_kept : (curves : List (Option (List Point))) (place : ℕ) → place ≡ family_place c r.part.0 → place < length (line_units c) → AreKept c curves
        → AreKept (with_rate c r) (set curves place None)
    curves_kept curves place = kept_by_others (IsFamilyCurve plain_ends c []) (IsFamilyCurve plain_ends (with_rate c r) []) curves place same_curve

    pub evaluations_kept : (s : StockList) (families : List (Option (FamilyResult 48))) (place : ℕ) → place ≡ family_place c r.part.0 → place < length (line_units c)
        → AreOfFamilies (IsEvaluation c s) c families → AreOfFamilies (IsEvaluation (with_rate c r) s) (with_rate c r) (set families place None)
    evaluations_kept s families place = kept_by_others (IsEvaluation c s) (IsEvaluation (with_rate c r) s) families place (same_evaluation s)

    pub evaluated_after : (x y : Evaluated) (place : ℕ) → place ≡ family_place c r.part.0 → place < length (line_units c) → y.stocks ≡ x.stocks
        → y.families.items ≡ set x.families.items place None → AreEvaluated c x → AreEvaluated (with_rate c r) y
    evaluated_after x y place e b stocks families h =
        let d = with_rate c r in record {
          is_for = subst (λ (t : StockList). IsFor d t) (sym stocks) (record { sites = h.is_for.sites; pairs = h.is_for.pairs });
          are_kept =
              subst (λ (t : StockList). AreOfFamilies (IsEvaluation d t) d y.families.items) (sym stocks)
              (subst (λ (fs : List (Option (FamilyResult 48))). AreOfFamilies (IsEvaluation d x.stocks) d fs) (sym families)
              (evaluations_kept x.stocks x.families.items place e b h.are_kept));
        }

    points_kept : (f : ℕ) → f < length (line_units c) → f ≢ family_place c r.part.0
        → curve_at (case_points plain_ends c []) f ≡ curve_at (case_points plain_ends (with_rate c r) []) f
    points_kept f b away =
        let l = get_or (line_units c) f 0 in
        let line = line_at f b in
        let one = local c (with_rate c r) l valid line (changed c r l valid line row (other_family r.part.0 f b away)) in
        points_in plain_ends c [] (line_units c) f b ∙ one.points plain_ends (vector_of c l []) (vector_of c l []) (limits c l)
        ∙ sym (points_in plain_ends (with_rate c r) [] (line_units (with_rate c r)) f b)

    pub parts_after : (x : KeptRows) (place : ℕ) → place ≡ family_place c r.part.0 → place < length (line_units c) → ArePartsKept c x
        → ArePartsKept (with_rate c r) (record { window = x.window; parts = set x.parts place None })
    parts_after x place e b h =
        let long = families_long plain_ends c [] in
        let all = h.count in
        kept_elsewhere x.window (case_points plain_ends c []) (case_points plain_ends (with_rate c r) []) (set x.parts place None)
        (families_long plain_ends (with_rate c r) [] ∙ sym (families_long plain_ends c []))
        (λ f on.
        let was = still_kept x.parts place f (omega (arith, b, long, all)) on in
        let within : f < length (line_units c) = omega (arith, kept_within x.parts f (subst IsSome was.1 on), long, all) in
        points_kept f within (λ i. was.0 (i ∙ sym e)))
        (kept_with x.window (case_points plain_ends c []) x.parts place None (omega (arith, b, long, all)) tt h)

-- the session stays one
pub changed_session : (c : CaseRows) (budget : ℕ) (curves : List (Option (List Point))) (parts left : KeptRows) (x y : Evaluated) (r : RateRow) (place : ℕ) (new : CaseRows)
    → IsSession c budget curves parts x → IsRateOf (frame_rows c) r → place ≡ family_place c r.part.0 → place < length (line_units c) → new ≡ with_rate c r
    → left ≡ record { window = parts.window; parts = set parts.parts place None }
    → y.stocks ≡ x.stocks → y.families.items ≡ set x.families.items place None → IsSession new budget (set curves place None) left y
changed_session c budget curves parts left x y r place new h row e b is forgotten stocks families = rw (is, forgotten) (record {
  valid = set_valid c r (rate_place (length c.sites) r) h.valid row refl;
  work = h.work;
  budget_most = h.budget_most;
  are_kept = curves_kept c h.valid r row curves place e b h.are_kept;
  are_parts = parts_after c h.valid r row parts place e b h.are_parts;
  are_evaluated = evaluated_after c h.valid r row x y place e b stocks families h.are_evaluated;
})

-- and is seen as the session with the row
pub changed_view : (c : CaseRows) (budget : ℕ) (curves : List (Option (List Point))) (r : RateRow) (place : ℕ) (new : CaseRows) → place ≡ family_place c r.part.0 → new ≡ with_rate c r
    → record { case = new; budget = budget; marks = marks_of (set curves place None) } ≡ with_row (record { case = c; budget = budget; marks = marks_of curves }) r
changed_view c budget curves r place new e is =
    let off : marks_of (set curves place None) ≡ set (marks_of curves) (family_place c r.part.0) false =
    map-set is_some curves place None ∙ ap (λ i. set (marks_of curves) i false) e in
    ap₂ (λ (d : CaseRows) (ms : List Bool). let s : SessionRows = record { case = d; budget = budget; marks = ms } in s) is off
