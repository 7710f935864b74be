-- A held case: its families, their bounds, and the points of which a plan is made.
use Rattle.std.proofs.Common.{◌≡◌, ℕ, zero, suc, ◌+◌, ◌-◌, ◌<◌, ◌≤◌, List, [], ◌∷◌, length, map, take, drop, get_or, refl, sym, ap, ◌∙◌, subst, arith}
use Rattle.std.proofs.lemmas.List.{get_or-drop, get_or-map, get_or-take, length-drop, length-map, length-take-le}
use Rattle.hull.specs.declared.point.Point.{Point}
use Rattle.hull.specs.declared.price.Price.{Price}
use Rattle.hull.specs.Scores.{LeavesRoom}
use Rattle.spares_input.specs.Cases.{CaseRows}
use Rattle.spares_input.specs.Stocks.{StockList}
use Rattle.spares_input.specs.declared.rows.PartId.{PartId}
use Rattle.demand_rates.specs.RateLists.{RateList}
use Rattle.fleet_model.specs.Rows.{line_units}
use Rattle.fleet_model.proofs.Public.{stocks_allocation}
use Rattle.family_items.specs.Inputs.{IsLine}
use Rattle.family_items.proofs.Public.{line_listed, lines_count, listed_is_line}
use Rattle.family_points.specs.declared.bounds.Bounds.{Bounds}
use Rattle.family_points.specs.Inputs.{FamilyBox}
use Rattle.family_points.specs.Vectors.{box_from}
use Rattle.family_points.specs.Points.{ScoreEnds, points_within}
use Rattle.step_walk.specs.Prefix.{curve_at}
use Rattle.curve_parts.specs.Beyond.{IsKnownPart}
use Rattle.family_rows.specs.declared.sources.Sources.{Sources}
use Rattle.choice_parts.specs.Parts.{AreFamilies}
use Rattle.fleet_plan.specs.Families.{case_points, family_points}
use Rattle.case_plan.proofs.Public.{points_are_families}
use Rattle.held_plan.specs.Held.{HeldCase, IsHeldCase, held_box, held_case}

-- the points of a family are those of its line unit
pub points_in : (ends : ScoreEnds) (c : CaseRows) (held ls : List ℕ) (f : ℕ) → f < length ls
    → curve_at (map (family_points ends c held) ls) f ≡ family_points ends c held (get_or ls f 0)
points_in ends c held [] f h = absurd (omega (arith, h))
points_in ends c held (l ∷ ls) zero h = refl
points_in ends c held (l ∷ ls) (suc f) h = points_in ends c held ls f (omega (arith, h))

-- the number of families is that of the line units
pub families_long : (ends : ScoreEnds) (c : CaseRows) (held : List ℕ) → length (case_points ends c held) ≡ length (line_units c)
families_long ends c held = length-map (line_units c) (family_points ends c held)

-- what is a part of the points within the bounds from what is held is a part of the family's points
pub part_held : (ends : ScoreEnds) (c : CaseRows) (held : List ℕ) (f l : ℕ) (b : Bounds) (low high : Price) (part : List Point) (beyond : ℕ)
    → f < length (line_units c) → l ≡ get_or (line_units c) f 0 → b ≡ box_from c l held
    → IsKnownPart low high (points_within c l ends b.held b.low b.high) part beyond → IsKnownPart low high (curve_at (case_points ends c held) f) part beyond
part_held ends c held f l b low high part beyond h is e p =
    subst (λ (ys : List Point). IsKnownPart low high ys part beyond) (sym (points_in ends c held (line_units c) f h))
    (subst (λ (m : ℕ). IsKnownPart low high (family_points ends c held m) part beyond) is
    (subst (λ (x : Bounds). IsKnownPart low high (points_within c l ends x.held x.low x.high) part beyond) e p))

-- the points of a held case are such as a plan by parts takes
pub held_families : (ends : ScoreEnds) (x : HeldCase) → IsHeldCase x → LeavesRoom ends → AreFamilies (case_points ends x.case x.held.list)
held_families ends x h room =
    points_are_families ends x.case x.held.list (record { valid = h.valid; no_fault = h.rates.no_fault }) room
    (record { allocation = stocks_allocation x.case x.held h.held.is_for h.held.limits; keeps = λ p k _ _. omega arith })

-- ---- some of the line units, from the number `from` up to `to`

module _ (c : CaseRows) (all : List PartId) (is : map (λ (p : PartId). p.0) all ≡ line_units c) (from to : ℕ) (order : from ≤ to) (within : to ≤ length (line_units c)) where
  -- these line units
  abbrev pub some : List PartId
  some = take (to - from) (drop from all)

  -- they are as many as the numbers
  pub some_long : length some ≡ to - from
  some_long =
      let left : to - from ≤ length (drop from all) = omega (arith, length-drop from all, lines_count c all is, order, within) in
      length-take-le (to - from) (drop from all) left

  module _ (k : ℕ) (d : PartId) (h : k < length some) where
    here : get_or some k d ≡ get_or all (from + k) d
    here = get_or-take (to - from) (drop from all) k d (omega (arith, h, some_long)) ∙ get_or-drop from all k d

    inside : from + k < length all
    inside = omega (arith, h, some_long, lines_count c all is, order, within)

    -- each is that of its number
    pub some_line : (get_or some k d).0 ≡ get_or (line_units c) (from + k) 0
    some_line = ap (λ (p : PartId). p.0) here ∙ line_listed c all is (from + k) d inside

    -- each is a line unit
    pub some_is_line : IsLine c (get_or some k d).0
    some_is_line = subst (λ (p : PartId). IsLine c p.0) (sym here) (listed_is_line c all is (from + k) d inside)

-- what is equal to each part of a held case is the held case
pub held_same : (x : HeldCase) (c : CaseRows) (r : RateList) (h : StockList) → c ≡ x.case → r ≡ x.rates → h ≡ x.held → held_case c r h ≡ x
held_same x c r h e f g =
    ap (λ (k : CaseRows). held_case k r h) e ∙ ap (λ (k : RateList). held_case x.case k h) f ∙ ap (λ (k : StockList). held_case x.case x.rates k) g

-- the sources of the families of some line units
module _ (x : HeldCase) (lines : List PartId) (sources : List Sources) (is : map (λ (s : Sources). s.family.now) sources ≡ map (λ (p : PartId). held_box x p.0) lines) where
  -- they are as many as the line units
  pub as_many : length sources ≡ length lines
  as_many =
      sym (length-map sources (λ (s : Sources). s.family.now)) ∙ ap (λ (xs : List FamilyBox). length xs) is ∙ length-map lines (λ (p : PartId). held_box x p.0)

  -- each is of the family of its line unit
  pub source_of : (k : ℕ) (d : Sources) (e : PartId) → k < length sources → (get_or sources k d).family.now ≡ held_box x (get_or lines k e).0
  source_of k d e h =
      sym (get_or-map (λ (s : Sources). s.family.now) sources k d (held_box x e.0) h)
      ∙ ap (λ (xs : List FamilyBox). get_or xs k (held_box x e.0)) is
      ∙ get_or-map (λ (p : PartId). held_box x p.0) lines k e (held_box x e.0) (omega (arith, h, as_many))
