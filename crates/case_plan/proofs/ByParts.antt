-- The hull choice of parts is that of their curves.
use Rattle.std.proofs.Common.{◌≡◌, ℕ, zero, suc, ◌+◌, ◌-◌, ◌<◌, ◌≤◌, inl, inr, List, [], ◌∷◌, replicate, Some, None, length, option_map, slice_index, refl, sym, ap, ◌∙◌, subst, arith}
use Rattle.std.specs.List.{AllZip}
use Rattle.std.proofs.lemmas.List.{length-replicate}
use Rattle.hull.specs.declared.point.Point.{Point}
use Rattle.hull.specs.declared.price.Price.{Price}
use Rattle.hull.specs.Curves.{Among}
use Rattle.spares_input.specs.Cases.{CaseRows, IsCase}
use Rattle.fleet_model.specs.Rows.{line_units}
use Rattle.family_points.specs.Vectors.{limits}
use Rattle.marginal_alloc.specs.declared.allocation.Critical.{Critical}
use Rattle.marginal_alloc.specs.declared.allocation.Chosen.{Chosen}
use Rattle.price_bounds.specs.Sums.{cost_of}
use Rattle.step_walk.specs.Prefix.{HaveShapes, curve_at, picked, vertex_at}
use Rattle.marginal_alloc.specs.Choice.{AreCurves, IsHullChoice, StopsWith, firsts}
use Rattle.marginal_alloc.proofs.Public.{choices_are_one}
use Rattle.curve_parts.specs.Parts.{IsPartOf}
use Rattle.curve_parts.specs.Cuts.{IsWindow}
use Rattle.curve_parts.specs.Beyond.{LieBeyond}
use Rattle.choice_parts.specs.Parts.{AreFamilies, ArePartsOf, shifted}
use Rattle.choice_parts.specs.Laws.{stopped}
use Rattle.choice_parts.proofs.Public.{picks_same, chosen, parts_of_curves}
use Rattle.part_filling.specs.declared.window.Window.{Window}
use Rattle.part_filling.specs.Known.{AllLieBeyond, AreKnown, IsPriceWindow, window_at}
use Rattle.case_plan.specs.Parts.{HasNoCritical, slack}
use Rattle.case_plan.specs.Report.{HaveVectors}
use Rattle.case_plan.proofs.Ranges.{few_lines}

-- the hull choice of curves has the vertices, the cost, the price and the critical step of that of their parts
pub record IsHullOf (curves parts : List (List Point)) (budget : ℕ) (own : Chosen) : Type 0 where
  pub hull : Chosen
  pub choice : IsHullChoice curves budget hull
  pub cost : own.cost ≡ hull.cost
  pub price : own.price ≡ hull.price
  pub family : option_map (λ c. c.family) own.critical ≡ option_map (λ c. c.family) hull.critical
  pub same : picked curves hull.picks ≡ picked parts own.picks
  pub slack_same : slack parts own.critical ≡ slack curves hull.critical

module _ (low high : Price) (families parts curves : List (List Point)) (are : AreFamilies families) (window : IsWindow low high) (of : ArePartsOf low high families parts) (areas : AreCurves families curves)
    (budget : ℕ) (own : Chosen) (choice : IsHullChoice parts budget own) (c : Critical) (is : own.critical ≡ Some c) where
  stop : StopsWith parts budget own.picks own.cost own.price (Some c)
  stop = subst (StopsWith parts budget own.picks own.cost own.price) is choice.stops

  -- the hull choice of parts, by the curves
  pub hull_of : IsHullOf curves parts budget own
  hull_of =
      let p = parts_of_curves low high families curves parts are window of areas in
      let a = p.1 in
      let s = stop in
      let step = s.0.step in
      let family = step.family in
      let place = step.place in
      let vertex = s.1 in
      let count = a.count in
      let same : vertex_at parts c.family c.vertex ≡ vertex_at curves c.family (slice_index p.0 c.family + c.vertex) =
      a.same c.family c.vertex (omega (arith, family, count)) (omega (arith, place, vertex)) in
      record {
        hull = stopped (shifted p.0 own.picks) own.cost own.price c.family (slice_index p.0 c.family + c.vertex);
        choice = chosen low high curves parts p.0 budget own.picks own.cost own.price c.family c.vertex a
            (record { prefix = choice.prefix; cost_is = choice.cost_is; fits = choice.fits; stops = s });
        cost = refl;
        price = refl;
        family = ap (option_map (λ c. c.family)) is;
        same = picks_same low high curves parts p.0 own.picks a choice.prefix;
        slack_same = ap (slack parts) is ∙ ap (λ (v : Point). v.hi - v.lo) same;
      }

-- a hull choice with a critical step rules out that there is none
pub critical_one : (curves : List (List Point)) (budget : ℕ) (own : Chosen) (c : Critical) → HaveShapes curves → IsHullChoice curves budget own → own.critical ≡ Some c → cost_of (firsts curves) ≤ budget
    → HasNoCritical curves budget → ⊥
critical_one curves budget own c shapes choice is fits none = elim none [
  | inl dear ↦ omega (arith, dear, fits)
  | inr k ↦ (
      let end : Chosen = record { picks = k.0; cost = cost_of (picked curves k.0); price = record { p = 0; q = 1 }; critical = None } in
      let other : IsHullChoice curves budget (record { picks = k.0; cost = cost_of (picked curves k.0); price = record { p = 0; q = 1 }; critical = None }) =
      record { prefix = k.1; cost_is = refl; fits = k.3; stops = (k.2, refl, refl) } in
      let e = choices_are_one curves budget shapes own.picks k.0 own.cost (cost_of (picked curves k.0)) own.price (let p : Price = record { p = 0; q = 1 } in p) own.critical None choice other in
      let no : Some c ≡ None = sym is ∙ ap (λ (x : Chosen). x.critical) e in
      cc)
]

window_in : (n f : ℕ) (window : Window) → f < n → window_at (replicate n window) f ≡ window
window_in zero f window b = absurd (omega (arith, b))
window_in (suc n) zero window b = refl
window_in (suc n) (suc f) window b = window_in n f window (omega (arith, b))

-- of each family the part between the prices is known
pub parts_known : (window : Window) (families parts : List (List Point)) (beyond : List ℕ) → IsPriceWindow window.low window.high → ArePartsOf window.low window.high families parts
    → AllLieBeyond window.low families parts beyond → AreKnown families parts (replicate (length parts) window) beyond
parts_known window families parts beyond prices of behind = record {
  count = of.count;
  windows_count = length-replicate (length parts) window;
  beyond_count = behind.count;
  prices = λ f b. subst (λ (w : Window). IsPriceWindow w.low w.high) (sym (window_in (length parts) f window b)) prices;
  parts = λ f b. subst (λ (w : Window). IsPartOf w.low w.high (curve_at families f) (curve_at parts f)) (sym (window_in (length parts) f window b)) (of.each f b);
  behind = λ f b. subst (λ (w : Window). LieBeyond w.low (curve_at families f) (curve_at parts f) (slice_index beyond f)) (sym (window_in (length parts) f window b)) (behind.each f b);
}

vectors_in : (c : CaseRows) (ls : List ℕ) (families known : List (List Point)) → length families ≡ length known → ((f : ℕ) → f < length known → (v : Point) → Among v (curve_at known f) → Among v (curve_at families f))
    → AllZip (λ l points. (v : Point) → Among v points → AllZip (λ x y. x ≤ y) v.stocks (limits c l)) ls families → AllZip (λ l points. (v : Point) → Among v points → AllZip (λ x y. x ≤ y) v.stocks (limits c l)) ls known
vectors_in c [] [] [] n h a = tt
vectors_in c [] [] (k ∷ ks) n h a = absurd (omega (arith, n))
vectors_in c [] (x ∷ xs) known n h a = absurd a
vectors_in c (l ∷ ls) [] known n h a = absurd a
vectors_in c (l ∷ ls) (x ∷ xs) [] n h a = absurd (omega (arith, n))
vectors_in c (l ∷ ls) (x ∷ xs) (k ∷ ks) n h a =
    ((λ v m. a.0 v (h 0 (omega arith) v m)), vectors_in c ls xs ks (omega (arith, n)) (λ f b. h (suc f) (omega (arith, b))) a.1)

-- what is known has vectors of the families, where their points have
pub known_vectors : (c : CaseRows) (families known : List (List Point)) (windows : List Window) (beyond : List ℕ) → AreKnown families known windows beyond → HaveVectors c families → HaveVectors c known
known_vectors c families known windows beyond is a = vectors_in c (line_units c) families known is.count (λ f b v m. (is.parts f b).among v m) a

count_in : (c : CaseRows) (ls : List ℕ) (families : List (List Point)) → AllZip (λ l points. (v : Point) → Among v points → AllZip (λ x y. x ≤ y) v.stocks (limits c l)) ls families → length ls ≡ length families
count_in c [] [] a = refl
count_in c [] (x ∷ xs) a = absurd a
count_in c (l ∷ ls) [] a = absurd a
count_in c (l ∷ ls) (x ∷ xs) a = (let r = count_in c ls xs a.1 in omega (arith, r))

-- there are as many families as line units
pub vectors_count : (c : CaseRows) (families : List (List Point)) → HaveVectors c families → length (line_units c) ≡ length families
vectors_count c families a = count_in c (line_units c) families a

-- at most 2,000 families have parts
pub few_parts : (c : CaseRows) (families parts : List (List Point)) → IsCase c → HaveVectors c families → length families ≡ length parts → length parts ≤ 2000
few_parts c families parts valid a n = (let lines = vectors_count c families a in let m = few_lines c valid in omega (arith, lines, n, m))
