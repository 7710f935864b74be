-- The plan of a case from its curves.
use Rattle.std.proofs.Common.{◌≡◌, ℕ, suc, ◌<◌, ◌≤◌, List, [], ◌∷◌, Option, Some, None, IfSome, length, map, get_or, slice_index, option_map, sym, ap, ap₂, ◌∙◌, subst, arith}
use Rattle.std.specs.List.{AllZip}
use Rattle.std.proofs.lemmas.List.{length-map}
use Rattle.std.proofs.lemmas.List.Elements.{length_all_zip}
use Rattle.hull.specs.declared.point.Point.{Point}
use Rattle.hull.specs.Curves.{Among, nowhere, point_at}
use Rattle.hull.proofs.Public.{among_at, range_has}
use Rattle.spares_input.specs.Cases.{CaseRows, IsCase}
use Rattle.spares_input.specs.Stocks.{StockList, IsFor, IsWithinLimits, limit_at}
use Rattle.spares_input.specs.Rows.{is_line}
use Rattle.spares_input.specs.Frames.{part_at}
use Rattle.fleet_model.specs.Rows.{all_parts, stock, line_units}
use Rattle.fleet_model.proofs.Public.{stock_holds}
use Rattle.family_points.specs.Vectors.{Pair, places, vector_of, limits, stock_list, IsBetween}
use Rattle.marginal_alloc.specs.declared.plans.PlanNumbers.{PlanNumbers}
use Rattle.step_walk.specs.Prefix.{curve_at, AreVertices, picked}
use Rattle.price_bounds.specs.Allocations.{IsFamilyAllocation}
use Rattle.price_bounds.specs.Soundness.{stocks_of}
use Rattle.case_figures.specs.declared.figures.Figures.{Figures}
use Rattle.case_figures.specs.Figures.{figures_of}
use Rattle.fleet_model.specs.Aims.{weighted_backorders}
use Rattle.fleet_plan.specs.Families.{case_points, family_at, families_at, vectors_at}
use Rattle.fleet_plan.specs.Plans.{CasePlan, line_of_family}
use Rattle.fleet_plan.proofs.Public.{is_among, kept, zip_each, held_of, chosen_of_stocks}
use Rattle.fixed_interval.specs.Ends.{Ends}
use Rattle.family_points.specs.Points.{ScoreEnds, plain_ends}
use Rattle.plan_report.specs.declared.plan.CriticalLine.{CriticalLine}
use Rattle.case_plan.specs.declared.outcome.Outcome.{Outcome}
use Rattle.case_plan.specs.Report.{aim_ends, if_asked, step_line, outcome_of, IsPlanOf}
use Rattle.fleet_plan.specs.Families.{HasWidth}
use Rattle.case_plan.specs.Chosen.{FitsCase, IsChosen}
use Rattle.case_plan.specs.Outcomes.{chosen_outcome}
use Rattle.case_plan.specs.declared.chosen.ChosenStocks.{ChosenStocks}
use Rattle.case_plan.specs.declared.request.Request.{Request}
use Rattle.case_plan.proofs.Aimed.{aimed}

abbrev IsLow : CaseRows → ℕ → List ℕ → Type 0
IsLow c l v = AllZip (λ x y. x ≤ y) v (limits c l)

picked_low : (c : CaseRows) (ls : List ℕ) (curves : List (List Point)) (picks : List ℕ) → AllZip (λ l curve. (v : Point) → Among v curve → IsLow c l v.stocks) ls curves → length picks ≡ length curves
    → ((g : ℕ) → g < length curves → slice_index picks g < length (curve_at curves g)) → AllZip (IsLow c) ls (stocks_of (picked curves picks))
picked_low c [] [] picks a e b = tt
picked_low c [] (x ∷ xs) picks a e b = absurd a
picked_low c (l ∷ ls) [] picks a e b = absurd a
picked_low c (l ∷ ls) (x ∷ xs) [] a e b = absurd (omega (arith, e))
picked_low c (l ∷ ls) (x ∷ xs) (k ∷ ks) a e b =
    (a.0 (point_at x k) (among_at x k nowhere (b 0 (omega arith))), picked_low c ls xs ks a.1 (omega (arith, e)) (λ g h. b (suc g) (omega (arith, h))))

pub low_width : (c : CaseRows) (l : ℕ) (v : List ℕ) → IsLow c l v → HasWidth c l v
low_width c l v a = length_all_zip (λ x y. x ≤ y) v (limits c l) a ∙ length-map (places c l) (λ (x : Pair). limit_at c.parts x.part x.site)

zeros_least : (c : CaseRows) (xs : List Pair) (v : List ℕ) → length v ≡ length xs → AllZip (λ x y. x ≤ y) (map (λ (x : Pair). stock c [] x.part x.site) xs) v
zeros_least c [] [] e = tt
zeros_least c [] (a ∷ v) e = absurd (omega (arith, e))
zeros_least c (x ∷ xs) [] e = absurd (omega (arith, e))
zeros_least c (x ∷ xs) (a ∷ v) e = (omega arith, zeros_least c xs v (omega (arith, e)))

low_between : (c : CaseRows) (l : ℕ) (v : List ℕ) → IsLow c l v → IsBetween (vector_of c l []) (limits c l) v
low_between c l v a = record { least = zeros_least c (places c l) v (low_width c l v a); most = a }

allocated : (c : CaseRows) (ls : List ℕ) (vs : List (List ℕ)) → AllZip (IsLow c) ls vs → IsFamilyAllocation (map (family_at plain_ends weighted_backorders c []) ls) vs
allocated c [] [] a = tt
allocated c [] (v ∷ vs) a = absurd a
allocated c (l ∷ ls) [] a = absurd a
allocated c (l ∷ ls) (v ∷ vs) a = (is_among (vector_of c l []) (limits c l) v (low_between c l v a.0), allocated c ls vs a.1)

module _ (c : CaseRows) (valid : IsCase c) (curves : List (List Point)) (picks : List ℕ) (low : AllZip (λ l curve. (v : Point) → Among v curve → IsLow c l v.stocks) (line_units c) curves) (vertices : AreVertices curves picks) where
  lows : AllZip (IsLow c) (line_units c) (stocks_of (picked curves picks))
  lows = picked_low c (line_units c) curves picks low vertices.count vertices.below

  -- the stocks of each picked vertex have a number for each place of its family
  pub widths : AllZip (HasWidth c) (line_units c) (stocks_of (picked curves picks))
  widths = zip_each (IsLow c) (HasWidth c) (line_units c) (stocks_of (picked curves picks)) (λ l v a h. low_width c l v h) lows

  -- stocks with the vectors of the picked vertices are within the case's limits
  pub within : (s : StockList) → IsFor c s → vectors_at c s.list ≡ stocks_of (picked curves picks) → IsWithinLimits c s
  within s is e p k lp lk =
      let a = held_of plain_ends weighted_backorders c [] valid s.list is.pairs (subst (IsFamilyAllocation (families_at plain_ends weighted_backorders c [])) (sym e) (allocated c (line_units c) (stocks_of (picked curves picks)) lows)) in
      subst (λ n. n ≤ limit_at c.parts p k) (stock_holds c s p k is) (a.allocation.within p k lp lk)

-- the family of a critical step is one of as many as there are curves
pub place_some : (curves : List (List Point)) (n : ℕ) (o : Option ℕ) → length curves ≡ n → IfSome o (λ family. family < length curves) → IfSome o (λ family. family < n)
place_some curves n None e h = tt
place_some curves n (Some f) e h = subst (λ m. f < m) e h

-- the plan that the parts make
abbrev pub plan_with : StockList → List ℕ → PlanNumbers → CasePlan
plan_with s floors f = record { stocks = s.list; floors = floors; numbers = f }

-- the answer that is made of stocks, floors, a plan's numbers, figures, aim and critical line
abbrev pub outcome : Request → StockList → List ℕ → PlanNumbers → Figures → Option Ends → Option CriticalLine → Outcome
outcome request s floors f figures aim line = record {
  report = record {
    budget = request.budget;
    figures = figures;
    on_hand = request.on_hand;
    loss = aim;
    bound = f.bound;
    gap = f.gap;
    rounding = f.rounding;
    price = f.price;
    hull = f.hull_cost;
    critical = line;
  };
  stocks = s;
  price = f.price;
  floors = floors;
  upper = f.upper;
}

-- made of the figures, the aim and the critical line of chosen stocks it is their outcome
pub made : (c : CaseRows) (request : Request) (x : ChosenStocks) (floors : List ℕ) (figures : Figures) (aim : Option Ends) (line : Option CriticalLine) → floors ≡ x.floors.items
    → figures ≡ record (figures_of 48 c x.stocks) { cost = x.numbers.cost } → aim ≡ if_asked request.loss (record { lo = x.lower; hi = x.numbers.upper })
    → line ≡ option_map (step_line c x.numbers.price.q) (option_map (line_of_family c) x.numbers.critical)
    → outcome request x.stocks floors x.numbers figures aim line ≡ chosen_outcome c request x
made c request x floors figures aim line f g a l =
    ap (λ (z : List ℕ). outcome request x.stocks z x.numbers figures aim line) f
    ∙ ap₂ (λ (y : Figures) (z : Option CriticalLine). outcome request x.stocks x.floors.items x.numbers y aim z) g l
    ∙ ap (λ (y : Option Ends). outcome request x.stocks x.floors.items x.numbers (record (figures_of 48 c x.stocks) { cost = x.numbers.cost }) y (option_map (step_line c x.numbers.price.q) (option_map (line_of_family c) x.numbers.critical))) a

-- with the case's own aim the outcome of chosen stocks is the outcome of the plan
same_outcome : (ends : ScoreEnds) (c : CaseRows) (request : Request) (x : ChosenStocks) → x.stocks.sites ≡ length c.sites
    → (let y : Ends = record { lo = x.lower; hi = x.numbers.upper } in y ≡ aim_ends ends c x.stocks.list)
    → chosen_outcome c request x ≡ outcome_of ends c request (plan_with x.stocks x.floors.items x.numbers)
same_outcome ends c request x e a =
    let line = option_map (step_line c x.numbers.price.q) (option_map (line_of_family c) x.numbers.critical) in
    let same : x.stocks ≡ stock_list c x.stocks.list = ap (λ n. let t : StockList = record { sites = n; list = x.stocks.list } in t) e in
    ap (λ (y : Ends). outcome request x.stocks x.floors.items x.numbers (record (figures_of 48 c x.stocks) { cost = x.numbers.cost }) (if_asked request.loss y) line) a
    ∙ ap (λ (t : StockList). outcome request t x.floors.items x.numbers (record (figures_of 48 c t) { cost = x.numbers.cost }) (if_asked request.loss (aim_ends ends c x.stocks.list)) line) same

-- the outcome of stocks chosen from the curves of a case's points is the outcome of the case's plan
pub case_outcome : (c : CaseRows) (curves : List (List Point)) (request : Request) (x : ChosenStocks) (o : Outcome) → IsCase c → FitsCase c x → IsChosen c curves request.budget x
    → o ≡ chosen_outcome c request x → IsPlanOf c curves request o
case_outcome c curves request x o valid fits is e ends held areas =
    let chosen = is.is_plan (case_points ends c held) areas in
    let p = plan_with x.stocks x.floors.items x.numbers in
    let vectors = sym is.stocks_are in
    record {
      plan = p;
      is_plan = chosen_of_stocks ends c held request.budget is.vertices p chosen vectors fits.are_stocks.is_for.pairs;
      is = e ∙ same_outcome ends c request x fits.are_stocks.is_for.sites (aimed ends c held request.budget is.vertices p x.lower valid chosen vectors is.lower_is);
    }

-- the line unit at place f is a part of the case
pub line_in : (c : CaseRows) (f : ℕ) → f < length (line_units c) → get_or (line_units c) f 0 < length c.parts
line_in c f h = (let r = range_has (get_or (line_units c) f 0) 0 (length c.parts) (kept (λ p. is_line (part_at c.parts p)) (all_parts c) (get_or (line_units c) f 0) (among_at (line_units c) f 0 h)).0 in omega (arith, r.1))
