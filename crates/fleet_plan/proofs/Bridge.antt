-- Allocations of a case are choices of its families, and plans of these are plans of the case.
use Rattle.std.proofs.Common.{◌≡◌, ℕ, ◌+◌, ◌^◌, ◌<◌, ◌≤◌, inl, inr, List, [], ◌∷◌, length, map, sum_by, refl, sym, ap, ap₂, ◌∙◌, subst, arith}
use Rattle.std.specs.List.{AllZip}
use Rattle.std.proofs.lemmas.List.Sums.{sum_by-cons}
use Rattle.exact_model.specs.Fraction.{Fraction, whole, ◌+ℚ◌, ◌*ℚ◌, ◌≤ℚ◌}
use Rattle.fixed_interval.specs.Ends.{Ends}
use Rattle.hull.specs.Curves.{Among}
use Rattle.hull.specs.Scores.{EnclosesValue}
use Rattle.hull.proofs.Public.{among_map}
use Rattle.spares_input.specs.Cases.{CaseRows, IsCase, frame_rows, pair_count}
use Rattle.spares_input.specs.Stocks.{limit_at}
use Rattle.exact_model.specs.Sums.{sum_over}
use Rattle.fleet_model.specs.Rows.{stock, line_units}
use Rattle.family_items.specs.Inputs.{IsLine}
use Rattle.family_points.specs.Vectors.{Pair, places, vector_of, limits, vectors, stocks_with, IsBetween}
use Rattle.family_points.specs.Points.{ScoreEnds, scored_total, added_cost, point_at_vector}
use Rattle.family_points.proofs.Public.{vector_stands}
use Rattle.price_bounds.specs.Sums.{cost_of, hi_of, Picks}
use Rattle.price_bounds.specs.Values.{IsAtLeast, IsAtMost}
use Rattle.marginal_alloc.specs.Plans.{IsPlan}
use Rattle.price_bounds.specs.Certificates.{IsAcceptable}
use Rattle.price_bounds.specs.Allocations.{Family, points_of, AreEnclosed, IsFamilyAllocation, cost_at, total_at, IsBoundAtPrice}
use Rattle.price_bounds.specs.Soundness.{stocks_of, IsSoundCertificate}
use Rattle.marginal_alloc.specs.Soundness.{IsSoundPlan}
use Rattle.price_bounds.proofs.Public.{choice_allocation, certificate_sound}
use Rattle.marginal_alloc.proofs.Public.{plan_sound, plan_acceptable}
use Rattle.fleet_model.specs.Aims.{Value, weighted_backorders, aim, family_aim, IsHeldAllocation, cost_beyond}
use Rattle.fleet_model.specs.Bounds.{NoneHasLess, PriceShows, HasNoMore}
use Rattle.fleet_plan.specs.Families.{HasWidth, family_at, families_at, family_points, case_points, vectors_at, points_at, hi_at}
use Rattle.fleet_plan.specs.Plans.{CasePlan, IsCasePlan, CaseClaims, plan_claims_of, AreAcceptable, IsTruePlan, AreTrueClaims}
use Rattle.fleet_plan.specs.Laws.{claims_at, IsAcceptedCase, IsSameChoice, IsOfStocks}
use Rattle.fleet_model.proofs.Public.{family_aim_same, has_sites}
use Rattle.fleet_plan.proofs.Lists.{is_among, is_between, zip_maps}
use Rattle.fleet_plan.proofs.Places.{stocks_from, length_listed, from_families, vectors_from, length_vector, agree_on, family_of_part, lines_are, line_among, place_has, in_case, zip_each}
use Rattle.fleet_plan.proofs.Costs.{families_beyond}
use Rattle.fleet_plan.proofs.Scores.{scored_total_same, scored_encloses, width_of, within_family, with_sound}

-- ---- the points of the families

points_in : (ends : ScoreEnds) (value : Value) (c : CaseRows) (held ls : List ℕ) → map points_of (map (family_at ends value c held) ls) ≡ map (family_points ends c held) ls
points_in ends value c held [] = refl
points_in ends value c held (l ∷ ls) = ap (λ z. family_points ends c held l ∷ z) (points_in ends value c held ls)

-- the points of the families are the case's, whatever value is aimed at
pub points_are : (ends : ScoreEnds) (value : Value) (c : CaseRows) (held : List ℕ) → map points_of (families_at ends value c held) ≡ case_points ends c held
points_are ends value c held = points_in ends value c held (line_units c)

stocks_in : (ends : ScoreEnds) (c : CaseRows) (held s ls : List ℕ) → stocks_of (map (λ l. point_at_vector c l ends (vector_of c l held) (vector_of c l s)) ls) ≡ map (λ l. vector_of c l s) ls
stocks_in ends c held s [] = refl
stocks_in ends c held s (l ∷ ls) = ap (λ z. vector_of c l s ∷ z) (stocks_in ends c held s ls)

-- the stocks of the families' points at s are the vectors of s
pub stocks_are : (ends : ScoreEnds) (c : CaseRows) (held s : List ℕ) → stocks_of (points_at ends c held s) ≡ vectors_at c s
stocks_are ends c held s = stocks_in ends c held s (line_units c)

-- ---- enclosure

enclosed_in : (ends : ScoreEnds) (value : Value) (c : CaseRows) (held ls : List ℕ) → IsAcceptedCase c → EnclosesValue ends value → ((l : ℕ) → Among l ls → IsLine c l) → AreEnclosed (map (family_at ends value c held) ls)
enclosed_in ends value c held [] accepted encloses lines = tt
enclosed_in ends value c held (l ∷ ls) accepted encloses lines =
    let line = lines l (inl refl) in (
      (λ v a. scored_encloses c (stocks_with c l v) l (with_sound c accepted l line held v (is_between (vector_of c l held) (limits c l) v a)) line ends value encloses),
      enclosed_in ends value c held ls accepted encloses (λ m b. lines m (inr b)),
    )

-- each vector's interval encloses its aim, where the score's intervals enclose its value
pub families_enclosed : (ends : ScoreEnds) (value : Value) (c : CaseRows) (held : List ℕ) → IsAcceptedCase c → EnclosesValue ends value → AreEnclosed (families_at ends value c held)
families_enclosed ends value c held accepted encloses = enclosed_in ends value c held (line_units c) accepted encloses (lines_are c accepted.valid)

-- ---- from allocations of the case to those of its families

module _ (ends : ScoreEnds) (value : Value) (c : CaseRows) (held : List ℕ) (valid : IsCase c) where
  -- the vector of a family at an allocation that keeps what is held lies between what is held and the limits
  pub vector_between : (s : List ℕ) (l : ℕ) → IsLine c l → IsHeldAllocation c held s → IsBetween (vector_of c l held) (limits c l) (vector_of c l s)
  vector_between s l line a = record {
    least = zip_maps (λ x y. x ≤ y) (λ (x : Pair). stock c held x.part x.site) (λ (x : Pair). stock c s x.part x.site) (places c l)
        (λ x m. let h = place_has c l x m in a.keeps x.part x.site (in_case c valid l x.part line h.0) h.1);
    most = zip_maps (λ x y. x ≤ y) (λ (x : Pair). stock c s x.part x.site) (λ (x : Pair). limit_at c.parts x.part x.site) (places c l)
        (λ x m. let h = place_has c l x m in a.allocation.within x.part x.site (in_case c valid l x.part line h.0) h.1);
  }

  allocation_in : (s ls : List ℕ) → ((l : ℕ) → Among l ls → IsLine c l) → IsHeldAllocation c held s → IsFamilyAllocation (map (family_at ends value c held) ls) (map (λ l. vector_of c l s) ls)
  allocation_in s [] lines a = tt
  allocation_in s (l ∷ ls) lines a =
      (is_among (vector_of c l held) (limits c l) (vector_of c l s) (vector_between s l (lines l (inl refl)) a), allocation_in s ls (λ m b. lines m (inr b)) a)

  cost_in : (s ls : List ℕ) → cost_at (map (family_at ends value c held) ls) (map (λ l. vector_of c l s) ls) ≡ sum_by (λ l. added_cost c l (vector_of c l held) (vector_of c l s)) ls
  cost_in s [] = refl
  cost_in s (l ∷ ls) =
      ap (λ z. added_cost c l (vector_of c l held) (vector_of c l s) + z) (cost_in s ls)
      ∙ sym (sum_by-cons (λ m. added_cost c m (vector_of c m held) (vector_of c m s)) l ls)

  -- the vectors of the families at stocks cost what the stocks cost beyond what is held
  pub same_cost : (s : List ℕ) → cost_at (families_at ends value c held) (vectors_at c s) ≡ cost_beyond c held s
  same_cost s = cost_in s (line_units c) ∙ families_beyond c held s valid

  own_vector : (s : List ℕ) (l : ℕ) → IsLine c l → vector_of c l (stocks_with c l (vector_of c l s)) ≡ vector_of c l s
  own_vector s l line = vector_stands c l (vector_of c l s) valid line (length_vector c l s)

  total_in : (s : List ℕ) (n : ℕ) (ls : List ℕ) → ((l : ℕ) → Among l ls → IsLine c l) → total_at n (map (family_at ends value c held) ls) (map (λ l. vector_of c l s) ls) ≡ sum_over ls (family_aim value c s n)
  unfolding total_at sum_over
  total_in s n [] lines = refl
  total_in s n (l ∷ ls) lines =
      ap₂ (λ a b. a +ℚ b) (family_aim_same c (stocks_with c l (vector_of c l s)) s (has_sites c valid) value n l (agree_on c l (stocks_with c l (vector_of c l s)) s (own_vector s l (lines l (inl refl)))))
      (total_in s n ls (λ m b. lines m (inr b)))

  -- the vectors of the families at stocks come to the aim of the stocks
  pub same_total : (s : List ℕ) (n : ℕ) → total_at n (families_at ends value c held) (vectors_at c s) ≡ aim value c s n
  unfolding aim
  same_total s n = total_in s n (line_units c) (lines_are c valid)

  -- an allocation of the case is one of its families, with the same cost and the same aim
  pub same_choice : (s : List ℕ) → IsHeldAllocation c held s → IsSameChoice ends value c held s
  same_choice s a = record { allocation = allocation_in s (line_units c) (lines_are c valid) a; cost = same_cost s; total = same_total s }

  -- ---- and back

  betweens : (ls : List ℕ) (vs : List (List ℕ)) → IsFamilyAllocation (map (family_at ends value c held) ls) vs → AllZip (λ l v. IsBetween (vector_of c l held) (limits c l) v) ls vs
  betweens [] [] a = tt
  betweens [] (v ∷ vs) a = absurd a
  betweens (l ∷ ls) [] a = absurd a
  betweens (l ∷ ls) (v ∷ vs) a = (is_between (vector_of c l held) (limits c l) v a.0, betweens ls vs a.1)

  zipped_self : (g : ℕ → List ℕ) (ls : List ℕ) → AllZip (λ l v. IsBetween (vector_of c l held) (limits c l) v) ls (map g ls) → (l : ℕ) → Among l ls → IsBetween (vector_of c l held) (limits c l) (g l)
  zipped_self g [] h l a = absurd a
  zipped_self g (m ∷ ms) h l (inl e) = subst (λ z. IsBetween (vector_of c z held) (limits c z) (g z)) (sym e) h.0
  zipped_self g (m ∷ ms) h l (inr a) = zipped_self g ms h.1 l a

  -- stocks whose vectors are an allocation of the families are an allocation that keeps what is held
  pub held_of : (s : List ℕ) → length s ≡ pair_count (frame_rows c) → IsFamilyAllocation (families_at ends value c held) (vectors_at c s) → IsHeldAllocation c held s
  held_of s e a = record { allocation = record { complete = e; within = λ p k lp lk. (at p k lp lk).1 }; keeps = λ p k lp lk. (at p k lp lk).0 }
    where
      at : (p k : ℕ) → p < length c.parts → k < length c.sites → (stock c held p k ≤ stock c s p k) × (stock c s p k ≤ limit_at c.parts p k)
      at p k lp lk =
          let f = family_of_part c valid p lp in
          within_family c f.0 s held (vector_of c f.0 s) (zipped_self (λ l. vector_of c l s) (line_units c) (betweens (line_units c) (vectors_at c s) a) f.0 (line_among c valid f.0 f.1)) refl p k f.2 lk

  -- each allocation of the families is that of an allocation of the case
  pub of_stocks : (allocation : List (List ℕ)) → IsFamilyAllocation (families_at ends value c held) allocation → IsOfStocks c held allocation
  of_stocks allocation a =
      let widths : AllZip (HasWidth c) (line_units c) allocation = zip_each (λ l v. IsBetween (vector_of c l held) (limits c l) v) (HasWidth c) (line_units c) allocation (λ l v m b. width_of c l held v b) (betweens (line_units c) allocation a) in
      let same : vectors_at c (stocks_from c allocation) ≡ allocation = vectors_from c valid allocation widths in
      record {
        stocks = stocks_from c allocation;
        is_allocation = held_of (stocks_from c allocation) (length_listed c (from_families c (line_units c) allocation)) (subst (IsFamilyAllocation (families_at ends value c held)) (sym same) a);
        vectors = same;
      }

-- ---- ends at the stocks

hi_in : (ends : ScoreEnds) (c : CaseRows) (held s ls : List ℕ) → IsCase c → ((l : ℕ) → Among l ls → IsLine c l)
    → hi_of (map (λ l. point_at_vector c l ends (vector_of c l held) (vector_of c l s)) ls) ≡ sum_by (λ l. (scored_total c l ends s).hi) ls
hi_in ends c held s [] valid lines = refl
hi_in ends c held s (l ∷ ls) valid lines =
    let line = lines l (inl refl) in
    ap₂ (λ a b. a + b)
    (ap (λ (x : Ends). x.hi) (scored_total_same c ends (stocks_with c l (vector_of c l s)) s l line
    (agree_on c l (stocks_with c l (vector_of c l s)) s (vector_stands c l (vector_of c l s) valid line (length_vector c l s)))))
    (hi_in ends c held s ls valid (λ m b. lines m (inr b)))
    ∙ sym (sum_by-cons (λ m. (scored_total c m ends s).hi) l ls)

-- the upper ends of the points at s come to that of the scored totals at s
pub hi_same : (ends : ScoreEnds) (c : CaseRows) (held s : List ℕ) → IsCase c → hi_of (points_at ends c held s) ≡ hi_at ends c s
hi_same ends c held s valid = hi_in ends c held s (line_units c) valid (lines_are c valid)

-- ---- claims over points

picks_in : (ends : ScoreEnds) (c : CaseRows) (held s ls : List ℕ) → IsCase c → ((l : ℕ) → Among l ls → IsLine c l) → IsHeldAllocation c held s
    → Picks (map (family_points ends c held) ls) (map (λ l. point_at_vector c l ends (vector_of c l held) (vector_of c l s)) ls)
picks_in ends c held s [] valid lines a = tt
picks_in ends c held s (l ∷ ls) valid lines a = (
  among_map (point_at_vector c l ends (vector_of c l held)) (vectors (vector_of c l held) (limits c l)) (vector_of c l s)
      (is_among (vector_of c l held) (limits c l) (vector_of c l s) (vector_between ends weighted_backorders c held valid s l (lines l (inl refl)) a)),
  picks_in ends c held s ls valid (λ m b. lines m (inr b)) a,
)

cost_of_in : (ends : ScoreEnds) (c : CaseRows) (held s ls : List ℕ) → cost_of (map (λ l. point_at_vector c l ends (vector_of c l held) (vector_of c l s)) ls) ≡ sum_by (λ l. added_cost c l (vector_of c l held) (vector_of c l s)) ls
cost_of_in ends c held s [] = refl
cost_of_in ends c held s (l ∷ ls) =
    ap (λ z. added_cost c l (vector_of c l held) (vector_of c l s) + z) (cost_of_in ends c held s ls)
    ∙ sym (sum_by-cons (λ m. added_cost c m (vector_of c m held) (vector_of c m s)) l ls)

pub cost_same : (ends : ScoreEnds) (c : CaseRows) (held s : List ℕ) → IsCase c → cost_of (points_at ends c held s) ≡ cost_beyond c held s
cost_same ends c held s valid = cost_of_in ends c held s (line_units c) ∙ families_beyond c held s valid

-- claims that are acceptable for the case are so over the families' points
pub over_points : (ends : ScoreEnds) (c : CaseRows) (held : List ℕ) (budget : ℕ) (x : CaseClaims) → IsCase c → AreAcceptable ends c held budget x → IsAcceptable (case_points ends c held) budget (claims_at ends c held x)
over_points ends c held budget x valid h = record {
  money = h.money;
  within = picks_in ends c held x.stocks (line_units c) valid (lines_are c valid) h.allocation;
  fits = subst (λ z. z ≤ budget) (sym (cost_same ends c held x.stocks valid)) h.fits;
  floors = h.floors_are;
  upper = subst (λ z. z ≤ x.upper) (sym (hi_same ends c held x.stocks valid)) h.upper_is;
  bound = h.bound_is;
}

-- claims that are acceptable over the families' points are so for the case
pub from_points : (ends : ScoreEnds) (c : CaseRows) (held : List ℕ) (budget : ℕ) (x : CaseClaims) → IsCase c → length x.stocks ≡ pair_count (frame_rows c)
    → IsAcceptable (case_points ends c held) budget (claims_at ends c held x) → AreAcceptable ends c held budget x
from_points ends c held budget x valid count h = record {
  money = h.money;
  allocation = held_of ends weighted_backorders c held valid x.stocks count
      (subst (IsFamilyAllocation (families_at ends weighted_backorders c held)) (stocks_are ends c held x.stocks)
      (choice_allocation (families_at ends weighted_backorders c held) (points_at ends c held x.stocks)
      (subst (λ z. Picks z (points_at ends c held x.stocks)) (sym (points_are ends weighted_backorders c held)) h.within)));
  fits = subst (λ z. z ≤ budget) (cost_same ends c held x.stocks valid) h.fits;
  floors_are = h.floors;
  upper_is = subst (λ z. z ≤ x.upper) (hi_same ends c held x.stocks valid) h.upper;
  bound_is = h.bound;
}

-- ---- from units to fractions

at_least : (bound : ℕ) (q : Fraction) → IsAtLeast bound q → whole bound ≤ℚ q *ℚ whole (2 ^ 48)
unfolding whole ◌*ℚ◌
at_least bound q h = record { cross = (let l = h.low in omega (arith, l)) }

at_most : (limit : ℕ) (q : Fraction) → IsAtMost limit q → q *ℚ whole (2 ^ 48) ≤ℚ whole limit
unfolding whole ◌*ℚ◌
at_most limit q h = record { cross = (let l = h.high in omega (arith, l)) }

-- ---- plans and certificates

module _ (ends : ScoreEnds) (value : Value) (c : CaseRows) (held : List ℕ) (accepted : IsAcceptedCase c) (encloses : EnclosesValue ends value) where
  abbrev own : List Family
  own = families_at ends value c held

  -- where no allocation of the families within the budget has less than a bound, no stocks within it have less
  pub none_less : (budget bound : ℕ) → ((n : ℕ) (allocation : List (List ℕ)) → 1024 ≤ n → IsFamilyAllocation own allocation → cost_at own allocation ≤ budget → IsAtLeast bound (total_at n own allocation))
      → NoneHasLess value c held budget bound
  none_less budget bound h n deep s a fits =
      at_least bound (aim value c s n) (subst (IsAtLeast bound) (same_total ends value c held accepted.valid s n)
      (h n (vectors_at c s) deep (same_choice ends value c held accepted.valid s a).allocation (let e = same_cost ends value c held accepted.valid s in omega (arith, e, fits))))

  shown : (budget n : ℕ) (price x : Fraction) → PriceShows value c held budget n price x → IsBoundAtPrice own budget n price x
  shown budget n price x shows allocation a =
      let o = of_stocks ends value c held accepted.valid allocation a in
      subst (λ z. x +ℚ price *ℚ whole budget ≤ℚ total_at n own z +ℚ price *ℚ whole (cost_at own z)) o.vectors
      (subst (λ z. x +ℚ price *ℚ whole budget ≤ℚ z +ℚ price *ℚ whole (cost_at own (vectors_at c o.stocks))) (sym (same_total ends value c held accepted.valid o.stocks n))
      (subst (λ z. x +ℚ price *ℚ whole budget ≤ℚ aim value c o.stocks n +ℚ price *ℚ whole z) (sym (same_cost ends value c held accepted.valid o.stocks)) (shows o.stocks o.is_allocation)))

  no_more : (s : List ℕ) (limit : ℕ) → ((n : ℕ) → 1024 ≤ n → IsAtMost limit (total_at n own (vectors_at c s))) → HasNoMore value c s limit
  no_more s limit h n deep = at_most limit (aim value c s n) (subst (IsAtMost limit) (same_total ends value c held accepted.valid s n) (h n deep))

  -- acceptable claims are true of the case
  pub claims_true : (budget : ℕ) (x : CaseClaims) → AreAcceptable ends c held budget x → AreTrueClaims value c held budget x
  claims_true budget x h =
      true_of (certificate_sound own budget (claims_at ends c held x) (families_enclosed ends value c held accepted encloses)
      (subst (λ z. IsAcceptable z budget (claims_at ends c held x)) (sym (points_are ends value c held)) (over_points ends c held budget x accepted.valid h)))
    where
      true_of : IsSoundCertificate own budget (claims_at ends c held x) → AreTrueClaims value c held budget x
      true_of k = record {
        allocation = h.allocation;
        fits = h.fits;
        no_more = no_more x.stocks x.upper (λ n deep. subst (λ z. IsAtMost x.upper (total_at n own z)) (stocks_are ends c held x.stocks) (k.upper n deep));
        none_less = none_less budget x.bound k.fewer;
      }

  -- a plan is true of the case
  pub plan_true : (budget : ℕ) (p : CasePlan) → IsCasePlan ends c held budget p → IsTruePlan ends value c held budget p
  plan_true budget p h =
      true_of (plan_sound own budget (points_at ends c held p.stocks) p.floors p.numbers (families_enclosed ends value c held accepted encloses)
      (subst (λ z. IsPlan z budget (points_at ends c held p.stocks) p.floors p.numbers) (sym (points_are ends value c held)) h.plan))
    where
      true_of : IsSoundPlan own budget (stocks_of (points_at ends c held p.stocks)) p.numbers → IsTruePlan ends value c held budget p
      true_of k = record {
        allocation = held_of ends value c held accepted.valid p.stocks h.count (subst (IsFamilyAllocation own) (stocks_are ends c held p.stocks) k.allocation);
        cost_is = k.cost ∙ ap (cost_at own) (stocks_are ends c held p.stocks) ∙ same_cost ends value c held accepted.valid p.stocks;
        fits = k.fits;
        none_less = none_less budget p.numbers.bound k.fewer;
        no_price = λ n deep price x shows. at_most (p.numbers.bound + p.numbers.rounding) x (k.price n price x deep (shown budget n price x shows));
        gap = k.gap;
        upper_is = h.plan.upper ∙ hi_same ends c held p.stocks accepted.valid;
        no_more = no_more p.stocks p.numbers.upper (λ n deep. subst (λ z. IsAtMost p.numbers.upper (total_at n own z)) (stocks_are ends c held p.stocks) (k.upper n deep));
        small_gap = k.small_gap;
        certificate = from_points ends c held budget (plan_claims_of p) accepted.valid h.count (plan_acceptable (case_points ends c held) budget (points_at ends c held p.stocks) p.floors p.numbers h.plan);
        no_claims = λ x a. k.certificate (claims_at ends c held x) (subst (λ z. IsAcceptable z budget (claims_at ends c held x)) (sym (points_are ends value c held)) (over_points ends c held budget x accepted.valid a));
      }
