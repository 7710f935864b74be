-- Weighted backorders where nothing is held: the words of the model.
use Rattle.std.proofs.Common.{◌≡◌, ℕ, ◌+◌, ◌*◌, ◌^◌, ◌≤◌, List, [], ◌∷◌, map, sum_by, fold, refl, ◌∙◌, subst, arith}
use Rattle.std.proofs.lemmas.List.Sums.{sum_by-cons}
use Rattle.std.proofs.Math.Nat.{mul-le-mul_left}
use Rattle.fixed_interval.specs.Ends.{Ends, ends_add, ends_exact}
use Rattle.fixed_interval.proofs.Public.{times_encloses}
use Rattle.hull.specs.Scores.{EnclosesValue, LeavesRoom}
use Rattle.spares_input.specs.Cases.{CaseRows}
use Rattle.fleet_model.specs.Rows.{line_units}
use Rattle.fleet_model.specs.Fleet.{cost}
use Rattle.family_items.specs.Profile.{total_of}
use Rattle.family_points.specs.Vectors.{vector_of, zeros}
use Rattle.fleet_model.specs.Aims.{weighted_backorders, cost_beyond}
use Rattle.fleet_plan.specs.Families.{hi_at}
use Rattle.fleet_plan.specs.Plans.{CasePlan, IsCasePlan, CaseClaims, AreAcceptable, IsTruePlan, AreTrueClaims, IsPlainPlan, ArePlainClaims}
use Rattle.fleet_plan.specs.Laws.{IsAcceptedCase}
use Rattle.fleet_model.proofs.Public.{plain_words}
use Rattle.fleet_plan.proofs.Bridge.{plan_true, claims_true}
use Rattle.family_points.specs.Points.{plain_ends}

-- the plain score encloses the weighted backorders, which it stands for
pub plain_encloses : EnclosesValue plain_ends weighted_backorders
plain_encloses systems per_system weight backorders x limits inside n deep = times_encloses 48 backorders weight x inside

-- the plain score leaves room to be summed over the bases
pub plain_room : LeavesRoom plain_ends
plain_room systems per_system weight backorders limits ordered =
    let wide : weight * backorders.hi ≤ weight * 2 ^ 56 = mul-le-mul_left weight limits.room in
    let close : weight * backorders.lo ≤ weight * backorders.hi = mul-le-mul_left weight ordered in
    (omega (arith, close), omega (arith, wide, limits.most_weight))

-- where nothing is held, the words of the model
plain_cost : (c : CaseRows) (s : List ℕ) → cost_beyond c [] s ≡ cost c s
plain_cost c s = (plain_words c s).cost_is

-- the plan of an accepted case with nothing held is true in the model's plain words
pub plain_plan : (c : CaseRows) (budget : ℕ) (p : CasePlan) → IsAcceptedCase c → IsCasePlan plain_ends c [] budget p → IsPlainPlan c budget p
plain_plan c budget p accepted h = plain_of (plan_true plain_ends weighted_backorders c [] accepted plain_encloses budget p h)
  where
    plain_of : IsTruePlan plain_ends weighted_backorders c [] budget p → IsPlainPlan c budget p
    plain_of k =
        let cost_is : p.numbers.cost ≡ cost c p.stocks = k.cost_is ∙ plain_cost c p.stocks in
        record {
          allocation = k.allocation.allocation;
          cost_is = cost_is;
          fits = subst (λ z. z ≤ budget) cost_is k.fits;
          fewer = k.none_less;
          no_price = k.no_price;
          gap = k.gap;
          no_more = k.no_more;
        }

-- so are acceptable claims of it
pub plain_claims : (c : CaseRows) (budget : ℕ) (x : CaseClaims) → IsAcceptedCase c → AreAcceptable plain_ends c [] budget x → ArePlainClaims c budget x
plain_claims c budget x accepted h = plain_of (claims_true plain_ends weighted_backorders c [] accepted plain_encloses budget x h)
  where
    plain_of : AreTrueClaims weighted_backorders c [] budget x → ArePlainClaims c budget x
    plain_of k = record {
      allocation = k.allocation.allocation;
      fits = subst (λ z. z ≤ budget) (plain_cost c x.stocks) k.fits;
      no_more = k.no_more;
      fewer = k.none_less;
    }

-- where nothing is held, a family's vector of that is zeros
pub vector_of_nothing : (c : CaseRows) (l : ℕ) → vector_of c l [] ≡ zeros c l
vector_of_nothing c l = refl

-- ---- the upper end of the sum of totals

folded_hi : (f : ℕ → Ends) (first : Ends) (ls : List ℕ) → (fold ends_add first (map f ls)).hi ≡ first.hi + sum_by (λ l. (f l).hi) ls
folded_hi f first [] = omega arith
folded_hi f first (l ∷ ls) = folded_hi f (ends_add first (f l)) ls ∙ omega (arith, sum_by-cons (λ m. (f m).hi) l ls)

-- the plain scored totals' upper ends come to that of the sum of the families' totals
pub upper_is_total : (c : CaseRows) (s : List ℕ) → (fold ends_add (ends_exact 48 0) (map (total_of 48 c s) (line_units c))).hi ≡ hi_at plain_ends c s
upper_is_total c s = folded_hi (total_of 48 c s) (ends_exact 48 0) (line_units c) ∙ omega arith
