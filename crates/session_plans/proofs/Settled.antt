-- What is forgotten where stocks have changed leaves what is kept at the new stocks.
use Rattle.std.proofs.Common.{◌≡◌, ℕ, ◌+◌, ◌<◌, inl, inr, List, length, map, get_or, set, Option, Some, None, is_some, IfSome, IsSome, unwrap_or, refl, sym, ap, ◌∙◌, subst, arith, length-set}
use Rattle.std.proofs.lemmas.Bool.{false≢true}
use Rattle.std.proofs.lemmas.List.{ext_get_or, get_or-map, length-map}
use Rattle.list_laws.proofs.Public.{all_follow, below_or}
use Rattle.spares_input.specs.Cases.{CaseRows, IsCase}
use Rattle.spares_input.specs.Stocks.{StockList, stock_at, IsFor}
use Rattle.fleet_model.specs.Rows.{line_units, shop_units, stock}
use Rattle.fleet_model.specs.Laws.{AgreeOnFamily}
use Rattle.fleet_model.proofs.Public.{stock_holds}
use Rattle.family_items.specs.declared.item.FamilyResult.{FamilyResult}
use Rattle.family_items.specs.Inputs.{IsShop}
use Rattle.family_items.specs.Profile.{families_of, family_of}
use Rattle.family_items.proofs.Public.{shops_all}
use Rattle.family_points.specs.Local.{home_of}
use Rattle.case_plan.specs.Placing.{lines_below}
use Rattle.session_plans.specs.Sessions.{family_place, AreOfFamilies, IsEvaluation}
use Rattle.session_plans.specs.Settling.{AreSettled}
use Rattle.session_plans.proofs.Evaluations.{stocks_alone}
use Rattle.session_plans.proofs.Families.{line_at, place_of_line}
use Rattle.session_plans.proofs.Places.{if_some, kept_within, of_some, some_of, still_kept}
use Rattle.family_points.proofs.Public.{line_owner}

-- ---- part after part

module _ {X : Type 0} (c : CaseRows) (old new : StockList) (before kept : List (Option X)) (n : ℕ) (h : AreSettled c old new before kept n) where
  -- part n is stocked alike
  pub same_part : ((k : ℕ) → k < length c.sites → stock_at old n k ≡ stock_at new n k) → AreSettled c old new before kept (n + 1)
  same_part alike = record {
    count = h.count;
    stay = h.stay;
    same = λ p b on. (elim (below_or p n b) [
      | inl l ↦ h.same p l on
      | inr e ↦ subst (λ q. (k : ℕ) → k < length c.sites → stock_at old q k ≡ stock_at new q k) (sym e) alike
    ]);
  }

  -- and the value of part n's family is forgotten
  pub part_off : (place : ℕ) → place ≡ family_place c n → place < length kept → AreSettled c old new before (set kept place None) (n + 1)
  part_off place e within = record {
    count = length-set kept place None ∙ h.count;
    stay = λ k on. (let was = still_kept kept place k within on in was.1 ∙ h.stay k (sym (ap is_some was.1) ∙ on));
    same = λ p b on.
        let was = still_kept kept place (family_place c p) within on in
        (elim (below_or p n b) [
          | inl l ↦ h.same p l (sym (ap is_some was.1) ∙ on)
          | inr q ↦ absurd (was.0 (ap (family_place c) q ∙ sym e))
        ]);
  }

-- before the first part nothing was forgotten
pub unsettled : {X : Type 0} (c : CaseRows) (old new : StockList) (kept : List (Option X)) → AreSettled c old new kept kept 0
unsettled c old new kept = record { count = refl; stay = λ k on. refl; same = λ p b. absurd (omega (arith, b)) }

-- ---- a family after all parts

module _ {X : Type 0} (c : CaseRows) (valid : IsCase c) (old new : StockList) (was : IsFor c old) (is : IsFor c new) (before kept : List (Option X))
    (h : AreSettled c old new before kept (length c.parts)) where
  alike : (p l place : ℕ) → p < length c.parts → home_of c p ≡ l → length (lines_below c l) ≡ place → IsSome (get_or kept place None)
      → (k : ℕ) → k < length c.sites → stock c old.list p k ≡ stock c new.list p k
  alike p l place b home at on k bk =
      let there : family_place c p ≡ place = ap (λ q. length (lines_below c q)) home ∙ at in
      stock_holds c old p k was ∙ h.same p b (ap (λ i. is_some (get_or kept i None)) there ∙ on) k bk ∙ sym (stock_holds c new p k is)

  pub agree : (place : ℕ) → place < length (line_units c) → IsSome (get_or kept place None) → AgreeOnFamily c old.list new.list (get_or (line_units c) place 0)
  agree place b on =
      let l = get_or (line_units c) place 0 in
      let line = line_at c valid place b in
      let at = place_of_line c valid place b in (
        alike l l place line.is_part (ap (λ o. unwrap_or o l) (line_owner c l line)) at on,
        all_follow (IsShop c l) _ (shop_units c l) (λ i (x : IsShop c l i). alike i l place x.is_part (ap (λ o. unwrap_or o i) x.line_is) at on) (shops_all c l valid line),
      )

-- what is kept at the old stocks is kept at the new ones
pub kept_at : (c : CaseRows) → IsCase c → (old new : StockList) → IsFor c old → IsFor c new → (before kept : List (Option (FamilyResult 48)))
    → AreSettled c old new before kept (length c.parts) → AreOfFamilies (IsEvaluation c old) c before → AreOfFamilies (IsEvaluation c new) c kept
kept_at c valid old new was is before kept h all = record {
  count = h.count ∙ all.count;
  each = λ k.
      let l = get_or (line_units c) k 0 in
      if_some (get_or kept k None) (IsEvaluation c new l) (λ v e.
      let on = some_of (get_or kept k None) v e in
      let within : k < length (line_units c) = omega (arith, kept_within kept k on, h.count, all.count) in
      of_some (get_or before k None) (IsEvaluation c old l) v (sym (h.stay k on) ∙ e) (all.each k)
      ∙ stocks_alone 48 c l old new valid (line_at c valid k within) (agree c valid old new was is before kept h k within on));
}

-- where each is kept, all families are evaluated
pub all_evaluated : (c : CaseRows) (s : StockList) (kept : List (Option (FamilyResult 48))) → AreOfFamilies (IsEvaluation c s) c kept
    → ((k : ℕ) → k < length (line_units c) → IsSome (get_or kept k None)) → kept ≡ map Some (families_of 48 c s)
all_evaluated c s kept h on =
    let all = families_of 48 c s in
    let some = (λ (v : FamilyResult 48). Some v) in
    let long : length all ≡ length (line_units c) = length-map (line_units c) (λ l. family_of 48 c l s) in
    ext_get_or None kept (map Some all) (h.count ∙ sym long ∙ sym (length-map all some)) (λ k b.
    let within : k < length (line_units c) = omega (arith, b, h.count) in
    let l = get_or (line_units c) k 0 in
    let here : get_or (map Some all) k None ≡ Some (family_of 48 c l s) =
    get_or-map some all k (family_of 48 c l s) None (omega (arith, within, long)) ∙ ap some (get_or-map (λ i. family_of 48 c i s) (line_units c) k 0 (family_of 48 c l s) within) in
    kept_is (get_or kept k None) (family_of 48 c l s) (on k within) (h.each k) ∙ sym here)
  where
    kept_is : (o : Option (FamilyResult 48)) (family : FamilyResult 48) → IsSome o → IfSome o (λ v. v ≡ family) → o ≡ Some family
    kept_is None family some h = absurd (false≢true some)
    kept_is (Some v) family some h = ap (λ (z : FamilyResult 48). Some z) h
