-- The numbers that are read from a case are those of its definition, and they are a family's.
use Rattle.std.proofs.Common.{◌≡◌, ℕ, ◌<◌, ◌≤◌, List, length, get_or, map, flat_map, sym, ap, ap₂, ◌∙◌, subst, arith}
use Rattle.std.proofs.lemmas.List.{get_or-map, length-map}
use Rattle.std.proofs.lemmas.List.Folds.{flat_map-map}
use Rattle.list_laws.proofs.Public.{flat_at, flat_length}
use Rattle.spares_input.specs.Cases.{CaseRows, IsCase}
use Rattle.spares_input.specs.declared.rows.PartId.{PartId}
use Rattle.fleet_model.specs.Rows.{all_sites, weight}
use Rattle.fleet_model.specs.Fleet.{family}
use Rattle.fleet_model.proofs.Public.{limit_most}
use Rattle.demand_rates.specs.RateLists.{RateList}
use Rattle.demand_rates.specs.Rates.{pair_rates, ArePairRates, AreRatesOf}
use Rattle.family_numbers.specs.declared.numbers.PairNumbers.{PairNumbers}
use Rattle.family_items.specs.Inputs.{IsLine}
use Rattle.family_numbers.specs.Numbers.{AreNumbers, ArePairNumbers, FamilyNumbers, numbers_of, no_numbers, pair_numbers}
use Rattle.family_items.proofs.Public.{weight_most, member_in_case, pipeline_from_is, rated, share_most, few_shops}

-- each id of a family is that of a part of the case
pub member_in : (c : CaseRows) (l : ℕ) (xs ys : List PartId) (k : ℕ) (d : PartId) → IsCase c → IsLine c l → ys ≡ xs → map (λ (p : PartId). p.0) xs ≡ family c l
    → k < length ys → (get_or ys k d).0 < length c.parts
member_in c l xs ys k d valid line same e h =
    let all = ap (map (λ (p : PartId). p.0)) same ∙ e in
    let n : k < length (family c l) = omega (arith, h, ap (λ (v : List ℕ). length v) all, length-map ys (λ (p : PartId). p.0)) in
    subst (λ i. i < length c.parts) (ap (λ v. get_or v k 0) (sym all) ∙ get_or-map (λ (p : PartId). p.0) ys k d 0 h) (member_in_case c l k valid line n)

-- a family's ids, sites, weight and what each of its pairs has make the numbers of the family
pub gathered : (f : ℕ) (c : CaseRows) (l : ℕ) (members slice : List PartId) (sites w : ℕ) (own : List (PairNumbers f)) → map (λ (p : PartId). p.0) members ≡ family c l
    → sites ≡ length c.sites → slice ≡ members → own ≡ flat_map (λ (p : PartId). map (pair_numbers f c p.0) (all_sites c)) slice → w ≡ weight c l
    → record { parts = map (λ (p : PartId). p.0) members; sites = sites; pairs = own; weight = w } ≡ numbers_of f c l
gathered f c l members slice sites w own hm hs hl ho hw =
    let row : ℕ → List (PairNumbers f) = λ p. map (pair_numbers f c p) (all_sites c) in
    let pairs : own ≡ flat_map row (family c l) =
    ho ∙ ap (flat_map (λ (p : PartId). row p.0)) hl ∙ sym (flat_map-map row (λ (p : PartId). p.0) members) ∙ ap (flat_map row) hm in
    ap₂ (λ (a : List ℕ) (b : List (PairNumbers f)). record { parts = a; sites = sites; pairs = b; weight = w }) hm pairs
    ∙ ap₂ (λ (n v : ℕ). record { parts = family c l; sites = n; pairs = flat_map row (family c l); weight = v }) hs hw

pair_valid : (f : ℕ) (c : CaseRows) (p k : ℕ) → 24 ≤ f → IsCase c → p < length c.parts → ArePairRates c p k (pair_rates c p k) → ArePairNumbers f (pair_numbers f c p k)
pair_valid f c p k least valid l r =
    let x = pipeline_from_is f p k 0 (pair_rates c p k) least (omega arith) (rated c p k (pair_rates c p k) r) in
    record {
      some = x.some;
      order = x.order;
      direct_most = x.direct_most;
      cap_most = x.cap_most;
      share_most = share_most f (pair_rates c p k) r.share_most r.some_share;
      limit_most = limit_most c p k valid l;
    }

pub numbers_valid : (f : ℕ) (c : CaseRows) (r : RateList) (l : ℕ) → 24 ≤ f → IsCase c → AreRatesOf c r → IsLine c l → AreNumbers f (numbers_of f c l)
numbers_valid f c r l least valid rates line = record {
  some = omega arith;
  few = omega (arith, few_shops c l valid line);
  fewest_sites = valid.frame.fewest_sites;
  most_sites = valid.frame.most_sites;
  complete = flat_length (pair_numbers f c) (length c.sites) (family c l);
  pairs = λ i k h m. (let p = member_in_case c l i valid line h in
      let a = rates.pairs (get_or (family c l) i 0) k p m in
      subst (ArePairNumbers f) (sym (flat_at (pair_numbers f c) (length c.sites) (no_numbers f) (family c l) i k h m))
      (pair_valid f c (get_or (family c l) i 0) k least valid p (subst (ArePairRates c (get_or (family c l) i 0) k) a.units a)));
  weight_most = weight_most c l valid line;
}

-- a family's numbers, whatever stands for them
pub numbers_made : (f : ℕ) (c : CaseRows) (r : RateList) (l : ℕ) (x : FamilyNumbers f) → 24 ≤ f → IsCase c → AreRatesOf c r → IsLine c l → x ≡ numbers_of f c l → AreNumbers f x
numbers_made f c r l x least valid rates line e = subst (AreNumbers f) (sym e) (numbers_valid f c r l least valid rates line)
