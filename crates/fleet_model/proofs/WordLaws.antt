-- Weighted backorders where nothing is held: the words of a score and of held stocks beside the plain ones.
use Rattle.std.proofs.Common.{◌≡◌, ℕ, ◌+◌, ◌-◌, ◌*◌, ◌≤◌, List, [], refl, sym, ap, ◌∙◌, arith}
use Rattle.list_laws.proofs.Public.{count_each, sum_each, sum_plus}
use Rattle.spares_input.specs.Frames.{part_at}
use Rattle.spares_input.specs.Cases.{CaseRows}
use Rattle.fleet_model.specs.Rows.{all_parts, all_sites, stock}
use Rattle.fleet_model.specs.Fleet.{cost, family_total, case_total, part_cost}
use Rattle.fleet_model.specs.Aims.{weighted_backorders, family_aim, aim, IsHeldAllocation, part_cost_beyond, cost_beyond}
use Rattle.fleet_model.specs.Laws.{ArePlainWords}
use Rattle.fleet_model.proofs.DependLaws.{at_sites, at_parts}

family_plain : (c : CaseRows) (s : List ℕ) (n l : ℕ) → family_aim weighted_backorders c s n l ≡ family_total c s n l
unfolding family_aim family_total
family_plain c s n l = refl

aim_plain : (c : CaseRows) (s : List ℕ) (n : ℕ) → aim weighted_backorders c s n ≡ case_total c s n
unfolding aim family_aim case_total family_total
aim_plain c s n = refl

nothing_less : (n : ℕ) → n - 0 ≡ n
nothing_less n = omega arith

part_cost_plain : (c : CaseRows) (s : List ℕ) (p : ℕ) → part_cost_beyond c [] s p ≡ part_cost c s p
part_cost_plain c s p = sum_each _ _ (all_sites c) (λ k. ap (λ z. z * (part_at c.parts p).cost) (nothing_less (stock c s p k)))

-- where nothing is held, allocations, cost and aim are the plain ones
pub plain_words : (c : CaseRows) (s : List ℕ) → ArePlainWords c s
plain_words c s = record {
  allocation = ((λ a. a.allocation), (λ a. record { allocation = a; keeps = λ p k lp lk. omega arith }));
  cost_is = sum_each _ _ (all_parts c) (part_cost_plain c s);
  family_is = family_plain c s;
  total_is = aim_plain c s;
}

pay_step : (s h m : ℕ) → h ≤ s → (s - h) * m + h * m ≡ s * m
pay_step s h m l =
    let e : (s - h) * m + h * m ≡ (s - h + h) * m = omega arith in
    let f : s - h + h ≡ s = omega arith in
    e ∙ ap (λ z. z * m) f

-- the cost beyond what is held and the cost of that are the cost of the allocation
pub held_costs : (c : CaseRows) (held s : List ℕ) → IsHeldAllocation c held s → cost_beyond c held s + cost c held ≡ cost c s
held_costs c held s a =
    sym (sum_plus (part_cost_beyond c held s) (part_cost c held) (all_parts c))
    ∙ count_each (all_parts c) _ (part_cost c s) (at_parts c _ (λ p lp.
    sym (sum_plus (λ k. (stock c s p k - stock c held p k) * (part_at c.parts p).cost) (λ k. stock c held p k * (part_at c.parts p).cost) (all_sites c))
    ∙ count_each (all_sites c) _ _ (at_sites c _ (λ k lk. pay_step (stock c s p k) (stock c held p k) (part_at c.parts p).cost (a.keeps p k lp lk)))))
