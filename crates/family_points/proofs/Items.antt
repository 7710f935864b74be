-- What a line unit has at a base depends on its family's stocks at the depot and at that base alone.
use Rattle.std.proofs.Common.{◌≡◌, ℕ, ◌<◌, List, [], ◌∷◌, map, drop, get_or, sym, ap, ap₂, ◌∙◌}
use Rattle.std.specs.List.{AllByRecursion}
use Rattle.list_laws.proofs.Public.{all_follow, each_both, map_each}
use Rattle.depot_pipeline.specs.declared.Feed.{Feed}
use Rattle.depot_pipeline.specs.Profile.{depot_shop_ends, depot_line_ends}
use Rattle.base_pipeline.specs.declared.Held.{Held}
use Rattle.base_pipeline.specs.Profile.{base_shop_ends, base_line_ends}
use Rattle.spares_input.specs.Cases.{CaseRows}
use Rattle.fleet_model.specs.Rows.{shop_units, stock}
use Rattle.fleet_model.specs.Fleet.{family}
use Rattle.demand_rates.specs.Rates.{pair_rates}
use Rattle.family_items.specs.declared.item.Item.{Item}
use Rattle.family_items.specs.Profile.{pipeline_from, share_of, stocked, feed_of, delay_of, depot_shop, depot_feed, depot_line, base_shop, base_line, item_of}
use Rattle.family_items.specs.Inputs.{IsLine}
use Rattle.family_points.specs.Local.{AgreeAt}
use Rattle.family_items.proofs.Public.{base_line_item}

-- two lists of stocks agree on each part of a family at site k
abbrev pub Agree : CaseRows → ℕ → List ℕ → List ℕ → ℕ → Type 0
Agree c l s t k = AllByRecursion (λ p. stock c s p k ≡ stock c t p k) (family c l)

each_same : (g h : ℕ → ℕ) (xs : List ℕ) → map g xs ≡ map h xs → AllByRecursion (λ p. g p ≡ h p) xs
each_same g h [] e = tt
each_same g h (x ∷ xs) e = (ap (λ v. get_or v 0 0) e, each_same g h xs (ap (drop 1) e))

module _ (f : ℕ) (c : CaseRows) (s t : List ℕ) where
  depot_shop_same : (i : ℕ) → stock c s i 0 ≡ stock c t i 0 → depot_shop f c s i ≡ depot_shop f c t i
  unfolding depot_shop
  depot_shop_same i e =
      ap (λ n. stocked f (pipeline_from f i 0 (pair_rates c i 0) n)
      (depot_shop_ends f (pipeline_from f i 0 (pair_rates c i 0) n).direct (pipeline_from f i 0 (pair_rates c i 0) n).cap)) e

  depot_line_same : (l : ℕ) → Agree c l s t 0 → depot_line f c s l ≡ depot_line f c t l
  unfolding depot_line
  depot_line_same l a =
      ap₂ (λ (n : ℕ) (feeds : List (Feed f)). stocked f (pipeline_from f l 0 (pair_rates c l 0) n)
      (depot_line_ends f (pipeline_from f l 0 (pair_rates c l 0) n).direct (pipeline_from f l 0 (pair_rates c l 0) n).cap feeds)) a.0
      (map_each (depot_feed f c s) (depot_feed f c t) (shop_units c l)
      (all_follow (λ i. stock c s i 0 ≡ stock c t i 0) _ (shop_units c l) (λ i e. ap (feed_of f (share_of f c i 0)) (depot_shop_same i e)) a.1))

  base_shop_same : (i j : ℕ) → stock c s i 0 ≡ stock c t i 0 → stock c s i j ≡ stock c t i j → base_shop f c s i j ≡ base_shop f c t i j
  unfolding base_shop
  base_shop_same i j d e =
      ap₂ (λ (n : ℕ) (y : Item f). stocked f (pipeline_from f i j (pair_rates c i j) n)
      (base_shop_ends f (pipeline_from f i j (pair_rates c i j) n).direct (pipeline_from f i j (pair_rates c i j) n).cap (feed_of f (share_of f c i j) y))) e
      (depot_shop_same i d)

  base_line_same : (l j : ℕ) → Agree c l s t 0 → Agree c l s t j → base_line f c s l j ≡ base_line f c t l j
  unfolding base_line
  base_line_same l j d a =
      ap₂ (λ (n : ℕ) (rest : Item f × List (Held f)). stocked f (pipeline_from f l j (pair_rates c l j) n)
      (base_line_ends f (pipeline_from f l j (pair_rates c l j) n).direct (pipeline_from f l j (pair_rates c l j) n).cap (feed_of f (share_of f c l j) rest.0) rest.1))
      a.0
      (ap₂ (λ (y : Item f) (held : List (Held f)). (y, held)) (depot_line_same l d)
      (map_each (λ i. delay_of f (base_shop f c s i j)) (λ i. delay_of f (base_shop f c t i j)) (shop_units c l)
      (each_both (λ i. stock c s i 0 ≡ stock c t i 0) (λ i. stock c s i j ≡ stock c t i j) _ (shop_units c l)
      (λ i d e. ap (delay_of f) (base_shop_same i j d e)) d.1 a.1)))

-- stocks that agree on each part of a family at the depot and at a base give its line unit the same item there
pub item_agrees : (f : ℕ) (c : CaseRows) (s t : List ℕ) (l j : ℕ) → IsLine c l → 0 < j → Agree c l s t 0 → Agree c l s t j
    → item_of f c s l j ≡ item_of f c t l j
item_agrees f c s t l j line some d a =
    sym (base_line_item f c s l j line some) ∙ base_line_same f c s t l j d a ∙ base_line_item f c t l j line some

-- the item of a line unit at a base depends on the family's stocks at the depot and there alone
pub item_same : (f : ℕ) (c : CaseRows) (s t : List ℕ) (l j : ℕ) → IsLine c l → 0 < j → AgreeAt c l s t 0 → AgreeAt c l s t j
    → item_of f c s l j ≡ item_of f c t l j
item_same f c s t l j line some d a =
    item_agrees f c s t l j line some
    (each_same (λ p. stock c s p 0) (λ p. stock c t p 0) (family c l) d) (each_same (λ p. stock c s p j) (λ p. stock c t p j) (family c l) a)
