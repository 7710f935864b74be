-- The model's figures that items and families enclose, and the sizes of their ends.
use Rattle.std.specs.Prelude.{◌≡◌, ℕ, ◌*◌, ◌^◌, ◌<◌, ◌≤◌, List, length, get_or, None}
use Rattle.exact_model.specs.Fraction.{Encloses}
use Rattle.fixed_interval.specs.Ends.{InScale, IsWithinLimit, ends_exact}
use Rattle.spares_input.specs.Pairs.{pair_place}
use Rattle.spares_input.specs.Cases.{CaseRows, IsCase}
use Rattle.spares_input.specs.Stocks.{AreStocksOf, StockList}
use Rattle.fleet_model.specs.Pairs.{mean, variance, backorders, spread}
use Rattle.fleet_model.specs.Fleet.{family, family_total}
use Rattle.demand_rates.specs.Limits.{rate_fault_of}
use Rattle.family_items.specs.declared.item.Item.{Item}
use Rattle.family_items.specs.declared.item.FamilyResult.{FamilyResult}

-- the arguments of an evaluation: a width, a case whose rates break no rule, and stocks of it within its limits
pub record CanEvaluate (f : ℕ) (c : CaseRows) (s : StockList) : Type 0 where
  pub scale : InScale f
  pub valid : IsCase c
  pub no_fault : rate_fault_of c ≡ None
  pub are_stocks : AreStocksOf c s

-- the item encloses mean, variance, backorders and their variance of part p at site k, at every depth
pub record EnclosesItem (f : ℕ) (c : CaseRows) (s : List ℕ) (p k : ℕ) (x : Item f) : Type 0 where
  pub mean_in : Encloses f x.mean.lo x.mean.hi (mean c s p k)
  pub variance_in : Encloses f x.variance.lo x.variance.hi (variance c s p k)
  pub backorders_in : Encloses f x.backorders.lo x.backorders.hi (backorders c s p k)
  pub spread_in : Encloses f x.spread.lo x.spread.hi (spread c s p k)

-- no end of an item is above 256
pub record IsSmallItem (f : ℕ) (x : Item f) : Type 0 where
  pub mean_most : IsWithinLimit f x.mean
  pub variance_most : IsWithinLimit f x.variance
  pub backorders_most : IsWithinLimit f x.backorders
  pub spread_most : IsWithinLimit f x.spread

-- the value of a look-up past the end
abbrev pub no_item : (f : ℕ) → Item f
no_item f = record {
  part = record { 0 = 0 };
  site = record { 0 = 0 };
  stock = 0;
  mean = ends_exact f 0;
  variance = ends_exact f 0;
  backorders = ends_exact f 0;
  spread = ends_exact f 0;
}

-- the item at place i of the family and site k, if there are `sites` sites
abbrev pub item_at : {f : ℕ} → ℕ → FamilyResult f → ℕ → ℕ → Item f
item_at {f} sites r i k = get_or r.items (pair_place sites i k) (no_item f)

-- each item of the family of the line unit l encloses its pair's, and the total the family's total
pub record EnclosesFamily (f : ℕ) (c : CaseRows) (s : List ℕ) (l : ℕ) (r : FamilyResult f) : Type 0 where
  pub items_in : (i k : ℕ) → i < length (family c l) → k < length c.sites
      → EnclosesItem f c s (get_or (family c l) i 0) k (item_at (length c.sites) r i k)
  pub total_in : Encloses f r.total.lo r.total.hi (λ n. family_total c s n l)

-- the items are at most 256, and the total is at most 256 at each of 15 bases with a weight of 100
pub record IsSmallFamily (f : ℕ) (c : CaseRows) (l : ℕ) (r : FamilyResult f) : Type 0 where
  pub items_most : (i k : ℕ) → i < length (family c l) → k < length c.sites
      → IsSmallItem f (item_at (length c.sites) r i k)
  pub total_most : r.total.hi ≤ 384000 * 2 ^ f
