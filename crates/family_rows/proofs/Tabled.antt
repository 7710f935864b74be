-- What the tables of a family give is what the model's profile gives at the stocks of the case.
use Rattle.std.proofs.Common.{◌≡◌, ℕ, ◌<◌, List, ◌∷◌, length, get_or, drop, sym, ap, ◌∙◌, subst, arith}
use Rattle.list_laws.proofs.Public.{begins_with_first, flat_at, same_length}
use Rattle.fixed_interval.specs.Ends.{Ends}
use Rattle.series_bounds.specs.Answer.{at_place}
use Rattle.spares_input.specs.Stocks.{limit_at}
use Rattle.fleet_model.specs.Fleet.{family}
use Rattle.fleet_model.specs.Laws.{IsBase}
use Rattle.family_items.specs.Profile.{item_of}
use Rattle.family_numbers.specs.declared.base_shops.BaseShops.{BaseShops}
use Rattle.family_numbers.specs.BaseTables.{AreBaseShops, AreShopBounds, HaveShops}
use Rattle.family_numbers.specs.Numbers.{AreBaseBackorders, FamilyNumbers, no_numbers, pair_at, pair_numbers}
use Rattle.family_numbers.proofs.Public.{backorders_alone}
use Rattle.family_points.specs.Separation.{base_stocks, depot_and_base}
use Rattle.family_points.specs.Inputs.{AreShopsAt, FamilyBox, IsFamilyBox, IsAt, shop_high, shop_low}
use Rattle.family_rows.specs.declared.depot.DepotTables.{DepotTables}
use Rattle.family_rows.specs.Tabled.{AreShopStocks, AreTables, box_numbers}
use Rattle.family_points.proofs.Public.{at_limit, at_long, family_stocks_in, at_base, all_below, box_shops, shops_low_long}

-- ---- stocks of shop units

module _ (x : FamilyBox) (valid : IsFamilyBox x) where
  -- stocks of the shop units at a site, as tables take them
  pub shop_stocks : (k : ℕ) (v : List ℕ) (n : FamilyNumbers 48) → n ≡ box_numbers x → k < length x.case.sites → AreShopsAt x k v → AreShopStocks n v
  shop_stocks k v n e m h = subst (λ (n : FamilyNumbers 48). AreShopStocks n v) (sym e) (record {
    count = same_length (shop_low x k) v h.least ∙ shops_low_long x valid k m;
    small = all_below v (shop_high x k) h.most (box_shops x valid k m).small;
  })

  -- the shop units' bounds at the depot, as tables take them
  pub shop_bounds : (n : FamilyNumbers 48) → n ≡ box_numbers x → AreShopBounds n (shop_low x 0) (shop_high x 0)
  shop_bounds n e =
      let some : 0 < length x.case.sites = omega (arith, valid.valid.frame.fewest_sites) in
      subst (λ (n : FamilyNumbers 48). AreShopBounds n (shop_low x 0) (shop_high x 0)) (sym e) (record {
        count = shops_low_long x valid 0 some;
        order = (box_shops x valid 0 some).ordered;
        most = (box_shops x valid 0 some).small;
      })

  -- the tables of the family's box have those of each vector of the shop units' stocks at the depot
  pub have_shops : (n : FamilyNumbers 48) (t : BaseShops 48) (d : List ℕ) → n ≡ box_numbers x → AreBaseShops 48 n (shop_low x 0) (shop_high x 0) t → AreShopsAt x 0 d
      → HaveShops 48 n d t
  have_shops n t d e are h = record {
    low = shop_low x 0;
    high = shop_high x 0;
    bounds = shop_bounds n e;
    are = are;
    least = h.least;
    most = h.most;
  }

  line_limit : (j : ℕ) → j < length x.case.sites → (pair_at (box_numbers x) 0 j).limit ≡ limit_at x.case.parts x.line j
  line_limit j m =
      ap (λ w. w.limit) (flat_at (pair_numbers 48 x.case) (length x.case.sites) (no_numbers 48) (family x.case x.line) 0 j (omega arith) m)

  -- the line unit's stocks at a base are within those of its list of backorders
  pub line_listed : (j : ℕ) (d b : List ℕ) (list : List Ends) → IsBase x.case j → IsAt x j b
      → AreBaseBackorders 48 (box_numbers x) j (get_or d 0 0) (drop 1 d) (drop 1 b) list → get_or b 0 0 < length list
  line_listed j d b list base h is = omega (arith, is.count, line_limit j base.1, at_limit x valid j 0 b base.1 h (omega arith))

  -- the table's backorders at a stock of the line unit are those of the pair at these stocks
  pub tabled : (j s : ℕ) (d b : List ℕ) (list : List Ends) → IsBase x.case j → IsAt x 0 d → IsAt x j (s ∷ b)
      → AreBaseBackorders 48 (box_numbers x) j (get_or d 0 0) (drop 1 d) b list
      → at_place list s ≡ (item_of 48 x.case (base_stocks x d j (s ∷ b)) x.line j).backorders
  tabled j s d b list base h g is =
      let some = valid.valid.frame.fewest_sites in
      let own : ℕ → List ℕ = depot_and_base d j (s ∷ b) in
      let depot_long = at_long x valid 0 d (omega (arith, some)) h in
      is.ends s (omega (arith, line_limit j base.1, at_limit x valid j 0 (s ∷ b) base.1 g (omega arith)))
      ∙ sym (backorders_alone 48 x.case x.line j (base_stocks x d j (s ∷ b)) (get_or d 0 0) (drop 1 d) s b valid.is_line base.0 base.1
      (family_stocks_in x.case x.line own 0 valid.valid valid.is_line (omega (arith, some)) depot_long ∙ sym (begins_with_first d (omega (arith, depot_long))))
      (family_stocks_in x.case x.line own j valid.valid valid.is_line base.1 (ap length (at_base d j (s ∷ b) base.0) ∙ at_long x valid j (s ∷ b) base.1 g)
      ∙ at_base d j (s ∷ b) base.0))

-- the tables of a family at stocks of the depot, by whatever names these go
pub tables_at : (x y : FamilyBox) (d v : List ℕ) (t : DepotTables) → y ≡ x → v ≡ d → AreTables x (drop 1 d) t → AreTables y (drop 1 v) t
tables_at x y d v t e g h =
    subst (λ (y : FamilyBox). AreTables y (drop 1 v) t) (sym e) (subst (λ (v : List ℕ). AreTables x (drop 1 v) t) (sym g) h)
