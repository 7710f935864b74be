-- A family encloses the model.
use Rattle.std.proofs.Common.{◌≡◌, ℕ, zero, suc, ◌+◌, ◌-◌, ◌*◌, ◌^◌, ◌<◌, ◌≤◌, true, List, [], ◌∷◌, length, get_or, map, refl, sym, ap, ◌∙◌, subst, arith, mul-le-mul_right, zero-lt-suc}
use Rattle.std.specs.List.{AllByRecursion, AllZip}
use Rattle.std.proofs.lemmas.List.{get_or-map, length-map}
use Rattle.std.proofs.lemmas.Simd.{map-map}
use Rattle.list_laws.proofs.Public.{all_follow, flat_at, passed}
use Rattle.exact_model.specs.Fraction.{Encloses, whole, ◌*ℚ◌}
use Rattle.exact_model.proofs.Public.{contains_same, ◌≈≈◌, none_plus}
use Rattle.fixed_interval.specs.Ends.{Ends, In, ends_exact}
use Rattle.fixed_interval.proofs.Public.{exact_encloses, times_encloses}
use Rattle.depot_pipeline.specs.Profile.{added}
use Rattle.depot_pipeline.proofs.Public.{added_in}
use Rattle.spares_input.specs.Rows.{is_line, no_part}
use Rattle.spares_input.specs.Frames.{part_at}
use Rattle.spares_input.specs.Cases.{CaseRows, IsCase}
use Rattle.spares_input.specs.Stocks.{StockList}
use Rattle.spares_input.specs.declared.rows.PartId.{PartId}
use Rattle.fleet_model.specs.Rows.{line_units, weight}
use Rattle.fleet_model.specs.Pipelines.{ebo_0j}
use Rattle.fleet_model.specs.Fleet.{family, family_total}
use Rattle.fleet_model.specs.Laws.{IsBase}
use Rattle.fleet_model.proofs.Public.{sum_range}
use Rattle.demand_rates.specs.Rates.{all_rates}
use Rattle.demand_rates.proofs.Public.{rates_model}
use Rattle.family_items.specs.declared.item.Item.{Item}
use Rattle.family_items.specs.declared.item.FamilyResult.{FamilyResult}
use Rattle.family_items.specs.Profile.{families_of, family_of, item_of, total_of, weighed}
use Rattle.family_items.specs.Encloses.{CanEvaluate, EnclosesFamily, EnclosesItem, IsSmallFamily, IsSmallItem, no_item}
use Rattle.family_items.specs.Inputs.{IsLine, IsSound}
use Rattle.family_items.proofs.Ranges.{sound_of}
use Rattle.family_items.proofs.Units.{all_at, shop_at}
use Rattle.family_items.proofs.Enclosed.{in_0j, item_in, item_small}
use Rattle.family_items.proofs.Items.{base_line_item, weighed_most}

-- what can be evaluated has accepted rates at each pair, and stocks within the limits
pub evaluable : (f : ℕ) (c : CaseRows) (s : StockList) → CanEvaluate f c s → IsSound c s.list
evaluable f c s h =
    sound_of (record { case = c; rates = record { sites = length c.sites; pairs = all_rates c }; stocks = s })
    (record {
      valid = h.valid;
      are_rates = rates_model c _ (length c.sites) (all_rates c) h.valid h.no_fault refl refl refl;
      are_stocks = h.are_stocks;
    })

-- each member of a family is a part of the case
pub member_in_case : (c : CaseRows) (l i : ℕ) → IsCase c → IsLine c l → i < length (family c l) → get_or (family c l) i 0 < length c.parts
member_in_case c l zero valid line h = line.is_part
member_in_case c l (suc i) valid line h = (shop_at c l i valid line (omega arith)).is_part

-- the weight of a line unit
pub weight_most : (c : CaseRows) (l : ℕ) → IsCase c → IsLine c l → weight c l ≤ 100
weight_most c l valid line = ((valid.frame.part_rows l no_part line.is_part).weight.within line.no_parent).1

added_most : (first : Ends) (part : ℕ → Ends) (most n : ℕ) → ((k : ℕ) → k < n → (part k).hi ≤ most) → (added first part n).hi ≤ first.hi + n * most
unfolding added
added_most first part most zero h = omega arith
added_most first part most (suc n) h = omega (arith, added_most first part most n (λ k l. h k (omega arith)), h n (omega arith))

few_bases : (n most : ℕ) → n ≤ 15 → n * most ≤ 15 * most
few_bases n most h = mul-le-mul_right most h

-- the backorders of a line unit at a base
pub line_in : (f : ℕ) (c : CaseRows) (s : List ℕ) (l j : ℕ) → 24 ≤ f → IsSound c s → IsLine c l → IsBase c j
    → Encloses f (item_of f c s l j).backorders.lo (item_of f c s l j).backorders.hi (λ n. ebo_0j c s n l j)
line_in f c s l zero least sound line base n deep = absurd (omega (arith, base.0))
line_in f c s l (suc j) least sound line base n deep =
    subst (λ (x : Item f). In f x.backorders (ebo_0j c s n l (suc j))) (base_line_item f c s l (suc j) line (zero-lt-suc j))
    (in_0j f c s least sound l j n line base.1 deep).backorders

module _ (f : ℕ) (c : CaseRows) (s : StockList) (l : ℕ) (least : 24 ≤ f) (sound : IsSound c s.list) (line : IsLine c l) where
  at : (i k : ℕ) → i < length (family c l) → k < length c.sites
      → get_or (family_of f c l s).items (i * length c.sites + k) (no_item f) ≡ item_of f c s.list (get_or (family c l) i 0) k
  at i k h m = flat_at (item_of f c s.list) (length c.sites) (no_item f) (family c l) i k h m

  base_in : (n j : ℕ) → 1024 ≤ n → j < length c.sites - 1 → In f (weighed f c s.list l j) (whole (weight c l) *ℚ ebo_0j c s.list n l (1 + j))
  base_in n j deep h =
      let on : j + 1 ≡ 1 + j = omega arith in
      times_encloses f (item_of f c s.list l (j + 1)).backorders (weight c l) (ebo_0j c s.list n l (1 + j))
      (subst (λ k. In f (item_of f c s.list l (j + 1)).backorders (ebo_0j c s.list n l k)) on
      (line_in f c s.list l (j + 1) least sound line (omega arith, omega (arith, h)) n deep))

  total_in : (n : ℕ) → 1024 ≤ n → In f (total_of f c s.list l) (family_total c s.list n l)
  unfolding family_total
  total_in n deep =
      contains_same (none_plus _ ≈≈ sum_range (λ j. whole (weight c l) *ℚ ebo_0j c s.list n l j) 1 (length c.sites - 1))
      (added_in f (ends_exact f 0) (weighed f c s.list l) (whole 0) (λ j. whole (weight c l) *ℚ ebo_0j c s.list n l (1 + j)) (length c.sites - 1) (exact_encloses f 0)
      (λ j h. base_in n j deep h))

  -- a family's result encloses the model's numbers of its pairs and of its total
  pub family_in : EnclosesFamily f c s.list l (family_of f c l s)
  family_in = record {
    items_in = λ i k h m. subst (EnclosesItem f c s.list (get_or (family c l) i 0) k) (sym (at i k h m))
        (item_in f c s.list least sound (get_or (family c l) i 0) k (member_in_case c l i sound.valid line h) m);
    total_in = λ n deep. total_in n deep;
  }

  -- a family's result is small
  pub family_small : IsSmallFamily f c l (family_of f c l s)
  family_small = record {
    items_most = λ i k h m. subst (IsSmallItem f) (sym (at i k h m))
        (item_small f c s.list least sound (get_or (family c l) i 0) k (member_in_case c l i sound.valid line h) m);
    total_most =
        let a = added_most (ends_exact f 0) (weighed f c s.list l) (25600 * 2 ^ f) (length c.sites - 1)
        (λ k h. weighed_most (item_of f c s.list l (k + 1)).backorders.hi (weight c l) (2 ^ f)
        (item_small f c s.list least sound l (k + 1) line.is_part (omega (arith, h))).backorders_most (weight_most c l sound.valid line)) in
        omega (arith, a, few_bases (length c.sites - 1) (25600 * 2 ^ f) (omega (arith, sound.valid.frame.most_sites)));
  }

-- ---- all families

line_all : (c : CaseRows) → AllByRecursion (IsLine c) (line_units c)
line_all c =
    all_follow (λ p. (p < length c.parts) × (is_line (part_at c.parts p) ≡ true)) (IsLine c) (line_units c) (λ p h. record { is_part = h.0; no_parent = h.1 })
    (passed (λ p. is_line (part_at c.parts p)) (length c.parts) (length c.parts) 0 (omega arith))

zip_mapped : {X : Type 0} (P : ℕ → Type 0) (R : ℕ → X → Type 0) (g : ℕ → X) (xs : List ℕ) → ((x : ℕ) → P x → R x (g x)) → AllByRecursion P xs → AllZip R xs (map g xs)
zip_mapped P R g [] h a = tt
zip_mapped P R g (x ∷ xs) h a = (h x a.0, zip_mapped P R g xs h a.1)

-- each result encloses the family of its line unit
pub families_in : (f : ℕ) (c : CaseRows) (s : StockList) (results : List (FamilyResult f)) → 24 ≤ f → IsSound c s.list → results ≡ families_of f c s
    → AllZip (EnclosesFamily f c s.list) (line_units c) results
families_in f c s results least sound e =
    subst (AllZip (EnclosesFamily f c s.list) (line_units c)) (sym e)
    (zip_mapped (IsLine c) (EnclosesFamily f c s.list) (λ l. family_of f c l s) (line_units c) (λ l line. family_in f c s l least sound line) (line_all c))

-- no item of the results is above 256, and no total above what 15 bases can weigh
pub families_small : (f : ℕ) (c : CaseRows) (s : StockList) (results : List (FamilyResult f)) → 24 ≤ f → IsSound c s.list → results ≡ families_of f c s
    → AllZip (IsSmallFamily f c) (line_units c) results
families_small f c s results least sound e =
    subst (AllZip (IsSmallFamily f c) (line_units c)) (sym e)
    (zip_mapped (IsLine c) (IsSmallFamily f c) (λ l. family_of f c l s) (line_units c) (λ l line. family_small f c s l least sound line) (line_all c))

-- a list of the line units
module _ (c : CaseRows) (units : List PartId) (all : map (λ (p : PartId). p.0) units ≡ line_units c) where
  -- each has its place in the model's list
  pub line_listed : (k : ℕ) (d : PartId) → k < length units → (get_or units k d).0 ≡ get_or (line_units c) k 0
  line_listed k d h = sym (get_or-map (λ (p : PartId). p.0) units k d 0 h) ∙ ap (λ xs. get_or xs k 0) all

  -- they are as many
  pub lines_count : length units ≡ length (line_units c)
  lines_count = sym (length-map units (λ (p : PartId). p.0)) ∙ ap (λ (xs : List ℕ). length xs) all

  -- each is a line unit
  pub listed_is_line : (k : ℕ) (d : PartId) → k < length units → IsLine c (get_or units k d).0
  listed_is_line k d h =
      let within : k < length (line_units c) = omega (arith, h, lines_count) in
      subst (IsLine c) (sym (line_listed k d h)) (all_at (IsLine c) (line_units c) k (line_all c) within)

  -- what is made of each is made of the model's
  pub each_listed : {X : Type 0} (g : ℕ → X) → map (λ (p : PartId). g p.0) units ≡ map g (line_units c)
  each_listed g = sym (map-map g (λ (p : PartId). p.0) units) ∙ ap (map g) all
