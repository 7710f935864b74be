-- The scored total of a family: it depends on the family's stocks alone, encloses the aim, and is in range.
use Rattle.std.proofs.Common.{◌≡◌, ℕ, zero, suc, ◌+◌, ◌-◌, ◌*◌, ◌^◌, ◌<◌, ◌≤◌, ◌==◌, ◌⊎◌, not, inl, inr, List, [], ◌∷◌, length, map, get_or, position, Option, Some, None, refl, sym, ap, ◌∙◌, subst, arith, eqb-true, mul-le-mul_right}
use Rattle.std.specs.List.{AllByRecursion, AllZip}
use Rattle.std.specs.Option.{option_map_or}
use Rattle.std.proofs.lemmas.List.Quantifiers.{position-Some}
use Rattle.std.proofs.lemmas.List.Elements.{length_all_zip}
use Rattle.list_laws.proofs.Public.{chosen_most}
use Rattle.exact_model.specs.Fraction.{Encloses, whole}
use Rattle.exact_model.proofs.Public.{contains_same, ◌≈≈◌, none_plus}
use Rattle.fixed_interval.specs.Ends.{Ends, In, ends_exact}
use Rattle.fixed_interval.proofs.Public.{exact_encloses}
use Rattle.depot_pipeline.specs.Profile.{added}
use Rattle.depot_pipeline.proofs.Public.{added_in}
use Rattle.hull.specs.declared.point.Point.{Point}
use Rattle.hull.specs.Curves.{Among, InRange}
use Rattle.hull.specs.Laws.{StocksTell}
use Rattle.hull.specs.Scores.{InLimits, EnclosesValue, LeavesRoom}
use Rattle.hull.proofs.Public.{among_at, among_mapped}
use Rattle.spares_input.specs.Rows.{no_site, no_part}
use Rattle.spares_input.specs.Frames.{part_at}
use Rattle.spares_input.specs.Cases.{CaseRows}
use Rattle.spares_input.specs.Stocks.{limit_at, IsWithinLimits}
use Rattle.fleet_model.specs.Rows.{stock, systems, per_system, weight, line_units}
use Rattle.fleet_model.specs.Pipelines.{ebo_0j}
use Rattle.fleet_model.specs.Fleet.{family}
use Rattle.fleet_model.specs.Laws.{IsBase}
use Rattle.fleet_model.proofs.Public.{sum_range}
use Rattle.family_items.specs.Profile.{item_of}
use Rattle.family_items.specs.Inputs.{IsLine, IsSound}
use Rattle.family_items.proofs.Public.{few_shops, evaluable, line_in, item_small, added_same}
use Rattle.family_points.specs.Vectors.{Pair, places, vector_of, limits, vectors, site_part, stock_in, stocks_with, stock_list, IsBetween}
use Rattle.family_points.proofs.Public.{scored_same, vector_stands}
use Rattle.family_points.specs.Points.{ScoreEnds, scored, scored_total, cost_above, point_at_vector}
use Rattle.fleet_model.specs.Aims.{Value, family_aim}
use Rattle.fleet_model.specs.Laws.{AgreeOnFamily}
use Rattle.price_bounds.proofs.Public.{ends_of}
use Rattle.fleet_plan.specs.Laws.{IsAcceptedCase}
use Rattle.marginal_alloc.specs.Promises.{StocksTellAll}
use Rattle.fleet_plan.specs.Families.{family_points, case_points}
use Rattle.fleet_plan.proofs.Lists.{is_between, zipped_maps}
use Rattle.fleet_plan.proofs.Places.{stock_listed, length_listed, length_vector, length_places, is_place, place_has, in_case}

-- ---- the family's stocks alone

-- parts whose stocks are the same at every site have the same stocks at site k
at_site : (c : CaseRows) (s t : List ℕ) (k : ℕ) → k < length c.sites → (ps : List ℕ) → AllByRecursion (λ p. (j : ℕ) → j < length c.sites → stock c s p j ≡ stock c t p j) ps
    → AllByRecursion (λ p. stock c s p k ≡ stock c t p k) ps
at_site c s t k h [] a = tt
at_site c s t k h (p ∷ ps) a = (a.0 k h, at_site c s t k h ps a.1)

-- stocks that agree on a family give it the same scored total
pub scored_total_same : (c : CaseRows) (ends : ScoreEnds) (s t : List ℕ) (l : ℕ) → IsLine c l → AgreeOnFamily c s t l → scored_total c l ends s ≡ scored_total c l ends t
scored_total_same c ends s t l line h =
    added_same (ends_exact 48 0) (λ j. scored c l ends s (j + 1)) (λ j. scored c l ends t (j + 1)) (length c.sites - 1)
    (λ k b. scored_same c l ends s t (k + 1) line (omega arith) (at_site c s t 0 (omega (arith, b)) (family c l) h) (at_site c s t (k + 1) (omega (arith, b)) (family c l) h))

-- ---- enclosure and range

added_range : (f : ℕ → Ends) (n : ℕ) → ((k : ℕ) → k < n → ((f k).lo ≤ (f k).hi) × ((f k).hi < 2 ^ 70)) → ((added (ends_exact 48 0) f n).lo ≤ (added (ends_exact 48 0) f n).hi) × ((added (ends_exact 48 0) f n).hi ≤ n * 2 ^ 70)
unfolding added
added_range f zero h = (omega arith, omega arith)
added_range f (suc n) h = (let r = added_range f n (λ k l. h k (omega arith)) in let t = h n (omega arith) in (omega (arith, r.0, t.0), omega (arith, r.1, t.1)))

few : (n : ℕ) → n ≤ 15 → n * 2 ^ 70 < 2 ^ 74
few n h = omega (arith, h)

module _ (c : CaseRows) (s : List ℕ) (l : ℕ) (sound : IsSound c s) (line : IsLine c l) where
  limits_at : (j : ℕ) → IsBase c j → InLimits (systems c j) (per_system c l) (weight c l) (item_of 48 c s l j).backorders
  limits_at j base =
      let site = (sound.valid.frame.site_rows j no_site base.1).systems.within (ap not (sound.valid.frame.bases j base.0 base.1)) in
      let part = sound.valid.frame.part_rows l no_part line.is_part in
      let units = part.per_system.within line.no_parent in
      let counts = part.weight.within line.no_parent in
      record {
        some_systems = site.0;
        most_systems = site.1;
        some_per_system = units.0;
        most_per_system = units.1;
        some_weight = counts.0;
        most_weight = counts.1;
        room = (item_small 48 c s (omega arith) sound l j line.is_part base.1).backorders_most;
      }

  in_base : (n j : ℕ) → 1024 ≤ n → IsBase c j → In 48 (item_of 48 c s l j).backorders (ebo_0j c s n l j)
  in_base n j deep base = line_in 48 c s l j (omega arith) sound line base n deep

  -- a family's scored total encloses its aim, where the score's intervals enclose the value
  pub scored_encloses : (ends : ScoreEnds) (value : Value) → EnclosesValue ends value
      → Encloses 48 (scored_total c l ends s).lo (scored_total c l ends s).hi (λ n. family_aim value c s n l)
  unfolding family_aim
  scored_encloses ends value encloses n deep =
      contains_same (none_plus _ ≈≈ sum_range (λ j. value (systems c j) (per_system c l) (weight c l) (ebo_0j c s n l j) n) 1 (length c.sites - 1))
      (added_in 48 (ends_exact 48 0) (λ j. scored c l ends s (j + 1)) (whole 0) (λ j. value (systems c (1 + j)) (per_system c l) (weight c l) (ebo_0j c s n l (1 + j)) n)
      (length c.sites - 1) (exact_encloses 48 0) (λ j h. at j h))
    where
      at : (j : ℕ) → j < length c.sites - 1 → In 48 (scored c l ends s (j + 1)) (value (systems c (1 + j)) (per_system c l) (weight c l) (ebo_0j c s n l (1 + j)) n)
      at j h =
          let base : IsBase c (j + 1) = (omega arith, omega (arith, h)) in
          let on : j + 1 ≡ 1 + j = omega arith in
          subst (λ k. In 48 (scored c l ends s (j + 1)) (value (systems c k) (per_system c l) (weight c l) (ebo_0j c s n l k) n)) on
          (encloses (systems c (j + 1)) (per_system c l) (weight c l) (item_of 48 c s l (j + 1)).backorders (ebo_0j c s n l (j + 1)) (limits_at (j + 1) base) (in_base n (j + 1) deep base) n deep)

  pub scored_range : (ends : ScoreEnds) → LeavesRoom ends → ((scored_total c l ends s).lo ≤ (scored_total c l ends s).hi) × ((scored_total c l ends s).hi < 2 ^ 74)
  scored_range ends room =
      let r = added_range (λ j. scored c l ends s (j + 1)) (length c.sites - 1) (λ j h. at j h) in
      (r.0, (let m = few (length c.sites - 1) (omega (arith, sound.valid.frame.most_sites)) in omega (arith, r.1, m)))
    where
      at : (j : ℕ) → j < length c.sites - 1 → ((scored c l ends s (j + 1)).lo ≤ (scored c l ends s (j + 1)).hi) × ((scored c l ends s (j + 1)).hi < 2 ^ 70)
      at j h =
          let base : IsBase c (j + 1) = (omega arith, omega (arith, h)) in
          room (systems c (j + 1)) (per_system c l) (weight c l) (item_of 48 c s l (j + 1)).backorders (limits_at (j + 1) base)
          (ends_of (item_of 48 c s l (j + 1)).backorders.lo (item_of 48 c s l (j + 1)).backorders.hi (ebo_0j c s 1024 l (j + 1)) (in_base 1024 (j + 1) (omega arith) base))

-- ---- the stocks of a vector

in_or_none : (xs : List ℕ) (p : ℕ) (o : Option ℕ) → position (λ q. q == p) xs ≡ o → Among p xs ⊎ (o ≡ None)
in_or_none xs p None e = inr refl
in_or_none xs p (Some i) e =
    let f = position-Some (λ q. q == p) xs i 0 e in
    inl (subst (λ q. Among q xs) (eqb-true (get_or xs i 0) p f.1) (among_at xs i 0 f.0))

module _ (c : CaseRows) (l : ℕ) where
  -- a vector between what is held and the limits has a number for each place of the family
  pub width_of : (held v : List ℕ) → IsBetween (vector_of c l held) (limits c l) v → length v ≡ length (places c l)
  width_of held v b = sym (length_all_zip _ (vector_of c l held) v b.least) ∙ length_vector c l held

  -- stocks that have such a vector are within the limits on the family
  pub within_family : (s held v : List ℕ) → IsBetween (vector_of c l held) (limits c l) v → vector_of c l s ≡ v → (p k : ℕ) → Among p (family c l) → k < length c.sites
      → (stock c held p k ≤ stock c s p k) × (stock c s p k ≤ limit_at c.parts p k)
  within_family s held v b e p k a h =
      let d = subst (IsBetween (vector_of c l held) (limits c l)) (sym e) b in (
        zipped_maps (λ x y. x ≤ y) (λ (x : Pair). stock c held x.part x.site) (λ (x : Pair). stock c s x.part x.site) (places c l) d.least (record { part = p; site = k }) (is_place c l p k a h),
        zipped_maps (λ x y. x ≤ y) (λ (x : Pair). stock c s x.part x.site) (λ (x : Pair). limit_at c.parts x.part x.site) (places c l) d.most (record { part = p; site = k }) (is_place c l p k a h),
      )

module _ (c : CaseRows) (accepted : IsAcceptedCase c) (l : ℕ) (line : IsLine c l) where
  pub with_limits : (held v : List ℕ) → IsBetween (vector_of c l held) (limits c l) v → IsWithinLimits c (stock_list c (stocks_with c l v))
  with_limits held v b p k lp lk = elim (in_or_none (family c l) p (position (λ q. q == p) (family c l)) refl) [
    | inl a ↦ (within_family c l (stocks_with c l v) held v b (vector_stands c l v accepted.valid line (width_of c l held v b)) p k a lk).1
    | inr e ↦ subst (λ z. z ≤ limit_at c.parts p k)
        (sym (stock_listed c (stock_in c l (site_part c l v)) p k lp lk ∙ ap (λ o. option_map_or (λ i. get_or (site_part c l v k) i 0) o 0) e)) (omega arith)
  ]

  -- with the stocks of such a vector each pair's rates and stock are within their limits
  pub with_sound : (held v : List ℕ) → IsBetween (vector_of c l held) (limits c l) v → IsSound c (stocks_with c l v)
  with_sound held v b =
      evaluable 48 c (stock_list c (stocks_with c l v)) (record {
        scale = (omega arith, omega arith);
        valid = accepted.valid;
        no_fault = accepted.no_fault;
        are_stocks = record {
          is_for = record { sites = refl; pairs = length_listed c (stock_in c l (site_part c l v)) };
          limits = with_limits held v b;
        };
      })

-- ---- the points of a family

most_money : (c : CaseRows) (xs : List Pair) (held v : List ℕ) → ((x : Pair) → Among x xs → ((part_at c.parts x.part).cost ≤ 100000000) × (limit_at c.parts x.part x.site ≤ 63))
    → AllZip (λ x y. x ≤ y) v (map (λ (x : Pair). limit_at c.parts x.part x.site) xs) → cost_above c (map (λ (x : Pair). x.part) xs) held v ≤ length xs * 6300000000
most_money c [] held v h a = omega arith
most_money c (x ∷ xs) [] v h a = omega arith
most_money c (x ∷ xs) (b ∷ held) [] h a = omega arith
most_money c (x ∷ xs) (b ∷ held) (s ∷ v) h a =
    let rest = most_money c xs held v (λ y m. h y (inr m)) a.1 in
    let here = h x (inl refl) in
    let most : (s - b) * (part_at c.parts x.part).cost ≤ 63 * (part_at c.parts x.part).cost = mul-le-mul_right (part_at c.parts x.part).cost (omega (arith, a.0, here.1)) in
    omega (arith, rest, most, here.0)

few_places : (n w : ℕ) → n ≤ 16 → w ≤ 9 → n * w * 6300000000 ≤ 1000000000000
few_places n w h l =
    let a : n * w ≤ 16 * w = mul-le-mul_right w h in
    omega (arith, a, l)

module _ (c : CaseRows) (accepted : IsAcceptedCase c) (l : ℕ) (line : IsLine c l) where
  at_most : (x : Pair) → Among x (places c l) → ((part_at c.parts x.part).cost ≤ 100000000) × (limit_at c.parts x.part x.site ≤ 63)
  at_most x a =
      let p = in_case c accepted.valid l x.part line (place_has c l x a).0 in
      let row = accepted.valid.frame.part_rows x.part no_part p in
      (row.cost.1, chosen_most (x.site == 0) (part_at c.parts x.part).max_depot (part_at c.parts x.part).max_base 63 row.max_depot row.max_base)

  -- each point of a family is in range
  pub point_range : (ends : ScoreEnds) (held : List ℕ) (v : Point) → LeavesRoom ends → Among v (family_points ends c held l) → InRange v
  point_range ends held v room a =
      let m = among_mapped (point_at_vector c l ends (vector_of c l held)) (vectors (vector_of c l held) (limits c l)) v a in
      let b = is_between (vector_of c l held) (limits c l) m.from m.there in
      let r = scored_range c (stocks_with c l m.from) l (with_sound c accepted l line held m.from b) line ends room in
      let cost = most_money c (places c l) (vector_of c l held) m.from at_most b.most in
      let shops = few_shops c l accepted.valid line in
      let few = few_places (length c.sites) (length (family c l)) accepted.valid.frame.most_sites (omega (arith, shops)) in
      subst InRange (sym m.is) (record { cost = omega (arith, cost, few, ap (λ n. n * 6300000000) (length_places c l)); ends = r.0; hi = r.1 })

pub stocks_tell : (ends : ScoreEnds) (c : CaseRows) (held : List ℕ) (l : ℕ) → StocksTell (family_points ends c held l)
stocks_tell ends c held l v w a b e =
    let m = among_mapped (point_at_vector c l ends (vector_of c l held)) (vectors (vector_of c l held) (limits c l)) v a in
    let o = among_mapped (point_at_vector c l ends (vector_of c l held)) (vectors (vector_of c l held) (limits c l)) w b in
    let same : m.from ≡ o.from = sym (ap (λ (z : Point). z.stocks) m.is) ∙ e ∙ ap (λ (z : Point). z.stocks) o.is in
    m.is ∙ ap (point_at_vector c l ends (vector_of c l held)) same ∙ sym o.is

tell_all : (ends : ScoreEnds) (c : CaseRows) (held ls : List ℕ) → StocksTellAll (map (family_points ends c held) ls)
tell_all ends c held [] f h = absurd (omega arith)
tell_all ends c held (l ∷ ls) zero h = stocks_tell ends c held l
tell_all ends c held (l ∷ ls) (suc f) h = tell_all ends c held ls f (omega arith)

-- the points of each family are told apart by their stocks
pub stocks_tell_all : (ends : ScoreEnds) (c : CaseRows) (held : List ℕ) → StocksTellAll (case_points ends c held)
stocks_tell_all ends c held = tell_all ends c held (line_units c)
