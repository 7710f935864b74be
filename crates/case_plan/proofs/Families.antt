-- The families of a case, one after another.
use Rattle.std.proofs.Common.{◌≡◌, ℕ, zero, suc, ◌+◌, ◌*◌, ◌<◌, ◌≤◌, Bool, true, false, cond, List, [], ◌∷◌, ◌++◌, length, map, filter, get_or, slice_index, refl, sym, ap, ap₂, ◌∙◌, subst, arith}
use Rattle.std.specs.List.{range_with_len, AllZip}
use Rattle.std.proofs.lemmas.List.{map_push, ext_get_or, get_or-map, length-map, length-append, take_more, take_all}
use Rattle.std.proofs.lemmas.Bool.{false≢true}
use Rattle.list_laws.proofs.Public.{kept_more, left_out}
use Rattle.hull.specs.declared.point.Point.{Point}
use Rattle.hull.specs.Curves.{Among}
use Rattle.hull.proofs.Public.{among_at, range_has}
use Rattle.spares_input.specs.Rows.{is_line}
use Rattle.spares_input.specs.Frames.{part_at}
use Rattle.spares_input.specs.Cases.{CaseRows, IsCase}
use Rattle.spares_input.specs.Stocks.{StockList, IsFor, HasPair}
use Rattle.spares_input.specs.declared.rows.PartId.{PartId}
use Rattle.fleet_model.specs.Rows.{stock, line_units}
use Rattle.fleet_model.specs.Fleet.{family}
use Rattle.fleet_model.proofs.Public.{stock_holds}
use Rattle.family_items.specs.Inputs.{IsLine}
use Rattle.family_items.proofs.Public.{pair_in}
use Rattle.family_points.specs.Vectors.{Pair, places, vector_of, site_part}
use Rattle.step_walk.specs.Prefix.{vertex_at, picked}
use Rattle.price_bounds.specs.Soundness.{stocks_of}
use Rattle.fleet_plan.specs.Families.{HasWidth}
use Rattle.fleet_plan.proofs.Public.{map_among, kept, family_apart, in_case, one_family, place_has, vector_by, length_part, length_places}
use Rattle.spares_input.specs.Building.{ids}
use Rattle.case_plan.specs.Placing.{IsPlacedFamily, lines_below, ArePlaced}
use Rattle.case_plan.proofs.Placed.{part_of, id_at}

-- part q is a line unit
abbrev pub is_line_at : CaseRows → ℕ → Bool
is_line_at c q = is_line (part_at c.parts q)

zip_length : {X Y : Type 0} (R : X → Y → Type 0) (xs : List X) (ys : List Y) → AllZip R xs ys → length xs ≡ length ys
zip_length R [] [] a = refl
zip_length R [] (y ∷ ys) a = absurd a
zip_length R (x ∷ xs) [] a = absurd a
zip_length R (x ∷ xs) (y ∷ ys) a = (let e = zip_length R xs ys a.1 in omega (arith, e))

zip_at : {X Y : Type 0} (R : X → Y → Type 0) (xs : List X) (ys : List Y) (i : ℕ) (d : X) (e : Y) → AllZip R xs ys → i < length xs → R (get_or xs i d) (get_or ys i e)
zip_at R [] ys i d e a h = absurd (omega arith)
zip_at R (x ∷ xs) [] i d e a h = absurd a
zip_at R (x ∷ xs) (y ∷ ys) zero d e a h = a.0
zip_at R (x ∷ xs) (y ∷ ys) (suc i) d e a h = zip_at R xs ys i d e a.1 (omega arith)

-- the place of a line unit among them
front_here : (b : Bool) (a p : ℕ) (xs : List ℕ) → b ≡ true → a ≡ p → get_or (cond b (a ∷ xs) xs) 0 0 ≡ p
front_here true a p xs h e = e
front_here false a p xs h e = absurd (false≢true h)

front_step : (b : Bool) (a p : ℕ) (xs ys : List ℕ) → get_or xs (length ys) 0 ≡ p → get_or (cond b (a ∷ xs) xs) (length (cond b (a ∷ ys) ys)) 0 ≡ p
front_step true a p xs ys h = h
front_step false a p xs ys h = h

front : (t : ℕ → Bool) (a n p : ℕ) (m : ℕ) → a + m ≡ p → m < n → t p ≡ true → get_or (filter t (range_with_len a n)) (length (filter t (range_with_len a m))) 0 ≡ p
front t a zero p m e h k = absurd (omega arith)
front t a (suc n) p zero e h k = (let same : a ≡ p = omega (arith, e) in front_here (t a) a p (filter t (range_with_len (a + 1) n)) (ap t same ∙ k) same)
front t a (suc n) p (suc m) e h k = front_step (t a) a p (filter t (range_with_len (a + 1) n)) (filter t (range_with_len (a + 1) m)) (front t (a + 1) n p m (omega (arith, e)) (omega (arith, h)) k)

-- a line unit's place among the line units is the number of those before it
pub line_place : (c : CaseRows) (p : ℕ) → p < length c.parts → is_line_at c p ≡ true → get_or (line_units c) (length (lines_below c p)) 0 ≡ p
line_place c p h k = front (is_line_at c) 0 (length c.parts) p p (omega arith) h k

-- there is one more line unit than below a line unit
fewer_step : (b : Bool) (a : ℕ) (xs ys : List ℕ) → length ys < length xs → length (cond b (a ∷ ys) ys) < length (cond b (a ∷ xs) xs)
fewer_step true a xs ys h = omega (arith, h)
fewer_step false a xs ys h = h

fewer_here : (b : Bool) (a : ℕ) (xs : List ℕ) → b ≡ true → 0 < length (cond b (a ∷ xs) xs)
fewer_here true a xs h = omega arith
fewer_here false a xs h = absurd (false≢true h)

fewer : (t : ℕ → Bool) (a n p m : ℕ) → a + m ≡ p → m < n → t p ≡ true → length (filter t (range_with_len a m)) < length (filter t (range_with_len a n))
fewer t a zero p m e h k = absurd (omega arith)
fewer t a (suc n) p zero e h k = (let same : a ≡ p = omega (arith, e) in fewer_here (t a) a (filter t (range_with_len (a + 1) n)) (ap t same ∙ k))
fewer t a (suc n) p (suc m) e h k = fewer_step (t a) a (filter t (range_with_len (a + 1) n)) (filter t (range_with_len (a + 1) m)) (fewer t (a + 1) n p m (omega (arith, e)) (omega (arith, h)) k)

-- before a line unit stand fewer line units than the case has
pub line_fewer : (c : CaseRows) (p : ℕ) → p < length c.parts → is_line_at c p ≡ true → length (lines_below c p) < length (line_units c)
line_fewer c p h k = fewer (is_line_at c) 0 (length c.parts) p p (omega arith) h k

-- ---- picked vertices

pub picked_stocks : (curves : List (List Point)) (picks : List ℕ) (f : ℕ) → length picks ≡ length curves → f < length curves → get_or (stocks_of (picked curves picks)) f [] ≡ (vertex_at curves f (slice_index picks f)).stocks
picked_stocks [] picks f e h = absurd (omega arith)
picked_stocks (c ∷ cs) [] f e h = absurd (omega (arith, e))
picked_stocks (c ∷ cs) (k ∷ ks) zero e h = refl
picked_stocks (c ∷ cs) (k ∷ ks) (suc f) e h = picked_stocks cs ks f (omega (arith, e)) (omega (arith, h))

-- ---- one family more

module _ (c : CaseRows) (valid : IsCase c) where
  line_of_below : (p l : ℕ) → p ≤ length c.parts → Among l (lines_below c p) → IsLine c l × (l < p)
  line_of_below p l h a =
      let k = kept (is_line_at c) (range_with_len 0 p) l a in
      let r = range_has l 0 p k.0 in
      (record { is_part = omega (arith, r.1, h); no_parent = k.1 }, omega (arith, r.1))

  -- other families keep their vectors
  kept_vector : (s new : StockList) (p l : ℕ) (v : List ℕ) → IsFor c s → IsFor c new → IsLine c p → IsLine c l → l < p → IsPlacedFamily s new (family c p) v (length c.sites) → vector_of c l new.list ≡ vector_of c l s.list
  kept_vector s new p l v is was lp ll below h =
      map_among (λ (x : Pair). stock c new.list x.part x.site) (λ (x : Pair). stock c s.list x.part x.site) (places c l) (λ x a.
      let m = place_has c l x a in
      stock_holds c new x.part x.site was
      ∙ h.others x.part x.site (subst (λ n. x.site < n) (sym is.sites) m.1) (λ b. (let e = one_family c valid l p x.part ll lp m.0 b in omega (arith, e, below)))
      ∙ sym (stock_holds c s x.part x.site is))

  own_vector : (s new : StockList) (p : ℕ) (v : List ℕ) → IsFor c new → IsLine c p → HasWidth c p v → IsPlacedFamily s new (family c p) v (length c.sites) → vector_of c p new.list ≡ v
  own_vector s new p v was lp width h =
      vector_by c p new.list v width (λ k b. ext_get_or 0 (map (λ q. stock c new.list q k) (family c p)) (site_part c p v k)
      (length-map (family c p) (λ q. stock c new.list q k) ∙ sym (length_part c p v k width b)) (λ i l.
      let m : i < length (family c p) = omega (arith, l, length-map (family c p) (λ q. stock c new.list q k)) in
      get_or-map (λ q. stock c new.list q k) (family c p) i 0 0 m
      ∙ stock_holds c new (get_or (family c p) i 0) k was
      ∙ h.own (family_apart c valid p lp) k i b m ∙ sym (part_of v (length (family c p)) k i m)))

  -- with the vector of a line unit's family put to its pairs, one family more is placed
  pub family_placed : (vs : List (List ℕ)) (s new : StockList) (p f : ℕ) (v : List ℕ) → p < length c.parts → is_line_at c p ≡ true → ArePlaced c vs s p f → AllZip (HasWidth c) (line_units c) vs → get_or vs f [] ≡ v
      → IsPlacedFamily s new (family c p) v (length c.sites) → ArePlaced c vs new (p + 1) (f + 1)
  family_placed vs s new p f v h k a widths e g =
      let lp : IsLine c p = record { is_part = h; no_parent = k } in
      let many = zip_length (HasWidth c) (line_units c) vs widths in
      let below : f < length vs = (let n = line_fewer c p h k in let q = a.count in omega (arith, n, q, many)) in
      let was : IsFor c new = record { sites = g.sites ∙ a.is_for.sites; pairs = g.count ∙ a.is_for.pairs } in
      let at : get_or (line_units c) f 0 ≡ p = ap (λ z. get_or (line_units c) z 0) a.count ∙ line_place c p h k in
      let width : HasWidth c p v = subst (λ z. HasWidth c p z) e (subst (λ z. HasWidth c z (get_or vs f [])) at (zip_at (HasWidth c) (line_units c) vs f 0 [] widths (omega (arith, below, many)))) in
      record {
        is_for = was;
        count = (let n = ap length (kept_more (is_line_at c) p k) ∙ length-append (lines_below c p) (p ∷ []) in let q = a.count in omega (arith, n, q));
        vectors =
            ap (map (λ l. vector_of c l new.list)) (kept_more (is_line_at c) p k)
            ∙ map_push (λ l. vector_of c l new.list) (lines_below c p) p
            ∙ ap₂ (λ (xs : List (List ℕ)) (x : List ℕ). xs ++ x ∷ [])
            (map_among _ _ (lines_below c p) (λ l b. let m = line_of_below p l (omega (arith, h)) b in kept_vector s new p l v a.is_for was lp m.0 m.1 g) ∙ a.vectors)
            (own_vector s new p v was lp width g ∙ sym e)
            ∙ sym (take_more vs f [] below);
      }

  -- past a part that is no line unit the same families are placed as before it
  pub none_placed : (vs : List (List ℕ)) (s : StockList) (p f : ℕ) → is_line_at c p ≡ false → ArePlaced c vs s p f → ArePlaced c vs s (p + 1) f
  none_placed vs s p f k a = record {
    is_for = a.is_for;
    count = a.count ∙ ap length (sym (left_out (is_line_at c) p k));
    vectors = ap (map (λ l. vector_of c l s.list)) (left_out (is_line_at c) p k) ∙ a.vectors;
  }

  -- where the families of all parts are placed, the stocks have the vector of each
  pub all_placed : (vs : List (List ℕ)) (s : StockList) (p f : ℕ) → p ≡ length c.parts → AllZip (HasWidth c) (line_units c) vs → ArePlaced c vs s p f → map (λ l. vector_of c l s.list) (line_units c) ≡ vs
  all_placed vs s p f e widths a =
      let b = subst (λ z. ArePlaced c vs s z f) e a in
      b.vectors ∙ take_all f vs (let many = zip_length (HasWidth c) (line_units c) vs widths in let n = b.count in omega (arith, n, many))

-- ---- where the loop stands

length_picked : (curves : List (List Point)) (picks : List ℕ) → length picks ≡ length curves → length (stocks_of (picked curves picks)) ≡ length curves
length_picked [] picks e = refl
length_picked (c ∷ cs) [] e = absurd (omega (arith, e))
length_picked (c ∷ cs) (k ∷ ks) e = (let n = length_picked cs ks (omega (arith, e)) in omega (arith, n))

pub record IsHere (c : CaseRows) (curves : List (List Point)) (picks : List ℕ) (p f : ℕ) : Type 0 where
  pub curve : f < length curves
  pub width : length (vertex_at curves f (slice_index picks f)).stocks ≡ length c.sites * length (family c p)
  pub vector : get_or (stocks_of (picked curves picks)) f [] ≡ (vertex_at curves f (slice_index picks f)).stocks
  pub few : f < length c.parts

-- the line unit at part p is the next family, and its curve's pick has a stock for each of its places
pub here : (c : CaseRows) (valid : IsCase c) (curves : List (List Point)) (picks : List ℕ) (s : StockList) (p f : ℕ) → p < length c.parts → is_line_at c p ≡ true → length picks ≡ length curves
    → AllZip (HasWidth c) (line_units c) (stocks_of (picked curves picks)) → ArePlaced c (stocks_of (picked curves picks)) s p f → IsHere c curves picks p f
here c valid curves picks s p f h k e widths a =
    let many = zip_length (HasWidth c) (line_units c) (stocks_of (picked curves picks)) widths in
    let n = line_fewer c p h k in
    let q = a.count in
    let below : f < length (line_units c) = omega (arith, n, q) in
    let within : f < length curves = omega (arith, below, many, length_picked curves picks e) in
    let same = picked_stocks curves picks f e within in
    let at : get_or (line_units c) f 0 ≡ p = ap (λ z. get_or (line_units c) z 0) q ∙ line_place c p h k in
    record {
      curve = within;
      width = subst (λ z. length z ≡ length c.sites * length (family c p)) same
          (subst (λ z. HasWidth c z (get_or (stocks_of (picked curves picks)) f [])) at (zip_at (HasWidth c) (line_units c) (stocks_of (picked curves picks)) f 0 [] widths below) ∙ length_places c p);
      vector = same;
      few = (let m = below_most (is_line_at c) 0 p in omega (arith, m, q, h));
    }
  where
    below_step : (b : Bool) (x : ℕ) (ys : List ℕ) (m : ℕ) → length ys ≤ m → length (cond b (x ∷ ys) ys) ≤ suc m
    below_step true x ys m h = omega (arith, h)
    below_step false x ys m h = omega (arith, h)

    below_most : (t : ℕ → Bool) (a m : ℕ) → length (filter t (range_with_len a m)) ≤ m
    below_most t a zero = omega arith
    below_most t a (suc m) = below_step (t a) a (filter t (range_with_len (a + 1) m)) m (below_most t (a + 1) m)

-- each of a family's units has its pairs
pub unit_pair : (c : CaseRows) (s : StockList) (units : List PartId) (p i k : ℕ) (d : PartId) → IsCase c → IsFor c s → p < length c.parts → is_line_at c p ≡ true → ids units ≡ family c p → i < length units → k < length c.sites
    → HasPair s (get_or units i d).0 k
unit_pair c s units p i k d valid is h t e l lk =
    let n = length-map units (λ (q : PartId). q.0) in
    let m : i < length (ids units) = omega (arith, l, n) in
    let a : Among (get_or (ids units) i 0) (family c p) = subst (λ z. Among (get_or (ids units) i 0) z) e (among_at (ids units) i 0 m) in
    pair_in c s (get_or units i d).0 k is (subst (λ z. z < length c.parts) (id_at units i d l) (in_case c valid p (get_or (ids units) i 0) (record { is_part = h; no_parent = t }) a)) lk
