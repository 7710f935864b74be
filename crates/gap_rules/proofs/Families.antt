-- The families of a certificate, by their numbers.
use Rattle.std.proofs.Common.{◌≡◌, ℕ, zero, suc, ◌+◌, ◌<◌, ◌≤◌, ◌⊎◌, inl, inr, min, true, nat_lt, List, [], ◌∷◌, map, length, get_or, sum_by, Option, Some, None, is_none, refl, sym, ap, ◌∙◌, subst, arith}
use Rattle.std.specs.Prelude.{if◌then◌else◌, unwrap_or, is_some}
use Rattle.std.specs.List.{range_with_len}
use Rattle.std.specs.Option.{option_map}
use Rattle.std.proofs.lemmas.List.Sums.{sum_by-cons}
use Rattle.std.proofs.lemmas.List.{length-map}
use Rattle.list_laws.proofs.Public.{else_none, sum_more}
use Rattle.answers.specs.Counts.{count64}
use Rattle.spares_input.specs.declared.rows.PartId.{PartId}
use Rattle.spares_input.specs.First.{first, first_of, or_else}
use Rattle.spares_input.specs.Cases.{CaseRows}
use Rattle.spares_input.specs.Stocks.{AreStocksOf, StockList, limit_at}
use Rattle.spares_input.proofs.Public.{first_none, first_found, first_more}
use Rattle.fleet_model.specs.Rows.{line_units}
use Rattle.fleet_model.proofs.Public.{stock_holds}
use Rattle.family_items.specs.Inputs.{IsLine}
use Rattle.family_points.specs.declared.bounds.Bounds.{Bounds}
use Rattle.hull.proofs.Public.{among_at}
use Rattle.gap_rules.specs.Boxes.{AtMost, IsOrdered}
use Rattle.family_points.specs.Vectors.{places, vector_of, limits, box_from}
use Rattle.price_certificate.specs.declared.certificate.Node.{Node}
use Rattle.price_certificate.specs.declared.certificate.Certificate.{Certificate}
use Rattle.gap_rules.specs.declared.leaf.Leaf.{Leaf}
use Rattle.check_answers.specs.declared.refusal.Reject.{Reject}
use Rattle.check_answers.specs.declared.refusal.Reject.TheVariants as reject
use Rattle.gap_rules.specs.Covers.{leaves}
use Rattle.gap_rules.specs.Values.{cover_tables, value_of_leaf}
use Rattle.gap_rules.specs.Refusals.{line_at, case_family_count, cover_nodes, cover_of, family_leaves, gap_at, family_tables, tables_of_first, check_work_of, too_low, low_leaf, low_reject_at}
use Rattle.gap_rules.proofs.Boxes.{at_most_self}
use Rattle.gap_rules.proofs.Places.{IsPair, place_pair, line_part, at_most_maps}
use Rattle.gap_rules.proofs.Adding.{part_first}
use Rattle.gap_rules.proofs.Acceptable.{some_leaves}
use Rattle.family_points.specs.Points.{ScoreEnds}
use Rattle.gap_rules.proofs.StockFaults.{then_some}

-- ---- line units

-- the line unit read by its id at place f is that of family f
pub line_read_at : (c : CaseRows) (lines : List PartId) (f : ℕ) → map (λ (p : PartId). p.0) lines ≡ line_units c → (get_or lines f (record { 0 = 0 })).0 ≡ line_at c f
line_read_at c lines f h = part_first lines f ∙ ap (λ xs. get_or xs f 0) h

-- there are as many ids of line units as families
pub count_lines : (c : CaseRows) (lines : List PartId) → map (λ (p : PartId). p.0) lines ≡ line_units c → length lines ≡ case_family_count c
count_lines c lines h = sym (length-map lines (λ (p : PartId). p.0)) ∙ ap length h

-- what is read there is a line unit of the case
pub line_is : (c : CaseRows) (lines : List PartId) (f : ℕ) → map (λ (p : PartId). p.0) lines ≡ line_units c → f < length lines → IsLine c (get_or lines f (record { 0 = 0 })).0
line_is c lines f h b =
    let n = count_lines c lines h in
    let r = line_part c (line_at c f) (among_at (line_units c) f 0 (omega (arith, n, b))) in
    let own : IsLine c (line_at c f) = record { is_part = r.0; no_parent = r.1 } in
    subst (λ l. IsLine c l) (sym (line_read_at c lines f h)) own

-- ---- boxes

-- stocks held within their limits are within those of each family
pub held_limited : (c : CaseRows) (l : ℕ) (held : StockList) → l < length c.parts → AreStocksOf c held → AtMost (vector_of c l held.list) (limits c l)
held_limited c l held b h =
    at_most_maps _ _ (places c l) (λ x m. (let p : IsPair c x = place_pair c l x b m in subst (λ z. z ≤ limit_at c.parts x.part x.site) (sym (stock_holds c held x.part x.site h.is_for)) (h.limits x.part x.site p.part p.site)))

-- the box from what is held to the limits is in order
pub box_ordered : (c : CaseRows) (l : ℕ) (held : StockList) → l < length c.parts → AreStocksOf c held → IsOrdered c l (box_from c l held.list)
box_ordered c l held b h = record {
  held_least = at_most_self (vector_of c l held.list);
  low_least = held_limited c l held b h;
  within = at_most_self (limits c l);
}

-- ---- covers

module _ (cert : Certificate) (held : StockList) (f l : ℕ) (nodes : List Node) (bounds : Bounds) (line : l ≡ line_at cert.case f) (own_nodes : nodes ≡ cover_nodes cert f) (own_box : bounds ≡ box_from cert.case l held.list) where
  pub cover_same : leaves nodes (bounds ∷ []) ≡ cover_of cert held f
  unfolding cover_of
  cover_same =
      ap (λ z. leaves z (bounds ∷ [])) own_nodes
      ∙ ap (λ z. leaves (cover_nodes cert f) (z ∷ [])) own_box
      ∙ ap (λ z. leaves (cover_nodes cert f) (box_from cert.case z held.list ∷ [])) line

  -- where the cover of family f is a tree, so are the nodes that are read
  pub own_tree : is_some (cover_of cert held f) ≡ true → is_some (leaves nodes (bounds ∷ [])) ≡ true
  own_tree h = ap (λ z. is_some z) cover_same ∙ h

  -- where the tables of family f are within the limit, so are those of the leaves that are read
  pub own_work : family_tables cert held f ≤ 1000000 → cover_tables cert.case l (unwrap_or (leaves nodes (bounds ∷ [])) []) ≤ 1000000
  own_work h = subst (λ z. cover_tables cert.case z (unwrap_or (leaves nodes (bounds ∷ [])) []) ≤ 1000000) (sym line)
      (subst (λ z. cover_tables cert.case (line_at cert.case f) (unwrap_or z []) ≤ 1000000) (sym cover_same) h)

  -- the tables counted of the nodes that are read are those of the cover of family f
  pub own_count : option_map (λ ls. count64 (cover_tables cert.case l ls)) (leaves nodes (bounds ∷ [])) ≡ option_map (λ ls. count64 (cover_tables cert.case (line_at cert.case f) ls)) (cover_of cert held f)
  own_count =
      ap (λ z. option_map (λ ls. count64 (cover_tables cert.case l ls)) z) cover_same
      ∙ ap (λ z. option_map (λ ls. count64 (cover_tables cert.case z ls)) (cover_of cert held f)) line

  module _ (score : ScoreEnds) (floor : ℕ) (own_floor : floor ≡ get_or cert.floors f 0) (low : Option (ℕ × ℕ))
      (is : low ≡ low_leaf (value_of_leaf cert.case l score cert.price) floor 0 (unwrap_or (leaves nodes (bounds ∷ [])) [])) where
    -- the reject of the low leaf that was found is that of family f
    pub own_low : option_map (λ x. too_low cert.format f x.0 floor x.1) low ≡ low_reject_at score cert held f
    unfolding low_reject_at
    own_low =
        ap (λ z. option_map (λ x. too_low cert.format f x.0 floor x.1) z)
        (is
        ∙ ap (λ z. low_leaf (value_of_leaf cert.case l score cert.price) floor 0 (unwrap_or z [])) cover_same
        ∙ ap (λ z. low_leaf (value_of_leaf cert.case z score cert.price) floor 0 (family_leaves cert held f)) line)
        ∙ ap (λ z. option_map (λ x. too_low cert.format f x.0 z x.1) (low_leaf (value_of_leaf cert.case (line_at cert.case f) score cert.price) z 0 (family_leaves cert held f))) own_floor

some_is : {A : Type 0} (o : Option A) (x : A) → o ≡ Some x → is_some o ≡ true
some_is o x e = ap (λ z. is_some z) e

-- where no family has a gap, each family's nodes are a tree
pub tree_at : (cert : Certificate) (held : StockList) (f : ℕ) → first (gap_at cert held) (case_family_count cert.case) ≡ None → f < case_family_count cert.case → is_some (cover_of cert held f) ≡ true
tree_at cert held f none b = some_is (cover_of cert held f) _ (some_leaves (cover_of cert held f) (reject.CoverGap f) (first_none (gap_at cert held) (case_family_count cert.case) f none b))

term_most : (g : ℕ → ℕ) (n a j : ℕ) → a ≤ j → j < a + n → g j ≤ sum_by g (range_with_len a n)
term_most g zero a j h k = absurd (omega arith)
term_most g (suc n) a j h k = elim (here a j h) [
  | inl e ↦ (let s = sum_by-cons g a (range_with_len (a + 1) n) in let q = ap g e in omega (arith, s, q))
  | inr m ↦ (let s = sum_by-cons g a (range_with_len (a + 1) n) in let r = term_most g n (a + 1) j m (omega arith) in omega (arith, s, r))
]
  where
    here : (a j : ℕ) → a ≤ j → (a ≡ j) ⊎ (a + 1 ≤ j)
    here a j h = grind arith

uncounted : (n : ℕ) → count64 n ≤ 1000000 → n ≤ 1000000
uncounted n h = omega arith

-- where the work of all families is within the limit, so are the tables of each
pub work_at : (cert : Certificate) (held : StockList) (f : ℕ) → check_work_of cert held ≤ 1000000 → f < case_family_count cert.case → family_tables cert held f ≤ 1000000
work_at cert held f h b =
    let s = uncounted (tables_of_first cert held (case_family_count cert.case)) h in
    let t = term_most (family_tables cert held) (case_family_count cert.case) 0 f (omega arith) (omega (arith, b)) in
    omega (arith, s, t)

-- ---- the count

cap_sum : (a b w t : ℕ) → w ≡ count64 a → t ≡ count64 b → min (w + t) 18446744073709551615 ≡ count64 (a + b)
cap_sum a b w t e f = omega arith

module _ (cert : Certificate) (held : StockList) (f : ℕ) where
  count_by : (o : Option (List Leaf)) (tables : ℕ) → Some tables ≡ option_map (λ ls. count64 (cover_tables cert.case (line_at cert.case f) ls)) o
      → ((if is_none o then Some (reject.CoverGap f) else None) ≡ None) × (tables ≡ count64 (cover_tables cert.case (line_at cert.case f) (unwrap_or o [])))
  count_by None tables h = absurd (cc)
  count_by (Some ls) tables h = (refl, (cc))

  gap_by : (o : Option (List Leaf)) → None ≡ option_map (λ ls. count64 (cover_tables cert.case (line_at cert.case f) ls)) o → (if is_none o then Some (reject.CoverGap f) else None) ≡ Some (reject.CoverGap f)
  gap_by None h = refl
  gap_by (Some ls) h = absurd (cc)

  -- with the tables of family f counted there is no gap so far, and the count is that of one family more
  pub counted_more : (work tables now : ℕ) → first (gap_at cert held) f ≡ None → work ≡ count64 (tables_of_first cert held f)
      → Some tables ≡ option_map (λ ls. count64 (cover_tables cert.case (line_at cert.case f) ls)) (cover_of cert held f) → now ≡ min (work + tables) 18446744073709551615
      → (first (gap_at cert held) (f + 1) ≡ None) × (now ≡ count64 (tables_of_first cert held (f + 1)))
  counted_more work tables now before w t n =
      let r = count_by (cover_of cert held f) tables t in
      let s : tables_of_first cert held (f + 1) ≡ tables_of_first cert held f + family_tables cert held f =
      ap (λ k. sum_by (family_tables cert held) (range_with_len 0 k)) (one f) ∙ sum_more (family_tables cert held) 0 f ∙ ap (λ k. tables_of_first cert held f + family_tables cert held k) (none f) in
      (first_more (gap_at cert held) f before r.0, n ∙ cap_sum (tables_of_first cert held f) (family_tables cert held f) work tables w r.1 ∙ sym (ap count64 s))
    where
      one : (f : ℕ) → f + 1 ≡ suc f
      one f = omega arith

      none : (f : ℕ) → 0 + f ≡ f
      none f = omega arith

  -- where family f has a gap and none before it has one, the first gap of all is that of f
  pub counted_gap_at : (n : ℕ) → first (gap_at cert held) f ≡ None → None ≡ option_map (λ ls. count64 (cover_tables cert.case (line_at cert.case f) ls)) (cover_of cert held f) → f < n
      → first (gap_at cert held) n ≡ Some (reject.CoverGap f)
  counted_gap_at n before h b = first_found (gap_at cert held) f n (reject.CoverGap f) before (gap_by (cover_of cert held f) h) b

-- ---- the rule of covers

-- the first gap of a cover is the answer
pub gap_stops : (gaps work : Option Reject) (x : Reject) → gaps ≡ Some x → first_of (gaps ∷ work ∷ []) ≡ Some x
gap_stops gaps work x h = ap (λ z. or_else z (or_else work None)) h

-- work over its limit is the answer, where no cover has a gap
pub work_stops : (gaps : Option Reject) (n work : ℕ) → gaps ≡ None → n ≡ work → 1000000 < n
    → first_of (gaps ∷ (if nat_lt 1000000 work then Some (reject.WorkTooLarge work) else None) ∷ []) ≡ Some (reject.WorkTooLarge n)
work_stops gaps n work h e l = rw (h, sym e, then_some 1000000 n (reject.WorkTooLarge n) l) refl

-- with neither a gap nor too much work there is no answer yet
pub work_goes_on : (gaps : Option Reject) (n work : ℕ) → gaps ≡ None → n ≡ work → n ≤ 1000000
    → first_of (gaps ∷ (if nat_lt 1000000 work then Some (reject.WorkTooLarge work) else None) ∷ []) ≡ None
work_goes_on gaps n work h e l = rw (h, sym e, else_none 1000000 n (reject.WorkTooLarge n) l) refl
