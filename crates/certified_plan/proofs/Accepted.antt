-- No rule of the checker refuses the certificate of a plan.
use Rattle.std.proofs.Common.{◌≡◌, ◌==◌, ℕ, zero, suc, ◌+◌, ◌*◌, ◌/◌, ◌%◌, ◌<◌, ◌≤◌, Bool, true, false, List, [], ◌∷◌, length, map, get_or, sum_by, Some, None, is_none, Ok, Err, refl, sym, ap, ◌∙◌, subst, arith}
use Rattle.std.specs.Prelude.{nat_le, if◌then◌else◌, unwrap_or}
use Rattle.std.specs.Result.{IsOk}
use Rattle.std.proofs.lemmas.Bool.{leb-true, false≢true}
use Rattle.std.specs.List.{range_with_len}
use Rattle.std.specs.Option.{option_map}
use Rattle.std.proofs.lemmas.Nat.{div-add-mod'}
use Rattle.std.proofs.lemmas.List.Sums.{sum_by-cons}
use Rattle.std.proofs.Math.Nat.{mod-lt, div-lt_iff_lt-mul}
use Rattle.list_laws.proofs.Public.{else_none}
use Rattle.answers.specs.Counts.{count64}
use Rattle.hull.specs.declared.point.Point.{Point}
use Rattle.hull.specs.declared.price.Price.{Price}
use Rattle.hull.specs.Curves.{lagrangian, Among}
use Rattle.spares_input.specs.First.{first}
use Rattle.spares_input.specs.Cases.{CaseRows, frame_rows, pair_count}
use Rattle.spares_input.specs.Stocks.{StockList, limit_at}
use Rattle.spares_input.proofs.Public.{no_first}
use Rattle.fleet_model.specs.Rows.{line_units, stock}
use Rattle.price_bounds.specs.Certificates.{AreFloors}
use Rattle.family_items.specs.Inputs.{IsLine}
use Rattle.family_points.specs.Vectors.{places, vector_of, limits, stock_list, box_from}
use Rattle.family_points.specs.Points.{ScoreEnds, points_within}
use Rattle.family_points.specs.Counts.{most_tables, tables_between}
use Rattle.fleet_plan.specs.Families.{family_points}
use Rattle.fleet_plan.specs.Plans.{CasePlan, IsTruePlan}
use Rattle.case_plan.specs.declared.outcome.Outcome.{Outcome}
use Rattle.fleet_plan.proofs.Public.{plan_true, families_beyond, length_vector}
use Rattle.price_certificate.specs.declared.place.Place.{Place}
use Rattle.price_certificate.specs.declared.certificate.Certificate.{Certificate}
use Rattle.price_certificate.specs.declared.certificate.Node.{Node}
use Rattle.price_certificate.specs.declared.certificate.Node.TheVariants as node
use Rattle.price_certificate.specs.Covers as cover
use Rattle.price_certificate.specs.Covers.{Tree, corner_of_held, most_at, IsTrim, places_of, trimmed}
use Rattle.check_answers.specs.declared.refusal.Reject.TheVariants as reject
use Rattle.gap_rules.specs.Covers.{leaves}
use Rattle.gap_rules.specs.Trees.{leaves_of}
use Rattle.gap_rules.specs.Values.{value_of_leaf, cover_tables}
use Rattle.gap_rules.specs.Refusals.{case_family_count, cover_of, family_leaves, gap_at, family_tables, check_work_of, over_limit, too_low, below_held, case_cost_above, leaf_value, low_reject_at, reject_of}
use Rattle.gap_rules.proofs.Public.{added_is, none_broken, trees_are_read}
use Rattle.price_certificate.specs.declared.certificate.Terms.{Terms}
use Rattle.gap_rules.specs.Scores as scores
use Rattle.gap_rules.specs.Scores.{ends_of}
use Rattle.certified_plan.specs.Certificates.{covers_of, certificate_of}
use Rattle.held_work.specs.Work.{tables_from}
use Rattle.certified_plan.specs.Inputs.{IsPlanOn, IsWithinWork}
use Rattle.certified_plan.proofs.Corners.{Boxed, lawful_box}
use Rattle.certified_plan.proofs.Families.{count_is, held_lists, most_lists}
use Rattle.certified_plan.proofs.Formed.{line_is, held_line, cover_is, made, trims}
use Rattle.certified_plan.proofs.Leaves.{Leaf, none_low, leaf_floor, tables_most}
use Rattle.certified_plan.proofs.Scores.{scores_enclose}
use Rattle.certified_plan.proofs.Trees.{HasOneWhole, trimmed_whole}

-- ---- general

floor_at : (price : Price) (points : ℕ → List Point) (ls floors : List ℕ) (f : ℕ) (w : Point) → AreFloors price (map points ls) floors → f < length ls → Among w (points (get_or ls f 0))
    → get_or floors f 0 ≤ lagrangian price.p price.q w
floor_at price points [] floors f w h b m = absurd (omega arith)
floor_at price points (l ∷ ls) [] f w h b m = absurd h
floor_at price points (l ∷ ls) (x ∷ floors) zero w h b m = h.0 w m
floor_at price points (l ∷ ls) (x ∷ floors) (suc f) w h b m = floor_at price points ls floors f w h.1 (omega arith) m

sum_most : (f : ℕ → ℕ) (g : ℕ → ℕ) (ls : List ℕ) (a : ℕ) → ((k : ℕ) → k < length ls → f (a + k) ≤ g (get_or ls k 0)) → sum_by f (range_with_len a (length ls)) ≤ sum_by g ls
sum_most f g [] a h = omega arith
sum_most f g (l ∷ ls) a h =
    let here : f a ≤ g l = subst (λ k. f k ≤ g l) (none a) (h 0 (omega arith)) in
    let rest = sum_most f g ls (a + 1) (λ k b. subst (λ j. f j ≤ g (get_or ls k 0)) (on a k) (h (suc k) (omega (arith, b)))) in
    omega (arith, here, rest, sum_by-cons f a (range_with_len (a + 1) (length ls)), sum_by-cons g l ls)
  where
    none : (a : ℕ) → a + 0 ≡ a
    none a = omega arith

    on : (a k : ℕ) → a + suc k ≡ a + 1 + k
    on a k = omega arith

-- ---- the limit of the work

few_step : (b : Bool) (n : ℕ) → nat_le n most_tables ≡ b → IsOk (if b then Ok n else Err n) → n ≤ most_tables
few_step true n e h = leb-true n most_tables e
few_step false n e h = absurd (false≢true h)

uncounted : (n : ℕ) → count64 n ≤ most_tables → n ≤ most_tables
uncounted n h = omega arith

within_work : (c : CaseRows) (held : List ℕ) → IsWithinWork c held → tables_from c held ≤ most_tables
within_work c held h = uncounted (tables_from c held) (few_step (nat_le (count64 (tables_from c held)) most_tables) (count64 (tables_from c held)) refl h)

-- ---- the tree of a family's nodes, in both formats

abbrev tree_by : Bool → ℕ → ℕ → List Place → Tree
tree_by true p floor ps = trimmed p floor ps
tree_by false p floor ps = cover.Whole

trim_by : (b : Bool) (p floor : ℕ) (ps : List Place) → IsTrim p floor ps (trimmed p floor ps) → IsTrim p floor ps (tree_by b p floor ps)
trim_by true p floor ps h = h
trim_by false p floor ps h = record { lawful = tt; cost = tt; whole = λ i. (refl, omega arith) }

whole_by : (b : Bool) (p floor : ℕ) (ps : List Place) → HasOneWhole (tree_by b p floor ps)
whole_by true p floor ps = trimmed_whole p floor ps
whole_by false p floor ps = tt

nodes_by : (b : Bool) (covers : List (List Node)) (f p floor : ℕ) (ps : List Place) → get_or covers f [] ≡ cover.nodes_of (trimmed p floor ps)
    → (if b then get_or (if b then covers else []) f [] else node.Whole ∷ []) ≡ cover.nodes_of (tree_by b p floor ps)
nodes_by true covers f p floor ps h = h
nodes_by false covers f p floor ps h = refl

module _ (c : CaseRows) (held : StockList) (terms : Terms) (o : Outcome) (on : IsPlanOn c held terms o) where
  abbrev p : CasePlan
  p = on.plan

  abbrev score : ScoreEnds
  score = ends_of terms.objective

  abbrev cert : Certificate
  cert = certificate_of c held terms (made c held terms o on)

  true_plan : IsTruePlan (ends_of terms.objective) (scores.value_of terms.objective) c held.list terms.budget p
  true_plan = plan_true (ends_of terms.objective) (scores.value_of terms.objective) c held.list on.accepted (scores_enclose terms.objective) terms.budget p on.is_plan

  -- ---- families

  module _ (f : ℕ) (b : f < length (line_units c)) where
    abbrev l : ℕ
    l = get_or (line_units c) f 0

    abbrev vector : List ℕ
    vector = vector_of c l held.list

    abbrev ps : List Place
    ps = places_of c l vector

    abbrev floor : ℕ
    floor = get_or p.floors f 0

    abbrev tree : Tree
    tree = tree_by (terms.format == 2) p.numbers.price.p floor ps

    line : IsLine c (get_or (line_units c) f 0)
    line = line_is c f on.accepted.valid b

    wide : length (vector_of c (get_or (line_units c) f 0) held.list) ≡ length (places c (get_or (line_units c) f 0))
    wide = length_vector c (get_or (line_units c) f 0) held.list

    trim : IsTrim p.numbers.price.p floor ps tree
    trim = trim_by (terms.format == 2) p.numbers.price.p floor ps (trims c l vector on.accepted.valid line (held_line c held l line on.is_held) p.numbers.price.p floor)

    boxed : Boxed (length (places c l)) (corner_of_held ps) (most_at ps) (box_from c l held.list)
    boxed = record { low_is = held_lists c l vector wide; high_is = most_lists c l vector; order = held_line c held l line on.is_held }

    lawful : cover.IsLawful (length (places c l)) tree (corner_of_held ps) (most_at ps)
    lawful = subst (λ n. cover.IsLawful n tree (corner_of_held ps) (most_at ps)) (count_is c l vector) trim.lawful

    cover_some : cover_of cert held f ≡ Some (leaves_of tree (box_from c l held.list))
    unfolding cover_of
    cover_some =
        ap (λ z. leaves z (box_from c l held.list ∷ []))
        (nodes_by (terms.format == 2) (covers_of c held.list p.numbers.price.p p.floors) f p.numbers.price.p floor ps (cover_is c held.list p.numbers.price.p p.floors f b))
        ∙ trees_are_read tree (box_from c l held.list) (lawful_box (length (places c l)) tree (corner_of_held ps) (most_at ps) (box_from c l held.list) boxed lawful)

    leaves_are : family_leaves cert held f ≡ leaves_of tree (box_from c l held.list)
    leaves_are = ap (λ z. unwrap_or z []) cover_some

    no_gap : gap_at cert held f ≡ None
    no_gap = ap (λ z. if is_none z then Some (reject.CoverGap f) else None) cover_some

    few_tables : family_tables cert held f ≤ tables_between c (get_or (line_units c) f 0) (vector_of c (get_or (line_units c) f 0) held.list) (limits c (get_or (line_units c) f 0))
    few_tables = subst (λ z. cover_tables c l z ≤ tables_between c l vector (limits c l)) (sym leaves_are)
        (tables_most c l (length (places c l)) tree (corner_of_held ps) (most_at ps) (box_from c l held.list) (whole_by (terms.format == 2) p.numbers.price.p floor ps) boxed lawful)

    own_floor : (w : Point) → Among w (points_within c l score vector vector (limits c l)) → floor ≤ lagrangian p.numbers.price.p p.numbers.price.q w
    own_floor w m = floor_at p.numbers.price (family_points score c held.list) (line_units c) p.floors f w true_plan.certificate.floors_are b m

    leaves_high : (x : Leaf) → Among x (leaves_of tree (box_from c l held.list)) → floor ≤ value_of_leaf c l score p.numbers.price x
    leaves_high = leaf_floor score c l p.numbers.price floor vector wide own_floor (most_lists c l vector) tree (corner_of_held ps) (most_at ps) (box_from c l held.list) boxed refl lawful trim.cost trim.whole

    no_low : low_reject_at score cert held f ≡ None
    unfolding low_reject_at
    no_low = ap (λ z. option_map (λ low. too_low terms.format f low.0 floor low.1) z) (none_low (leaf_value score cert f) floor (family_leaves cert held f) (λ x m. leaves_high x (subst (λ z. Among x z) leaves_are m)))

  -- ---- work

  from_zero : (k : ℕ) → k ≡ 0 + k
  from_zero k = omega arith

  work_few : tables_from c held.list ≤ most_tables → check_work_of cert held ≤ 1000000
  work_few few =
      let s = sum_most (family_tables cert held) (λ l. tables_between c l (vector_of c l held.list) (limits c l)) (line_units c) 0
      (λ k b. subst (λ j. family_tables cert held j ≤ tables_between c (get_or (line_units c) k 0) (vector_of c (get_or (line_units c) k 0) held.list) (limits c (get_or (line_units c) k 0))) (from_zero k) (few_tables k b)) in
      omega (arith, few, s)

  -- ---- stocks

  some_site : (i m n : ℕ) → i < m * n → 0 < n
  some_site i m zero h = absurd (omega arith)
  some_site i m (suc n) h = omega arith

  module _ (i : ℕ) (b : i < pair_count (frame_rows c)) where
    abbrev part : ℕ
    part = i / length c.sites

    abbrev site : ℕ
    site = i % length c.sites

    part_in : i / length c.sites < length c.parts
    part_in = (div-lt_iff_lt-mul (some_site i (length c.parts) (length c.sites) b)).1 b

    site_in : i % length c.sites < length c.sites
    site_in = mod-lt i (some_site i (length c.parts) (length c.sites) b)

    stock_at : (s : List ℕ) → stock c s part site ≡ get_or s i 0
    stock_at s = ap (λ k. get_or s k 0) (div-add-mod' i (length c.sites))

    limited : over_limit c cert.stocks i ≡ None
    limited = else_none (limit_at c.parts part site) (get_or p.stocks i 0) _ (subst (λ z. z ≤ limit_at c.parts part site) (stock_at p.stocks) (true_plan.allocation.allocation.within part site part_in site_in))

    kept : below_held c held cert.stocks i ≡ None
    kept = else_none (get_or p.stocks i 0) (get_or held.list i 0) _
        (subst (λ z. z ≤ get_or p.stocks i 0) (stock_at held.list) (subst (λ z. stock c held.list part site ≤ z) (stock_at p.stocks) (true_plan.allocation.keeps part site part_in site_in)))

  all_kept : first (below_held c held (stock_list c p.stocks)) (pair_count (frame_rows c)) ≡ None
  all_kept = no_first _ (pair_count (frame_rows c)) (λ i b. kept i b)

  cost_fits : case_cost_above c held (stock_list c p.stocks) ≤ terms.budget
  cost_fits =
      let e = added_is c held (stock_list c p.stocks) on.accepted.valid on.is_held.is_for (record { sites = refl; pairs = on.is_plan.count }) all_kept in
      let f = families_beyond c held.list p.stocks on.accepted.valid in
      let g = true_plan.certificate.fits in
      omega (arith, e, f, g)

  -- a plan's certificate is accepted, where the work is within its limit
  pub accepted : IsWithinWork c held.list → reject_of (ends_of terms.objective) (certificate_of c held terms o) held ≡ None
  accepted within =
      let few = within_work c held.list within in
      subst (λ (z : Outcome). reject_of (ends_of terms.objective) (certificate_of c held terms z) held ≡ None) (sym on.is) (
      none_broken score cert held (record {
        rates = ap (option_map reject.Rate) on.accepted.no_fault;
        gaps = no_first (gap_at cert held) (case_family_count c) (λ f b. no_gap f b);
        work = work_few few;
        limited = no_first (over_limit c (stock_list c p.stocks)) (pair_count (frame_rows c)) (λ i b. limited i b);
        kept = all_kept;
        cost = cost_fits;
        floors = no_first (low_reject_at score cert held) (case_family_count c) (λ f b. no_low f b);
        upper = let u = on.is_plan.plan.upper in omega (arith, u);
        bound = let u = on.is_plan.plan.bound in omega (arith, u);
      }))
