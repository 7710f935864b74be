-- A certificate that breaks no rule is acceptable.
use Rattle.std.proofs.Common.{◌≡◌, ℕ, zero, suc, ◌+◌, ◌<◌, ◌≤◌, inl, inr, Bool, true, false, nat_lt, List, [], ◌∷◌, map, length, get_or, Option, Some, None, is_none, refl, ap, arith, ltb-false}
use Rattle.std.specs.Prelude.{if◌then◌else◌, unwrap_or}
use Rattle.std.specs.Option.{option_map}
use Rattle.list_laws.proofs.Public.{else_none, map_none}
use Rattle.hull.specs.declared.point.Point.{Point}
use Rattle.hull.specs.declared.price.Price.{Price}
use Rattle.hull.specs.Curves.{lagrangian, Among}
use Rattle.hull.proofs.Public.{among_map}
use Rattle.spares_input.specs.First.{first, or_else}
use Rattle.spares_input.specs.Cases.{IsCase, frame_rows, pair_count}
use Rattle.spares_input.specs.Stocks.{StockList, IsFor}
use Rattle.spares_input.proofs.Public.{first_none, or_else_none}
use Rattle.fleet_model.specs.Rows.{line_units}
use Rattle.demand_rates.specs.Limits.{rate_fault_of}
use Rattle.price_bounds.specs.Sums.{cost_of, Picks}
use Rattle.price_bounds.specs.Certificates.{AreFloors, IsAcceptable}
use Rattle.family_points.specs.Vectors.{vector_of, limits, vectors, box_from}
use Rattle.family_points.specs.Points.{point_at_vector, points_within, ScoreEnds}
use Rattle.price_certificate.specs.declared.certificate.Certificate.{Certificate}
use Rattle.price_certificate.specs.Certificates.{IsWellFormed}
use Rattle.gap_rules.specs.declared.leaf.Leaf.{Leaf}
use Rattle.check_answers.specs.declared.refusal.Reject.{Reject}
use Rattle.check_answers.specs.declared.refusal.Reject.TheVariants as reject
use Rattle.gap_rules.specs.Refusals.{line_at, case_family_count, cover_nodes, cover_of, family_leaves, gap_at, over_limit, below_held, case_cost_above, check_work_of, low_leaf, leaf_value, low_reject_at, chosen_point, chosen_of, upper_of, largest_of, reject_of}
use Rattle.gap_rules.specs.Laws.{AcceptedAreAcceptable, family_points_of, claims_of}
use Rattle.gap_rules.proofs.AmongLaws.{among_vectors}
use Rattle.gap_rules.proofs.FloorLaws.{floors_hold}
use Rattle.gap_rules.proofs.Places.{if_none, line_part, vectors_ordered, vector_limited}
use Rattle.gap_rules.proofs.Costs.{added_is, total_map}
use Rattle.gap_rules.proofs.Formed.{has_floors}

-- each of the nine rules holds
pub record BreaksNone (score : ScoreEnds) (cert : Certificate) (held : StockList) : Type 0 where
  pub rates : option_map reject.Rate (rate_fault_of cert.case) ≡ None
  pub gaps : first (gap_at cert held) (case_family_count cert.case) ≡ None
  pub work : check_work_of cert held ≤ 1000000
  pub limited : first (over_limit cert.case cert.stocks) (pair_count (frame_rows cert.case)) ≡ None
  pub kept : first (below_held cert.case held cert.stocks) (pair_count (frame_rows cert.case)) ≡ None
  pub cost : case_cost_above cert.case held cert.stocks ≤ cert.budget
  pub floors : first (low_reject_at score cert held) (case_family_count cert.case) ≡ None
  pub upper : upper_of score cert held ≤ cert.upper
  pub bound : cert.bound ≤ largest_of cert

-- a certificate for which no reject is answered breaks none of the rules
pub breaks_none : (score : ScoreEnds) (cert : Certificate) (held : StockList) → reject_of score cert held ≡ None → BreaksNone score cert held
unfolding reject_of
breaks_none score cert held h =
    let a = or_else_none _ _ h in
    let b = or_else_none _ _ a.1 in
    let c = or_else_none _ _ b.1 in
    let d = or_else_none _ _ c.1 in
    let e = or_else_none _ _ d.1 in
    let f = or_else_none _ _ e.1 in
    let g = or_else_none _ _ f.1 in
    let i = or_else_none _ _ g.1 in
    let j = or_else_none _ _ i.1 in
    record {
      rates = a.0;
      gaps = b.0;
      work = ltb-false _ _ (if_none _ _ c.0);
      limited = d.0;
      kept = e.0;
      cost = ltb-false _ _ (if_none _ _ f.0);
      floors = g.0;
      upper = ltb-false _ _ (if_none _ _ i.0);
      bound = ltb-false _ _ (if_none _ _ j.0);
    }

neither : {A : Type 0} (o p : Option A) → o ≡ None → p ≡ None → or_else o p ≡ None
neither o p h k = rw (h, k) refl

-- for a certificate that breaks none of the rules no reject is answered
pub none_broken : (score : ScoreEnds) (cert : Certificate) (held : StockList) → BreaksNone score cert held → reject_of score cert held ≡ None
unfolding reject_of
none_broken score cert held n =
    neither _ _ n.rates (neither _ _ n.gaps (neither _ _ (else_none _ _ _ n.work)
    (neither _ _ n.limited (neither _ _ n.kept (neither _ _ (else_none _ _ _ n.cost)
    (neither _ _ n.floors (neither _ _ (else_none _ _ _ n.upper) (neither _ _ (else_none _ _ _ n.bound) refl))))))))

-- no leaf is too low
low_step : (value : Leaf → ℕ) (floor k : ℕ) (y : Leaf) (ls : List Leaf) (t : Bool) → nat_lt (value y) floor ≡ t → (if t then Some (k, value y) else low_leaf value floor (k + 1) ls) ≡ None
    → ((x : Leaf) → low_leaf value floor (k + 1) ls ≡ None → Among x ls → floor ≤ value x) → (x : Leaf) → Among x (y ∷ ls) → floor ≤ value x
low_step value floor k y ls true e h further x m = absurd (cc)
low_step value floor k y ls false e h further x m = elim m [
  | inl s ↦ (let a = ltb-false (value y) floor e in let b = ap value s in omega (arith, a, b))
  | inr n ↦ further x h n
]

pub none_low : (value : Leaf → ℕ) (floor k : ℕ) (ls : List Leaf) → low_leaf value floor k ls ≡ None → (x : Leaf) → Among x ls → floor ≤ value x
unfolding low_leaf
none_low value floor k [] h x m = absurd m
none_low value floor k (y ∷ ls) h x m = low_step value floor k y ls (nat_lt (value y) floor) refl h (λ z i n. none_low value floor (k + 1) ls i z n) x m

-- a family whose nodes are a tree
pub some_leaves : {A : Type 0} (o : Option (List A)) (x : Reject) → (if is_none o then Some x else None) ≡ None → o ≡ Some (unwrap_or o [])
some_leaves None x h = absurd (cc)
some_leaves (Some ls) x h = refl

-- floors by families
floors_map : (price : Price) (points : ℕ → List Point) (ls floors : List ℕ) → length floors ≡ length ls
    → ((f : ℕ) → f < length ls → (w : Point) → Among w (points (get_or ls f 0)) → get_or floors f 0 ≤ lagrangian price.p price.q w) → AreFloors price (map points ls) floors
floors_map price points [] [] n h = tt
floors_map price points [] (x ∷ xs) n h = absurd (let l : suc (length xs) ≡ 0 = n in omega arith)
floors_map price points (l ∷ ls) [] n h = absurd (let k : 0 ≡ suc (length ls) = n in omega arith)
floors_map price points (l ∷ ls) (x ∷ xs) n h = (
  h zero (omega arith),
  floors_map price points ls xs (let k : suc (length xs) ≡ suc (length ls) = n in omega arith) (λ f b. h (suc f) (omega arith)),
)

picks_map : (points : ℕ → List Point) (chosen : ℕ → Point) (ls : List ℕ) → ((l : ℕ) → Among l ls → Among (chosen l) (points l)) → Picks (map points ls) (map chosen ls)
picks_map points chosen [] h = tt
picks_map points chosen (l ∷ ls) h = (h l (inl refl), picks_map points chosen ls (λ y m. h y (inr m)))

module _ (score : ScoreEnds) (cert : Certificate) (held : StockList) (valid : IsCase cert.case) (formed : IsWellFormed cert) (is_for : IsFor cert.case held) (none : BreaksNone score cert held) where
  own_point : (l : ℕ) → Among l (line_units cert.case) → Among (chosen_point score cert held l) (points_within cert.case l score (vector_of cert.case l held.list) (vector_of cert.case l held.list) (limits cert.case l))
  own_point l m =
      let b = (line_part cert.case l m).0 in
      among_map (point_at_vector cert.case l score (vector_of cert.case l held.list)) (vectors (vector_of cert.case l held.list) (limits cert.case l)) (vector_of cert.case l cert.stocks.list)
      (among_vectors (vector_of cert.case l held.list) (limits cert.case l) (vector_of cert.case l cert.stocks.list) (vectors_ordered cert.case l held cert.stocks b none.kept) (vector_limited cert.case l cert.stocks b none.limited))

  own_floor : (f : ℕ) → f < length (line_units cert.case) → (w : Point)
      → Among w (points_within cert.case (line_at cert.case f) score (vector_of cert.case (line_at cert.case f) held.list) (vector_of cert.case (line_at cert.case f) held.list) (limits cert.case (line_at cert.case f)))
      → get_or cert.floors f 0 ≤ lagrangian cert.price.p cert.price.q w
  unfolding cover_of low_reject_at
  own_floor f b w m =
      let tree = some_leaves (cover_of cert held f) (reject.CoverGap f) (first_none (gap_at cert held) (case_family_count cert.case) f none.gaps b) in
      let low = map_none _ _ (first_none (low_reject_at score cert held) (case_family_count cert.case) f none.floors b) in
      floors_hold score cert.case (line_at cert.case f) cert.price (cover_nodes cert f) (box_from cert.case (line_at cert.case f) held.list) (family_leaves cert held f) (get_or cert.floors f 0) tree
      (none_low (leaf_value score cert f) (get_or cert.floors f 0) 0 (family_leaves cert held f) low) w m

  own_cost : cost_of (chosen_of score cert held) ≤ cert.budget
  own_cost =
      let e = total_map (λ v. v.cost) (chosen_point score cert held) (line_units cert.case) in
      let f = added_is cert.case held cert.stocks valid is_for formed.stocks none.kept in
      let g = none.cost in
      omega (arith, e, f, g)

  pub acceptable : IsAcceptable (family_points_of score cert.case held) cert.budget (claims_of score cert held)
  acceptable = record {
    money = formed.money.0;
    within = picks_map _ (chosen_point score cert held) (line_units cert.case) own_point;
    fits = own_cost;
    floors = floors_map cert.price _ (line_units cert.case) cert.floors (has_floors cert formed) own_floor;
    upper = none.upper;
    bound = none.bound;
  }

-- a certificate that breaks no rule is acceptable over the points of the families
pub accepted_are_acceptable : AcceptedAreAcceptable
accepted_are_acceptable score cert held valid formed is_for h = acceptable score cert held valid formed is_for (breaks_none score cert held h)
