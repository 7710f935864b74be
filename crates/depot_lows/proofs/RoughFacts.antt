-- Rough lower bounds on the Lagrangians of a base: what the line unit has without stock there, and with at least one.
use Rattle.std.proofs.Common.{◌≡◌, ℕ, zero, suc, ◌+◌, ◌-◌, ◌*◌, ◌/◌, ◌^◌, ◌<◌, ◌≤◌, inl, inr, min, List, [], ◌∷◌, ◌++◌, length, drop, get_or, refl, sym, ap, ◌∙◌, subst, arith, lit<, mul-le-mul_left, sum_by}
use Rattle.std.specs.List.{AllZip, range_with_len}
use Rattle.std.proofs.Math.Nat.{div-mul-le_self}
use Rattle.std.proofs.lemmas.Nat.{le-div}
use Rattle.std.proofs.lemmas.Bool.{cases_lt}
use Rattle.std.proofs.lemmas.List.{drop_all, get_or_append_left, get_or_push}
use Rattle.std.proofs.lemmas.List.Sums.{sum_by-drop_more}
use Rattle.list_laws.proofs.Public.{begins_with_first}
use Rattle.spares_input.specs.Frames.{part_at}
use Rattle.fixed_interval.specs.Ends.{Ends, IsWithinLimit, ends_add, ends_exact}
use Rattle.series_bounds.specs.Profile.{weights_of}
use Rattle.series_bounds.specs.declared.kinds.Weights.{Weights}
use Rattle.series_bounds.specs.declared.kinds.Weights.TheVariants.{Known, Wide}
use Rattle.moment_table.specs.declared.kinds.Row.{Row}
use Rattle.moment_table.specs.Profile.{ebo_ends, excess_ends, known_row, table_rows, wide_row}
use Rattle.moment_table.specs.Rows.{TableRows, at_stock}
use Rattle.moment_table.proofs.Public.{row_of_known, row_of_wide}
use Rattle.depot_pipeline.specs.declared.Moments.{Moments}
use Rattle.depot_pipeline.specs.Profile.{added, mean_part}
use Rattle.base_pipeline.specs.Profile.{delay_at as shop_at}
use Rattle.backorder_bounds.specs.Places.{low_end}
use Rattle.fleet_model.specs.Fleet.{family}
use Rattle.fleet_model.specs.Laws.{IsBase}
use Rattle.fleet_model.specs.Rows.{systems, per_system, weight}
use Rattle.family_numbers.specs.Numbers.{ArePairNumbers, FamilyNumbers, base_delays, base_line_moments, base_line_place, depot_line_row, feed_from, pair_at, shop_part, depot_line_table}
use Rattle.family_numbers.specs.declared.numbers.PairNumbers.{PairNumbers}
use Rattle.hull.specs.declared.price.Price.{Price}
use Rattle.hull.specs.Scores.{LeavesRoom}
use Rattle.family_points.specs.Points.{ScoreEnds, cost_above}
use Rattle.family_points.specs.Separation.{base_point, base_points, points_over}
use Rattle.family_points.specs.Inputs.{AreShopsAt, FamilyBox, IsAt, IsFamilyBox, held_at, line_high, line_low, high_at, low_at, shop_high, shop_low}
use Rattle.family_points.proofs.Public.{at_long, box_begins, high_begins, line_cost, line_cost_most, line_cost_small, low_begins}
use Rattle.family_points.specs.Least.{AreAtLeast}
use Rattle.family_rows.specs.Tabled.{box_numbers}
use Rattle.family_bases.specs.declared.lows.Lows.{Lows}
use Rattle.family_bases.specs.Lows.{AreNoHigher, AreUnder, IsReached, line_place}
use Rattle.depot_lows.specs.Rough.{AreFewest, AreFewestWithout, AreUnderLines, IsDepotWith, lows_of}
use Rattle.family_bases.proofs.Public.{IsLowScore, base_under_more, beyond, lagrangian_under, lower_under, score_under}

-- ---- the mean of the line unit's pipeline

-- the lower end of a sum from a first interval on
added_low : (first : Ends) (part : ℕ → Ends) (n : ℕ) → (added first part n).lo ≡ first.lo + (added (ends_exact 48 0) part n).lo
unfolding added
added_low first part zero = omega arith
added_low first part (suc n) = omega (arith, added_low first part n)

-- its upper end is no less than the first one's
added_high : (first : Ends) (part : ℕ → Ends) (n : ℕ) → first.hi ≤ (added first part n).hi
unfolding added
added_high first part zero = omega arith
added_high first part (suc n) = omega (arith, added_high first part n)

-- a part of less is no more
part_rises : (share a b : ℕ) → a ≤ b → share * a / 2 ^ 48 ≤ share * b / 2 ^ 48
part_rises share a b h =
    let m : share * a ≤ share * b = mul-le-mul_left share h in
    let down : share * a / 2 ^ 48 * 2 ^ 48 ≤ share * a = div-mul-le_self (share * a) (2 ^ 48) in
    le-div (share * a / 2 ^ 48) (share * b) (2 ^ 48) (lit< tt) (omega (arith, m, down))

-- the mean of the line unit's pipeline at a base, from fewer backorders at the depot
mean_under : (x : FamilyNumbers 48) (j o : ℕ) (d b : List ℕ) (part : Moments 48) (fewest : ℕ) → part ≡ shop_part 48 x j d b → fewest ≤ (depot_line_row 48 x d o).ebo.lo
    → min ((pair_at x 0 j).direct.lo + (pair_at x 0 j).share.lo * fewest / 2 ^ 48 + part.mean.lo) (pair_at x 0 j).cap ≤ (base_line_moments 48 x j o d b).mean.lo
unfolding mean_part
mean_under x j o d b part fewest e h =
    let pair = pair_at x 0 j in
    let helds = base_delays 48 x j d b in
    let rises = part_rises pair.share.lo fewest (depot_line_row 48 x d o).ebo.lo h in
    let whole = added_low (ends_add pair.direct (mean_part 48 (feed_from 48 pair.share (depot_line_row 48 x d o)))) (λ k. (shop_at helds k).backorders) (length helds) in
    let shops : part.mean.lo ≡ (shop_part 48 x j d b).mean.lo = ap (λ (m : Moments 48). m.mean.lo) e in
    omega (arith, rises, whole, shops)

-- an empty pipeline's lower end is 0 too
mean_empty : (x : FamilyNumbers 48) (j o : ℕ) (d b : List ℕ) → ArePairNumbers 48 (pair_at x 0 j) → (pair_at x 0 j).direct.lo ≤ (pair_at x 0 j).direct.hi
    → (base_line_moments 48 x j o d b).mean.hi ≡ 0 → (base_line_moments 48 x j o d b).mean.lo ≡ 0
unfolding mean_part
mean_empty x j o d b are order z =
    let pair = pair_at x 0 j in
    let helds = base_delays 48 x j d b in
    let high = added_high (ends_add pair.direct (mean_part 48 (feed_from 48 pair.share (depot_line_row 48 x d o)))) (λ k. (shop_at helds k).backorders) (length helds) in
    elim are.some [
      | inl none ↦ omega (arith, none)
      | inr some ↦ (let one = some.0 in omega (arith, z, high, order, one))
    ]

-- ---- the backorders without stock

first_known : (f : ℕ) (m v : Ends) → 0 < m.hi → (w : Weights f) → w ≡ weights_of f m (excess_ends f m v) → m.lo ≤ (at_stock (table_rows f m v) 0).ebo.lo
unfolding known_row wide_row ebo_ends
first_known f m v p (Known c list sum) e =
    let is = row_of_known f m v c list sum (known_row f m v list sum 0) 0 (omega arith) p e refl in
    omega (arith, ap (λ (r : Row f). r.ebo.lo) is)
first_known f m v p Wide e =
    let is = row_of_wide f m v (wide_row f m v 0) 0 (omega arith) p e refl in
    omega (arith, ap (λ (r : Row f). r.ebo.lo) is)

-- without stock the whole pipeline is backordered
first_row : (f : ℕ) (m v : Ends) → (m.hi ≡ 0 → m.lo ≡ 0) → m.lo ≤ (at_stock (table_rows f m v) 0).ebo.lo
first_row f m v empty = elim (cases_lt 0 m.hi) [
  | inl some ↦ first_known f m v some (weights_of f m (excess_ends f m v)) refl
  | inr none ↦ (let z : m.hi ≡ 0 = omega (arith, none) in let low = empty z in omega (arith, low))
]

-- the line unit's stock at the depot is within its bounds
line_within : (x : FamilyBox) (valid : IsFamilyBox x) (d : List ℕ) → IsAt x 0 d → (line_low x 0 ≤ get_or d 0 0) × (get_or d 0 0 ≤ line_high x 0)
line_within x valid d at =
    let some : 0 < length x.case.sites = omega (arith, valid.valid.frame.fewest_sites) in
    let long : 0 < length d = omega (arith, at_long x valid 0 d some at) in
    let own : List ℕ = get_or d 0 0 ∷ drop 1 d in
    let least : AllZip (λ m n. m ≤ n) (line_low x 0 ∷ shop_low x 0) own =
    subst (λ (l : List ℕ). AllZip (λ m n. m ≤ n) l own) (sym (low_begins x valid 0 some)) (subst (AllZip (λ m n. m ≤ n) (low_at x 0)) (sym (begins_with_first d long)) at.least) in
    let most : AllZip (λ m n. m ≤ n) own (line_high x 0 ∷ shop_high x 0) =
    subst (λ (l : List ℕ). AllZip (λ m n. m ≤ n) own l) (sym (high_begins x valid 0 some)) (subst (λ (l : List ℕ). AllZip (λ m n. m ≤ n) l (high_at x 0)) (sym (begins_with_first d long)) at.most) in
    (least.0, most.0)

-- what the line unit has of its pipeline at a base, from the fewest backorders at the depot, without stock there is backordered whatever its stock at the depot
pub fewest_without : (x : FamilyBox) (valid : IsFamilyBox x) (v : List ℕ) (j : ℕ) (shops : List ℕ) (t : TableRows 48) (pair : PairNumbers 48) (part : Moments 48) (fewest mean : ℕ)
    → pair ≡ pair_at (box_numbers x) 0 j → ArePairNumbers 48 pair → pair.direct.lo ≤ pair.direct.hi → part ≡ shop_part 48 (box_numbers x) j v shops
    → t ≡ depot_line_table 48 (box_numbers x) v → AreFewest x t fewest
    → mean ≡ min (pair.direct.lo + pair.share.lo * fewest / 2 ^ 48 + part.mean.lo) pair.cap → AreFewestWithout x v j shops mean
fewest_without x valid v j shops t pair part fewest mean p are order e table few is d h =
    let n = box_numbers x in
    let o = get_or d 0 0 in
    let range = line_within x valid d h.within in
    let line : fewest ≤ (depot_line_row 48 n v o).ebo.lo = subst (λ (u : TableRows 48). fewest ≤ (at_stock u.rows o).ebo.lo) table (few o range.0 range.1) in
    let here : min (pair.direct.lo + pair.share.lo * fewest / 2 ^ 48 + part.mean.lo) pair.cap ≤ (base_line_moments 48 n j o v shops).mean.lo =
    subst (λ (q : PairNumbers 48). min (q.direct.lo + q.share.lo * fewest / 2 ^ 48 + part.mean.lo) q.cap ≤ (base_line_moments 48 n j o v shops).mean.lo) (sym p)
    (mean_under n j o v shops part fewest e line) in
    let m = base_line_moments 48 n j o v shops in
    let first = first_row 48 m.mean m.variance (mean_empty n j o v shops (subst (ArePairNumbers 48) p are) (subst (λ (q : PairNumbers 48). q.direct.lo ≤ q.direct.hi) p order)) in
    subst (λ (u : List ℕ). mean ≤ low_end 48 (base_line_place 48 n j o u shops 0)) (sym h.shops) (omega (arith, is, here, first))

-- the depot's stocks, by other names of the family and of the shop units' stocks
pub depot_named : (x y : FamilyBox) (v u d : List ℕ) → y ≡ x → u ≡ v → IsDepotWith x v d → IsDepotWith y u d
depot_named x y v u d e g h = record { within = subst (λ (z : FamilyBox). IsAt z 0 d) (sym e) h.within; shops = h.shops ∙ sym g }

-- ---- the Lagrangians of a base

-- backorders at the least stock of the line unit at a base: none are known if that is above 0
pub fewest_at_first : (x : FamilyBox) (v : List ℕ) (j : ℕ) (shops : List ℕ) (first short fewest : ℕ) → first ≡ line_low x j → AreFewestWithout x v j shops fewest
    → (first ≡ 0 → short ≡ fewest) → (0 < first → short ≡ 0) → (d : List ℕ) → IsDepotWith x v d → short ≤ low_end 48 (line_place x d j shops (line_low x j))
fewest_at_first x v j shops first short fewest e few none some d h = elim (cases_lt 0 first) [
  | inl a ↦ (let z = some a in omega (arith, z))
  | inr b ↦ (let z : first ≡ 0 = omega (arith, b) in
      let s = none z in
      let low = few d h in
      subst (λ n. short ≤ low_end 48 (line_place x d j shops n)) (sym z ∙ e) (omega (arith, s, low)))
]

-- the cost of stocks of the shop units with the line unit's least
module _ (x : FamilyBox) (valid : IsFamilyBox x) (j : ℕ) (shops : List ℕ) (m : j < length x.case.sites) (within : AreShopsAt x j shops) (cost : ℕ) (is : cost ≡ cost_above x.case (family x.case x.line) (held_at x j) (line_low x j ∷ shops)) where
  first_order : line_low x j ≤ line_high x j
  first_order = (box_begins x valid j m).0

  -- is at most 56,700,000,000
  pub first_cost : cost ≤ 56700000000
  first_cost =
      let order = first_order in
      let most = line_cost_most x valid j (line_low x j) shops m within (omega arith) order in
      omega (arith, is, most)

  -- and that with one unit of the line unit more
  pub next_cost : (each : ℕ) → each ≡ (part_at x.case.parts x.line).cost → line_low x j < line_high x j
      → cost + each ≡ cost_above x.case (family x.case x.line) (held_at x j) ((line_low x j + 1) ∷ shops)
  next_cost each e more =
      let sum = line_cost x valid j (line_low x j + 1) shops m within (omega arith) (omega (arith, more)) cost 1 each is (omega arith) e in
      omega (arith, sum)

  -- is no larger than that either
  pub next_small : (each : ℕ) → each ≡ (part_at x.case.parts x.line).cost → line_low x j < line_high x j → cost + each ≤ 56700000000
  next_small each e more =
      let sum = line_cost_small x valid j (line_low x j + 1) shops m within (omega arith) (omega (arith, more)) cost 1 each is (omega arith) e in
      omega (arith, sum)

module _ (x : FamilyBox) (valid : IsFamilyBox x) (ends : ScoreEnds) (v : List ℕ) (j : ℕ) (base : IsBase x.case j) (low high : Price) (shops : List ℕ) (within : AreShopsAt x j shops) where
  -- at the least stock of the line unit
  abbrev pub AreUnderFirst : Lows → Type 0
  AreUnderFirst lows = (d : List ℕ) → IsDepotWith x v d → AreUnder ends x d j low high shops (line_low x j) lows

  -- a score of no more backorders
  pub first_is : LeavesRoom ends → (short scored : ℕ) → ((d : List ℕ) → IsDepotWith x v d → short ≤ low_end 48 (line_place x d j shops (line_low x j)))
      → ((e : Ends) → IsWithinLimit 48 e → short ≤ e.lo → scored ≤ (ends (systems x.case j) (per_system x.case x.line) (weight x.case x.line) e).lo)
      → (d : List ℕ) → IsDepotWith x v d → IsLowScore scored (base_point ends x d j (line_low x j ∷ shops))
  first_is room short scored few under d h =
      score_under x valid ends room d h.within j (line_low x j) shops base within (omega arith) (box_begins x valid j base.1).0 short scored (few d h) under

  -- and its Lagrangians
  pub first_under : (cost scored : ℕ) (lows : Lows) → cost ≡ cost_above x.case (family x.case x.line) (held_at x j) (line_low x j ∷ shops)
      → ((d : List ℕ) → IsDepotWith x v d → IsLowScore scored (base_point ends x d j (line_low x j ∷ shops)))
      → lows.at_low ≡ low.q * scored + low.p * cost → lows.at_high ≡ high.q * scored + high.p * cost → AreUnderFirst lows
  first_under cost scored lows e is a b d h =
      let point = base_point ends x d j (line_low x j ∷ shops) in
      record {
        at_low = lagrangian_under low.p low.q cost scored lows.at_low point a e (is d h).low;
        at_high = lagrangian_under high.p high.q cost scored lows.at_high point b e (is d h).low;
      }

  -- if there is no other stock
  pub line_under : (found lower : Lows) → line_high x j ≤ line_low x j → AreNoHigher lower found → AreUnderFirst found → AreUnderLines ends x v j low high shops lower
  line_under found lower one l first d h s a b =
      let same : line_low x j ≡ s = omega (arith, one, a, b) in
      lower_under x ends d j low high shops s lower found l (subst (λ n. AreUnder ends x d j low high shops n found) same (first d h))

  -- with the cost of one unit more for all other stocks
  pub lines_under : (found one lower : Lows) (cost : ℕ) → line_low x j + 1 ≤ line_high x j
      → cost ≡ cost_above x.case (family x.case x.line) (held_at x j) ((line_low x j + 1) ∷ shops) → IsReached one low high cost
      → AreNoHigher lower found → AreNoHigher lower one → AreUnderFirst found → AreUnderLines ends x v j low high shops lower
  lines_under found one lower cost more e reached l m first d h s a b = elim (cases_lt (line_low x j) s) [
    | inl behind ↦ lower_under x ends d j low high shops s lower one m
        (beyond x ends d j low high valid shops one (line_low x j + 1) cost base.1 within (omega arith) e reached s (omega (arith, behind)) b)
    | inr here ↦ (let same : line_low x j ≡ s = omega (arith, here, a) in
        lower_under x ends d j low high shops s lower found l (subst (λ n. AreUnder ends x d j low high shops n found) same (first d h)))
  ]

-- with those of base j behind the bounds of the bases before it
pub one_listed : (Is : ℕ → Lows → Type 0) (rows made : List Lows) (lows : Lows) (j : ℕ) → 0 < j → length rows ≡ j - 1 → made ≡ rows ++ lows ∷ []
    → (i : ℕ) → 0 < i → i < j + 1 → (i < j → Is i (lows_of rows i)) → Is j lows → Is i (lows_of made i)
one_listed Is rows made lows j some long e i on most before here = elim (cases_lt i j) [
  | inl earlier ↦ (let same : lows_of made i ≡ lows_of rows i =
      ap (λ (l : List Lows). lows_of l i) e ∙ get_or_append_left rows (lows ∷ []) (record { at_low = 0; at_high = 0 }) (i - 1) (omega (arith, on, earlier, long)) in
      subst (Is i) (sym same) (before earlier))
  | inr last ↦ (let at : j ≡ i = omega (arith, last, most) in
      let place : i - 1 ≡ length rows = omega (arith, at, long) in
      let same : lows_of made i ≡ lows = ap (λ (l : List Lows). lows_of l i) e ∙ get_or_push rows lows (record { at_low = 0; at_high = 0 }) (i - 1) (sym place) in
      subst (Is i) (sym same) (subst (λ n. Is n lows) at here))
]

-- the sum of the bounds from a place on
pub rest_next : (f : Lows → ℕ) (rows : List Lows) (k : ℕ) → k < length rows → sum_by f (drop k rows) ≡ f (lows_of rows (k + 1)) + sum_by f (drop (k + 1) rows)
rest_next f rows k h =
    let here : k ≡ k + 1 - 1 = omega arith in
    let at = sum_by-drop_more f rows k (record { at_low = 0; at_high = 0 }) h in
    let same : f (get_or rows k (record { at_low = 0; at_high = 0 })) ≡ f (lows_of rows (k + 1)) = ap (λ n. f (get_or rows n (record { at_low = 0; at_high = 0 }))) here in
    omega (arith, at, same)

-- bounds over some bases, and the rough ones of the others
pub rough_from : (x : FamilyBox) (ends : ScoreEnds) (d : List ℕ) (p q : ℕ) (f : Lows → ℕ) (rows : List Lows) → length rows ≡ length x.case.sites - 1
    → ((j : ℕ) → IsBase x.case j → AreAtLeast p q (f (lows_of rows j)) (base_points ends x d j))
    → (k m : ℕ) → k + m ≡ length x.case.sites - 1 → (a : ℕ) → AreAtLeast p q a (points_over ends x d (range_with_len 1 k))
    → AreAtLeast p q (a + sum_by f (drop k rows)) (points_over ends x d (range_with_len 1 (length x.case.sites - 1)))
rough_from x ends d p q f rows long each k zero e a h =
    let none : drop k rows ≡ [] = drop_all k rows (omega (arith, e, long)) in
    let same : a ≡ a + sum_by f (drop k rows) = omega (arith, ap (sum_by f) none) in
    let last : k ≡ length x.case.sites - 1 = omega (arith, e) in
    subst (λ n. AreAtLeast p q n (points_over ends x d (range_with_len 1 (length x.case.sites - 1)))) same
    (subst (λ n. AreAtLeast p q a (points_over ends x d (range_with_len 1 n))) last h)
rough_from x ends d p q f rows long each k (suc m) e a h =
    let j = k + 1 in
    let here : k ≡ j - 1 = omega arith in
    let next : j + 1 - 1 ≡ k + 1 = omega arith in
    let inside : k < length rows = omega (arith, e, long) in
    let this = each j (omega arith, omega (arith, e)) in
    let more : AreAtLeast p q (a + f (lows_of rows j)) (points_over ends x d (range_with_len 1 (k + 1))) =
    subst (λ n. AreAtLeast p q (a + f (lows_of rows j)) (points_over ends x d (range_with_len 1 n))) next
    (base_under_more x ends d p q j a (f (lows_of rows j)) (omega arith) (subst (λ n. AreAtLeast p q a (points_over ends x d (range_with_len 1 n))) here h) this) in
    let rest = rough_from x ends d p q f rows long each (k + 1) m (omega (arith, e)) (a + f (lows_of rows j)) more in
    let split = rest_next f rows k inside in
    subst (λ n. AreAtLeast p q n (points_over ends x d (range_with_len 1 (length x.case.sites - 1)))) (omega (arith, split)) rest
