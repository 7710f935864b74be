-- Lower bounds of all bases, of which nearer ones take the place of rough ones, base by base.
use Rattle.std.proofs.Common.{◌≡◌, ℕ, ◌+◌, ◌-◌, ◌*◌, ◌<◌, ◌≤◌, List, drop, get_or, length, sum_by, ap, ◌∙◌, subst, arith}
use Rattle.std.proofs.lemmas.List.{get_or_default}
use Rattle.std.specs.List.{range_with_len}
use Rattle.fleet_model.specs.Laws.{IsBase}
use Rattle.family_points.specs.Inputs.{FamilyBox}
use Rattle.family_points.specs.Least.{AreAtLeast}
use Rattle.family_points.specs.Points.{ScoreEnds}
use Rattle.family_points.specs.Separation.{base_points, depot_point, depot_points, points_over}
use Rattle.family_bases.specs.declared.lows.Lows.{Lows}
use Rattle.depot_lows.specs.Rough.{lows_of}
use Rattle.family_bases.proofs.Public.{base_under_more, depot_under}
use Rattle.depot_lows.proofs.RoughFacts.{rest_next, rough_from}

-- a bound is one over the bases before j, and the rough bounds of the others
pub record IsSoFar (ends : ScoreEnds) (x : FamilyBox) (d : List ℕ) (p q : ℕ) (f : Lows → ℕ) (rows : List Lows) (j bound : ℕ) : Type 0 where
  pub rest : sum_by f (drop (j - 1) rows) ≤ bound
  pub before : AreAtLeast p q (bound - sum_by f (drop (j - 1) rows)) (points_over ends x d (range_with_len 1 (j - 1)))

-- what is read at the place before j is the bound of base j
pub bound_read : (rows : List Lows) (j from : ℕ) (found : Lows) → from ≡ j → 0 < j → j - 1 < length rows → found ≡ get_or rows (from - 1) found → found ≡ lows_of rows j
bound_read rows j from found e some inside is =
    is ∙ ap (λ n. get_or rows (n - 1) found) e ∙ get_or_default rows (j - 1) found (record { at_low = 0; at_high = 0 }) inside

module _ (ends : ScoreEnds) (x : FamilyBox) (d : List ℕ) (p q : ℕ) (f : Lows → ℕ) (rows : List Lows) where
  -- at first it is the cost at the depot and all rough bounds
  pub all_rough : (cost sum bound : ℕ) → cost ≡ (depot_point x d).cost → sum ≡ sum_by f rows → bound ≡ p * cost + sum → IsSoFar ends x d p q f rows 1 bound
  all_rough cost sum bound e g h =
      let alone : p * cost ≡ bound - sum_by f rows = omega (arith, g, h) in
      record {
        rest = omega (arith, g, h);
        before = subst (λ n. AreAtLeast p q n (points_over ends x d (range_with_len 1 0))) alone (depot_under x d p q cost e);
      }

  -- the nearer bound takes the place of that of base j where it is larger
  pub one_nearer : length rows ≡ length x.case.sites - 1 → ((j : ℕ) → IsBase x.case j → AreAtLeast p q (f (lows_of rows j)) (base_points ends x d j))
      → (j near bound after : ℕ) → IsBase x.case j → AreAtLeast p q near (base_points ends x d j) → after ≡ bound + (near - f (lows_of rows j))
      → IsSoFar ends x d p q f rows j bound → IsSoFar ends x d p q f rows (j + 1) after
  one_nearer long each j near bound after base is e so =
      let rough : ℕ = f (lows_of rows j) in
      let more : ℕ = rough + (near - rough) in
      let larger : AreAtLeast p q more (base_points ends x d j) = λ v m. (let a = each j base v m in let b = is v m in omega (arith, a, b)) in
      let over = base_under_more x ends d p q j (bound - sum_by f (drop (j - 1) rows)) more base.0 so.before larger in
      let inside : j - 1 < length rows = omega (arith, base.0, base.1, long) in
      let here : j - 1 + 1 ≡ j = omega (arith, base.0) in
      let next : j + 1 - 1 ≡ j = omega arith in
      let split : sum_by f (drop (j - 1) rows) ≡ rough + sum_by f (drop j rows) = subst (λ n. sum_by f (drop (j - 1) rows) ≡ f (lows_of rows n) + sum_by f (drop n rows)) here (rest_next f rows (j - 1) inside) in
      let same : sum_by f (drop (j + 1 - 1) rows) ≡ sum_by f (drop j rows) = ap (λ n. sum_by f (drop n rows)) next in
      let all : bound - sum_by f (drop (j - 1) rows) + more ≡ after - sum_by f (drop (j + 1 - 1) rows) = omega (arith, e, split, same, so.rest) in
      record {
        rest = omega (arith, e, split, same, so.rest);
        before = subst (λ n. AreAtLeast p q n (points_over ends x d (range_with_len 1 (j + 1 - 1)))) all over;
      }

  -- it bounds the vectors with these stocks at the depot
  pub bounds_all : length rows ≡ length x.case.sites - 1 → ((j : ℕ) → IsBase x.case j → AreAtLeast p q (f (lows_of rows j)) (base_points ends x d j))
      → (j bound : ℕ) → j ≤ length x.case.sites → IsSoFar ends x d p q f rows j bound → AreAtLeast p q bound (depot_points ends x d)
  bounds_all long each j bound within so =
      let sites : ℕ = length x.case.sites in
      let whole = rough_from x ends d p q f rows long each (j - 1) (sites - 1 - (j - 1)) (omega (arith, within)) (bound - sum_by f (drop (j - 1) rows)) so.before in
      let same : bound - sum_by f (drop (j - 1) rows) + sum_by f (drop (j - 1) rows) ≡ bound = omega (arith, so.rest) in
      subst (λ n. AreAtLeast p q n (depot_points ends x d)) same whole
