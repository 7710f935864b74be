-- The upper end of one of a family's points: of a base by a choice, of the depot's stocks by their bases.
use Rattle.std.proofs.Common.{◌≡◌, ℕ, suc, ◌+◌, ◌-◌, ◌<◌, List, [], ◌∷◌, flat_map, length, map, get_or, refl, sym, ap, ap₂, ◌∙◌, subst, inl, arith}
use Rattle.std.specs.List.{range_with_len}
use Rattle.list_laws.proofs.Public.{no_more_than_self}
use Rattle.fleet_model.specs.Laws.{IsBase}
use Rattle.hull.specs.declared.point.Point.{Point}
use Rattle.hull.specs.Curves.{Among, plus, sums}
use Rattle.hull.proofs.Public.{among_flat, among_at, among_permuted, sum_among}
use Rattle.family_points.specs.declared.order.Choice.{Choice}
use Rattle.family_points.specs.Vectors.{vectors}
use Rattle.family_points.specs.Points.{HasUpper, ScoreEnds}
use Rattle.family_points.specs.Separation.{base_point, base_points, depot_point, depot_points, points_over}
use Rattle.family_points.specs.Inputs.{AreShopsAt, FamilyBox, IsAt, IsFamilyBox, box_points, high_at, low_at, shop_low}
use Rattle.family_points.specs.Choices.{IsOrder, choice_point}
use Rattle.family_points.specs.Turned.{turned_points}
use Rattle.family_points.proofs.Public.{box_at, turned_among, points_permuted, first_vector, high_begins, low_begins, mapped_among, over_more, separated_is, box_shops}

-- the point of a choice is one of the base's
pub upper_of_choice : (x : FamilyBox) (valid : IsFamilyBox x) (j : ℕ) (order : List Choice) → IsOrder x j order → (ends : ScoreEnds) (d : List ℕ) → IsBase x.case j
    → (w : Choice) (hi : ℕ) → 0 < length order → w ≡ get_or order 0 w → hi ≡ (choice_point ends x d j w).hi
    → HasUpper (base_points ends x d j) hi
upper_of_choice x valid j order is ends d base w hi some e h =
    let turned : List Point = turned_points ends x d j in
    let v = choice_point ends x d j w in
    let first : Among w order = subst (λ z. Among z order) (sym e) (among_at order 0 w some) in
    let mapped : Among v (map (choice_point ends x d j) order) = mapped_among (choice_point ends x d j) w order first in
    let back : Among v turned = among_permuted turned (map (choice_point ends x d j) order) (points_permuted x j order is ends d) v mapped in (
      v,
      subst (λ ps. Among v ps)
          (ap₂ (λ low high. map (base_point ends x d j) (vectors low high)) (low_begins x valid j base.1) (high_begins x valid j base.1))
          (turned_among ends x d j v back),
      sym h,
    )

-- ---- the least stocks of a site are within its bounds

-- the least stocks are within the bounds of the site
pub low_is_at : (x : FamilyBox) (valid : IsFamilyBox x) (k : ℕ) → k < length x.case.sites → IsAt x k (low_at x k)
low_is_at x valid k m = record { least = no_more_than_self (low_at x k); most = (box_at x k valid m).ordered }

-- the shop units' least stocks are within the bounds of the site
pub low_shops_at : (x : FamilyBox) (valid : IsFamilyBox x) (k : ℕ) → k < length x.case.sites → AreShopsAt x k (shop_low x k)
low_shops_at x valid k m = record { least = no_more_than_self (shop_low x k); most = (box_shops x valid k m).ordered }

-- ---- base by base

-- nothing yet but the stocks at the depot
pub upper_begins : (x : FamilyBox) (d : List ℕ) → HasUpper (depot_point x d ∷ []) 0
upper_begins x d = (depot_point x d, inl refl, refl)

-- one base more
pub upper_added : (x : FamilyBox) (ends : ScoreEnds) (d : List ℕ) (j a b : ℕ) → 0 < j
    → HasUpper (points_over ends x d (range_with_len 1 (j - 1))) a
    → HasUpper (base_points ends x d j) b
    → HasUpper (points_over ends x d (range_with_len 1 (j + 1 - 1))) (a + b)
upper_added x ends d j a b some h k =
    let over : ℕ → List Point = λ n. points_over ends x d (range_with_len 1 n) in
    let base : ℕ → List Point = base_points ends x d in
    let next : suc (j - 1) ≡ j + 1 - 1 = omega (arith, some) in
    let here : j - 1 + 1 ≡ j = omega (arith, some) in
    let more : over (suc (j - 1)) ≡ sums (over (j - 1)) (base j) = over_more ends x d (j - 1) ∙ ap (λ i. sums (over (j - 1)) (base i)) here in
    let both : HasUpper (sums (over (j - 1)) (base j)) (a + b) =
    (plus h.0 k.0, sum_among h.0 k.0 (over (j - 1)) (base j) h.1 k.1, ap₂ (λ m n. m + n) h.2 k.2) in
    subst (λ n. HasUpper (over n) (a + b)) next (subst (λ ps. HasUpper ps (a + b)) (sym more) both)

-- a point with the least stocks at the depot is one of the box's
pub upper_of_box : (x : FamilyBox) (valid : IsFamilyBox x) (ends : ScoreEnds) (hi : ℕ)
    → HasUpper (depot_points ends x (low_at x 0)) hi
    → HasUpper (box_points ends x) hi
upper_of_box x valid ends hi h =
    let some = valid.valid.frame.fewest_sites in
    let inside : 0 < length x.case.sites = omega (arith, some) in
    let at : List ℕ → List Point = depot_points ends x in
    let first : Among (low_at x 0) (vectors (low_at x 0) (high_at x 0)) = first_vector (low_at x 0) (high_at x 0) (box_at x 0 valid inside).ordered in
    let flat : Among h.0 (flat_map at (vectors (low_at x 0) (high_at x 0))) = among_flat at (vectors (low_at x 0) (high_at x 0)) (low_at x 0) h.0 first h.1 in (
      h.0,
      subst (λ ps. Among h.0 ps)
          (separated_is ends x valid.valid valid.is_line valid.ordered) flat,
      h.2,
    )
