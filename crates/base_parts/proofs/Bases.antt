-- The sums of the parts of the bases' curves, one base more at a time.
use Rattle.std.proofs.Common.{◌≡◌, ℕ, suc, ◌+◌, ◌-◌, ◌≤◌, List, [], ◌∷◌, ◌++◌, length, sym, ap, ◌∙◌, subst, arith, length-append}
use Rattle.std.specs.List.{range_with_len}
use Rattle.fleet_model.specs.Laws.{IsBase}
use Rattle.hull.specs.declared.point.Point.{Point}
use Rattle.hull.specs.declared.price.Price.{Price}
use Rattle.hull.specs.Curves.{lagrangian, Among, HaveOneWidth, sums}
use Rattle.hull.specs.Scores.{LeavesRoom}
use Rattle.sum_walk.specs.Sums.{sums_of_each}
use Rattle.sum_walk.proofs.Public.{sums_one_more}
use Rattle.curve_parts.specs.Cuts.{IsCutOf}
use Rattle.curve_parts.specs.Parts.{IsPartOf, StandForBetween}
use Rattle.curve_parts.specs.Beyond.{LieBeyond}
use Rattle.curve_parts.proofs.Public.{part_stands, sums_between, beyond_less, beyond_sums}
use Rattle.family_points.specs.Inputs.{FamilyBox, IsAt, IsFamilyBox}
use Rattle.family_points.specs.Points.{ScoreEnds}
use Rattle.family_points.specs.Separation.{base_points, points_over}
use Rattle.family_points.proofs.Public.{over_more, over_small}

-- a part is no longer than the curve that it is cut of
pub cut_no_longer : (low high : Price) (curve part : List Point) → IsCutOf low high curve part → length part ≤ length curve
cut_no_longer low high curve part h =
    let whole : length curve ≡ length (h.front ++ (part ++ h.back)) = ap length h.is in
    omega (arith, whole, length-append h.front (part ++ h.back), length-append part h.back)

module _ (x : FamilyBox) (valid : IsFamilyBox x) (ends : ScoreEnds) (room : LeavesRoom ends) (d : List ℕ) (at_depot : IsAt x 0 d) (low high : Price) where
  abbrev over : ℕ → List Point
  over n = points_over ends x d (range_with_len 1 n)

  -- with the part of one base more, the sums stand for the points over one base more
  pub base_more : (first : Point) (j : ℕ) (parts made : List (List Point)) (base : List Point) → IsBase x.case j
      → StandForBetween low high (over (j - 1)) (sums_of_each (first ∷ []) parts)
      → IsPartOf low high (base_points ends x d j) base
      → made ≡ parts ++ base ∷ []
      → StandForBetween low high (over (j + 1 - 1)) (sums_of_each (first ∷ []) made)
  base_more first j parts made base on s b made_is =
      let next : suc (j - 1) ≡ j + 1 - 1 = omega (arith, on.0) in
      let here : j - 1 + 1 ≡ j = omega (arith, on.0) in
      let width : HaveOneWidth (over (j - 1)) = λ v w m n. (over_small x valid ends room d at_depot (j - 1) (omega (arith, on.0, on.1)) v m).width
      ∙ sym (over_small x valid ends room d at_depot (j - 1) (omega (arith, on.0, on.1)) w n).width in
      let both : StandForBetween low high (sums (over (j - 1)) (base_points ends x d j)) (sums (sums_of_each (first ∷ []) parts) base) =
      sums_between low high (over (j - 1)) (base_points ends x d j) (sums_of_each (first ∷ []) parts) base s
      (part_stands low high (base_points ends x d j) base b) width in
      let more : over (suc (j - 1)) ≡ sums (over (j - 1)) (base_points ends x d j) =
      over_more ends x d (j - 1) ∙ ap (λ k. sums (over (j - 1)) (base_points ends x d k)) here in
      subst (λ n. StandForBetween low high (over n) (sums_of_each (first ∷ []) made)) next
      (subst (λ ps. StandForBetween low high ps (sums_of_each (first ∷ []) made)) (sym more)
      (subst (λ ls. StandForBetween low high (sums (over (j - 1)) (base_points ends x d j)) (sums_of_each (first ∷ []) ls)) (sym made_is)
      (subst (StandForBetween low high (sums (over (j - 1)) (base_points ends x d j))) (sym (sums_one_more parts (first ∷ []) base)) both)))

  -- and those that aren't sums of the parts lie higher than the least of each by the gap
  pub beyond_more : (first : Point) (j : ℕ) (parts made : List (List Point)) (base : List Point) (least gap more own : ℕ) → IsBase x.case j
      → ((v : Point) → Among v (over (j - 1)) → least ≤ lagrangian low.p low.q v)
      → ((w : Point) → Among w (base_points ends x d j) → more ≤ lagrangian low.p low.q w)
      → LieBeyond low (over (j - 1)) (sums_of_each (first ∷ []) parts) (least + gap)
      → LieBeyond low (base_points ends x d j) base (more + own)
      → made ≡ parts ++ base ∷ []
      → (all : ℕ) → all ≤ gap → all ≤ own → LieBeyond low (over (j + 1 - 1)) (sums_of_each (first ∷ []) made) (least + more + all)
  beyond_more first j parts made base least gap more own on h k s b made_is all few fewer =
      let next : suc (j - 1) ≡ j + 1 - 1 = omega (arith, on.0) in
      let here : j - 1 + 1 ≡ j = omega (arith, on.0) in
      let both : LieBeyond low (sums (over (j - 1)) (base_points ends x d j)) (sums (sums_of_each (first ∷ []) parts) base) (least + more + all) =
      beyond_sums low (over (j - 1)) (base_points ends x d j) (sums_of_each (first ∷ []) parts) base least more all h k
      (beyond_less low (over (j - 1)) (sums_of_each (first ∷ []) parts) (least + gap) (least + all) (omega (arith, few)) s)
      (beyond_less low (base_points ends x d j) base (more + own) (more + all) (omega (arith, fewer)) b) in
      let at : over (suc (j - 1)) ≡ sums (over (j - 1)) (base_points ends x d j) =
      over_more ends x d (j - 1) ∙ ap (λ k. sums (over (j - 1)) (base_points ends x d k)) here in
      subst (λ n. LieBeyond low (over n) (sums_of_each (first ∷ []) made) (least + more + all)) next
      (subst (λ ps. LieBeyond low ps (sums_of_each (first ∷ []) made) (least + more + all)) (sym at)
      (subst (λ ls. LieBeyond low (sums (over (j - 1)) (base_points ends x d j)) (sums_of_each (first ∷ []) ls) (least + more + all)) (sym made_is)
      (subst (λ ps. LieBeyond low (sums (over (j - 1)) (base_points ends x d j)) ps (least + more + all)) (sym (sums_one_more parts (first ∷ []) base)) both)))
