-- Points that lie under others, and their sums.
use Rattle.std.proofs.Common.{◌≡◌, ◌||◌, Bool, true, false, IsTrue, ℕ, suc, ◌+◌, ◌-◌, ◌<◌, ◌≤◌, inl, inr, List, [], ◌∷◌, ◌++◌, refl, sym, ap, ◌∙◌, subst, arith}
use Rattle.std.specs.List.{range_with_len}
use Rattle.hull.specs.declared.point.Point.{Point}
use Rattle.hull.specs.Curves.{Among, IsChain, IsCurve, IsFirstOf, IsVertex, SamePlace, StandFor, lagrangian, plus, sums}
use Rattle.hull.proofs.Public.{Parts, among_either, among_left, among_right, chain_is_curve, first_self, parts_of, same_lagrangian, same_self, stand_for, sum_among}
use Rattle.family_points.specs.Inputs.{FamilyBox}
use Rattle.family_points.specs.Points.{ScoreEnds}
use Rattle.family_points.specs.Separation.{base_points, points_over}
use Rattle.family_points.proofs.Public.{over_more}
use Rattle.sum_walk.specs.Sums.{sums_of_each}
use Rattle.sum_walk.proofs.Public.{sums_one_more}
use Rattle.family_curve.specs.Under.{LieBelow, LieUnder}
use Rattle.family_curve.proofs.LowCurves.{stands_under, under_below}

-- points lie under themselves
pub under_self : (points : List Point) → LieUnder points points
under_self points p q l m v i = (v, i, omega arith)

-- what lies under points lies under some of them
pub under_part : (a b c : List Point) → ((v : Point) → Among v c → Among v b) → LieUnder a b → LieUnder a c
under_part a b c sub h p q l m v i = h p q l m v (sub v i)

-- the sums of what lies under two lists lie under their sums
pub under_sums : (a ps c bs : List Point) → LieUnder a ps → LieUnder c bs → LieUnder (sums a c) (sums ps bs)
under_sums a ps c bs h k p q l m v i =
    let r : Parts ps bs v = parts_of ps bs v i in
    let s = h p q l m r.first r.first_in in
    let t = k p q l m r.second r.second_in in
    (plus s.0 t.0, sum_among s.0 t.0 a c s.1 t.1, subst (λ u. lagrangian p q (plus s.0 t.0) ≤ lagrangian p q u) (sym r.is) (omega (arith, s.2, t.2)))

-- where the first list lies below, so do the sums
pub below_sums_first : (a ps c bs : List Point) → LieBelow a ps → LieUnder c bs → LieBelow (sums a c) (sums ps bs)
below_sums_first a ps c bs h k p q l m v i =
    let r : Parts ps bs v = parts_of ps bs v i in
    let s = h p q l m r.first r.first_in in
    let t = k p q l m r.second r.second_in in
    (plus s.0 t.0, sum_among s.0 t.0 a c s.1 t.1, subst (λ u. lagrangian p q (plus s.0 t.0) < lagrangian p q u) (sym r.is) (omega (arith, s.2, t.2)))

-- where the second list lies below, so do the sums
pub below_sums_second : (a ps c bs : List Point) → LieUnder a ps → LieBelow c bs → LieBelow (sums a c) (sums ps bs)
below_sums_second a ps c bs h k p q l m v i =
    let r : Parts ps bs v = parts_of ps bs v i in
    let s = h p q l m r.first r.first_in in
    let t = k p q l m r.second r.second_in in
    (plus s.0 t.0, sum_among s.0 t.0 a c s.1 t.1, subst (λ u. lagrangian p q (plus s.0 t.0) < lagrangian p q u) (sym r.is) (omega (arith, s.2, t.2)))

-- what stands for itself and others lies under those
pub kept_under : (below points : List Point) → StandFor (below ++ points) below → LieUnder below points
kept_under below points s = under_part below (below ++ points) points (λ v i. among_right v below points i) (stands_under (below ++ points) below s)

-- points that lie below others suffice for the curve of both
pub none_new : (below points : List Point) → LieBelow below points → StandFor (below ++ points) below
none_new below points h = record {
  among = λ v i. among_left v below points i;
  covers = λ w i at. covered w i at;
}
  where
    over : (w : Point) → Among w points → IsVertex (below ++ points) w → ⊥
    over w i at =
        let r = h at.p at.q at.at.p_positive at.at.q_positive w i in
        let less : lagrangian at.p at.q r.0 < lagrangian at.p at.q w = r.2 in
        elim (at.at.alone r.0 (among_left r.0 below points r.1)) [
          | inl s ↦ (let e : lagrangian at.p at.q r.0 ≡ lagrangian at.p at.q w = same_lagrangian at.p at.q s in omega (arith, less, e))
          | inr l ↦ omega (arith, less, l)
        ]

    covered : (w : Point) → Among w (below ++ points) → IsVertex (below ++ points) w → (v : Point) × Among v below × SamePlace v w × IsFirstOf v.stocks w.stocks
    covered w i at = elim (among_either w below points i) [
      | inl k ↦ (w, k, same_self w, first_self w.stocks)
      | inr k ↦ absurd (over w k at)
    ]

-- where points that stand for themselves and for sums that lie below others, they suffice beside those others
pub passed_by : (below lows points : List Point) → StandFor (below ++ lows) below → LieBelow lows points → StandFor (below ++ points) below
passed_by below lows points s h = none_new below points (under_below below lows points (kept_under below lows s) h)

-- a curve that suffices beside other points is the curve of all
pub curve_suffices : (curve points : List Point) → IsChain curve → StandFor (curve ++ points) curve → IsCurve (curve ++ points) curve
curve_suffices curve points chain s = stand_for (curve ++ points) curve curve s (chain_is_curve curve chain)

-- a test that fails shows nothing
pub nothing_shown : (lows points : List Point) → IsTrue false → LieBelow lows points
nothing_shown lows points is = absurd (let impossible : ⊥ = cc in impossible)

module _ (ends : ScoreEnds) (x : FamilyBox) (d : List ℕ) where
  -- the points over the first bases
  abbrev pub over : ℕ → List Point
  over n = points_over ends x d (range_with_len 1 n)

  -- the points over one base more
  pub over_next : (j : ℕ) → 0 < j → over (j + 1 - 1) ≡ sums (over (j - 1)) (base_points ends x d j)
  over_next j some =
      let next : j + 1 - 1 ≡ suc (j - 1) = omega (arith, some) in
      let here : j - 1 + 1 ≡ j = omega (arith, some) in
      ap over next ∙ over_more ends x d (j - 1) ∙ ap (λ k. sums (over (j - 1)) (base_points ends x d k)) here

  -- with points under those of one base more, the sums lie under the points over one base more
  pub under_more : (first : List Point) (j : ℕ) (lows made : List (List Point)) (base : List Point) → 0 < j
      → LieUnder (sums_of_each first lows) (over (j - 1))
      → LieUnder base (base_points ends x d j)
      → made ≡ lows ++ base ∷ []
      → LieUnder (sums_of_each first made) (over (j + 1 - 1))
  under_more first j lows made base some h k made_is =
      subst (LieUnder (sums_of_each first made)) (sym (over_next j some))
      (subst (λ (ls : List Point). LieUnder ls (sums (over (j - 1)) (base_points ends x d j))) (sym (ap (sums_of_each first) made_is ∙ sums_one_more lows first base))
      (under_sums (sums_of_each first lows) (over (j - 1)) base (base_points ends x d j) h k))

  -- the same where the sums so far lie below
  pub below_more_first : (first : List Point) (j : ℕ) (lows made : List (List Point)) (base : List Point) → 0 < j
      → LieBelow (sums_of_each first lows) (over (j - 1))
      → LieUnder base (base_points ends x d j)
      → made ≡ lows ++ base ∷ []
      → LieBelow (sums_of_each first made) (over (j + 1 - 1))
  below_more_first first j lows made base some h k made_is =
      subst (LieBelow (sums_of_each first made)) (sym (over_next j some))
      (subst (λ (ls : List Point). LieBelow ls (sums (over (j - 1)) (base_points ends x d j))) (sym (ap (sums_of_each first) made_is ∙ sums_one_more lows first base))
      (below_sums_first (sums_of_each first lows) (over (j - 1)) base (base_points ends x d j) h k))

  -- the same where the points of this base lie below
  pub below_more_second : (first : List Point) (j : ℕ) (lows made : List (List Point)) (base : List Point) → 0 < j
      → LieUnder (sums_of_each first lows) (over (j - 1))
      → LieBelow base (base_points ends x d j)
      → made ≡ lows ++ base ∷ []
      → LieBelow (sums_of_each first made) (over (j + 1 - 1))
  below_more_second first j lows made base some h k made_is =
      subst (LieBelow (sums_of_each first made)) (sym (over_next j some))
      (subst (λ (ls : List Point). LieBelow ls (sums (over (j - 1)) (base_points ends x d j))) (sym (ap (sums_of_each first) made_is ∙ sums_one_more lows first base))
      (below_sums_second (sums_of_each first lows) (over (j - 1)) base (base_points ends x d j) h k))

  -- the same where it is known by a test of each that the sums so far or the points of this base lie below
  pub below_more : (first : List Point) (j : ℕ) (lows made : List (List Point)) (base : List Point) (so_far here : Bool) → 0 < j
      → LieUnder (sums_of_each first lows) (over (j - 1))
      → (IsTrue so_far → LieBelow (sums_of_each first lows) (over (j - 1)))
      → LieUnder base (base_points ends x d j)
      → (IsTrue here → LieBelow base (base_points ends x d j))
      → made ≡ lows ++ base ∷ []
      → IsTrue (so_far || here)
      → LieBelow (sums_of_each first made) (over (j + 1 - 1))
  below_more first j lows made base true here some h below k base_below made_is is = below_more_first first j lows made base some (below refl) k made_is
  below_more first j lows made base false here some h below k base_below made_is is = below_more_second first j lows made base some h (base_below is) made_is
