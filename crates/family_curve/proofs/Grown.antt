-- A family's curve so far, and what comes to it.
use Rattle.std.proofs.Common.{◌≡◌, ◌==◌, Bool, true, refl, ℕ, ◌+◌, ◌-◌, ◌*◌, ◌<◌, ◌≤◌, inl, inr, List, [], ◌∷◌, ◌++◌, length, flat_map, append_assoc, sym, ◌∙◌, subst, arith}
use Rattle.std.specs.List.{range_with_len}
use Rattle.std.proofs.lemmas.Bool.{cases_lt, eqb-true}
use Rattle.std.proofs.lemmas.List.{append-nil}
use Rattle.list_laws.proofs.Public.{room_for}
use Rattle.hull.specs.declared.point.Point.{Point}
use Rattle.hull.specs.Curves.{Among, IsChain, IsCurve, StandFor}
use Rattle.hull.proofs.Public.{chain_is_curve, of_members, among_either, among_left, among_right, curve_stands, stand_for, stand_for_both, stand_self}
use Rattle.family_points.specs.Inputs.{FamilyBox}
use Rattle.family_bases.specs.Joining.{HaveWidthOf, run_start}
use Rattle.family_points.proofs.Public.{flat_stock_before, flat_stock_behind}

-- the curve of points so far, and of what comes to it
pub curve_grows : (ps qs c e : List Point) → IsCurve ps c → IsCurve (c ++ qs) e → IsCurve (ps ++ qs) e
curve_grows ps qs c e a h = stand_for (ps ++ qs) (c ++ qs) e (stand_for_both ps qs c qs (curve_stands ps c a) (stand_self qs)) h

-- points in either order have one curve, beside others too
pub curve_swapped : (ps qs rs c : List Point) → IsCurve ((ps ++ qs) ++ rs) c → IsCurve ((qs ++ ps) ++ rs) c
curve_swapped ps qs rs c h = of_members ((ps ++ qs) ++ rs) ((qs ++ ps) ++ rs) c (λ v. (swapped ps qs v, swapped qs ps v)) h
  where
    swapped : (xs ys : List Point) (v : Point) → Among v ((xs ++ ys) ++ rs) → Among v ((ys ++ xs) ++ rs)
    swapped xs ys v m = elim (among_either v (xs ++ ys) rs m) [
      | inl k ↦ among_left v (ys ++ xs) rs (elim (among_either v xs ys k) [ inl i ↦ among_right v ys xs i | inr i ↦ among_left v ys xs i ])
      | inr k ↦ among_right v (ys ++ xs) rs k
    ]

-- the curve of a curve and of some points is the curve of all points that they stand for, put before those so far
pub curve_grows_before : (so ps qs c e : List Point) → IsCurve (so ++ ps) c → IsCurve (c ++ qs) e → IsCurve (so ++ (qs ++ ps)) e
curve_grows_before so ps qs c e a h =
    of_members ((so ++ ps) ++ qs) (so ++ (qs ++ ps)) e (λ v. (there v, back v)) (curve_grows (so ++ ps) qs c e a h)
  where
    there : (v : Point) → Among v ((so ++ ps) ++ qs) → Among v (so ++ (qs ++ ps))
    there v m = elim (among_either v (so ++ ps) qs m) [
      | inl k ↦ elim (among_either v so ps k) [ inl i ↦ among_left v so (qs ++ ps) i | inr i ↦ among_right v so (qs ++ ps) (among_right v qs ps i) ]
      | inr k ↦ among_right v so (qs ++ ps) (among_left v qs ps k)
    ]

    back : (v : Point) → Among v (so ++ (qs ++ ps)) → Among v ((so ++ ps) ++ qs)
    back v m = elim (among_either v so (qs ++ ps) m) [
      | inl k ↦ among_left v (so ++ ps) qs (among_left v so ps k)
      | inr k ↦ elim (among_either v qs ps k) [ inl i ↦ among_right v (so ++ ps) qs i | inr i ↦ among_left v (so ++ ps) qs (among_right v so ps i) ]
    ]

-- the same, put behind those so far
pub curve_grows_behind : (so ps qs c e : List Point) → IsCurve (so ++ ps) c → IsCurve (c ++ qs) e → IsCurve (so ++ (ps ++ qs)) e
curve_grows_behind so ps qs c e a h = subst (λ (l : List Point). IsCurve l e) (append_assoc so ps qs) (curve_grows (so ++ ps) qs c e a h)

-- the curve of n stocks that go from `from` up and then down, and of the next one
pub run_grows : (so : List Point) (own : ℕ → List Point) (from low high n s : ℕ) (c e : List Point) → low ≤ from → from ≤ high → n ≤ high - low
    → (from + n ≤ high → s ≡ from + n) → (high < from + n → s ≡ high - n)
    → IsCurve (so ++ flat_map own (range_with_len (run_start from high n) n)) c → IsCurve (c ++ own s) e
    → IsCurve (so ++ flat_map own (range_with_len (run_start from high (n + 1)) (n + 1))) e
run_grows so own from low high n s c e least order within up down a h =
    elim (cases_lt high (from + n)) as (λ _. IsCurve (so ++ flat_map own (range_with_len (run_start from high (n + 1)) (n + 1))) e) [
      | inl past ↦
          let start : run_start from high n ≡ high + 1 - n = omega (arith, past, order) in
          let next : run_start from high (n + 1) ≡ high + 1 - (n + 1) = omega (arith, past, order) in
          let all = flat_stock_before own high n s (omega (arith, within, least, order)) (down past) in
          let so_far : IsCurve (so ++ flat_map own (range_with_len (high + 1 - n) n)) c =
          subst (λ k. IsCurve (so ++ flat_map own (range_with_len k n)) c) start a in
          subst (λ k. IsCurve (so ++ flat_map own (range_with_len k (n + 1))) e) (sym next)
          (subst (λ (ps : List Point). IsCurve (so ++ ps) e) (sym all) (curve_grows_before so (flat_map own (range_with_len (high + 1 - n) n)) (own s) c e so_far h))
      | inr room ↦
          let start : run_start from high n ≡ from = omega (arith, room, order) in
          let next : run_start from high (n + 1) ≡ from = omega (arith, room, order) in
          let all = flat_stock_behind own from n s (up room) in
          let so_far : IsCurve (so ++ flat_map own (range_with_len from n)) c =
          subst (λ k. IsCurve (so ++ flat_map own (range_with_len k n)) c) start a in
          subst (λ k. IsCurve (so ++ flat_map own (range_with_len k (n + 1))) e) (sym next)
          (subst (λ (ps : List Point). IsCurve (so ++ ps) e) (sym all) (curve_grows_behind so (flat_map own (range_with_len from n)) (own s) c e so_far h))
    ]

-- where nothing comes to it, it stays
pub curve_stays : (c qs path : List Point) → IsChain c → path ≡ [] → StandFor (c ++ qs) (c ++ path) → IsCurve (c ++ qs) c
curve_stays c qs path chain none stands =
    stand_for (c ++ qs) c c (subst (StandFor (c ++ qs)) (append-nil c) (subst (λ (l : List Point). StandFor (c ++ qs) (c ++ l)) none stands)) (chain_is_curve c chain)

-- where the vertices so far and the points that come have a stock for each place, so has the curve of both
pub widths_grow : (x : FamilyBox) (c qs e : List Point) → HaveWidthOf x c → HaveWidthOf x qs → IsCurve (c ++ qs) e → HaveWidthOf x e
widths_grow x c qs e a b h v m = elim (among_either v c qs (h.among v m)) [ inl k ↦ a v k | inr k ↦ b v k ]

nil_of : (l : List Point) → length l ≡ 0 → l ≡ []
nil_of [] e = refl
nil_of (x ∷ l) e = absurd (omega (arith, e))

-- a list whose length is found to be 0 is empty
pub none_of : (l : List Point) (n : ℕ) (b : Bool) → n ≡ length l → b ≡ (n == 0) → b ≡ true → l ≡ []
none_of l n b long e h = nil_of l (sym long ∙ eqb-true n 0 (sym e ∙ h))

-- where there is room for as many parts as there may be, there is room for one more
pub room_for_one : (most v b m : ℕ) → 0 < most → b + most * v ≤ m → b + v ≤ m
room_for_one most v b m l h = room_for 0 most v b b m (omega arith) l h
