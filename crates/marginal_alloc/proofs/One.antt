-- Two prefixes of the steps are nested, so only one stops at the budget.
use Rattle.std.proofs.Common.{◌≡◌, ℕ, zero, suc, ◌+◌, ◌<◌, ◌≤◌, inl, inr, Option, Some, None, List, [], ◌∷◌, length, set, slice_index, refl, sym, ap, ◌∙◌, subst, arith, get_or-set_other, get_or-set_same, length-set}
use Rattle.std.proofs.lemmas.List.{ext_get_or}
use Rattle.std.proofs.lemmas.Bool.{cases_lt, cases_eq}
use Rattle.list_laws.proofs.Public.{less_or}
use Rattle.hull.specs.declared.point.Point.{Point}
use Rattle.hull.specs.declared.price.Price.{Price}
use Rattle.hull.specs.Curves.{point_at}
use Rattle.marginal_alloc.specs.declared.allocation.Critical.{Critical}
use Rattle.price_bounds.specs.Sums.{cost_of}
use Rattle.step_walk.specs.Prefix.{curve_at, HasStep, fall, rise, picked, IsPrefix, IsNext, HaveShapes}
use Rattle.marginal_alloc.specs.Choice.{IsHullChoice}
use Rattle.marginal_alloc.proofs.Told.{told}
use Rattle.marginal_alloc.proofs.Walking.{cost_taken}
use Rattle.step_walk.proofs.Public.{cost_rises, not_both, one_next}
use Rattle.marginal_alloc.proofs.Along.{costs_up}

-- picks further on cost no less
dearer : (curves : List (List Point)) (xs ys : List ℕ) → HaveShapes curves → length xs ≡ length curves → length ys ≡ length curves
    → ((f : ℕ) → f < length curves → slice_index xs f ≤ slice_index ys f) → ((f : ℕ) → f < length curves → slice_index ys f < length (curve_at curves f)) → cost_of (picked curves xs) ≤ cost_of (picked curves ys)
dearer [] xs ys shapes m n up below = omega arith
dearer (c ∷ curves) [] ys shapes m n up below = absurd (let l : 0 ≡ suc (length curves) = m in omega arith)
dearer (c ∷ curves) (x ∷ xs) [] shapes m n up below = absurd (let l : 0 ≡ suc (length curves) = n in omega arith)
dearer (c ∷ curves) (x ∷ xs) (y ∷ ys) shapes m n up below =
    let here : (point_at c x).cost ≤ (point_at c y).cost = costs_up c (shapes zero (omega arith)).chain x y (up zero (omega arith)) (below zero (omega arith)) in
    let rest : cost_of (picked curves xs) ≤ cost_of (picked curves ys) = dearer curves xs ys (λ f l. shapes (suc f) (omega (arith, l)))
    (let l : suc (length xs) ≡ suc (length curves) = m in omega arith) (let l : suc (length ys) ≡ suc (length curves) = n in omega arith)
    (λ f l. up (suc f) (omega (arith, l))) (λ f l. below (suc f) (omega (arith, l))) in
    omega (arith, here, rest)

-- a step that is taken, and the first of a family that isn't
taken_step : (curves : List (List Point)) (picks : List ℕ) → IsPrefix curves picks → (f k : ℕ) → f < length curves → k < slice_index picks f → HasStep curves f k
taken_step curves picks pre f k b l = record { family = b; place = (let m = pre.vertices.below f b in omega (arith, l, m)) }

-- two prefixes don't cross
pub not_crossed : (curves : List (List Point)) (xs ys : List ℕ) → IsPrefix curves xs → IsPrefix curves ys → (f g : ℕ) → f < length curves → g < length curves → slice_index xs f < slice_index ys f → slice_index ys g < slice_index xs g → ⊥
not_crossed curves xs ys a b f g fb gb l m =
    let sf : HasStep curves f (slice_index xs f) = taken_step curves ys b f (slice_index xs f) fb l in
    let sg : HasStep curves g (slice_index ys g) = taken_step curves xs a g (slice_index ys g) gb m in
    not_both curves g (slice_index ys g) f (slice_index xs f)
    (a.before g (slice_index ys g) f (slice_index xs f) sg sf m (omega arith))
    (b.before f (slice_index xs f) g (slice_index ys g) sf sg l (omega arith))

module _ (curves : List (List Point)) (budget : ℕ) (shapes : HaveShapes curves) where
  -- past the critical step no prefix fits
  past : (xs ys : List ℕ) → IsPrefix curves xs → IsPrefix curves ys → cost_of (picked curves ys) ≤ budget → ((f : ℕ) → f < length curves → slice_index xs f ≤ slice_index ys f)
      → (c : ℕ) → IsNext curves xs c → budget < cost_of (picked curves xs) + rise curves c (slice_index xs c) → slice_index xs c < slice_index ys c → ⊥
  past xs ys a b fits up c next over l =
      let fam = next.step.family in
      let count = a.vertices.count in
      let more = cost_taken curves xs c fam count (cost_rises curves c (slice_index xs c) (shapes c fam).chain next.step) in
      let at_own : slice_index (set xs c (slice_index xs c + 1)) c ≡ slice_index xs c + 1 = get_or-set_same xs c (slice_index xs c + 1) 0 (omega (arith, fam, count)) in
      let low : cost_of (picked curves (set xs c (slice_index xs c + 1))) ≤ cost_of (picked curves ys) = dearer curves (set xs c (slice_index xs c + 1)) ys shapes (length-set xs c (slice_index xs c + 1) ∙ count) b.vertices.count
      (λ f fb. elim (cases_eq f c) [
        | inl e ↦ subst (λ z. slice_index (set xs c (slice_index xs c + 1)) z ≤ slice_index ys z) (sym e) (omega (arith, at_own, l))
        | inr n ↦ subst (λ z. z ≤ slice_index ys f) (sym (get_or-set_other xs c f (slice_index xs c + 1) 0 n)) (up f fb)
      ]) b.vertices.below in
      omega (arith, more, low, over, fits)

  -- no prefix that fits goes further than the choice
  not_less : (xs ys : List ℕ) (cost : ℕ) (price : Price) (critical : Option Critical) → IsHullChoice curves budget (told xs cost price critical) → IsPrefix curves ys → cost_of (picked curves ys) ≤ budget → (f : ℕ) → f < length curves → slice_index xs f < slice_index ys f → ⊥
  not_less xs ys cost price None h b fits f fb l =
      let e = h.stops.0 f fb in let m = b.vertices.below f fb in absurd (omega (arith, e, l, m))
  not_less xs ys cost price (Some c) h b fits f fb l =
      let next = h.stops.0 in
      let over = h.stops.4 in
      let e = h.cost_is in
      let passes : budget < cost_of (picked curves xs) + rise curves c.family (slice_index xs c.family) = omega (arith, e, over) in
      elim (less_or ys xs (length curves)) [
        | inl r ↦ not_crossed curves xs ys h.prefix b f r.at fb r.below l r.less
        | inr up ↦ elim (cases_lt (slice_index xs c.family) (slice_index ys c.family)) [
          | inl m ↦ past xs ys h.prefix b fits up c.family next passes m
          | inr m ↦ behind c.family next m
        ]
      ]
    where
      -- where ys stops before the critical step of xs, but goes further elsewhere
      behind : (c : ℕ) → IsNext curves xs c → slice_index ys c ≤ slice_index xs c → ⊥
      behind c next m =
          let sf : HasStep curves f (slice_index xs f) = taken_step curves ys b f (slice_index xs f) fb l in
          elim (next.first f (slice_index xs f) sf (omega arith)) [
            | inl e ↦ (let z : slice_index ys f ≤ slice_index xs f = subst (λ z. slice_index ys z ≤ slice_index xs z) (sym e.0) m in omega (arith, z, l))
            | inr i ↦ not_both curves c (slice_index xs c) f (slice_index xs f) i (b.before f (slice_index xs f) c (slice_index xs c) sf next.step l m)
          ]

  same_picks : (xs ys : List ℕ) (cost other_cost : ℕ) (price other_price : Price) (critical other_critical : Option Critical) → IsHullChoice curves budget (told xs cost price critical) → IsHullChoice curves budget (told ys other_cost other_price other_critical) → xs ≡ ys
  same_picks xs ys cost other_cost price other_price critical other_critical h k =
      let fit = h.fits in let is = h.cost_is in
      let other_fit = k.fits in let other_is = k.cost_is in
      ext_get_or 0 xs ys (h.prefix.vertices.count ∙ sym k.prefix.vertices.count) (λ f b.
      let fb : f < length curves = (let n = h.prefix.vertices.count in omega (arith, n, b)) in
      level (slice_index xs f) (slice_index ys f)
      (not_less xs ys cost price critical h k.prefix (omega (arith, other_fit, other_is)) f fb)
      (not_less ys xs other_cost other_price other_critical k h.prefix (omega (arith, fit, is)) f fb))
    where
      level : (a b : ℕ) → (a < b → ⊥) → (b < a → ⊥) → a ≡ b
      level a b n m = elim (cases_lt a b) [
        | inl l ↦ absurd (n l)
        | inr l ↦ elim (cases_lt b a) [ inl i ↦ absurd (m i) | inr i ↦ omega (arith, l, i) ]
      ]

  same_prices : (a b : Price) → a.p ≡ b.p → a.q ≡ b.q → a ≡ b
  same_prices a b h k =
      let one : a ≡ record { p = b.p; q = a.q } = ap (λ x. let r : Price = record { p = x; q = a.q } in r) h in
      one ∙ ap (λ x. let r : Price = record { p = b.p; q = x } in r) k

  same_criticals : (a b : Critical) → a.family ≡ b.family → a.vertex ≡ b.vertex → a ≡ b
  same_criticals a b h k =
      let one : a ≡ record { family = b.family; vertex = a.vertex } = ap (λ x. let r : Critical = record { family = x; vertex = a.vertex } in r) h in
      one ∙ ap (λ x. let r : Critical = record { family = b.family; vertex = x } in r) k

  -- at the same picks they stop alike
  same_stops : (xs : List ℕ) (cost other_cost : ℕ) (price other_price : Price) (critical other_critical : Option Critical) → IsHullChoice curves budget (told xs cost price critical) → IsHullChoice curves budget (told xs other_cost other_price other_critical)
      → (price ≡ other_price) × (critical ≡ other_critical)
  same_stops xs cost other_cost price other_price None None h k = (same_prices price other_price (h.stops.1 ∙ sym k.stops.1) (h.stops.2 ∙ sym k.stops.2), refl)
  same_stops xs cost other_cost price other_price None (Some d) h k =
      absurd (let s = k.stops.0.step in let e = h.stops.0 d.family s.family in let p = s.place in omega (arith, e, p))
  same_stops xs cost other_cost price other_price (Some c) None h k =
      absurd (let s = h.stops.0.step in let e = k.stops.0 c.family s.family in let p = s.place in omega (arith, e, p))
  same_stops xs cost other_cost price other_price (Some c) (Some d) h k =
      let e : c.family ≡ d.family = one_next curves xs c.family d.family h.stops.0 k.stops.0 in (
        same_prices price other_price
            (h.stops.2 ∙ ap (λ z. fall curves z (slice_index xs z)) e ∙ sym k.stops.2)
            (h.stops.3 ∙ ap (λ z. rise curves z (slice_index xs z)) e ∙ sym k.stops.3),
        ap Some (same_criticals c d e (h.stops.1 ∙ ap (λ z. slice_index xs z + 1) e ∙ sym k.stops.1)),
      )

  -- two hull choices of the same curves under the same budget are one
  pub choices_are_one : (xs ys : List ℕ) (cost other_cost : ℕ) (price other_price : Price) (critical other_critical : Option Critical) → IsHullChoice curves budget (told xs cost price critical) → IsHullChoice curves budget (told ys other_cost other_price other_critical)
      → told xs cost price critical ≡ told ys other_cost other_price other_critical
  choices_are_one xs ys cost other_cost price other_price critical other_critical h k =
      let e : xs ≡ ys = same_picks xs ys cost other_cost price other_price critical other_critical h k in
      let s = same_stops xs cost other_cost price other_price critical other_critical h (subst (λ z. IsHullChoice curves budget (told z other_cost other_price other_critical)) (sym e) k) in
      let costs : cost ≡ other_cost = h.cost_is ∙ ap (λ z. cost_of (picked curves z)) e ∙ sym k.cost_is in
      ap (λ z. told z cost price critical) e ∙ ap (λ z. told ys z price critical) costs ∙ ap (λ z. told ys other_cost z critical) s.0 ∙ ap (λ z. told ys other_cost other_price z) s.1
