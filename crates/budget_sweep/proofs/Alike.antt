-- As many steps taken in order are the same ones, so a sweep is a function of its curves.
use Rattle.std.proofs.Common.{◌≡◌, ℕ, zero, suc, ◌<◌, ◌≤◌, inl, inr, List, [], ◌∷◌, Option, Some, None, length, slice_index, sum, refl, sym, ap, ap₂, ◌∙◌, subst, arith}
use Rattle.std.proofs.lemmas.List.{ext_get_or}
use Rattle.list_laws.proofs.Public.{less_or, sum_cons}
use Rattle.hull.specs.declared.point.Point.{Point}
use Rattle.hull.specs.declared.price.Price.{Price}
use Rattle.marginal_alloc.specs.declared.allocation.Critical.{Critical}
use Rattle.marginal_alloc.specs.declared.allocation.Chosen.{Chosen}
use Rattle.price_bounds.specs.Sums.{cost_of, lo_of, hi_of}
use Rattle.step_walk.specs.Prefix.{fall, rise, IsPrefix, picked, HaveShapes}
use Rattle.marginal_alloc.specs.Choice.{IsHullChoice, StopsWith}
use Rattle.marginal_alloc.proofs.Public.{told, not_crossed}
use Rattle.step_walk.proofs.Public.{one_next}
use Rattle.budget_sweep.specs.declared.report.SweepPoint.{SweepPoint}
use Rattle.budget_sweep.specs.Sweep.{TellsPrice, IsStateAt, IsState, IsSweep, no_state, state_at}
use Rattle.budget_sweep.specs.Choices.{IsPriceOf, IsChoiceAt, IsStateOf}
use Rattle.budget_sweep.proofs.StatesOf.{IsPriced, end_price, at_end, at_step, room_left}

-- ---- as many steps

sum_up : (xs ys : List ℕ) → length xs ≡ length ys → ((f : ℕ) → f < length ys → slice_index xs f ≤ slice_index ys f)
    → sum xs ≤ sum ys
sum_up [] [] n h = omega arith
sum_up [] (y ∷ ys) n h = absurd (let l : 0 ≡ suc (length ys) = n in omega arith)
sum_up (x ∷ xs) [] n h = absurd (let l : suc (length xs) ≡ 0 = n in omega arith)
sum_up (x ∷ xs) (y ∷ ys) n h =
    let a : x ≤ y = h zero (omega arith) in
    let b = sum_up xs ys (let l : suc (length xs) ≡ suc (length ys) = n in omega arith)
    (λ f l. h (suc f) (omega arith)) in
    omega (arith, a, b, sum_cons x xs, sum_cons y ys)

same_sum : (xs ys : List ℕ) → length xs ≡ length ys → ((f : ℕ) → f < length ys → slice_index xs f ≤ slice_index ys f)
    → sum xs ≡ sum ys → xs ≡ ys
same_sum [] [] n h e = refl
same_sum [] (y ∷ ys) n h e = absurd (let l : 0 ≡ suc (length ys) = n in omega arith)
same_sum (x ∷ xs) [] n h e = absurd (let l : suc (length xs) ≡ 0 = n in omega arith)
same_sum (x ∷ xs) (y ∷ ys) n h e =
    let m : length xs ≡ length ys = (let l : suc (length xs) ≡ suc (length ys) = n in omega arith) in
    let a : x ≤ y = h zero (omega arith) in
    let b = sum_up xs ys m (λ f l. h (suc f) (omega arith)) in
    let c = sum_cons x xs in
    let d = sum_cons y ys in
    let first : x ≡ y = omega (arith, a, b, c, d, e) in
    ap₂ (λ (z : ℕ) (zs : List ℕ). z ∷ zs) first
    (same_sum xs ys m (λ f l. h (suc f) (omega arith)) (omega (arith, c, d, e, first)))

pub same_count : (curves : List (List Point)) (xs ys : List ℕ) → IsPrefix curves xs → IsPrefix curves ys
    → sum xs ≡ sum ys → xs ≡ ys
same_count curves xs ys a b e =
    let m = a.vertices.count in
    let n = b.vertices.count in
    elim (less_or ys xs (length curves)) [
      | inr h ↦ same_sum xs ys (m ∙ sym n) (λ f l. h f (omega (arith, l, n))) e
      | inl r ↦ elim (less_or xs ys (length curves)) [
        | inr h ↦ sym (same_sum ys xs (n ∙ sym m) (λ f l. h f (omega (arith, l, m))) (sym e))
        | inl s ↦ absurd (not_crossed curves xs ys a b s.at r.at s.below r.below s.less r.less)
      ]
    ]

-- ---- the same states

same_prices : (a b : Price) → a.p ≡ b.p → a.q ≡ b.q → a ≡ b
same_prices a b h k = ap₂ (λ (x : ℕ) (y : ℕ). let r : Price = record { p = x; q = y } in r) h k

one_price : (curves : List (List Point)) (picks : List ℕ) (a b : Option Price) → TellsPrice curves picks a
    → TellsPrice curves picks b → a ≡ b
one_price curves picks None None s t = refl
one_price curves picks None (Some b) s t = absurd
    (let e = s t.0 t.1.step.family in let p = t.1.step.place in omega (arith, e, p))
one_price curves picks (Some a) None s t = absurd
    (let e = t s.0 s.1.step.family in let p = s.1.step.place in omega (arith, e, p))
one_price curves picks (Some a) (Some b) s t =
    let e : s.0 ≡ t.0 = one_next curves picks s.0 t.0 s.1 t.1 in
    ap Some (same_prices a b (s.2 ∙ ap (λ z. fall curves z (slice_index picks z)) e ∙ sym t.2)
    (s.3 ∙ ap (λ z. rise curves z (slice_index picks z)) e ∙ sym t.3))

same_points : (a b : SweepPoint) → a.cost ≡ b.cost → a.lo ≡ b.lo → a.hi ≡ b.hi → a.price ≡ b.price → a ≡ b
same_points a b c l h p =
    let one : a ≡ record { cost = b.cost; lo = b.lo; hi = a.hi; price = a.price } =
    ap₂ (λ (x : ℕ) (y : ℕ). let r : SweepPoint = record { cost = x; lo = y; hi = a.hi; price = a.price } in r) c l in
    one ∙ ap₂ (λ (x : ℕ) (y : Option Price). let r : SweepPoint = record
    { cost = b.cost; lo = b.lo; hi = x; price = y } in r) h p

one_state : (curves : List (List Point)) (k : ℕ) (a b : SweepPoint) → IsState curves k a → IsState curves k b → a ≡ b
one_state curves k a b s t =
    let e : s.picks ≡ t.picks = same_count curves s.picks t.picks s.taken.prefix t.taken.prefix
    (s.taken.count ∙ sym t.taken.count) in
    same_points a b
    (s.state.cost ∙ ap (λ z. cost_of (picked curves z)) e ∙ sym t.state.cost)
    (s.state.lo ∙ ap (λ z. lo_of (picked curves z)) e ∙ sym t.state.lo)
    (s.state.hi ∙ ap (λ z. hi_of (picked curves z)) e ∙ sym t.state.hi)
    (one_price curves t.picks a.price b.price (subst (λ z. TellsPrice curves z a.price) e s.state.price) t.state.price)

-- the states of the sweep of some curves are determined: two sweeps are one
pub one_sweep : (curves : List (List Point)) (one other : List SweepPoint) → IsSweep curves one → IsSweep curves other
    → one ≡ other
one_sweep curves one other a b =
    let m = a.count in
    let n = b.count in
    ext_get_or no_state one other (m ∙ sym n)
    (λ k l. one_state curves k (state_at one k) (state_at other k) (a.each k l) (b.each k (omega (arith, l, m, n))))

-- ---- states and hull choices

at_budget : (curves : List (List Point)) (point : SweepPoint) (picks : List ℕ) (price : Price)
    → IsStateAt curves picks point → IsPriced curves picks price → IsPriceOf point.price price → IsChoiceAt curves point
at_budget curves point picks price s p is = record {
  chosen = told picks (cost_of (picked curves picks)) price p.critical;
  choice = subst (λ b. IsHullChoice curves b (told picks (cost_of (picked curves picks)) price p.critical)) (sym s.cost)
      p.choice;
  cost = sym s.cost;
  lo = sym s.lo;
  hi = sym s.hi;
  price = is;
}

choice_of : (curves : List (List Point)) (point : SweepPoint) (picks : List ℕ) (price : Option Price)
    → HaveShapes curves → IsPrefix curves picks → IsStateAt curves picks point
    → point.price ≡ price → TellsPrice curves picks price → IsChoiceAt curves point
choice_of curves point picks None shapes pre s is t =
    at_budget curves point picks end_price s (at_end curves picks pre t)
    (subst (λ z. IsPriceOf z end_price) (sym is) (refl, refl))
choice_of curves point picks (Some price) shapes pre s is t =
    at_budget curves point picks price s (at_step curves picks price shapes pre t)
    (subst (λ z. IsPriceOf z price) (sym is) refl)

-- each state of a sweep is the hull choice under its own cost
pub state_is_choice : (curves : List (List Point)) (points : List SweepPoint) (k : ℕ) → HaveShapes curves
    → IsSweep curves points → k < length points → IsChoiceAt curves (state_at points k)
state_is_choice curves points k shapes h l =
    let s : IsState curves k (state_at points k) = h.each k l in
    choice_of curves (state_at points k) s.picks (state_at points k).price shapes s.taken.prefix s.state refl
    s.state.price

price_of : (curves : List (List Point)) (budget : ℕ) (picks : List ℕ) (cost : ℕ) (price : Price)
    (critical : Option Critical) (told_price : Option Price)
    → StopsWith curves budget picks cost price critical → TellsPrice curves picks told_price
    → IsPriceOf told_price price
price_of curves budget picks cost price None None s t = (s.1, s.2)
price_of curves budget picks cost price None (Some a) s t = absurd
    (let e = s.0 t.0 t.1.step.family in let p = t.1.step.place in omega (arith, e, p))
price_of curves budget picks cost price (Some c) None s t = absurd
    (let e = t c.family s.0.step.family in let p = s.0.step.place in omega (arith, e, p))
price_of curves budget picks cost price (Some c) (Some a) s t =
    let e : c.family ≡ t.0 = one_next curves picks c.family t.0 s.0 t.1 in
    same_prices price a (s.2 ∙ ap (λ z. fall curves z (slice_index picks z)) e ∙ sym t.2)
    (s.3 ∙ ap (λ z. rise curves z (slice_index picks z)) e ∙ sym t.3)

-- the hull choice under any budget is a state of the sweep
pub choice_is_state : (curves : List (List Point)) (points : List SweepPoint) (budget : ℕ) (chosen : Chosen)
    → IsSweep curves points → IsHullChoice curves budget chosen → IsStateOf curves points chosen
choice_is_state curves points budget chosen h c =
    let v = c.prefix.vertices in
    let r = room_left curves chosen.picks v.count v.below in
    let n = h.count in
    let l : sum chosen.picks < length points = omega (arith, r, n) in
    let s : IsState curves (sum chosen.picks) (state_at points (sum chosen.picks)) = h.each (sum chosen.picks) l in
    let e : s.picks ≡ chosen.picks = same_count curves s.picks chosen.picks s.taken.prefix c.prefix s.taken.count in
    record {
      place = sum chosen.picks;
      below = l;
      cost = s.state.cost ∙ ap (λ z. cost_of (picked curves z)) e ∙ sym c.cost_is;
      lo = s.state.lo ∙ ap (λ z. lo_of (picked curves z)) e;
      hi = s.state.hi ∙ ap (λ z. hi_of (picked curves z)) e;
      price = price_of curves budget chosen.picks chosen.cost chosen.price chosen.critical
          (state_at points (sum chosen.picks)).price c.stops
          (subst (λ z. TellsPrice curves z (state_at points (sum chosen.picks)).price) e s.state.price);
    }
