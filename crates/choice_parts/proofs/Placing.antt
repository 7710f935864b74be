-- Where a part stands in its curve.
use Rattle.std.proofs.Common.{◌≡◌, ℕ, zero, suc, ◌+◌, ◌-◌, ◌*◌, ◌<◌, ◌≤◌, List, [], ◌∷◌, ◌++◌, length, slice_index, refl, sym, ap, ◌∙◌, subst, arith, append_assoc, length-append}
use Rattle.hull.specs.declared.point.Point.{Point}
use Rattle.hull.specs.declared.price.Price.{Price}
use Rattle.hull.specs.Curves.{point_at}
use Rattle.step_walk.specs.Prefix.{curve_at}
use Rattle.step_walk.specs.Steep.{fall_at, rise_at}
use Rattle.curve_parts.specs.Cuts.{AreBetween, AreFlatter, AreSteeper, IsCutOf}

-- ---- places of two lists together

-- up to the first list's length stand its own
pub at_left : (xs ys : List Point) (k : ℕ) → k < length xs → point_at (xs ++ ys) k ≡ point_at xs k
at_left [] ys k h = absurd (omega (arith, h))
at_left (x ∷ xs) ys zero h = refl
at_left (x ∷ xs) ys (suc k) h = at_left xs ys k (omega (arith, h))

-- from the first list's length on stand those of the second
pub at_right : (xs ys : List Point) (k j : ℕ) → j ≡ length xs + k → point_at (xs ++ ys) j ≡ point_at ys k
at_right [] ys k j e = ap (point_at ys) (omega (arith, e))
at_right (x ∷ xs) ys k zero e = absurd (omega (arith, e))
at_right (x ∷ xs) ys k (suc j) e = at_right xs ys k j (omega (arith, e))

-- ---- steps at a place

-- from v to w the lower end falls more per money than the price, and so on
abbrev pub Falls : Price → Point → Point → Type 0
Falls price v w = price.p * (w.cost - v.cost) < (v.lo - w.lo) * price.q

abbrev pub FallsLess : Price → Point → Point → Type 0
FallsLess price v w = (v.lo - w.lo) * price.q < price.p * (w.cost - v.cost)

abbrev pub FallsBetween : Price → Price → Point → Point → Type 0
FallsBetween low high v w = (low.p * (w.cost - v.cost) ≤ (v.lo - w.lo) * low.q)
    × ((v.lo - w.lo) * high.q ≤ high.p * (w.cost - v.cost))

steep_at : (high : Price) (l : List Point) (k : ℕ) → AreSteeper high l → suc k < length l → Falls high (point_at l k) (point_at l (suc k))
steep_at high [] k a h = absurd (omega (arith, h))
steep_at high (v ∷ []) k a h = absurd (omega (arith, h))
steep_at high (v ∷ w ∷ l) zero a h = a.0
steep_at high (v ∷ w ∷ l) (suc k) a h = steep_at high (w ∷ l) k a.1 (omega (arith, h))

flat_at : (low : Price) (l : List Point) (k : ℕ) → AreFlatter low l → suc k < length l → FallsLess low (point_at l k) (point_at l (suc k))
flat_at low [] k a h = absurd (omega (arith, h))
flat_at low (v ∷ []) k a h = absurd (omega (arith, h))
flat_at low (v ∷ w ∷ l) zero a h = a.0
flat_at low (v ∷ w ∷ l) (suc k) a h = flat_at low (w ∷ l) k a.1 (omega (arith, h))

between_at : (low high : Price) (l : List Point) (k : ℕ) → AreBetween low high l → suc k < length l → FallsBetween low high (point_at l k) (point_at l (suc k))
between_at low high [] k a h = absurd (omega (arith, h))
between_at low high (v ∷ []) k a h = absurd (omega (arith, h))
between_at low high (v ∷ w ∷ l) zero a h = (a.0.from, a.0.to)
between_at low high (v ∷ w ∷ l) (suc k) a h = between_at low high (w ∷ l) k a.1 (omega (arith, h))

-- ---- a part of a curve

-- from this place on the part's vertices are the curve's; the steps before them fall more than the high price, those
-- behind them less than the low one, and theirs as much as a price between
pub record IsPlacedPart (low high : Price) (curve part : List Point) (from : ℕ) : Type 0 where
  pub within : from + length part ≤ length curve
  pub same : (k : ℕ) → k < length part → point_at part k ≡ point_at curve (from + k)
  pub before : (k : ℕ) → k + 1 < length curve → k < from → high.p * rise_at curve k < fall_at curve k * high.q
  pub behind : (k : ℕ) → k + 1 < length curve → from + length part ≤ k + 1 → fall_at curve k * low.q < low.p * rise_at curve k
  pub steeper : (k : ℕ) → k + 1 < length curve → from ≤ k → k + 1 < from + length part → low.p * rise_at curve k ≤ fall_at curve k * low.q
  pub flatter : (k : ℕ) → k + 1 < length curve → from ≤ k → k + 1 < from + length part → fall_at curve k * high.q ≤ high.p * rise_at curve k

-- a fact of two points is one of the points that they are
both : (Is : Point → Point → Type 0) (a b c d : Point) → c ≡ a → d ≡ b → Is a b → Is c d
both Is a b c d e f h = subst (λ x. Is x d) (sym e) (subst (λ y. Is a y) (sym f) h)

module _ (low high : Price) (curve part : List Point) (cut : IsCutOf low high curve part) where
  abbrev from : ℕ
  from = length cut.front

  long : length curve ≡ from + (length part + length cut.back)
  long = ap length cut.is ∙ length-append cut.front (part ++ cut.back) ∙ ap (λ n. from + n) (length-append part cut.back)

  in_part : (k : ℕ) → k < length part → point_at part k ≡ point_at curve (from + k)
  in_part k h = sym (ap (λ l. point_at l (from + k)) cut.is ∙ at_right cut.front (part ++ cut.back) k (from + k) refl ∙ at_left part cut.back k h)

  -- the curve begins with the vertices up to the part's first
  opens : curve ≡ (cut.front ++ cut.first ∷ []) ++ (cut.after ++ cut.back)
  opens = cut.is ∙ ap (λ (l : List Point). cut.front ++ (l ++ cut.back)) cut.begins ∙ sym (append_assoc cut.front (cut.first ∷ []) (cut.after ++ cut.back))

  open_long : length (cut.front ++ cut.first ∷ []) ≡ from + 1
  open_long = length-append cut.front (cut.first ∷ [])

  -- and ends with those from the part's last on
  closes : curve ≡ (cut.front ++ cut.before) ++ (cut.last ∷ cut.back)
  closes = cut.is ∙ ap (λ (l : List Point). cut.front ++ (l ++ cut.back)) cut.ends ∙ ap (λ (l : List Point). cut.front ++ l) (append_assoc cut.before (cut.last ∷ []) cut.back)
      ∙ sym (append_assoc cut.front cut.before (cut.last ∷ cut.back))

  close_long : length (cut.front ++ cut.before) + 1 ≡ from + length part
  close_long =
      let a = length-append cut.front cut.before in
      let b = ap length cut.ends ∙ length-append cut.before (cut.last ∷ []) in
      omega (arith, a, b)

  steep : (k : ℕ) → k + 1 < length curve → k < from → Falls high (point_at curve k) (point_at curve (k + 1))
  steep k b l =
      let n = open_long in
      let short : suc k < length (cut.front ++ cut.first ∷ []) = omega (arith, n, l) in
      let step = steep_at high (cut.front ++ cut.first ∷ []) k cut.steeper short in
      let next : k + 1 ≡ suc k = omega arith in
      both (Falls high) (point_at (cut.front ++ cut.first ∷ []) k) (point_at (cut.front ++ cut.first ∷ []) (suc k)) (point_at curve k) (point_at curve (k + 1))
      (ap (λ l. point_at l k) opens ∙ at_left (cut.front ++ cut.first ∷ []) (cut.after ++ cut.back) k (omega (arith, short)))
      (ap (point_at curve) next ∙ ap (λ l. point_at l (suc k)) opens ∙ at_left (cut.front ++ cut.first ∷ []) (cut.after ++ cut.back) (suc k) short)
      step

  flat : (k : ℕ) → k + 1 < length curve → from + length part ≤ k + 1 → FallsLess low (point_at curve k) (point_at curve (k + 1))
  flat k b l =
      let n = close_long in
      let m = long in
      let p = ap length cut.ends ∙ length-append cut.before (cut.last ∷ []) in
      let j = k - length (cut.front ++ cut.before) in
      let here : k ≡ length (cut.front ++ cut.before) + j = omega (arith, n, l) in
      let there : k + 1 ≡ length (cut.front ++ cut.before) + suc j = omega (arith, n, l) in
      let short : suc j < length (cut.last ∷ cut.back) = omega (arith, n, m, l, b, here) in
      let step = flat_at low (cut.last ∷ cut.back) j cut.flatter short in
      both (FallsLess low) (point_at (cut.last ∷ cut.back) j) (point_at (cut.last ∷ cut.back) (suc j)) (point_at curve k) (point_at curve (k + 1))
      (ap (λ l. point_at l k) closes ∙ at_right (cut.front ++ cut.before) (cut.last ∷ cut.back) j k here)
      (ap (λ l. point_at l (k + 1)) closes ∙ at_right (cut.front ++ cut.before) (cut.last ∷ cut.back) (suc j) (k + 1) there)
      step

  between : (k : ℕ) → from ≤ k → k + 1 < from + length part → FallsBetween low high (point_at curve k) (point_at curve (k + 1))
  between k a l =
      let j = k - from in
      let short : suc j < length part = omega (arith, a, l) in
      let here : from + j ≡ k = omega (arith, a) in
      let there : from + suc j ≡ k + 1 = omega (arith, a) in
      both (FallsBetween low high) (point_at part j) (point_at part (suc j)) (point_at curve k) (point_at curve (k + 1))
      (sym (in_part j (omega (arith, short)) ∙ ap (point_at curve) here)) (sym (in_part (suc j) short ∙ ap (point_at curve) there))
      (between_at low high part j cut.steps short)

  -- a part that is cut of a curve stands in it at a place
  pub cut_placed : IsPlacedPart low high curve part (length cut.front)
  cut_placed = record {
    within = (let n = long in omega (arith, n));
    same = in_part;
    before = steep;
    behind = flat;
    steeper = λ k b a l. (between k a l).0;
    flatter = λ k b a l. (between k a l).1;
  }

-- ---- all parts

-- the place of each part in its curve
pub record HasPlaces (low high : Price) (curves parts : List (List Point)) : Type 0 where
  pub froms : List ℕ
  pub count : length froms ≡ length curves
  pub each : (f : ℕ) → f < length curves → IsPlacedPart low high (curve_at curves f) (curve_at parts f) (slice_index froms f)

one_more : (low high : Price) (c p : List Point) (cs ps : List (List Point)) (a : ℕ) (froms : List ℕ) → IsPlacedPart low high c p a
    → ((f : ℕ) → f < length cs → IsPlacedPart low high (curve_at cs f) (curve_at ps f) (slice_index froms f))
    → (f : ℕ) → f < length (c ∷ cs) → IsPlacedPart low high (curve_at (c ∷ cs) f) (curve_at (p ∷ ps) f) (slice_index (a ∷ froms) f)
one_more low high c p cs ps a froms here rest zero b = here
one_more low high c p cs ps a froms here rest (suc f) b = rest f (omega (arith, b))

-- parts that are cut of curves stand in them
pub places : (low high : Price) (curves parts : List (List Point)) → length parts ≡ length curves
    → ((f : ℕ) → f < length curves → IsCutOf low high (curve_at curves f) (curve_at parts f)) → HasPlaces low high curves parts
places low high [] parts n cut = record { froms = []; count = refl; each = λ f b. absurd (omega (arith, b)) }
places low high (c ∷ cs) [] n cut = absurd (omega (arith, n))
places low high (c ∷ cs) (p ∷ ps) n cut =
    let first : IsCutOf low high c p = cut 0 (omega arith) in
    let rest : HasPlaces low high cs ps = places low high cs ps (omega (arith, n)) (λ f b. cut (suc f) (omega (arith, b))) in
    record {
      froms = length first.front ∷ rest.froms;
      count = (let r = rest.count in omega (arith, r));
      each = one_more low high c p cs ps (length first.front) rest.froms (cut_placed low high c p first) rest.each;
    }
