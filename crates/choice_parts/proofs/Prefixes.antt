-- Prefixes of parts.
use Rattle.std.proofs.Common.{◌≡◌, ℕ, zero, suc, ◌+◌, ◌-◌, ◌*◌, ◌<◌, ◌≤◌, ◌⊎◌, inl, inr, List, [], ◌∷◌, length, refl, sym, ap, ap₂, ◌∙◌, arith}
use Rattle.std.specs.Prelude.{slice_index}
use Rattle.std.proofs.lemmas.Bool.{cases_lt}
use Rattle.std.proofs.Math.Nat.{mul-le-mul_left, le_of_mul-le-mul_left}
use Rattle.list_laws.proofs.Public.{fraction_below, fractions_fall_on, some_of_less}
use Rattle.hull.specs.declared.point.Point.{Point}
use Rattle.hull.specs.declared.price.Price.{Price}
use Rattle.hull.specs.Curves.{point_at}
use Rattle.step_walk.specs.Prefix.{AreVertices, HasStep, IsBefore, IsNext, IsPrefix, curve_at, fall, picked, rise, vertex_at}
use Rattle.choice_parts.specs.Parts.{AreParts, IsNextOfAll, shifted}
use Rattle.choice_parts.specs.Laws.{PartsHaveNext, PartsHavePicks, PartsHavePrefixes}

shifted_count : (froms picks : List ℕ) → length froms ≡ length picks → length (shifted froms picks) ≡ length froms
shifted_count [] picks e = refl
shifted_count (a ∷ froms) [] e = absurd (omega (arith, e))
shifted_count (a ∷ froms) (k ∷ picks) e = let r = shifted_count froms picks (omega (arith, e)) in omega (arith, r)

shifted_at : (froms picks : List ℕ) (f : ℕ) → length froms ≡ length picks → f < length froms → slice_index (shifted froms picks) f ≡ slice_index froms f + slice_index picks f
shifted_at [] picks f e h = absurd (omega (arith, h))
shifted_at (a ∷ froms) [] f e h = absurd (omega (arith, e))
shifted_at (a ∷ froms) (k ∷ picks) zero e h = refl
shifted_at (a ∷ froms) (k ∷ picks) (suc f) e h = shifted_at froms picks f (omega (arith, e)) (omega (arith, h))

-- more than the high price is at least the low one
above : (ph qh pl ql ff rf : ℕ) → pl * qh ≤ ph * ql → ph * rf < ff * qh → pl * rf ≤ ff * ql
above ph qh pl ql ff rf w a =
    let x : rf * (pl * qh) ≤ rf * (ph * ql) = mul-le-mul_left rf w in
    let y : ql * (ph * rf) ≤ ql * (ff * qh) = mul-le-mul_left ql (omega (arith, a)) in
    le_of_mul-le-mul_left (let z : qh * (pl * rf) ≤ qh * (ff * ql) = omega (arith, x, y) in z) (some_of_less (ph * rf) ff qh a)

module _ (low high : Price) (curves parts : List (List Point)) (froms picks : List ℕ) (are : AreParts low high curves parts froms) (is : IsPrefix parts picks) where
  counts : length froms ≡ length picks
  counts = are.froms_count ∙ sym are.count ∙ sym is.vertices.count

  at : (f : ℕ) → f < length curves → slice_index (shifted froms picks) f ≡ slice_index froms f + slice_index picks f
  at f h = shifted_at froms picks f counts (omega (arith, h, are.froms_count))

  vertices : AreVertices curves (shifted froms picks)
  vertices = record {
    count = shifted_count froms picks counts ∙ are.froms_count;
    below = λ f h. (let a = at f h in let b = is.vertices.below f (omega (arith, h, are.count)) in let c = are.within f h in omega (arith, a, b, c));
  }

  -- a step of a part is that of the curve
  same_fall : (f k : ℕ) → f < length curves → k + 1 < length (curve_at parts f) → fall parts f k ≡ fall curves f (slice_index froms f + k)
  same_fall f k h m =
      let e : slice_index froms f + (k + 1) ≡ slice_index froms f + k + 1 = omega arith in
      ap₂ (λ (v u : Point). v.lo - u.lo) (are.same f k h (omega (arith, m))) (are.same f (k + 1) h m ∙ ap (vertex_at curves f) e)

  same_rise : (f k : ℕ) → f < length curves → k + 1 < length (curve_at parts f) → rise parts f k ≡ rise curves f (slice_index froms f + k)
  same_rise f k h m =
      let e : slice_index froms f + (k + 1) ≡ slice_index froms f + k + 1 = omega arith in
      ap₂ (λ (v u : Point). u.cost - v.cost) (are.same f k h (omega (arith, m))) (are.same f (k + 1) h m ∙ ap (vertex_at curves f) e)

  inside : (f k g j : ℕ) → HasStep curves f k → HasStep curves g j → slice_index froms f ≤ k → k + 1 < slice_index froms f + length (curve_at parts f)
      → slice_index froms g ≤ j → j + 1 < slice_index froms g + length (curve_at parts g)
      → k < slice_index froms f + slice_index picks f → slice_index froms g + slice_index picks g ≤ j → IsBefore curves f k g j
  inside f k g j hf hg a b c d t n =
      let k2 = k - slice_index froms f in
      let j2 = j - slice_index froms g in
      let ek : slice_index froms f + k2 ≡ k = omega (arith, a) in
      let ej : slice_index froms g + j2 ≡ j = omega (arith, c) in
      let sf : HasStep parts f k2 = record { family = (let h = hf.family in omega (arith, h, are.count)); place = omega (arith, a, b) } in
      let sg : HasStep parts g j2 = record { family = (let h = hg.family in omega (arith, h, are.count)); place = omega (arith, c, d) } in
      let ff : fall parts f k2 ≡ fall curves f k = same_fall f k2 hf.family sf.place ∙ ap (fall curves f) ek in
      let rf : rise parts f k2 ≡ rise curves f k = same_rise f k2 hf.family sf.place ∙ ap (rise curves f) ek in
      let fg : fall parts g j2 ≡ fall curves g j = same_fall g j2 hg.family sg.place ∙ ap (fall curves g) ej in
      let rg : rise parts g j2 ≡ rise curves g j = same_rise g j2 hg.family sg.place ∙ ap (rise curves g) ej in
      let left : fall parts g j2 * rise parts f k2 ≡ fall curves g j * rise curves f k = ap₂ (λ x y. x * y) fg rf in
      let right : fall parts f k2 * rise parts g j2 ≡ fall curves f k * rise curves g j = ap₂ (λ x y. x * y) ff rg in
      elim (is.before f k2 g j2 sf sg (omega (arith, a, t)) (omega (arith, c, n))) [
        | inl l ↦ inl (omega (arith, l, left, right))
        | inr e ↦ inr (
          (let i = e.0 in omega (arith, i, left, right)),
          elim e.1 [
            | inl l ↦ inl l
            | inr s ↦ inr (s.0, (let o : slice_index froms f ≡ slice_index froms g = ap (slice_index froms) s.0 in let l = s.1 in omega (arith, o, l, a, c)))
          ],
        )
      ]

  ordered : (f k g j : ℕ) → HasStep curves f k → HasStep curves g j → k < slice_index (shifted froms picks) f → slice_index (shifted froms picks) g ≤ j → IsBefore curves f k g j
  ordered f k g j hf hg t n =
      let af = at f hf.family in
      let ag = at g hg.family in
      let bf = is.vertices.below f (let h = hf.family in omega (arith, h, are.count)) in
      let rf = are.rises f k hf in
      let rg = are.rises g j hg in
      let last : k + 1 < slice_index froms f + length (curve_at parts f) = omega (arith, t, af, bf) in
      let from : slice_index froms g ≤ j = omega (arith, n, ag) in
      elim (cases_lt k (slice_index froms f)) [
        | inl early ↦ (let s = are.before f k hf early in elim (cases_lt (j + 1) (slice_index froms g + length (curve_at parts g))) [
          | inl d ↦ inl (fraction_below high.p high.q (fall curves g j) (rise curves g j) (fall curves f k) (rise curves f k) (are.flatter g j hg from d) s rg)
          | inr late ↦ inl (fractions_fall_on (fall curves f k) (rise curves f k) low.p low.q (fall curves g j) (rise curves g j) (are.behind g j hg late) (above high.p high.q low.p low.q (fall curves f k) (rise curves f k) are.order s) rf)
        ])
        | inr a ↦ elim (cases_lt (j + 1) (slice_index froms g + length (curve_at parts g))) [
          | inl d ↦ inside f k g j hf hg a last from d (omega (arith, t, af)) (omega (arith, n, ag))
          | inr late ↦ inl (fractions_fall_on (fall curves f k) (rise curves f k) low.p low.q (fall curves g j) (rise curves g j) (are.behind g j hg late) (are.steeper f k hf a last) rf)
        ]
      ]

  -- the step at a pick that isn't a part's last is that of the curve
  module _ (f : ℕ) (n : IsNext parts picks f) where
    in_curves : f < length curves
    in_curves = (let h = n.step.family in omega (arith, h, are.count))

    own_place : slice_index (shifted froms picks) f ≡ slice_index froms f + slice_index picks f
    own_place = at f in_curves

    own_fall : fall parts f (slice_index picks f) ≡ fall curves f (slice_index (shifted froms picks) f)
    own_fall = same_fall f (slice_index picks f) in_curves n.step.place ∙ ap (fall curves f) (sym own_place)

    own_rise : rise parts f (slice_index picks f) ≡ rise curves f (slice_index (shifted froms picks) f)
    own_rise = same_rise f (slice_index picks f) in_curves n.step.place ∙ ap (rise curves f) (sym own_place)

    own_step : HasStep curves f (slice_index (shifted froms picks) f)
    own_step = record { family = in_curves; place = (let p = n.step.place in let a = are.within f in_curves in omega (arith, own_place, p, a)) }

    own_first : (g j : ℕ) → HasStep curves g j → slice_index (shifted froms picks) g ≤ j
        → ((g ≡ f) × (j ≡ slice_index (shifted froms picks) f)) ⊎ IsBefore curves f (slice_index (shifted froms picks) f) g j
    own_first g j hg l =
        let k = slice_index (shifted froms picks) f in
        let ag = at g hg.family in
        let from : slice_index froms g ≤ j = omega (arith, l, ag) in
        let p = n.step.place in
        elim (cases_lt (j + 1) (slice_index froms g + length (curve_at parts g))) [
          | inl d ↦
              let j2 = j - slice_index froms g in
              let ej : slice_index froms g + j2 ≡ j = omega (arith, from) in
              let sg : HasStep parts g j2 = record { family = (let h = hg.family in omega (arith, h, are.count)); place = omega (arith, from, d) } in
              let fg : fall parts g j2 ≡ fall curves g j = same_fall g j2 hg.family sg.place ∙ ap (fall curves g) ej in
              let rg : rise parts g j2 ≡ rise curves g j = same_rise g j2 hg.family sg.place ∙ ap (rise curves g) ej in
              let left : fall parts g j2 * rise parts f (slice_index picks f) ≡ fall curves g j * rise curves f k = ap₂ (λ x y. x * y) fg own_rise in
              let right : fall parts f (slice_index picks f) * rise parts g j2 ≡ fall curves f k * rise curves g j = ap₂ (λ x y. x * y) own_fall rg in
              elim (n.first g j2 sg (omega (arith, from, l, ag))) [
                | inl e ↦ inl (e.0, (let o : slice_index froms g ≡ slice_index froms f = ap (slice_index froms) e.0 in let i = e.1 in omega (arith, o, i, from, own_place)))
                | inr b ↦ inr (elim b [
                  | inl z ↦ inl (omega (arith, z, left, right))
                  | inr e ↦ inr (
                    (let i = e.0 in omega (arith, i, left, right)),
                    elim e.1 [
                      | inl z ↦ inl z
                      | inr s ↦ inr (s.0, (let o : slice_index froms f ≡ slice_index froms g = ap (slice_index froms) s.0 in let z = s.1 in omega (arith, o, z, from, own_place)))
                    ],
                  )
                ])
              ]
          | inr late ↦ inr (inl (fractions_fall_on (fall curves f k) (rise curves f k) low.p low.q (fall curves g j) (rise curves g j) (are.behind g j hg late) (are.steeper f k own_step (omega (arith, own_place)) (omega (arith, own_place, p))) (are.rises f k own_step)))
        ]

    own_next : IsNextOfAll curves parts froms picks f
    own_next = record { next = record { step = own_step; first = own_first }; place = own_place; fall_is = own_fall; rise_is = own_rise }

-- the next step of the parts is the next of all
pub nexts : PartsHaveNext
nexts low high curves parts froms picks f are is n = own_next low high curves parts froms picks are is f n

same_picked : (curves parts : List (List Point)) (froms picks : List ℕ) → length parts ≡ length curves → length froms ≡ length curves → length picks ≡ length curves
    → ((f : ℕ) → f < length curves → vertex_at parts f (slice_index picks f) ≡ vertex_at curves f (slice_index froms f + slice_index picks f))
    → picked curves (shifted froms picks) ≡ picked parts picks
same_picked [] [] froms picks a b c h = refl
same_picked [] (p ∷ ps) froms picks a b c h = absurd (omega (arith, a))
same_picked (x ∷ xs) [] froms picks a b c h = absurd (omega (arith, a))
same_picked (x ∷ xs) (p ∷ ps) [] picks a b c h = absurd (omega (arith, b))
same_picked (x ∷ xs) (p ∷ ps) (n ∷ froms) [] a b c h = absurd (omega (arith, c))
same_picked (x ∷ xs) (p ∷ ps) (n ∷ froms) (k ∷ picks) a b c h =
    let first : point_at p k ≡ point_at x (n + k) = h 0 (omega arith) in
    ap₂ (λ (v : Point) (vs : List Point). v ∷ vs) (sym first)
    (same_picked xs ps froms picks (omega (arith, a)) (omega (arith, b)) (omega (arith, c)) (λ f l. h (suc f) (omega (arith, l))))

-- the vertices at the picks are the same
pub picks_same : PartsHavePicks
picks_same low high curves parts froms picks are is =
    same_picked curves parts froms picks are.count are.froms_count (is.vertices.count ∙ are.count)
    (λ f h. are.same f (slice_index picks f) h (is.vertices.below f (omega (arith, h, are.count))))

-- a prefix of the parts' steps is one of all steps
pub prefixes : PartsHavePrefixes
prefixes low high curves parts froms picks are is = record { vertices = vertices low high curves parts froms picks are is; before = ordered low high curves parts froms picks are is }
