-- Vertices that aren't known.
use Rattle.std.proofs.Common.{◌≡◌, ℕ, ◌+◌, ◌-◌, ◌*◌, ◌<◌, ◌≤◌, ◌⊎◌, inl, inr, List, [], ◌∷◌, length, sym, ap, ◌∙◌, subst, arith, length-append}
use Rattle.std.proofs.Math.Nat.{mul-le-mul_left, mul-lt-mul_of_pos_left, le_of_mul-le-mul_left, lt_of_mul-lt-mul_left}
use Rattle.list_laws.proofs.Public.{le_or_gt}
use Rattle.hull.specs.declared.point.Point.{Point}
use Rattle.hull.specs.declared.price.Price.{Price}
use Rattle.hull.specs.Curves.{lagrangian, Among, InRange, IsChain, IsCurve, IsLeastAt, IsVertex, Steps, nowhere, point_at}
use Rattle.hull.specs.Laws.{StocksTell}
use Rattle.hull.proofs.Public.{among_at, convex}
use Rattle.step_walk.proofs.Public.{own_step}
use Rattle.marginal_alloc.proofs.Public.{costs_up}
use Rattle.curve_parts.specs.Parts.{IsPartOf, IsPriceBetween}
use Rattle.curve_parts.specs.Cuts.{IsCutOf}
use Rattle.curve_parts.specs.Beyond.{LieBeyond, no_price}
use Rattle.curve_parts.proofs.Public.{alone_between, first_least, last_least, part_convex, part_is_cut, none_dearer}
use Rattle.choice_parts.proofs.Public.{IsPlacedPart, at_right, cut_placed}
use Rattle.part_filling.specs.Known.{HasNoBetter, IsPriceWindow}

-- ---- costs

-- along a chain a later point costs more
pub costs_rise : (c : List Point) → IsChain c → (k j : ℕ) → k < j → j < length c → (point_at c k).cost < (point_at c j).cost
costs_rise c h k j l b =
    let step : Steps (point_at c k) (point_at c (k + 1)) = own_step c h k (omega (arith, l, b)) in
    let r = step.cost in
    let more = costs_up c h (k + 1) j (omega (arith, l)) b in
    omega (arith, r, more)

-- so a cost tells a point's place
pub one_place : (c : List Point) → IsChain c → (k j : ℕ) → k < length c → j < length c → (point_at c k).cost ≡ (point_at c j).cost → k ≡ j
one_place c h k j a b e = elim (order k j) [
  | inl s ↦ s
  | inr s ↦ elim s [
    | inl l ↦ absurd (let r = costs_rise c h k j l b in omega (arith, r, e))
    | inr l ↦ absurd (let r = costs_rise c h j k l a in omega (arith, r, e))
  ]
]
  where
    order : (k j : ℕ) → (k ≡ j) ⊎ ((k < j) ⊎ (j < k))
    order k j = grind arith

-- ---- what a price says

-- v is no lower than the pick, where at the high price the first one has no larger Lagrangian and v costs less
before_first : (p q first_lo first_cost lo cost hi : ℕ) → 0 < q → q * first_lo + p * first_cost ≤ q * lo + p * cost → cost < first_cost → hi * q ≤ first_lo * q + p → hi ≤ lo
before_first p q first_lo first_cost lo cost hi some least less high =
    let x : p * (cost + 1) ≤ p * first_cost = mul-le-mul_left p (omega (arith, less)) in
    le_of_mul-le-mul_left (let z : q * hi ≤ q * lo = omega (arith, least, x, high) in z) some

-- v is lower by less than the most, where at the low price it lies as high as the number
behind_last : (p q lo cost hi room most beyond : ℕ) → beyond ≤ q * lo + p * cost → cost ≤ room → q * hi + p * room < beyond + q * most → hi < lo + most
behind_last p q lo cost hi room most beyond least fits high =
    let up : p * cost ≤ p * room = mul-le-mul_left p fits in
    let x : q * hi < q * (lo + most) = omega (arith, least, up, high) in
    lt_of_mul-lt-mul_left q x

-- a point that is alone the least at a price, and dearer than one that is least at another, has a lower price
price_below : (p q r s last_lo last_cost lo cost : ℕ) → 0 < s → s * last_lo + r * last_cost ≤ s * lo + r * cost → q * lo + p * cost < q * last_lo + p * last_cost → last_cost < cost → p * s ≤ r * q
price_below p q r s last_lo last_cost lo cost money least alone dearer = elim (le_or_gt (p * s) (r * q)) [
  | inl k ↦ k
  | inr k ↦ absurd (apart (cost - last_cost) (last_lo - lo) (omega (arith, dearer)) k)
]
  where
    apart : (d f : ℕ) → d + last_cost ≡ cost → r * q < p * s → ⊥
    apart d f up k =
        let a : p * (d + last_cost) ≡ p * cost = ap (λ n. p * n) up in
        let b : r * (d + last_cost) ≡ r * cost = ap (λ n. r * n) up in
        let falls : q * lo + p * d < q * last_lo = omega (arith, alone, a) in
        let rises : s * last_lo ≤ s * lo + r * d = omega (arith, least, b) in
        let x : s * (q * lo + p * d) < s * (q * last_lo) = mul-lt-mul_of_pos_left falls money in
        let y : q * (s * last_lo) ≤ q * (s * lo + r * d) = mul-le-mul_left q rises in
        let z : d * (r * q) ≤ d * (p * s) = mul-le-mul_left d (omega (arith, k)) in
        omega (arith, x, y, z)

-- a step isn't flatter than a price at which it would have to fall by less than 1
none_flatter : (p q fall rise : ℕ) → fall * q < p * rise → rise ≤ 1000000000000 → 0 < fall → p * 1000000000000 ≤ q → ⊥
none_flatter p q fall rise flat high some low =
    let x : p * rise ≤ p * 1000000000000 = mul-le-mul_left p high in
    let y : q * 1 ≤ q * fall = mul-le-mul_left q some in
    omega (arith, flat, x, y, low)

-- ---- one curve

-- What is known of a curve are its vertices from a place on, and no others that cost at most the room are lower than
-- the pick by the most or more.
pub record HasNothingBeside (curve known : List Point) (pick : Point) (room most from : ℕ) : Type 0 where
  pub within : from + length known ≤ length curve
  pub same : (k : ℕ) → k < length known → point_at known k ≡ point_at curve (from + k)
  pub beside : (k : ℕ) → k < length curve → (k < from) ⊎ (from + length known ≤ k) → (point_at curve k).cost ≤ room
      → (point_at curve k).hi < pick.hi → pick.hi - (point_at curve k).hi < most

module _ (low high : Price) (points curve known : List Point) (window : IsPriceWindow low high) (tell : StocksTell points) (some : 0 < length points)
    (ranges : (v : Point) → Among v points → InRange v) (is : IsCurve points curve) (of : IsPartOf low high points known)
    (beyond : ℕ) (high_behind : LieBeyond low points known beyond) where
  cut : IsCutOf low high curve known
  cut = part_is_cut low high points curve known tell some window.window is of

  chain : IsChain curve
  chain = convex points curve is

  member : (k : ℕ) → k < length curve → Among (point_at curve k) points
  member k b = is.among (point_at curve k) (among_at curve k nowhere b)

  first_is : (c : IsCutOf low high curve known) → point_at known 0 ≡ c.first
  first_is c = ap (λ l. point_at l 0) c.begins

  last_is : (c : IsCutOf low high curve known) → point_at known (length known - 1) ≡ c.last
  last_is c =
      let n = ap length c.ends ∙ length-append c.before (c.last ∷ []) in
      ap (λ l. point_at l (length known - 1)) c.ends ∙ at_right c.before (c.last ∷ []) 0 (length known - 1) (omega (arith, n))

  first_best : IsLeastAt high.p high.q points (point_at known 0)
  first_best =
      let c = cut in
      let between : IsPriceBetween low high high.p high.q = record { p_positive = window.window.steep; q_positive = window.high_money; from = window.window.order; to = omega arith } in
      subst (IsLeastAt high.p high.q points) (sym (first_is c)) (first_least low high points c.after c.first between (subst (IsPartOf low high points) c.begins of))

  last_best : IsLeastAt low.p low.q points (point_at known (length known - 1))
  last_best =
      let c = cut in
      let between : IsPriceBetween low high low.p low.q = record { p_positive = window.low_price; q_positive = window.window.money; from = omega arith; to = window.window.order } in
      subst (IsLeastAt low.p low.q points) (sym (last_is c)) (last_least low high points c.before c.last between (subst (IsPartOf low high points) c.ends of))

  known_some : (c : IsCutOf low high curve known) → 0 < length known
  known_some c = (let n = ap length c.begins in omega (arith, n))

  -- at a low price of at most 1/10^12 no step is behind a part
  nothing_behind : {from : ℕ} → IsPlacedPart low high curve known from → (k : ℕ) → k + 1 < length curve → from + length known ≤ k + 1 → low.p * 1000000000000 ≤ low.q → ⊥
  nothing_behind placed k b late end =
      let step : Steps (point_at curve k) (point_at curve (k + 1)) = own_step curve chain k b in
      let falls = step.lo in
      let top = (ranges (point_at curve (k + 1)) (member (k + 1) b)).cost in
      none_flatter low.p low.q ((point_at curve k).lo - (point_at curve (k + 1)).lo) ((point_at curve (k + 1)).cost - (point_at curve k).cost)
      (placed.behind k b late) (omega (arith, top)) (omega (arith, falls)) end

  -- in what is known none is dearer than the last
  none_behind : (v : Point) → Among v known → v.cost ≤ (point_at known (length known - 1)).cost
  none_behind v m =
      let c = cut in
      let some = known_some c in
      none_dearer known (length known - 1) (part_convex low high points known of) (omega (arith, some)) (omega (arith, some)) v m

  -- a vertex that is dearer than the last known one lies as high as the number
  lies_beyond : (k : ℕ) → k < length curve → (point_at known (length known - 1)).cost < (point_at curve k).cost → beyond ≤ lagrangian low.p low.q (point_at curve k)
  lies_beyond k b dearer =
      let w : Point = point_at curve k in
      let last : Point = point_at known (length known - 1) in
      let in_curve : Among w curve = among_at curve k nowhere b in
      let v : IsVertex points w = is.vertices w in_curve in
      let there : Among last points = of.among last (among_at known (length known - 1) nowhere (let some = known_some cut in omega (arith, some))) in
      let alone : lagrangian v.p v.q w < lagrangian v.p v.q last = elim (v.at.alone last there) [
        | inl s ↦ absurd (let e = s.cost in omega (arith, e, dearer))
        | inr l ↦ l
      ] in
      let below : v.p * low.q ≤ low.p * v.q = price_below v.p v.q low.p low.q last.lo last.cost w.lo w.cost window.window.money (last_best w (member k b)) alone dearer in
      let price : IsPriceBetween no_price low v.p v.q = record { p_positive = v.at.p_positive; q_positive = v.at.q_positive; from = omega arith; to = below } in
      elim (high_behind w (member k b) (alone_between no_price low points w v.p v.q price v.at)) [
        | inl s ↦ absurd (let e = s.2.cost in let l = none_behind s.0 s.1 in omega (arith, e, l, dearer))
        | inr l ↦ l
      ]

  -- a family whose part has no better vertex beside it is settled
  pub part_settled : (pick left most : ℕ) → pick < length known → HasNoBetter low high beyond known pick left most
      → (from : ℕ) × HasNothingBeside curve known (point_at known pick) ((point_at known pick).cost + left) most from
  part_settled pick left most b none =
      let c = cut in
      let placed : IsPlacedPart low high curve known (length c.front) = cut_placed low high curve known c in
      let from = length c.front in
      let within = placed.within in
      let k = known_some c in (
        length c.front,
        record {
          within = within;
          same = placed.same;
          beside = λ j l where_is fits lower. elim where_is [
            | inl early ↦ absurd (
                let at = ap (λ (v : Point). v.cost) (placed.same 0 k) in
                let less = costs_rise curve chain j (length c.front + 0) (omega (arith, early)) (omega (arith, within, k)) in
                let no = before_first high.p high.q (point_at known 0).lo (point_at known 0).cost (point_at curve j).lo (point_at curve j).cost (point_at known pick).hi
                window.high_money (first_best (point_at curve j) (member j l)) (omega (arith, less, at)) none.before in
                let ends = (ranges (point_at curve j) (member j l)).ends in
                omega (arith, no, ends, lower))
            | inr late ↦ (
                let at = ap (λ (v : Point). v.cost) (placed.same (length known - 1) (omega (arith, k))) in
                let more = costs_rise curve chain (length c.front + (length known - 1)) j (omega (arith, late, k)) l in
                let ends = (ranges (point_at curve j) (member j l)).ends in
                elim none.behind [
                  | inl end ↦ absurd (nothing_behind placed (length c.front + (length known - 1)) (omega (arith, late, l, k)) (omega (arith, k)) end)
                  | inr rest ↦ elim rest [
                    | inl dear ↦ absurd (omega (arith, dear, at, more, fits))
                    | inr less ↦ (
                        let far = lies_beyond j l (omega (arith, at, more)) in
                        let r = behind_last low.p low.q (point_at curve j).lo (point_at curve j).cost (point_at known pick).hi ((point_at known pick).cost + left) most beyond far fits less in
                        omega (arith, r, ends, lower))
                  ]
                ])
          ];
        },
      )
