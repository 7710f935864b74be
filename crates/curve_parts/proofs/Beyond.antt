-- How high all vertices behind a part lie: of lists together, of sums, and of what stands for points.
use Rattle.std.proofs.Common.{ℕ, ◌+◌, ◌-◌, ◌<◌, ◌≤◌, ◌⊎◌, inl, inr, List, [], ◌++◌, ◌↔◌, sym, subst, arith}
use Rattle.std.proofs.lemmas.List.{append-nil}
use Rattle.list_laws.proofs.Public.{le_or_gt}
use Rattle.hull.specs.declared.point.Point.{Point}
use Rattle.hull.specs.declared.price.Price.{Price}
use Rattle.hull.specs.Curves.{lagrangian, Among, IsCurve, StandFor, plus, sums}
use Rattle.hull.proofs.Public.{same_sym, same_trans, same_lagrangian, among_left, among_right, among_either, curve_stands, Parts, parts_of, sum_among}
use Rattle.curve_parts.specs.Parts.{IsVertexBetween, IsPartOf, IsPassedOver, StandForBetween}
use Rattle.curve_parts.specs.Beyond.{HavePlaceOf, IsKnownPart, LieBeyond, no_price}
use Rattle.curve_parts.proofs.Between.{between_at_place, between_of_part, both_between, part_left_out, part_of_members, part_stands, stands_between, trans_between}
use Rattle.curve_parts.proofs.Sums.{first_between, second_between}

-- no vertex that is known need lie anywhere
pub all_known : (low : Price) (points known : List Point) (beyond : ℕ) → StandForBetween no_price low points known → LieBeyond low points known beyond
all_known low points known beyond s = λ w m h. (let k = s.covers w m h in inl (k.0, k.1, k.2))

-- a smaller number serves as well
pub beyond_less : (low : Price) (points known : List Point) (a b : ℕ) → b ≤ a → LieBeyond low points known a → LieBeyond low points known b
beyond_less low points known a b l h = λ w m v. elim (h w m v) [ inl k ↦ inl k | inr k ↦ inr (omega (arith, k, l)) ]

-- of points that are all as high, none need be known
pub all_high : (low : Price) (points known : List Point) (beyond : ℕ) → ((w : Point) → Among w points → beyond ≤ lagrangian low.p low.q w) → LieBeyond low points known beyond
all_high low points known beyond h = λ w m v. inr (h w m)

-- what is known of each of two lists is known of both together
pub beyond_both : (low : Price) (ps qs c d : List Point) (beyond : ℕ) → LieBeyond low ps c beyond → LieBeyond low qs d beyond → LieBeyond low (ps ++ qs) (c ++ d) beyond
beyond_both low ps qs c d beyond a b = λ w m h. elim (among_either w ps qs m) [
  | inl i ↦ elim (a w i (between_of_part no_price low (ps ++ qs) ps w (λ u. among_left u ps qs) h)) [
    | inl k ↦ inl (k.0, among_left k.0 c d k.1, k.2)
    | inr k ↦ inr k
  ]
  | inr i ↦ elim (b w i (between_of_part no_price low (ps ++ qs) qs w (λ u. among_right u ps qs) h)) [
    | inl k ↦ inl (k.0, among_right k.0 c d k.1, k.2)
    | inr k ↦ inr k
  ]
]

-- fewer known ones of those that are known
pub beyond_through : (low : Price) (points known part : List Point) (beyond : ℕ) → ((v : Point) → Among v known → Among v points) → LieBeyond low points known beyond → LieBeyond low known part beyond
    → LieBeyond low points part beyond
beyond_through low points known part beyond sub a b = λ w m h. elim (a w m h) [
  | inr k ↦ inr k
  | inl k ↦ elim (b k.0 k.1 (between_of_part no_price low points known k.0 sub (between_at_place no_price low points w k.0 (same_sym k.2) h))) [
    | inl r ↦ inl (r.0, r.1, same_trans r.2 k.2)
    | inr l ↦ inr (let e = same_lagrangian low.p low.q k.2 in omega (arith, l, e))
  ]
]

-- Of sums: where no point of the lists is lower than a and b, and those that aren't known are higher by some gap, the
-- sums that aren't of known ones are higher than both together by the gap.
pub beyond_sums : (low : Price) (ps qs c d : List Point) (a b gap : ℕ) → ((v : Point) → Among v ps → a ≤ lagrangian low.p low.q v) → ((w : Point) → Among w qs → b ≤ lagrangian low.p low.q w)
    → LieBeyond low ps c (a + gap) → LieBeyond low qs d (b + gap) → LieBeyond low (sums ps qs) (sums c d) (a + b + gap)
beyond_sums low ps qs c d a b gap least other s t = λ x m h. (let r : Parts ps qs x = parts_of ps qs x m in split x r h)
  where
    split : (x : Point) → Parts ps qs x → IsVertexBetween no_price low (sums ps qs) x → HavePlaceOf (sums c d) x ⊎ (a + b + gap ≤ lagrangian low.p low.q x)
    split x r h =
        let g : IsVertexBetween no_price low (sums ps qs) (plus r.first r.second) = subst (λ y. IsVertexBetween no_price low (sums ps qs) y) r.is h in
        let i = least r.first r.first_in in
        let j = other r.second r.second_in in
        subst (λ y. HavePlaceOf (sums c d) y ⊎ (a + b + gap ≤ lagrangian low.p low.q y)) (sym r.is)
        (elim (s r.first r.first_in (first_between no_price low ps qs r.first r.second r.first_in r.second_in g)) [
          | inr k ↦ inr (omega (arith, k, j))
          | inl u ↦ elim (t r.second r.second_in (second_between no_price low ps qs r.first r.second r.first_in r.second_in g)) [
            | inr k ↦ inr (omega (arith, k, i))
            | inl v ↦ inl (
              plus u.0 v.0,
              sum_among u.0 v.0 c d u.1 v.1,
              (let ac = u.2.cost in let al = u.2.lo in let bc = v.2.cost in let bl = v.2.lo in record { cost = omega (arith, ac, bc); lo = omega (arith, al, bl) }),
            )
          ]
        ])

-- a number that is above the least one leaves the gap between
pub beyond_gap : (low : Price) (points known : List Point) (least beyond gap : ℕ) → ((v : Point) → Among v points → least ≤ lagrangian low.p low.q v) → gap ≤ beyond - least → LieBeyond low points known beyond
    → LieBeyond low points known (least + gap)
beyond_gap low points known least beyond gap h few s = elim (le_or_gt least beyond) [
  | inl l ↦ beyond_less low points known beyond (least + gap) (omega (arith, few, l)) s
  | inr l ↦ all_high low points known (least + gap) (λ w m. (let k = h w m in omega (arith, few, l, k)))
]

-- what the walk hands out and its curve, beside the points so far
pub walk_known : (low : Price) (points handed made : List Point) (beyond : ℕ) → StandFor points handed → IsCurve handed made → LieBeyond low points made beyond
walk_known low points handed made beyond s c = all_known low points made beyond
    (trans_between no_price low points handed made (stands_between no_price low points handed s) (stands_between no_price low handed made (curve_stands handed made c)))

-- ---- known parts

-- order and repetition of the points don't matter
pub known_of_members : (low high : Price) (points other part : List Point) (beyond : ℕ) → ((v : Point) → Among v points ↔ Among v other) → IsKnownPart low high points part beyond
    → IsKnownPart low high other part beyond
known_of_members low high points other part beyond same k = record {
  is = part_of_members low high points other part same k.is;
  behind = λ w m h. k.behind w ((same w).1 m) (between_of_part no_price low other points w (λ u. (same u).0) h);
}

-- further points that are passed over and as high as a number
pub known_left_out : (low high : Price) (points part more : List Point) (before beyond : ℕ) → beyond ≤ before → ((w : Point) → Among w more → IsPassedOver low high points w)
    → ((w : Point) → Among w more → beyond ≤ lagrangian low.p low.q w) → IsKnownPart low high points part before → IsKnownPart low high (points ++ more) part beyond
known_left_out low high points part more before beyond less passed high_enough k = record {
  is = part_left_out low high points part more k.is passed;
  behind = subst (λ (l : List Point). LieBeyond low (points ++ more) l beyond) (append-nil part)
      (beyond_both low points more part [] beyond (beyond_less low points part before beyond less k.behind) (all_high low more [] beyond high_enough));
}

-- further points for which others stand, where the part of both is known
pub known_joined : (low high : Price) (points more old others new : List Point) (before made behind beyond : ℕ) → beyond ≤ before → beyond ≤ made → beyond ≤ behind
    → StandForBetween low high more others → LieBeyond low more others made → LieBeyond low (old ++ others) new behind → IsPartOf low high (points ++ more) new → IsKnownPart low high points old before
    → IsKnownPart low high (points ++ more) new beyond
known_joined low high points more old others new before made behind beyond a b c stand others_behind new_behind is k = record {
  is = is;
  behind = beyond_through low (points ++ more) (old ++ others) new beyond (both_between low high points more old others (part_stands low high points old k.is) stand).among
      (beyond_both low points more old others beyond (beyond_less low points old before beyond a k.behind) (beyond_less low more others made beyond b others_behind))
      (beyond_less low (old ++ others) new behind beyond c new_behind);
}

-- what is known of a curve is known of its points
pub curve_known : (low : Price) (points curve part : List Point) (beyond : ℕ) → IsCurve points curve → LieBeyond low curve part beyond → LieBeyond low points part beyond
curve_known low points curve part beyond c h =
    beyond_through low points curve part beyond c.among (all_known low points curve beyond (stands_between no_price low points curve (curve_stands points curve c))) h
