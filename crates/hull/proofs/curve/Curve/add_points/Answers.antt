-- The vertices in two parts and the further points, these in order, are what the scan makes the curve of.
use Rattle.std.proofs.Common.{◌≡◌, ℕ, ◌+◌, ◌^◌, ◌≤◌, ◌++◌, inl, inr, List, [], ◌∷◌, length, get_or, take, drop, sym, ap, ap₂, ◌∙◌, subst, arith, append_assoc, vec_len}
use Rattle.std.specs.List.Sorted.{IsNonDecreasingBy, IsPermutation}
use Rattle.std.proofs.lemmas.List.{append-nil, nil_from_length, take-append-drop}
use Rattle.std.proofs.lemmas.List.Sorted.{IsPermutation-append_right}
use Rattle.hull.specs.declared.point.Point.{Point}
use Rattle.hull.specs.Curves.{Among, InRange, IsChain, IsCurve, IsShape, StandFor}
use Rattle.hull.proofs.Chains.{chain_is_curve}
use Rattle.hull.proofs.Stand.{among_either}
use Rattle.hull.proofs.Runs.{CostsRise, among_permuted, costs_rise, permuted_stands, added_curve, added_shape}
use Rattle.hull.proofs.curve.Curve.add_points.Goals as goal

least_first : (xs : List Point) → CostsRise xs → (x w : Point) → x ≡ get_or xs 0 x → Among w xs → x.cost ≤ w.cost
least_first [] r x w e m = absurd m
least_first (y ∷ xs) r x w e m = elim m [
  | inl k ↦ (let a : x.cost ≡ y.cost = ap (λ (z : Point). z.cost) (let i : x ≡ y = e in i) in omega (arith, a, ap (λ (z : Point). z.cost) k))
  | inr n ↦ (let a : x.cost ≡ y.cost = ap (λ (z : Point). z.cost) (let i : x ≡ y = e in i) in omega (arith, a, r.0 w n))
]

-- the vertices, their front and their rest, and the points as they came and in order
module _ (a front rest b ordered : List Point) (n : ℕ) (front_is : front ≡ take n a) (rest_is : rest ≡ drop n a) (perm : IsPermutation b ordered) where
  whole : front ++ rest ≡ a
  whole = ap₂ (λ (x y : List Point). x ++ y) front_is rest_is ∙ take-append-drop n a

  all_whole : front ++ (rest ++ ordered) ≡ a ++ ordered
  all_whole = sym (append_assoc front rest ordered) ∙ ap (λ (x : List Point). x ++ ordered) whole

  -- the scan's result stands for the vertices and the points as they came
  came : (made : List Point) → StandFor (front ++ (rest ++ ordered)) made → StandFor (a ++ b) made
  came made s = permuted_stands (a ++ b) (a ++ ordered) made (IsPermutation-append_right a b ordered perm) (subst (λ l. StandFor l made) all_whole s)

  all_in_range : IsShape a → ((v : Point) → Among v b → InRange v) → (v : Point) → Among v (front ++ (rest ++ ordered)) → InRange v
  all_in_range shape ranges v m = elim (among_either v a ordered (subst (Among v) all_whole m)) [
    | inl x ↦ shape.ranges v x
    | inr y ↦ ranges v (among_permuted b ordered perm v y)
  ]

  in_order : (x : Point) → x ≡ get_or ordered 0 x → IsNonDecreasingBy (λ (v : Point). v.cost) ordered → ((v : Point) → Among v (take n a) → v.cost ≤ x.cost) → (v w : Point) → Among v front → Among w ordered → v.cost ≤ w.cost
  in_order x is sorted below v w m k =
      let l = below v (subst (Among v) front_is m) in
      let h = least_first ordered (costs_rise ordered sorted) x w is k in
      omega (arith, l, h)

pub returns-then-is_empty-clause-ok : goal.returns-then-is_empty-clause-ok
returns-then-is_empty-clause-ok c =
    let now = c.args.self.now in
    let none : c.args.points.items ≡ [] = nil_from_length c.args.points.items (let n : vec_len c.args.points ≡ length c.args.points.items = c.args.points.ok.0 in grind (arith, n, c.is_empty.ensures, c.if-is_empty.true)) in
    subst (λ l. IsCurve l now) (sym (ap (λ (l : List Point). now ++ l) none ∙ append-nil now)) (chain_is_curve now (subst IsShape c.self.view_is c.self.invariant).chain)

pub chain_of_both-requires-clause-order : goal.chain_of_both-requires-clause-order
chain_of_both-requires-clause-order c =
    let a = c.self.inside.vertices.items in
    let kept : c.reserve.new.self.items ≡ a = c.in_ok-reserve.ensures.items in
    let n = c.cheaper-front.result in
    let front : c.replace-vertices.result.items ≡ take n a = ap (λ v. v.items) c.replace-vertices.ensures.value ∙ c.in_ok-rest.ensures.items ∙ ap (take n) kept in
    let rest : c.in_ok-rest.rest.items ≡ drop n a = c.in_ok-rest.ensures.tail ∙ ap (drop n) kept in
    λ v w m k. in_order a c.replace-vertices.result.items c.in_ok-rest.rest.items c.args.points.items c.in_order-points.result.items n front rest c.in_order-points.ensures.permutation c.index.result.now c.index.ensures c.in_order-points.ensures.sorted
    (λ u l. c.cheaper-front.ensures.below u (subst (λ (s : List Point). Among u (take n s)) (sym (c.as_slice.ensures.value ∙ kept)) l)) v w m k

pub chain_of_both-requires-clause-ranges : goal.chain_of_both-requires-clause-ranges
chain_of_both-requires-clause-ranges c =
    let a = c.self.inside.vertices.items in
    let kept : c.reserve.new.self.items ≡ a = c.in_ok-reserve.ensures.items in
    let n = c.cheaper-front.result in
    let front : c.replace-vertices.result.items ≡ take n a = ap (λ v. v.items) c.replace-vertices.ensures.value ∙ c.in_ok-rest.ensures.items ∙ ap (take n) kept in
    let rest : c.in_ok-rest.rest.items ≡ drop n a = c.in_ok-rest.ensures.tail ∙ ap (drop n) kept in
    λ v m. all_in_range a c.replace-vertices.result.items c.in_ok-rest.rest.items c.args.points.items c.in_order-points.result.items n front rest c.in_order-points.ensures.permutation c.self.invariant c.requires.ranges v m

pub invariant_of-self-2 : goal.invariant_of-self-2
invariant_of-self-2 c =
    let a = c.self.inside.vertices.items in
    let b = c.args.points.items in
    let made = c.chain_of_both.result.items in
    let kept : c.reserve.new.self.items ≡ a = c.in_ok-reserve.ensures.items in
    let n = c.cheaper-front.result in
    let front : c.replace-vertices.result.items ≡ take n a = ap (λ v. v.items) c.replace-vertices.ensures.value ∙ c.in_ok-rest.ensures.items ∙ ap (take n) kept in
    let rest : c.in_ok-rest.rest.items ≡ drop n a = c.in_ok-rest.ensures.tail ∙ ap (drop n) kept in
    let stands : StandFor (a ++ b) made =
    came a c.replace-vertices.result.items c.in_ok-rest.rest.items b c.in_order-points.result.items n front rest c.in_order-points.ensures.permutation made c.chain_of_both.ensures.stands in
    let l0 : vec_len c.chain_of_both.result ≡ length made = c.chain_of_both.result.ok.0 in
    let l1 = c.chain_of_both.ensures.len in
    let l2 : vec_len c.in_order-points.result ≡ vec_len c.args.points = c.in_order-points.ensures.len in
    let l3 : vec_len c.args.points ≡ length b = c.args.points.ok.0 in
    let l4 : vec_len c.replace-vertices.result ≡ vec_len c.split_off.new.self = ap vec_len c.replace-vertices.ensures.value in
    let l5 : vec_len c.self.inside.vertices ≡ length a = c.self.inside.vertices.ok.0 in
    let l6 : length a ≡ length c.args.self.now = ap length c.self.view_is in
    let l7 : vec_len c.split_off.new.self ≡ n = c.in_ok-rest.ensures.len in
    let l8 : vec_len c.in_ok-rest.rest + n ≡ vec_len c.reserve.new.self = c.in_ok-rest.ensures.tail_len in
    let l9 : vec_len c.reserve.new.self ≡ vec_len c.self.inside.vertices = c.in_ok-reserve.ensures.len in
    let some = c.chain_of_both.ensures.some in
    let few = c.requires.few in
    added_shape a b made c.self.invariant c.requires.ranges c.chain_of_both.ensures.chain stands
    (λ v w m n. c.requires.widths v w (subst (Among v) c.self.view_is m) n)
    (omega (arith, l0, some)) (omega (arith, l0, l1, l2, l3, l4, l5, l6, l7, l8, l9, few))

pub returns-clause-ok : goal.returns-clause-ok
returns-clause-ok c =
    let a = c.self.inside.vertices.items in
    let b = c.args.points.items in
    let made = c.chain_of_both.result.items in
    let kept : c.reserve.new.self.items ≡ a = c.in_ok-reserve.ensures.items in
    let n = c.cheaper-front.result in
    let front : c.replace-vertices.result.items ≡ take n a = ap (λ v. v.items) c.replace-vertices.ensures.value ∙ c.in_ok-rest.ensures.items ∙ ap (take n) kept in
    let rest : c.in_ok-rest.rest.items ≡ drop n a = c.in_ok-rest.ensures.tail ∙ ap (drop n) kept in
    let stands : StandFor (a ++ b) made =
    came a c.replace-vertices.result.items c.in_ok-rest.rest.items b c.in_order-points.result.items n front rest c.in_order-points.ensures.permutation made c.chain_of_both.ensures.stands in
    subst (λ l. IsCurve (l ++ b) made) c.self.view_is (added_curve a b made c.self.invariant c.requires.ranges c.chain_of_both.ensures.chain stands)

pub invariant_of-self : goal.invariant_of-self
invariant_of-self c = subst IsShape (sym c.in_err-reserve.ensures.items) c.self.invariant

pub cheaper-front-requires-clause-chain : goal.cheaper-front-requires-clause-chain
cheaper-front-requires-clause-chain c = subst IsChain (sym (c.as_slice.ensures.value ∙ c.in_ok-reserve.ensures.items)) c.self.invariant.chain

pub cheaper-front-requires-clause-few : goal.cheaper-front-requires-clause-few
cheaper-front-requires-clause-few c =
    subst (λ (l : List Point). length l ≤ 2 ^ 31) (sym (c.as_slice.ensures.value ∙ c.in_ok-reserve.ensures.items)) c.self.invariant.few

pub chain_of_both-requires-clause-chain : goal.chain_of_both-requires-clause-chain
chain_of_both-requires-clause-chain c =
    let a = c.self.inside.vertices.items in
    let kept : c.reserve.new.self.items ≡ a = c.in_ok-reserve.ensures.items in
    let n = c.cheaper-front.result in
    let front : c.replace-vertices.result.items ≡ take n a = ap (λ v. v.items) c.replace-vertices.ensures.value ∙ c.in_ok-rest.ensures.items ∙ ap (take n) kept in
    let rest : c.in_ok-rest.rest.items ≡ drop n a = c.in_ok-rest.ensures.tail ∙ ap (drop n) kept in
    subst IsChain (sym (ap₂ (λ (x y : List Point). x ++ y) front rest ∙ take-append-drop n a)) c.self.invariant.chain

pub chain_of_both-requires-clause-sorted : goal.chain_of_both-requires-clause-sorted
chain_of_both-requires-clause-sorted c = c.in_order-points.ensures.sorted

pub returns-clause-few : goal.returns-clause-few
returns-clause-few c =
    let l0 : vec_len c.chain_of_both.result ≡ length c.chain_of_both.result.items = c.chain_of_both.result.ok.0 in
    let l1 = c.chain_of_both.ensures.len in
    let l2 : vec_len c.in_order-points.result ≡ vec_len c.args.points = c.in_order-points.ensures.len in
    let l3 : vec_len c.args.points ≡ length c.args.points.items = c.args.points.ok.0 in
    let l4 : vec_len c.replace-vertices.result ≡ vec_len c.split_off.new.self = ap vec_len c.replace-vertices.ensures.value in
    let l5 : vec_len c.self.inside.vertices ≡ length c.self.inside.vertices.items = c.self.inside.vertices.ok.0 in
    let l6 : length c.self.inside.vertices.items ≡ length c.args.self.now = ap length c.self.view_is in
    let l7 : vec_len c.split_off.new.self ≡ c.cheaper-front.result = c.in_ok-rest.ensures.len in
    let l8 : vec_len c.in_ok-rest.rest + c.cheaper-front.result ≡ vec_len c.reserve.new.self = c.in_ok-rest.ensures.tail_len in
    let l9 : vec_len c.reserve.new.self ≡ vec_len c.self.inside.vertices = c.in_ok-reserve.ensures.len in
    omega (arith, l0, l1, l2, l3, l4, l5, l6, l7, l8, l9)
