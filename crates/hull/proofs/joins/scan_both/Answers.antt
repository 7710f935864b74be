use Rattle.std.proofs.Common.{◌≡◌, ◌≤◌, inl, inr, List, [], ◌++◌, map, length, sym, ap, subst, arith, vec_len}
use Rattle.std.proofs.lemmas.List.{append-nil}
use Rattle.hull.specs.declared.point.Point.{Point}
use Rattle.hull.specs.Curves.{Among, StandFor, IsChain, InRange}
use Rattle.hull.proofs.Mapped.{mapped_rise}
use Rattle.hull.proofs.Runs.{CostsRise}
use Rattle.hull.proofs.Stand.{among_left, among_either}
use Rattle.hull.proofs.StepsOf.{chain_prefix, stand_trans}
use Rattle.hull.proofs.Joined.{Joined, chain_rises, chain_suffix, joined_begins, joined_order, joined_ranges, joined_range, joined_goes, rise_apart, taken_chain, taken_length, takes_mapped}
use Rattle.hull.proofs.joins.scan_both.Goals as goal

begins : (s l r : List Point) → IsChain (s ++ l) → CostsRise r → ((v w : Point) → Among v s → Among w r → v.cost ≤ w.cost) → ((v : Point) → Among v (s ++ (l ++ r)) → InRange v)
    → Joined (s ++ (l ++ r)) s l r
begins s l r c rise o h =
    joined_begins s l r (chain_prefix s l c) (chain_rises l (chain_suffix s l c)) rise
    (λ v w m n. elim (among_either w l r n) [ inl a ↦ rise_apart s l (chain_rises (s ++ l) c) v w m a | inr b ↦ o v w m b ]) h

pub loop-point-init : goal.loop-point-init
loop-point-init g c =
    let f = g.T.Spot.point in
    let s = c.args.stack.items in
    let l = c.args.left.items in
    let r = c.args.right.items in
    let le = c.from_vec-left.ensures.items in
    let re = c.from_vec-right.ensures.items in
    let begun : Joined (map f s ++ (map f l ++ map f r)) (map f s) (map f l) (map f r) =
    begins (map f s) (map f l) (map f r) c.requires.chain (mapped_rise f r c.requires.sorted) c.requires.order c.requires.ranges in
    let ll : vec_len c.args.left ≡ length l = c.args.left.ok.0 in
    let lr : vec_len c.args.right ≡ length r = c.args.right.ok.0 in
    let lle : length c.from_vec-left.result.items ≡ length l = ap length le in
    let lre : length c.from_vec-right.result.items ≡ length r = ap length re in
    let some = c.requires.some in
    record {
      joined = subst (λ a. Joined (map f s ++ (map f l ++ map f r)) (map f s) (map f a) (map f c.from_vec-right.result.items)) (sym le)
          (subst (λ b. Joined (map f s ++ (map f l ++ map f r)) (map f s) (map f l) (map f b)) (sym re) begun);
      left_chain = subst (λ a. IsChain (map f a)) (sym le) (chain_suffix (map f s) (map f l) c.requires.chain);
      room = omega (arith, ll, lr, lle, lre);
      capacity = c.requires.room;
      some = inr (omega (arith, lr, lre, some));
    }

pub grow_apart-requires-clause-order : goal.grow_apart-requires-clause-order
grow_apart-requires-clause-order g c =
    let f = g.T.Spot.point in
    let j = c.loop-point.invariant.joined in
    let l = c.loop-point.left.items in
    let r = c.loop-point.right.items in
    joined_order (map f c.args.stack.items ++ (map f c.args.left.items ++ map f c.args.right.items)) (map f c.loop-point.stack.items) (f c.in-Some.point) (map f l) (map f r) (map f c.take_cheaper.new.left.items) (map f c.take_cheaper.new.right.items) j
    (takes_mapped f c.in-Some.point l r c.take_cheaper.new.left.items c.take_cheaper.new.right.items j.left_rises j.right_rises c.in-Some.ensures)

pub grow_apart-requires-clause-ranges : goal.grow_apart-requires-clause-ranges
grow_apart-requires-clause-ranges g c =
    let f = g.T.Spot.point in
    let j = c.loop-point.invariant.joined in
    let l = c.loop-point.left.items in
    let r = c.loop-point.right.items in
    joined_ranges (map f c.args.stack.items ++ (map f c.args.left.items ++ map f c.args.right.items)) (map f c.loop-point.stack.items) (f c.in-Some.point) (map f l) (map f r) (map f c.take_cheaper.new.left.items) (map f c.take_cheaper.new.right.items) j
    (takes_mapped f c.in-Some.point l r c.take_cheaper.new.left.items c.take_cheaper.new.right.items j.left_rises j.right_rises c.in-Some.ensures)

pub grow_apart-requires-clause-range : goal.grow_apart-requires-clause-range
grow_apart-requires-clause-range g c =
    let f = g.T.Spot.point in
    let j = c.loop-point.invariant.joined in
    let l = c.loop-point.left.items in
    let r = c.loop-point.right.items in
    joined_range (map f c.args.stack.items ++ (map f c.args.left.items ++ map f c.args.right.items)) (map f c.loop-point.stack.items) (f c.in-Some.point) (map f l) (map f r) (map f c.take_cheaper.new.left.items) (map f c.take_cheaper.new.right.items) j
    (takes_mapped f c.in-Some.point l r c.take_cheaper.new.left.items c.take_cheaper.new.right.items j.left_rises j.right_rises c.in-Some.ensures)

pub loop-point-preserved : goal.loop-point-preserved
loop-point-preserved g c =
    let f = g.T.Spot.point in
    let j = c.loop-point.invariant.joined in
    let l = c.loop-point.left.items in
    let r = c.loop-point.right.items in
    let fewer = taken_length c.in-Some.point l r c.take_cheaper.new.left.items c.take_cheaper.new.right.items (λ v. (f v).cost) c.in-Some.ensures in
    record {
      joined = joined_goes (map f c.args.stack.items ++ (map f c.args.left.items ++ map f c.args.right.items)) (map f c.loop-point.stack.items) (f c.in-Some.point) (map f l) (map f r) (map f c.take_cheaper.new.left.items) (map f c.take_cheaper.new.right.items) j
          (takes_mapped f c.in-Some.point l r c.take_cheaper.new.left.items c.take_cheaper.new.right.items j.left_rises j.right_rises c.in-Some.ensures)
          (map f c.grow_apart.new.stack.items) c.grow_apart.ensures.chain c.grow_apart.ensures.stands;
      left_chain = taken_chain f c.in-Some.point l r c.take_cheaper.new.left.items c.take_cheaper.new.right.items (λ v. (f v).cost) c.in-Some.ensures c.loop-point.invariant.left_chain;
      room = (let a = c.loop-point.invariant.room in let b = c.grow_apart.ensures.len in omega (arith, fewer, a, b));
      capacity = (let a = c.loop-point.invariant.capacity in let b = c.grow_apart.ensures.capacity in omega (arith, a, b));
      some = inl c.grow_apart.ensures.some;
    }

module _ (points stack left right : List Point) (j : Joined points stack left right) (none : right ≡ []) where
  now : Joined points stack left []
  now = subst (Joined points stack left) none j

  pub end_order : (v w : Point) → Among v stack → Among w left → v.cost ≤ w.cost
  end_order v w m n = now.order v w m (among_left w left [] n)

  pub end_ranges : (v : Point) → Among v (stack ++ left) → InRange v
  end_ranges v m = now.ranges v (subst (λ l. Among v (stack ++ l)) (sym (append-nil left)) m)

  pub end_stands : StandFor points (stack ++ left)
  end_stands = subst (λ l. StandFor points (stack ++ l)) (append-nil left) now.stands

pub with_rest-requires-clause-order : goal.with_rest-requires-clause-order
with_rest-requires-clause-order g c =
    let f = g.T.Spot.point in
    let e = c.in_default.ensures in
    let i = c.loop-point.invariant in
    λ v w m n. end_order (map f c.args.stack.items ++ (map f c.args.left.items ++ map f c.args.right.items)) (map f c.loop-point.stack.items) (map f c.loop-point.left.items) (map f c.loop-point.right.items) i.joined (ap (map f) e.1)
    v w m (subst (λ l. Among w (map f l)) e.0 n)

pub with_rest-requires-clause-ranges : goal.with_rest-requires-clause-ranges
with_rest-requires-clause-ranges g c =
    let f = g.T.Spot.point in
    let e = c.in_default.ensures in
    let i = c.loop-point.invariant in
    λ v m. end_ranges (map f c.args.stack.items ++ (map f c.args.left.items ++ map f c.args.right.items)) (map f c.loop-point.stack.items) (map f c.loop-point.left.items) (map f c.loop-point.right.items) i.joined (ap (map f) e.1)
    v (subst (λ l. Among v (map f c.loop-point.stack.items ++ map f l)) e.0 m)

pub returns-clause-stands : goal.returns-clause-stands
returns-clause-stands g c =
    let f = g.T.Spot.point in
    let e = c.in_default.ensures in
    let i = c.loop-point.invariant in
    let all = map f c.args.stack.items ++ (map f c.args.left.items ++ map f c.args.right.items) in
    let stands : StandFor all (map f c.loop-point.stack.items ++ map f c.loop-point.left.items) =
    end_stands all (map f c.loop-point.stack.items) (map f c.loop-point.left.items) (map f c.loop-point.right.items) i.joined (ap (map f) e.1) in
    stand_trans all (map f c.loop-point.stack.items ++ map f c.take_cheaper.new.left.items) (map f c.with_rest.result.items)
    (subst (λ l. StandFor all (map f c.loop-point.stack.items ++ map f l)) (sym e.0) stands) c.with_rest.ensures.stands

pub grow_apart-requires-clause-chain : goal.grow_apart-requires-clause-chain
grow_apart-requires-clause-chain g c = c.loop-point.invariant.joined.chain

pub with_rest-requires-clause-chain : goal.with_rest-requires-clause-chain
with_rest-requires-clause-chain g c = c.loop-point.invariant.joined.chain

pub with_rest-requires-clause-left_chain : goal.with_rest-requires-clause-left_chain
with_rest-requires-clause-left_chain g c = subst (λ l. IsChain (map g.T.Spot.point l)) (sym c.in_default.ensures.0) c.loop-point.invariant.left_chain

pub loop-point-smaller : goal.loop-point-smaller
loop-point-smaller g c = (let fewer = taken_length c.in-Some.point c.loop-point.left.items c.loop-point.right.items c.take_cheaper.new.left.items c.take_cheaper.new.right.items (λ v. (g.T.Spot.point v).cost) c.in-Some.ensures in omega (arith, fewer))

pub returns-clause-chain : goal.returns-clause-chain
returns-clause-chain g c = c.with_rest.ensures.chain

pub returns-clause-some : goal.returns-clause-some
returns-clause-some g c = c.with_rest.ensures.some

pub grow_apart-requires-clause-room : goal.grow_apart-requires-clause-room
grow_apart-requires-clause-room g c =
    let fewer = taken_length c.in-Some.point c.loop-point.left.items c.loop-point.right.items c.take_cheaper.new.left.items c.take_cheaper.new.right.items (λ v. (g.T.Spot.point v).cost) c.in-Some.ensures in
    let room = c.loop-point.invariant.room in
    let capacity = c.loop-point.invariant.capacity in
    omega (arith, fewer, room, capacity)
