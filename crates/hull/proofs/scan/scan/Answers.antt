use Rattle.std.proofs.Common.{◌≡◌, inl, inr, [], ◌∷◌, map, length, sym, ap, subst, arith, vec_len}
use Rattle.std.specs.Vec.Iter.{into_iter_items}
use Rattle.hull.proofs.Mapped.{mapped_rise}
use Rattle.hull.proofs.Runs.{Scanned, begins_rising, scan_goes, next_order, next_ranges, next_range}
use Rattle.hull.proofs.scan.scan.Goals as goal

pub loop-point-init : goal.loop-point-init
loop-point-init g c =
    let f = g.T.Spot.point in
    let it = c.into_iter-point-iterator.result in
    let points = map f c.args.points.items in
    let gives : into_iter_items it ≡ c.args.points.items = c.into_iter-point-iterator.ensures.into_iter_gives.0 in
    let none : length c.args.stack.items ≡ 0 = ap length c.requires.empty in
    let len : vec_len c.args.stack ≡ length c.args.stack.items = c.args.stack.ok.0 in
    let all : vec_len c.args.points ≡ length c.args.points.items = c.args.points.ok.0 in
    let given : length (into_iter_items it) ≡ length c.args.points.items = ap length gives in
    record {
      can = tt;
      ends = tt;
      scanned = subst (λ s. Scanned points (map f s) (map f (into_iter_items it))) (sym c.requires.empty)
          (subst (λ r. Scanned points [] (map f r)) (sym gives) (begins_rising points (mapped_rise f c.args.points.items c.requires.sorted) c.requires.ranges));
      room = omega arith;
      capacity = omega arith;
      some = inr (omega arith);
    }

pub grow-requires-clause-order : goal.grow-requires-clause-order
grow-requires-clause-order g c =
    let f = g.T.Spot.point in
    next_order (map f c.args.points.items) (map f c.loop-point.stack.items) (f c.in-Some.point) (map f (into_iter_items c.next.new.self))
    (subst (λ r. Scanned (map f c.args.points.items) (map f c.loop-point.stack.items) (map f r)) c.in-Some.ensures.steps.0 c.loop-point.invariant.scanned)

pub grow-requires-clause-ranges : goal.grow-requires-clause-ranges
grow-requires-clause-ranges g c =
    let f = g.T.Spot.point in
    next_ranges (map f c.args.points.items) (map f c.loop-point.stack.items) (f c.in-Some.point) (map f (into_iter_items c.next.new.self))
    (subst (λ r. Scanned (map f c.args.points.items) (map f c.loop-point.stack.items) (map f r)) c.in-Some.ensures.steps.0 c.loop-point.invariant.scanned)

pub grow-requires-clause-range : goal.grow-requires-clause-range
grow-requires-clause-range g c =
    let f = g.T.Spot.point in
    next_range (map f c.args.points.items) (map f c.loop-point.stack.items) (f c.in-Some.point) (map f (into_iter_items c.next.new.self))
    (subst (λ r. Scanned (map f c.args.points.items) (map f c.loop-point.stack.items) (map f r)) c.in-Some.ensures.steps.0 c.loop-point.invariant.scanned)

pub loop-point-preserved : goal.loop-point-preserved
loop-point-preserved g c =
    let f = g.T.Spot.point in
    let less : length (into_iter_items c.loop-point.point-iterator) ≡ length (c.in-Some.point ∷ into_iter_items c.next.new.self) = ap length c.in-Some.ensures.steps.0 in
    record {
      can = tt;
      ends = tt;
      scanned = scan_goes (map f c.args.points.items) (map f c.loop-point.stack.items) (f c.in-Some.point) (map f (into_iter_items c.next.new.self))
          (subst (λ r. Scanned (map f c.args.points.items) (map f c.loop-point.stack.items) (map f r)) c.in-Some.ensures.steps.0 c.loop-point.invariant.scanned)
          (map f c.grow.new.stack.items) c.grow.ensures.chain c.grow.ensures.stands;
      room = omega arith;
      capacity = omega arith;
      some = inl c.grow.ensures.some;
    }

pub grow-requires-clause-chain : goal.grow-requires-clause-chain
grow-requires-clause-chain g c = c.loop-point.invariant.scanned.chain

pub returns-clause-chain : goal.returns-clause-chain
returns-clause-chain g c = c.loop-point.invariant.scanned.chain

pub grow-requires-clause-room : goal.grow-requires-clause-room
grow-requires-clause-room g c =
    let less : length (into_iter_items c.loop-point.point-iterator) ≡ length (c.in-Some.point ∷ into_iter_items c.next.new.self) = ap length c.in-Some.ensures.steps.0 in
    let room = c.loop-point.invariant.room in
    let capacity = c.loop-point.invariant.capacity in
    omega (arith, less, room, capacity)
