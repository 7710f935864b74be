use Rattle.std.proofs.Common.{◌≡◌, [], ◌∷◌, ◌++◌, arith, sym, subst}
use Rattle.std.proofs.lemmas.List.{take_rest}
use Rattle.hull.proofs.Runs.{among_read}
use Rattle.hull.proofs.Sums.{Walked, goes_left, goes_right, goes_to_end, walk_begins}
use Rattle.hull.proofs.walk.path.Goals as goal

pub plus-requires : goal.plus-requires
plus-requires c =
    let w = c.walk.invariant in
    c.requires.ranges c.index-left-0.result c.index-right-0.result
    (w.passed.left_in c.index-left-0.result (among_read c.walk.left.now 0 c.index-left-0.result w.left_some c.index-left-0.is))
    (w.passed.right_in c.index-right-0.result (among_read c.walk.right.now 0 c.index-right-0.result w.right_some c.index-right-0.is))

pub next_turn-requires-clause-left_ranges : goal.next_turn-requires-clause-left_ranges
next_turn-requires-clause-left_ranges c = λ v m. c.requires.a_ranges v (c.walk.invariant.passed.left_in v m)

pub next_turn-requires-clause-right_ranges : goal.next_turn-requires-clause-right_ranges
next_turn-requires-clause-right_ranges c = λ v m. c.requires.b_ranges v (c.walk.invariant.passed.right_in v m)

pub walk-preserved-in-Left : goal.walk-preserved-in-Left
walk-preserved-in-Left c =
    let e : c.push.new.self.items ≡ c.walk.path.items ++ c.in_ok-sum.sum ∷ [] = c.in_ok-push.ensures.items in
    goes_left c.args.a.now c.args.b.now c.walk.path.items c.walk.left.now c.walk.right.now c.index-left-0.result c.index-right-0.result c.in_ok-sum.sum c.push.new.self.items
    c.index-left-0.is c.index-right-0.is c.in_ok-sum.ensures e c.walk.invariant _ (take_rest c.walk.left.now 1) c.in-Left.ensures

pub walk-preserved : goal.walk-preserved
walk-preserved c =
    let e : c.push.new.self.items ≡ c.walk.path.items ++ c.in_ok-sum.sum ∷ [] = c.in_ok-push.ensures.items in
    goes_right c.args.a.now c.args.b.now c.walk.path.items c.walk.left.now c.walk.right.now c.index-left-0.result c.index-right-0.result c.in_ok-sum.sum c.push.new.self.items
    c.index-left-0.is c.index-right-0.is c.in_ok-sum.ensures e c.walk.invariant _ (take_rest c.walk.right.now 1) c.in-Right.ensures

pub returns-in-End-clause-stands : goal.returns-in-End-clause-stands
returns-in-End-clause-stands c =
    let e : c.push.new.self.items ≡ c.walk.path.items ++ c.in_ok-sum.sum ∷ [] = c.in_ok-push.ensures.items in
    goes_to_end c.args.a.now c.args.b.now c.walk.path.items c.walk.left.now c.walk.right.now c.index-left-0.result c.index-right-0.result c.in_ok-sum.sum c.push.new.self.items
    c.index-left-0.is c.index-right-0.is c.in_ok-sum.ensures e c.walk.invariant c.in-End.ensures

pub walk-init : goal.walk-init
walk-init c =
    subst (λ p. Walked c.args.a.now c.args.b.now p c.args.a.now c.args.b.now) (sym c.new-path.ensures.items)
    (walk_begins c.args.a.now c.args.b.now c.requires.a_chain c.requires.b_chain c.requires.a_some c.requires.b_some)

pub bounds-left-0 : goal.bounds-left-0
bounds-left-0 c = c.walk.invariant.left_some

pub bounds-right-0 : goal.bounds-right-0
bounds-right-0 c = c.walk.invariant.right_some

pub next_turn-requires-clause-left_chain : goal.next_turn-requires-clause-left_chain
next_turn-requires-clause-left_chain c = c.walk.invariant.left_chain

pub next_turn-requires-clause-right_chain : goal.next_turn-requires-clause-right_chain
next_turn-requires-clause-right_chain c = c.walk.invariant.right_chain

pub next_turn-requires-clause-left_some : goal.next_turn-requires-clause-left_some
next_turn-requires-clause-left_some c = c.walk.invariant.left_some

pub next_turn-requires-clause-right_some : goal.next_turn-requires-clause-right_some
next_turn-requires-clause-right_some c = c.walk.invariant.right_some

pub returns-in-End-clause-some : goal.returns-in-End-clause-some
returns-in-End-clause-some c = omega (arith, c.in_ok-push.ensures.len)

pub returns-in-End-clause-few : goal.returns-in-End-clause-few
returns-in-End-clause-few c =
    let w = c.walk.invariant in
    omega (arith, c.in_ok-push.ensures.len, c.walk.path.ok.0, w.few, w.left_some, w.right_some)
