use Rattle.std.proofs.Common.{◌≡◌, ℕ, ◌≤◌, IsTrue, Bool, true, false, arith}
use Rattle.hull.proofs.Runs.{among_read}
use Rattle.hull.proofs.Sums.{turned_left, turned_right, turned_alone}
use Rattle.hull.proofs.walk.next_turn.Goals as goal

pub returns-then-right-lt2-2 : goal.returns-then-right-lt2-2
returns-then-right-lt2-2 c = turned_alone c.args.left.now c.args.right.now (omega arith) c.requires.right_some (omega arith)

pub is_steeper-requires-clause-v_range : goal.is_steeper-requires-clause-v_range
is_steeper-requires-clause-v_range c = c.requires.left_ranges c.index-left-0.result (among_read c.args.left.now 0 c.index-left-0.result c.requires.left_some c.index-left-0.is)

pub is_steeper-requires-clause-x_range : goal.is_steeper-requires-clause-x_range
is_steeper-requires-clause-x_range c = c.requires.left_ranges c.index-left-1.result (among_read c.args.left.now 1 c.index-left-1.result (omega arith) c.index-left-1.is)

pub is_steeper-requires-clause-u_range : goal.is_steeper-requires-clause-u_range
is_steeper-requires-clause-u_range c = c.requires.right_ranges c.index-right-0.result (among_read c.args.right.now 0 c.index-right-0.result c.requires.right_some c.index-right-0.is)

pub is_steeper-requires-clause-y_range : goal.is_steeper-requires-clause-y_range
is_steeper-requires-clause-y_range c = c.requires.right_ranges c.index-right-1.result (among_read c.args.right.now 1 c.index-right-1.result (omega arith) c.index-right-1.is)

not_false : (b : Bool) → b ≡ true → IsTrue b
not_false b e = grind arith

other_way : (b : Bool) (x y : ℕ) → b ≡ false → (x ≤ y → IsTrue b) → y ≤ x
other_way b x y e h = grind arith

pub returns-then-is_steeper : goal.returns-then-is_steeper
returns-then-is_steeper c =
    turned_left c.args.left.now c.args.right.now c.index-left-0.result c.index-left-1.result c.index-right-0.result c.index-right-1.result (omega arith) (omega arith) c.index-left-0.is c.index-left-1.is c.index-right-0.is c.index-right-1.is
    c.requires.left_chain c.requires.right_chain (c.is_steeper.ensures.0 (not_false c.is_steeper.result c.if-is_steeper.true))

pub returns-else-is_steeper : goal.returns-else-is_steeper
returns-else-is_steeper c =
    turned_right c.args.left.now c.args.right.now c.index-left-0.result c.index-left-1.result c.index-right-0.result c.index-right-1.result (omega arith) (omega arith) c.index-left-0.is c.index-left-1.is c.index-right-0.is c.index-right-1.is
    c.requires.left_chain c.requires.right_chain (other_way c.is_steeper.result _ _ c.if-is_steeper.false c.is_steeper.ensures.1)
