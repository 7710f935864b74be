use Rattle.std.proofs.Common.{◌≡◌, ◌+◌, ◌/◌, ◌<◌, [], ◌∷◌, ◌++◌, slice_index_or, refl, sym, subst, arith}
use Rattle.list_laws.proofs.Public.{same_length}
use Rattle.family_points.proofs.Numbers.{next_size, some_choice, digit_most, stands_on, ordered_at}
use Rattle.family_points.proofs.vectors.vector_at.Goals as goal

pub bounds-high-i : goal.bounds-high-i
bounds-high-i c = subst (λ n. c.loop-i.i < n) (sym (same_length c.args.low.now c.args.high.now c.requires.bounds.ordered)) c.loop-i-test.true

pub overflow_sub-high : goal.overflow_sub-high
overflow_sub-high c = ordered_at c.args.low.now c.args.high.now c.requires.bounds.ordered c.loop-i.i c.loop-i-test.true

pub nonzero_div-rest : goal.nonzero_div-rest
nonzero_div-rest c =
    let next = next_size c.args.low.now c.args.high.now c.loop-i.i c.loop-i.size c.from.result c.requires.bounds c.loop-i-test.true c.from.ensures c.loop-i.invariant.size_is in
    omega (arith, next, some_choice c.args.low.now c.args.high.now (c.loop-i.i + 1) c.requires.bounds)

pub overflow_cast-rest : goal.overflow_cast-rest
overflow_cast-rest c =
    let next = next_size c.args.low.now c.args.high.now c.loop-i.i c.loop-i.size c.from.result c.requires.bounds c.loop-i-test.true c.from.ensures c.loop-i.invariant.size_is in
    let most = digit_most c.args.low.now c.args.high.now c.loop-i.i c.loop-i.size c.loop-i.rest c.from.result (c.loop-i.size / (c.from.result + 1)) c.requires.bounds c.loop-i-test.true c.from.ensures c.loop-i.invariant.size_is c.loop-i.invariant.within next in
    omega (arith, most, c.requires.bounds.small c.loop-i.i 0 (omega (arith, c.loop-i-test.true, same_length c.args.low.now c.args.high.now c.requires.bounds.ordered)))

pub overflow_add-low : goal.overflow_add-low
overflow_add-low c =
    let next = next_size c.args.low.now c.args.high.now c.loop-i.i c.loop-i.size c.from.result c.requires.bounds c.loop-i-test.true c.from.ensures c.loop-i.invariant.size_is in
    let most = digit_most c.args.low.now c.args.high.now c.loop-i.i c.loop-i.size c.loop-i.rest c.from.result (c.loop-i.size / (c.from.result + 1)) c.requires.bounds c.loop-i-test.true c.from.ensures c.loop-i.invariant.size_is c.loop-i.invariant.within next in
    omega (arith, most, c.requires.bounds.small c.loop-i.i 0 (omega (arith, c.loop-i-test.true, same_length c.args.low.now c.args.high.now c.requires.bounds.ordered)))

pub nonzero_rem-rest : goal.nonzero_rem-rest
nonzero_rem-rest c =
    let next = next_size c.args.low.now c.args.high.now c.loop-i.i c.loop-i.size c.from.result c.requires.bounds c.loop-i-test.true c.from.ensures c.loop-i.invariant.size_is in
    omega (arith, next, some_choice c.args.low.now c.args.high.now (c.loop-i.i + 1) c.requires.bounds)

pub loop-i-preserved : goal.loop-i-preserved
loop-i-preserved c =
    let next = next_size c.args.low.now c.args.high.now c.loop-i.i c.loop-i.size c.from.result c.requires.bounds c.loop-i-test.true c.from.ensures c.loop-i.invariant.size_is in
    let more : c.push.new.self.items ≡ c.loop-i.vector.items ++ (slice_index_or c.args.low.now c.loop-i.i 0 + c.loop-i.rest / (c.loop-i.size / (c.from.result + 1))) ∷ [] = c.in_ok-push.ensures.items in
    stands_on c.args.low.now c.args.high.now c.args.number c.loop-i.i c.loop-i.size c.loop-i.rest (c.loop-i.size / (c.from.result + 1)) _
    c.loop-i.vector.items c.push.new.self.items c.requires.bounds c.loop-i-test.true next refl more c.loop-i.invariant
