use Rattle.std.proofs.Common.{◌<◌, IsSome, arith, length, length-set, refl, subst, sym, ◌∙◌}
use Rattle.std.proofs.lemmas.Result.{err_from_is_err_and}
use Rattle.session_plans.proofs.Places.{not_taken, taken_all, taken_next}
use Rattle.session_plans.proofs.values.all_taken.Goals as goal

pub returns-in_err-values-clause-values : goal.returns-in_err-values-clause-values
returns-in_err-values-clause-values g c = let p = err_from_is_err_and c.from_residual.result c.from_residual.ensures.1 in rw p.1 tt

pub returns-in_err-values-clause-stay : goal.returns-in_err-values-clause-stay
returns-in_err-values-clause-stay g c = let p = err_from_is_err_and c.from_residual.result c.from_residual.ensures.1 in rw p.1 refl

pub unwrap-requires : goal.unwrap-requires
unwrap-requires g c =
    let here = c.loop-k.invariant in
    let n = c.loop-k.values.ok.0 in
    let was = not_taken c.loop-k.values.items c.loop-k.kept c.args.kept.now c.loop-k.k c.index-kept-k.result here.moved (sym n ∙ here.count) in
    subst IsSome (was ∙ sym c.take.ensures.value)
    (c.requires c.loop-k.k c.index-kept-k.result c.loop-k-test.true)

pub push_reserved-requires : goal.push_reserved-requires
push_reserved-requires g c =
    let here = c.loop-k.invariant in
    omega (arith, here.count, here.room, c.loop-k-test.true, c.loop-k.auto.kept, c.loop-k.auto.k-end)

pub loop-k-preserved : goal.loop-k-preserved
loop-k-preserved g c =
    let here = c.loop-k.invariant in
    let within : c.loop-k.k < length c.loop-k.kept = omega (arith, c.loop-k-test.true, c.loop-k.auto.kept, c.loop-k.auto.k-end) in
    record {
      moved = taken_next c.loop-k.values.items c.push_reserved.new.self.items c.unwrap.result c.loop-k.kept c.args.kept.now c.loop-k.k c.index-kept-k.result c.take.new.self
          here.moved within (sym c.take.ensures.value ∙ c.unwrap.ensures) c.push_reserved.ensures.items;
      count = omega (arith, c.push_reserved.ensures.len, here.count);
      room = omega (arith, length-set c.loop-k.kept c.loop-k.k c.take.new.self, c.push_reserved.ensures.capacity, here.room);
    }

pub returns-clause-values : goal.returns-clause-values
returns-clause-values g c =
    taken_all c.loop-k.values.items c.loop-k.kept c.args.kept.now c.loop-k.k c.loop-k.invariant.moved
    (omega (arith, c.loop-k-test.false, c.loop-k.auto.kept, c.loop-k.auto.k-end))

pub returns-clause-stay : goal.returns-clause-stay
returns-clause-stay g c = tt
