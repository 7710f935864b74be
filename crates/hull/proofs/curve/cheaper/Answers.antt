use Rattle.std.proofs.Common.{◌≡◌, suc, ◌-◌, take, ap, subst, arith}
use Rattle.hull.specs.declared.point.Point.{Point}
use Rattle.hull.specs.Curves.{Among}
use Rattle.hull.proofs.Joined.{chain_rises, rise_upto}
use Rattle.hull.proofs.curve.cheaper.Goals as goal

pub returns-then-vertices-count-clause-below : goal.returns-then-vertices-count-clause-below
returns-then-vertices-count-clause-below c = λ v m.
    let vertices = c.args.vertices.now in
    let count = c.loop-count.count in
    let next : count ≡ suc (count - 1) = omega (arith, c.loop-count-test.true) in
    let within = c.loop-count.invariant in
    let upto = rise_upto vertices (chain_rises vertices c.requires.chain) (count - 1) c.index-vertices-count.result (omega (arith, c.loop-count-test.true, within)) v
    (subst (λ n. Among v (take n vertices)) next m) in
    let same = ap (λ (w : Point). w.cost) c.index-vertices-count.is in
    omega (arith, upto, same, c.if-vertices-count.true)
