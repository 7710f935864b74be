use Rattle.std.proofs.Common.{◌≡◌, ◌*◌, ◌-◌, arith, lit<, sym, subst, rules}
use Rattle.fixed_interval.specs.Ends.{Ends, In, InScale, ends_power}
use Rattle.fixed_interval.proofs.Public.{mul_room}
use Rattle.availability.specs.Profile.{filled_ends}
use Rattle.availability.specs.Exact.{factor_of}
use Rattle.availability.proofs.Laws.{factor_in, filled_is, filled_most, multiplied_none, multiplied_more, product_most}
use Rattle.availability.proofs.factor.Goals as goal

pub loop-k-init : goal.loop-k-init
loop-k-init g c =
    let e = filled_is g.row.F c.args.backorders c.exact.result c.over.result c.less-filled.result (c.args.systems * c.args.per_system)
    c.exact.ensures.ends c.over.ensures.ends c.less-filled.ensures.ends in
    record {
      all = multiplied_none g.row.F (filled_ends g.row.F c.args.backorders (c.args.systems * c.args.per_system)) c.less-filled.result e;
      most = filled_most g.row.F c.exact.result c.over.result c.less-filled.result c.exact.ensures.ends c.less-filled.ensures.ends;
    }

pub mul-all-requires : goal.mul-all-requires
mul-all-requires g c =
    let s : InScale g.row.F = search rules in
    let m = filled_most g.row.F c.exact.result c.over.result c.less-filled.result c.exact.ensures.ends c.less-filled.ensures.ends in
    (lit< tt, mul_room g.row.F 1 1 c.loop-k.all c.less-filled.result s.1 (omega (arith, c.loop-k.invariant.most)) (omega (arith, m)) (lit< tt))

pub loop-k-preserved : goal.loop-k-preserved
loop-k-preserved g c =
    let e = filled_is g.row.F c.args.backorders c.exact.result c.over.result c.less-filled.result (c.args.systems * c.args.per_system)
    c.exact.ensures.ends c.over.ensures.ends c.less-filled.ensures.ends in
    let m = filled_most g.row.F c.exact.result c.over.result c.less-filled.result c.exact.ensures.ends c.less-filled.ensures.ends in
    record {
      all = multiplied_more g.row.F (filled_ends g.row.F c.args.backorders (c.args.systems * c.args.per_system)) c.less-filled.result c.loop-k.all c.mul-all.result
          c.loop-k._k c.loop-k.auto._k e c.loop-k.invariant.all c.mul-all.ensures.ends;
      most = product_most g.row.F c.loop-k.all c.less-filled.result c.mul-all.result c.loop-k.invariant.most m c.mul-all.ensures.ends;
    }

pub returns-clause-encloses : goal.returns-clause-encloses
returns-clause-encloses g c x h =
    let all : c.loop-k._k ≡ c.args.per_system = omega (arith, c.loop-k-test.false, c.loop-k.auto._k-end, c.requires.some_units) in
    let e =
    subst (λ k. c.loop-k.all ≡ ends_power g.row.F (filled_ends g.row.F c.args.backorders (c.args.systems * c.args.per_system)) (k - 1)) all c.loop-k.invariant.all in
    subst (λ (z : Ends). In g.row.F z (factor_of x c.args.systems c.args.per_system)) (sym e)
    (factor_in g.row.F c.args.backorders x c.args.systems c.args.per_system (omega (arith, c.requires.some_systems)) (omega (arith, c.requires.some_units)) h)
