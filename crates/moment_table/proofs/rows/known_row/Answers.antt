use Rattle.std.proofs.Common.{◌≡◌, ◌<◌, ◌+◌, arith, lit<, subst}
use Rattle.moment_table.specs.Running.{AreSmall}
use Rattle.moment_table.proofs.Steps.{step_weight}
use Rattle.moment_table.proofs.rows.known_row.Goals as goal

pub loop-s-init : goal.loop-s-init
loop-s-init g c = record { running = c.first-running.ensures.running c.args.list.now; small = c.first-running.ensures.small }

pub step-requires : goal.step-requires
step-requires g c =
    let l : c.loop-s.s < c.args.stock + 1 = omega (arith, c.loop-s-test.true) in
    let t = step_weight g.row.F (c.args.stock + 1) c.args.list.now c.index-list-s.result c.loop-s.s c.requires.first l c.index-list-s.is in
    (lit< tt, (lit< tt, (omega (arith, l, c.requires.stock), (t, c.loop-s.invariant.small))))

pub first-running-requires : goal.first-running-requires
first-running-requires g c = (lit< tt, (lit< tt, (c.requires.mean_top, (c.requires.variance_top, c.requires.least))))

pub overflow_cast-s : goal.overflow_cast-s
overflow_cast-s g c = (let l = c.loop-s-test.true in let k = c.requires.stock in omega (arith, l, k))

pub row-requires : goal.row-requires
row-requires g c =
    let last : c.loop-s.s ≡ c.args.stock = omega (arith, c.loop-s-test.false, c.loop-s.auto.s-end) in
    let t = step_weight g.row.F (c.args.stock + 1) c.args.list.now c.index-list-stock.result c.args.stock c.requires.first (omega arith) c.index-list-stock.is in
    (lit< tt, (lit< tt, (lit< tt, (omega (arith, c.requires.stock), (t, subst (λ n. AreSmall g.row.F n c.loop-s.running.falling) last c.loop-s.invariant.small)))))
