use Rattle.std.proofs.Common.{◌≡◌, ◌<◌, length, arith, lit<, subst}
use Rattle.moment_table.specs.Stored.{HasRows}
use Rattle.moment_table.specs.Running.{IsRunning}
use Rattle.moment_table.specs.Profile.{known_row}
use Rattle.moment_table.proofs.Steps.{entry_is, step_weight}
use Rattle.moment_table.proofs.StoredRows.{rows_none, rows_next, rows_last}
use Rattle.moment_table.proofs.rows.known_to.Goals as goal

pub loop-s-init : goal.loop-s-init
loop-s-init g c = record {
  rows = rows_none g.row.F (known_row g.row.F c.args.mean c.args.variance c.args.list.now c.args.sum) c.args.tails c.in_ok-rows.rows c.in_ok-rows.ensures.stored c.in_ok-rows.ensures.tails;
  running = c.first-running.ensures.running c.args.list.now;
  small = c.first-running.ensures.small;
}

pub step-tail-requires : goal.step-tail-requires
step-tail-requires g c =
    let l : c.loop-s.s < c.args.last = omega (arith, c.loop-s-test.true) in
    let t = step_weight g.row.F c.args.last c.args.list.now c.index-list-s.result c.loop-s.s c.requires.first l c.index-list-s.is in
    (lit< tt, (lit< tt, (omega (arith, l, c.requires.last), (t, c.loop-s.invariant.small))))

pub loop-s-preserved : goal.loop-s-preserved
loop-s-preserved g c =
    let l : c.loop-s.s < length c.args.list.now = omega (arith, c.loop-s-test.true, c.requires.first.enough) in
    let at = entry_is c.args.list.now c.loop-s.s c.index-list-s.result l c.index-list-s.is in
    record {
      rows = rows_next g.row.F (known_row g.row.F c.args.mean c.args.variance c.args.list.now c.args.sum) c.loop-s.s c.args.tails c.loop-s.rows c.push.new.self c.stored-stored.result c.step-tail.result
          c.loop-s.invariant.rows c.in_ok-push.ensures.stored c.in_ok-push.ensures.tails (c.stored-stored.ensures c.args.mean c.args.variance c.args.sum c.args.list.now c.loop-s.s c.loop-s.invariant.running)
          (c.step-tail.ensures.tail c.args.mean c.args.variance c.args.sum c.args.list.now at c.loop-s.invariant.running);
      running = c.step-tail.ensures.running c.args.mean c.args.variance c.args.sum c.args.list.now at c.loop-s.invariant.running;
      small = c.step-tail.ensures.small;
    }

pub returns : goal.returns
returns g c =
    let u = known_row g.row.F c.args.mean c.args.variance c.args.list.now c.args.sum in
    let end : c.loop-s.s ≡ c.args.last = omega (arith, c.loop-s-test.false, c.loop-s.auto.s-end) in
    let rows : HasRows g.row.F u c.args.last c.args.tails c.loop-s.rows = subst (λ z. HasRows g.row.F u z c.args.tails c.loop-s.rows) end c.loop-s.invariant.rows in
    let running : IsRunning g.row.F c.args.mean c.args.variance c.args.list.now c.args.sum c.args.last c.loop-s.running =
    subst (λ z. IsRunning g.row.F c.args.mean c.args.variance c.args.list.now c.args.sum z c.loop-s.running) end c.loop-s.invariant.running in
    rows_last g.row.F u c.args.last c.args.tails c.loop-s.rows c.push_stored.new.self c.stored.result rows c.requires.tails c.in_ok-push_stored.ensures.stored c.push_stored.ensures.tails
    (c.stored.ensures c.args.mean c.args.variance c.args.sum c.args.list.now c.args.last running)
