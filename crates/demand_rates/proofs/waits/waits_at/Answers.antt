use Rattle.std.proofs.Common.{◌+◌, sym, subst, ap}
use Rattle.demand_rates.proofs.WaitFacts.{AreWaitsBelow, wait_fits, waits_done, waits_none, waits_same, waits_written}
use Rattle.demand_rates.proofs.waits.waits_at.Goals.{in-Some, in_default}
use Rattle.demand_rates.proofs.waits.waits_at.Goals as goal

pub loop-p-preserved : goal.loop-p-preserved
loop-p-preserved c = elim c.match-parent.branch [
  | in-Some w ↦
      waits_written c.args.case.now c.args.site.0 c.loop-p.p w.in-Some.line.0 w.wait_of-wait.result w.index_mut.result.now c.loop-p.waits.items c.match-parent.waits.items
      c.part_count-parts.ensures.valid w.in-Some.ensures.line w.in-Some.ensures.row.0 w.wait_of-wait.ensures.value w.wait_of-wait.ensures.small w.index_mut.ensures.value
      (ap (λ v. v.items) w.waits-is) c.loop-p.invariant
  | in_default w ↦
      subst (λ v. AreWaitsBelow c.args.case.now c.args.site.0 (c.loop-p.p + 1) v.items) (sym w.waits-is)
      (waits_same c.args.case.now c.args.site.0 c.loop-p.p c.loop-p.waits.items (sym w.in_default.ensures.none) c.loop-p.invariant)
]

pub loop-p-init : goal.loop-p-init
loop-p-init c = waits_none c.args.case.now c.args.site.0 c.part_count-parts.result c.in_ok-waits.waits.items (c.in_ok-waits.ensures.items_if_clones_equal (λ y same. same)) c.part_count-parts.ensures.count

pub index_mut-requires : goal.index_mut-requires
index_mut-requires c = rw (c.loop-p.waits.ok.0, c.loop-p.invariant.count) c.in-Some.ensures.row.0

pub overflow_add-index_mut : goal.overflow_add-index_mut
overflow_add-index_mut c =
    wait_fits c.args.case.now c.args.site.0 c.loop-p.p c.part_count-parts.result c.in-Some.line.0 c.index_mut.result.now c.wait_of-wait.result c.loop-p.waits.items
    c.part_count-parts.ensures.valid c.part_count-parts.ensures.count c.loop-p-test.true c.in-Some.ensures.row.0 c.index_mut.ensures.value c.wait_of-wait.ensures.small
    c.loop-p.invariant

pub returns : goal.returns
returns c =
    waits_done c.args.case.now c.args.site.0 c.part_count-parts.result c.loop-p.p c.loop-p.waits.items c.part_count-parts.ensures.valid c.part_count-parts.ensures.count
    c.loop-p-test.false c.loop-p.auto.p-end c.loop-p.invariant
