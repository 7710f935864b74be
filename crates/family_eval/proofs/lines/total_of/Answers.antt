use Rattle.std.proofs.Common.{◌+◌, ◌-◌, ◌<◌, arith, get_or, length, lit<, subst, sym}
use Rattle.list_laws.proofs.Public.{before_next}
use Rattle.fixed_interval.specs.Ends.{Ends, ends_exact, ends_times}
use Rattle.depot_pipeline.proofs.Public.{Summed, summed_next, summed_start}
use Rattle.family_items.specs.Encloses.{no_item}
use Rattle.family_items.proofs.Public.{times_most, total_room, total_term}
use Rattle.family_eval.proofs.lines.total_of.Goals as goal

pub loop-j-init : goal.loop-j-init
loop-j-init g c =
    subst (λ (z : Ends). Summed g.row.F 25600 (ends_exact g.row.F 0) (λ k. ends_times (get_or c.args.items.now (k + 1) (no_item g.row.F)).backorders c.args.weight) z 0)
    (sym c.exact-total.ensures.ends)
    (summed_start g.row.F 25600 (ends_exact g.row.F 0) (λ k. ends_times (get_or c.args.items.now (k + 1) (no_item g.row.F)).backorders c.args.weight) (omega arith))

pub add-total-requires : goal.add-total-requires
add-total-requires g c =
    let inside : c.loop-j.j < length c.args.items.now = omega (arith, c.loop-j-test.true) in
    let small = c.requires.small c.loop-j.j c.index-items-j.result inside in (
      lit< tt,
      total_room g.row.F c.loop-j.j _ c.loop-j.total.hi c.times.result.hi c.requires.scale.1 inside c.requires.few c.loop-j.invariant.most
          (times_most g.row.F _ (get_or c.args.items.now c.loop-j.j c.index-items-j.result) c.times.result small (omega (arith, c.requires.weight)) c.times.ensures.ends),
    )

pub loop-j-preserved : goal.loop-j-preserved
loop-j-preserved g c =
    let inside : c.loop-j.j < length c.args.items.now = omega (arith, c.loop-j-test.true) in
    let small = c.requires.small c.loop-j.j c.index-items-j.result inside in
    subst (λ n. Summed g.row.F 25600 (ends_exact g.row.F 0) (λ k. ends_times (get_or c.args.items.now (k + 1) (no_item g.row.F)).backorders c.args.weight) c.add-total.result n)
    (before_next c.loop-j.j c.loop-j.auto.j)
    (summed_next g.row.F 25600 (ends_exact g.row.F 0) (λ k. ends_times (get_or c.args.items.now (k + 1) (no_item g.row.F)).backorders c.args.weight) c.loop-j.total c.times.result
    c.add-total.result (c.loop-j.j - 1) c.loop-j.invariant
    (total_term g.row.F c.args.items.now c.args.weight c.loop-j.j c.index-items-j.result c.times.result c.loop-j.auto.j inside c.times.ensures.ends)
    (times_most g.row.F _ (get_or c.args.items.now c.loop-j.j c.index-items-j.result) c.times.result small (omega (arith, c.requires.weight)) c.times.ensures.ends) c.add-total.ensures.ends)
