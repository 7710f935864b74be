use Rattle.std.proofs.Common.{ap, arith}
use Rattle.list_laws.proofs.Public.{pushed_all, pushed_next}
use Rattle.spares_input.specs.Rows.{no_part}
use Rattle.spares_input.specs.declared.rows.PartRow.{PartRow}
use Rattle.case_figures.proofs.items.part_names.Goals as goal

pub part-requires : goal.part-requires
part-requires c = omega (arith, c.loop-p-test.true, c.part_count-p-end.ensures.count)

pub loop-p-preserved : goal.loop-p-preserved
loop-p-preserved c =
    pushed_next (λ (r : PartRow). r.name) c.args.case.now.parts c.loop-p.p no_part c.loop-p.names.items c.push.new.self.items c.part.result.now.name
    (omega (arith, c.loop-p-test.true, c.part_count-p-end.ensures.count)) c.in_ok-push.ensures.items c.loop-p.invariant
    (ap (λ (r : PartRow). r.name) c.part.ensures.row)

pub returns : goal.returns
returns c =
    pushed_all (λ (r : PartRow). r.name) c.args.case.now.parts c.loop-p.p c.loop-p.names.items (omega (arith, c.loop-p-test.false, c.part_count-p-end.ensures.count))
    c.loop-p.invariant
