use Rattle.std.proofs.Common.{arith, subst, sym, ◌<◌, ◌∙◌}
use Rattle.session_plans.specs.Settling.{AreSettled}
use Rattle.session_plans.proofs.Settled.{part_off, same_part, unsettled}
use Rattle.session_plans.proofs.evaluated.settle.Goals as goal
use Rattle.session_plans.proofs.evaluated.settle.Goals.{then-not-is_stocked_alike+in-None-1, then-not-is_stocked_alike+in-Some-1, else-not-is_stocked_alike}

pub loop-p-init : goal.loop-p-init
loop-p-init c = unsettled c.args.case.now c.args.old.now c.args.new.now c.args.families.now

pub place_of-requires : goal.place_of-requires
place_of-requires c = subst (λ n. c.loop-p.p < n) c.part_count-p-end.ensures.count c.loop-p-test.true

pub bounds-families-place_of : goal.bounds-families-place_of
bounds-families-place_of c = subst (λ n. c.place_of.result < n) (sym (c.loop-p.auto.families ∙ c.requires.count)) c.place_of.ensures.within

pub loop-p-preserved : goal.loop-p-preserved
loop-p-preserved c =
    elim c.if-not-is_stocked_alike.branch [
      | then-not-is_stocked_alike+in-None-1 w ↦
          rw w.families-is (part_off c.args.case.now c.args.old.now c.args.new.now c.args.families.now c.loop-p.families c.loop-p.p c.loop-p.invariant w.place_of.result
          w.place_of.ensures.place (subst (λ n. w.place_of.result < n) (sym (c.loop-p.auto.families ∙ c.requires.count)) w.place_of.ensures.within))
      | then-not-is_stocked_alike+in-Some-1 w ↦
          rw w.families-is (part_off c.args.case.now c.args.old.now c.args.new.now c.args.families.now c.loop-p.families c.loop-p.p c.loop-p.invariant w.place_of.result
          w.place_of.ensures.place (subst (λ n. w.place_of.result < n) (sym (c.loop-p.auto.families ∙ c.requires.count)) w.place_of.ensures.within))
      | else-not-is_stocked_alike w ↦
          rw w.families-is (same_part c.args.case.now c.args.old.now c.args.new.now c.args.families.now c.loop-p.families c.loop-p.p c.loop-p.invariant
          (λ k b. c.is_stocked_alike.ensures w.if-not-is_stocked_alike.false k (subst (λ n. k < n) (sym c.site_count-sites.ensures.count) b)))
    ]

pub returns : goal.returns
returns c =
    let t = c.loop-p-test.false in
    let e = c.loop-p.auto.p-end in
    let n = c.part_count-p-end.ensures.count in
    subst (λ p. AreSettled c.args.case.now c.args.old.now c.args.new.now c.args.families.now c.loop-p.families p) (omega (arith, t, e, n)) c.loop-p.invariant
