use Rattle.std.proofs.Common.{◌≡◌, ◌||◌, inl, inr, sym, ◌∙◌, subst, arith}
use Rattle.std.proofs.lemmas.Bool.{cases_eq}
use Rattle.part_filling.specs.Known.{IsSettled}
use Rattle.part_filling.specs.Widening.{HasWidened}
use Rattle.part_filling.proofs.Widened.{settled_stays, widened_both}
use Rattle.part_filling.proofs.settling.settle.Goals as goal
use Rattle.part_filling.proofs.settling.settle.Goals.{then-widened, else-widened}

pub families-preserved : goal.families-preserved
families-preserved g c =
    let i = c.families.invariant in
    let e = c.in_ok-more.ensures in
    let f = c.families.f in
    let old = c.families.known in
    let new = c.settle_family.new.known in
    let is : c.if-widened.widened ≡ (c.families.widened || c.in_ok-more.more) = elim c.if-widened.branch [
      | then-widened w ↦ (let a = w.widened-is in let b = w.if-widened.true in cc)
      | else-widened w ↦ (let a = w.widened-is in let b = w.if-widened.false in cc)
    ] in
    record {
      known = e.known;
      vertices = e.vertices;
      picks = e.picks ∙ i.picks;
      settled = λ h b. elim (cases_eq h f) [
        | inl at ↦ subst (IsSettled new.windows.items new.beyond.items new.curves.items new.picks.items c.args.left c.args.most) (sym at) e.settled
        | inr d ↦ settled_stays old new f h c.args.left c.args.most e.others d (i.settled h (omega (arith, b, d)))
      ];
      widened = subst (λ w. HasWidened w c.args.known.now c.settle_family.new.known) (sym is)
          (widened_both c.families.widened c.in_ok-more.more c.args.known.now c.families.known c.settle_family.new.known i.widened e.widened);
    }
