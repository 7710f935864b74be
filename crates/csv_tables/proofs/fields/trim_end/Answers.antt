use Rattle.std.proofs.Common.{◌≡◌, ◌∙◌, sym, take, arith, ap}
use Rattle.csv_tables.specs.Fields.{trim_end}
use Rattle.csv_tables.proofs.TrimFacts.{trim_end_back, trim_end_stop, trim_end_none}
use Rattle.csv_tables.proofs.fields.trim_end.Goals as goal
use Rattle.csv_tables.proofs.fields.trim_end.Goals.{then-loop-end-test+else-is_blank, else-loop-end-test}

pub loop-end-preserved : goal.loop-end-preserved
loop-end-preserved c = record {
  within = omega (arith, c.loop-end.invariant.within);
  same = trim_end_back c.args.text.now c.loop-end.end c.loop-end-test.true c.loop-end.invariant.within (sym c.if-is_blank.ensures) ∙ c.loop-end.invariant.same;
}

pub returns : goal.returns
returns c = elim c.loop-end-test.branch [
  | then-loop-end-test+else-is_blank w ↦
      sym (trim_end_stop c.args.text.now c.loop-end.end w.loop-end-test.true c.loop-end.invariant.within (sym w.if-is_blank.ensures)) ∙ c.loop-end.invariant.same
  | else-loop-end-test w ↦
      let none : c.loop-end.end ≡ 0 = omega (arith, w.loop-end-test.false) in
      let empty = ap (λ m. take m c.args.text.now) none in
      empty ∙ (sym trim_end_none ∙ (ap trim_end (sym empty) ∙ c.loop-end.invariant.same))
]
