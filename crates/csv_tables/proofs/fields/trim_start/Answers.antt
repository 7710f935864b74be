use Rattle.std.proofs.Common.{◌≡◌, ◌∙◌, sym, drop, length, arith, ap}
use Rattle.std.proofs.Math.Seq.{drop-length}
use Rattle.csv_tables.specs.Fields.{trim_start}
use Rattle.csv_tables.proofs.TrimFacts.{trim_start_blank, trim_start_solid, trim_start_none, rest_whole}
use Rattle.csv_tables.proofs.fields.trim_start.Goals as goal

pub returns-then-not-is_blank : goal.returns-then-not-is_blank
returns-then-not-is_blank c =
    rest_whole c.args.text.now c.loop-i.i
    ∙ (sym (trim_start_solid c.args.text.now c.loop-i.i c.loop-i-test.true (sym c.if-not-is_blank.ensures)) ∙ c.loop-i.invariant)

pub loop-i-preserved : goal.loop-i-preserved
loop-i-preserved c =
    trim_start_blank c.args.text.now c.loop-i.i c.loop-i-test.true (sym c.if-not-is_blank.ensures) ∙ c.loop-i.invariant

pub returns : goal.returns
returns c =
    let done : c.loop-i.i ≡ length c.args.text.now = omega (arith, c.loop-i-test.false, c.loop-i.auto.i-end) in
    let none = drop-length c.args.text.now in
    rest_whole c.args.text.now (length c.args.text.now)
    ∙ (none ∙ (sym trim_start_none ∙ (ap trim_start (sym none ∙ ap (λ m. drop m c.args.text.now) (sym done)) ∙ c.loop-i.invariant)))
