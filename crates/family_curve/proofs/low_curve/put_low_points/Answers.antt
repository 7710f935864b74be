use Rattle.std.proofs.Common.{◌<◌, ◌≤◌, true, List, [], length, map, sym, subst, arith, rules}
use Rattle.std.proofs.lemmas.List.{take_all}
use Rattle.family_points.specs.declared.order.Choice.{Choice}
use Rattle.family_points.specs.Choices.{IsChoice, choice_point}
use Rattle.family_points.proofs.Public.{earlier_cheaper}
use Rattle.family_curve.specs.LowCurves.{IsLowTo}
use Rattle.family_curve.proofs.LowCurves.{choice_low, low_none}
use Rattle.family_curve.proofs.low_curve.put_low_points.Goals as goal

pub line_low-least-requires : goal.line_low-least-requires
line_low-least-requires g c = c.requires.here.site.1

pub low_row_at-row-requires-clause-choice : goal.low_row_at-row-requires-clause-choice
low_row_at-row-requires-clause-choice g c =
    let here = c.args.here.now in
    let first = c.index-first.result.now in
    subst (IsChoice here.family.now here.site.0) (sym c.index-first.ensures) (c.requires.here.base.order.choices 0 first c.requires.some)

pub begin_low-strict-requires-clause-choice : goal.begin_low-strict-requires-clause-choice
begin_low-strict-requires-clause-choice g c =
    let here = c.args.here.now in
    let first = c.index-first.result.now in
    subst (IsChoice here.family.now here.site.0) (sym c.index-first.ensures) (c.requires.here.base.order.choices 0 first c.requires.some)

pub loop-n-init : goal.loop-n-init
loop-n-init g c =
    let here = c.args.here.now in
    let x = here.family.now in
    let first = c.index-first.result.now in
    record {
      low = choice_low x here.site.0 here.base.now.order.items g.S.Score.ends here.depot.now 0 first [] c.begin_low-strict.new.chain true c.begin_low-strict.result c.requires.some
          c.index-first.ensures (low_none true) c.begin_low-strict.ensures.taken (λ _. search rules);
      few = omega (arith, c.begin_low-strict.ensures.one);
    }

pub low_row_at-row-requires-in-loop-n-clause-choice : goal.low_row_at-row-requires-in-loop-n-clause-choice
low_row_at-row-requires-in-loop-n-clause-choice g c =
    let here = c.args.here.now in
    let choice = c.index-choice.result.now in
    subst (IsChoice here.family.now here.site.0) (sym c.index-choice.ensures)
    (c.requires.here.base.order.choices c.loop-n.n choice (omega (arith, c.loop-n-test.true, c.len-n-end.ensures, here.base.now.order.ok.0)))

pub take_low-requires-clause-choice : goal.take_low-requires-clause-choice
take_low-requires-clause-choice g c =
    let here = c.args.here.now in
    let choice = c.index-choice.result.now in
    subst (IsChoice here.family.now here.site.0) (sym c.index-choice.ensures)
    (c.requires.here.base.order.choices c.loop-n.n choice (omega (arith, c.loop-n-test.true, c.len-n-end.ensures, here.base.now.order.ok.0)))

pub take_low-requires-clause-order : goal.take_low-requires-clause-order
take_low-requires-clause-order g c = λ v m. (
    let here = c.args.here.now in
    let inside : c.loop-n.n < length here.base.now.order.items = omega (arith, c.loop-n-test.true, c.len-n-end.ensures, here.base.now.order.ok.0) in
    let u = c.loop-n.invariant.low.costs v m in
    let cheap = earlier_cheaper here.family.now here.site.0 here.base.now.order.items c.requires.here.base.order g.S.Score.ends here.depot.now c.loop-n.n c.index-choice.result.now u.0 inside
    c.index-choice.ensures u.1 in
    omega (arith, cheap, u.2))

pub take_low-requires-clause-bare : goal.take_low-requires-clause-bare
take_low-requires-clause-bare g c = c.loop-n.invariant.low.bare

pub loop-n-preserved : goal.loop-n-preserved
loop-n-preserved g c =
    let here = c.args.here.now in
    let inside : c.loop-n.n < length here.base.now.order.items = omega (arith, c.loop-n-test.true, c.len-n-end.ensures, here.base.now.order.ok.0) in
    record {
      low = choice_low here.family.now here.site.0 here.base.now.order.items g.S.Score.ends here.depot.now c.loop-n.n c.index-choice.result.now c.loop-n.chain c.take_low.new.chain
          c.loop-n.strict c.in_ok-strict.strict inside c.index-choice.ensures c.loop-n.invariant.low c.in_ok-strict.ensures.taken c.in_ok-strict.ensures.strict;
      few = omega (arith, c.in_ok-strict.ensures.few, c.loop-n.invariant.few);
    }

pub returns-clause-low : goal.returns-clause-low
returns-clause-low g c =
    let here = c.args.here.now in
    let order = here.base.now.order.items in
    let all : length order ≤ c.loop-n.n = omega (arith, c.loop-n-test.false, c.len-n-end.ensures, here.base.now.order.ok.0) in
    subst (λ (l : List Choice). IsLowTo (map (choice_point g.S.Score.ends here.family.now here.depot.now here.site.0) l) c.loop-n.chain c.loop-n.strict) (take_all c.loop-n.n order all)
    c.loop-n.invariant.low
