use Rattle.family_points.specs.Choices.{IsChoice}
use Rattle.std.proofs.Common.{◌≡◌, ◌<◌, ◌≤◌, ◌+◌, length, min, subst, sym, arith}
use Rattle.family_points.specs.Least.{IsLeast}
use Rattle.family_points.proofs.Public.{points_to, choice_all, choice_first, choice_more}
use Rattle.family_floors.proofs.least.least_of_choices.Goals as goal

pub loop-n-init : goal.loop-n-init
loop-n-init g c =
    let here = c.args.here.now in
    record {
      least = choice_first here.family.now here.site.0 here.base.now.order.items g.S.Score.ends here.depot.now c.args.price.p c.args.price.q c.index-first.result.now c.value_at-least.result
          c.requires.some c.index-first.ensures c.value_at-least.ensures.value;
      most = c.value_at-least.ensures.most;
    }

pub loop-n-preserved : goal.loop-n-preserved
loop-n-preserved g c =
    let here = c.args.here.now in
    let inside : c.loop-n.n < length here.base.now.order.items = omega (arith, c.loop-n-test.true, c.len-n-end.ensures, here.base.now.order.ok.0) in
    let is : c.min-least.result ≡ min c.loop-n.least c.value_at-value.result = omega (arith, c.min-least.ensures) in
    record {
      least = subst (IsLeast c.args.price.p c.args.price.q (points_to here.family.now here.site.0 here.base.now.order.items g.S.Score.ends here.depot.now (c.loop-n.n + 1))) (sym is)
          (choice_more here.family.now here.site.0 here.base.now.order.items g.S.Score.ends here.depot.now c.args.price.p c.args.price.q c.loop-n.n c.index-choice.result.now c.loop-n.least
          c.value_at-value.result inside c.index-choice.ensures c.loop-n.invariant.least c.value_at-value.ensures.value);
      most = omega (arith, is, c.loop-n.invariant.most);
    }

pub returns-clause-least : goal.returns-clause-least
returns-clause-least g c =
    let here = c.args.here.now in
    let all : length here.base.now.order.items ≤ c.loop-n.n = omega (arith, c.loop-n-test.false, c.len-n-end.ensures, here.base.now.order.ok.0) in
    choice_all here.family.now here.site.0 here.base.now.order.items g.S.Score.ends here.depot.now c.args.price.p c.args.price.q c.loop-n.n c.loop-n.least all c.loop-n.invariant.least

pub value_at-least-requires-clause-here : goal.value_at-least-requires-clause-here
value_at-least-requires-clause-here g c = c.requires.here

pub value_at-least-requires-clause-rows : goal.value_at-least-requires-clause-rows
value_at-least-requires-clause-rows g c = c.requires.rows

pub value_at-least-requires-clause-most_money : goal.value_at-least-requires-clause-most_money
value_at-least-requires-clause-most_money g c = c.requires.most_money

pub value_at-least-requires-clause-price : goal.value_at-least-requires-clause-price
value_at-least-requires-clause-price g c = c.requires.price

pub value_at-value-requires-clause-here : goal.value_at-value-requires-clause-here
value_at-value-requires-clause-here g c = c.requires.here

pub value_at-value-requires-clause-rows : goal.value_at-value-requires-clause-rows
value_at-value-requires-clause-rows g c = c.requires.rows

pub value_at-value-requires-clause-most_money : goal.value_at-value-requires-clause-most_money
value_at-value-requires-clause-most_money g c = c.requires.most_money

pub value_at-value-requires-clause-price : goal.value_at-value-requires-clause-price
value_at-value-requires-clause-price g c = c.requires.price

pub value_at-least-requires-clause-choice : goal.value_at-least-requires-clause-choice
value_at-least-requires-clause-choice g c =
    let here = c.args.here.now in
    let first = c.index-first.result.now in
    subst (IsChoice here.family.now here.site.0) (sym c.index-first.ensures) (c.requires.here.base.order.choices 0 first c.requires.some)

pub value_at-value-requires-clause-choice : goal.value_at-value-requires-clause-choice
value_at-value-requires-clause-choice g c =
    let here = c.args.here.now in
    let choice = c.index-choice.result.now in
    let inside : c.loop-n.n < length here.base.now.order.items = omega (arith, c.loop-n-test.true, c.len-n-end.ensures, here.base.now.order.ok.0) in
    subst (IsChoice here.family.now here.site.0) (sym c.index-choice.ensures) (c.requires.here.base.order.choices c.loop-n.n choice inside)

pub index-first-requires : goal.index-first-requires
index-first-requires g c = let some = c.requires.some in omega (arith, some, c.args.here.now.base.now.order.ok.0)

pub returns-clause-most : goal.returns-clause-most
returns-clause-most g c = c.loop-n.invariant.most
