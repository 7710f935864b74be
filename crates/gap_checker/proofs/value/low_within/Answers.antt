use Rattle.std.proofs.Common.{◌≡◌, nat_le, true, false, Some, sym, ap, ◌∙◌}
use Rattle.std.proofs.lemmas.Bool.{leb-false, leb-true}
use Rattle.gap_rules.specs.Values.{least_within}
use Rattle.gap_checker.proofs.Lowering.{below_is, below_isnt}
use Rattle.gap_checker.proofs.value.low_within.Goals as goal

pub returns-then-branch : goal.returns-then-branch
unfolding least_within
returns-then-branch g c =
    let value = least_within c.args.rated.now.case c.args.line.0 g.S.Score.ends c.args.price c.args.bounds.now in
    let told : nat_le c.args.floor value ≡ true = sym (rw c.case-case.ensures at c.in_ok-is_at_least.ensures) ∙ c.if-branch.true in
    below_isnt c.args.floor value (leb-true c.args.floor value told)

pub returns : goal.returns
unfolding least_within
returns g c =
    let value = least_within c.args.rated.now.case c.args.line.0 g.S.Score.ends c.args.price c.args.bounds.now in
    let told : nat_le c.args.floor value ≡ false = sym (rw c.case-case.ensures at c.in_ok-is_at_least.ensures) ∙ c.if-branch.false in
    ap Some c.in_ok-least.ensures ∙ below_is c.args.floor value (leb-false c.args.floor value told)
