use Rattle.std.proofs.Common.{◌≡◌, ◌+◌, ◌<◌, ◌∙◌, arith, get_or, length, lit<, refl, ap, subst, take}
use Rattle.std.proofs.lemmas.Grind.{take-set_at}
use Rattle.std.proofs.lemmas.List.{length-set}
use Rattle.series_bounds.specs.Profile.{listed}
use Rattle.moment_table.specs.Profile.{ebo_ends}
use Rattle.moment_table.proofs.Steps.{entry_is, listed_none, listed_next, step_weight}
use Rattle.moment_table.proofs.Firsts.{rest_next, still_there}
use Rattle.moment_table.proofs.backorders.known.Goals as goal

pub loop-s-init : goal.loop-s-init
loop-s-init g c = record {
  found = listed_none (ebo_ends g.row.F c.args.mean c.args.found.now.items c.args.sum) _ refl;
  rest = refl;
  long = refl;
  falling = c.first-falling.ensures.falling c.args.found.now.items;
  small = c.first-falling.ensures.small;
}

pub step-requires : goal.step-requires
step-requires g c =
    let weight = c.index-weight.result.now in
    let inside : c.loop-s.s < c.args.last = omega (arith, c.loop-s-test.true) in
    let is : weight ≡ get_or c.args.found.now.items c.loop-s.s weight =
    still_there c.loop-s.s c.loop-s.found.items c.args.found.now.items c.loop-s.invariant.rest weight c.index-weight.ensures in
    let t = step_weight g.row.F c.args.last c.args.found.now.items weight c.loop-s.s c.requires.first inside is in
    (lit< tt, (lit< tt, (omega (arith, inside, c.requires.last), (t, c.loop-s.invariant.small))))

pub loop-s-preserved : goal.loop-s-preserved
loop-s-preserved g c =
    let weight = c.index-weight.result.now in
    let list = c.args.found.now.items in
    let items = c.loop-s.found.items in
    let ebo = c.expected.result in
    let below : c.loop-s.s < c.args.last = omega (arith, c.loop-s-test.true) in
    let is : weight ≡ get_or list c.loop-s.s weight = still_there c.loop-s.s items list c.loop-s.invariant.rest weight c.index-weight.ensures in
    let inside : c.loop-s.s < length list = omega (arith, below, c.requires.first.enough) in
    record {
      found = take-set_at items c.loop-s.s (c.loop-s.s + 1) ebo refl (omega (arith, inside, c.loop-s.invariant.long))
          ∙ listed_next (ebo_ends g.row.F c.args.mean list c.args.sum) c.loop-s.s _ ebo c.loop-s.invariant.found
          (c.expected.ensures ∙ c.loop-s.invariant.falling.expected);
      rest = rest_next c.loop-s.s items list c.loop-s.invariant.rest ebo;
      long = length-set items c.loop-s.s ebo ∙ c.loop-s.invariant.long;
      falling = c.step.ensures.falling c.args.mean c.args.sum list (entry_is list c.loop-s.s weight inside is) c.loop-s.invariant.falling;
      small = c.step.ensures.small;
    }

pub returns : goal.returns
returns g c =
    let u = ebo_ends g.row.F c.args.mean c.args.found.now.items c.args.sum in
    let end : c.loop-s.s ≡ c.args.last = omega (arith, c.loop-s-test.false, c.loop-s.auto.s-end) in
    let first : take c.args.last c.loop-s.found.items ≡ listed u c.args.last = subst (λ k. take k c.loop-s.found.items ≡ listed u k) end c.loop-s.invariant.found in
    c.in_ok-push.ensures.items
    ∙ listed_next u c.args.last c.truncate.new.self.items c.expected-2.result (c.truncate.ensures.items ∙ first)
    (c.expected-2.ensures ∙ c.loop-s.invariant.falling.expected ∙ ap u end)
