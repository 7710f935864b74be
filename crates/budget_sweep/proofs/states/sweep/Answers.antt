use Rattle.std.proofs.Common.{◌≡◌, ◌++◌, ◌∷◌, [], sym, ◌∙◌, subst}
use Rattle.budget_sweep.specs.Sums.{AreSums}
use Rattle.budget_sweep.proofs.Room.{all_fit, all_small}
use Rattle.budget_sweep.proofs.Taken.{Swept, none_swept, stepped, ended}
use Rattle.budget_sweep.proofs.states.sweep.Goals as goal

pub steps-init : goal.steps-init
steps-init c =
    let e : c.new-points.result.items ≡ [] = c.new-points.ensures.items in
    record {
      same = c.in_ok-walk.ensures.same;
      sums = subst (λ ks. AreSums c.args.curves.now ks c.sums_at-sums.result) c.picks.ensures c.sums_at-sums.ensures;
      swept = subst (λ ps. Swept c.args.curves.now c.in_ok-walk.walk.picks ps) (sym e)
          (none_swept c.args.curves.now c.in_ok-walk.walk.picks c.in_ok-walk.ensures.zero);
    }

pub steps-smaller : goal.steps-smaller
steps-smaller c =
    let m : c.push.new.self.items ≡ c.steps.points.items ++ c.at_price.result ∷ [] = c.in_ok-push.ensures.items in
    let s = stepped c.args.curves.now c.steps.walk c.in_ok-walk-2.walk c.in-Some.next c.steps.points.items
    c.push.new.self.items c.at_price.result c.steps.sums c.sums_after-sums.result
    c.steps.invariant.same c.in-Some.ensures.some c.in_ok-walk-2.ensures c.steps.invariant.sums c.steps.invariant.swept
    c.at_price.ensures m c.sums_after-sums.ensures in
    s.smaller

pub steps-preserved : goal.steps-preserved
steps-preserved c =
    let m : c.push.new.self.items ≡ c.steps.points.items ++ c.at_price.result ∷ [] = c.in_ok-push.ensures.items in
    let s = stepped c.args.curves.now c.steps.walk c.in_ok-walk-2.walk c.in-Some.next c.steps.points.items
    c.push.new.self.items c.at_price.result c.steps.sums c.sums_after-sums.result
    c.steps.invariant.same c.in-Some.ensures.some c.in_ok-walk-2.ensures c.steps.invariant.sums c.steps.invariant.swept
    c.at_price.ensures m c.sums_after-sums.ensures in
    record { same = s.same; sums = s.come_to; swept = s.swept }

pub returns-clause-states : goal.returns-clause-states
returns-clause-states c =
    let m : c.push-2.new.self.items ≡ c.steps.points.items ++ c.at_price-2.result ∷ [] = c.in_ok-push-2.ensures.items in
    (ended c.args.curves.now c.steps.walk c.steps.points.items c.of.result c.at_price-2.result c.steps.sums
    c.steps.invariant.same c.in_default.ensures.none c.steps.invariant.sums c.steps.invariant.swept c.at_price-2.ensures
    (c.of.ensures ∙ m)).sweep

pub returns-clause-case : goal.returns-clause-case
returns-clause-case c =
    let m : c.push-2.new.self.items ≡ c.steps.points.items ++ c.at_price-2.result ∷ [] = c.in_ok-push-2.ensures.items in
    let e = ended c.args.curves.now c.steps.walk c.steps.points.items c.of.result c.at_price-2.result c.steps.sums
    c.steps.invariant.same c.in_default.ensures.none c.steps.invariant.sums c.steps.invariant.swept c.at_price-2.ensures
    (c.of.ensures ∙ m) in
    λ ends rows held areas. record {
      curves = c.args.curves.now;
      is_sweep = record { areas = areas; shapes = e.shapes; sweep = e.sweep };
    }

pub returns-clause-small : goal.returns-clause-small
returns-clause-small c =
    let m : c.push-2.new.self.items ≡ c.steps.points.items ++ c.at_price-2.result ∷ [] = c.in_ok-push-2.ensures.items in
    let e = ended c.args.curves.now c.steps.walk c.steps.points.items c.of.result c.at_price-2.result c.steps.sums
    c.steps.invariant.same c.in_default.ensures.none c.steps.invariant.sums c.steps.invariant.swept c.at_price-2.ensures
    (c.of.ensures ∙ m) in
    all_small c.args.curves.now c.of.result c.requires e.shapes e.sweep

pub returns-clause-fits : goal.returns-clause-fits
returns-clause-fits c =
    let m : c.push-2.new.self.items ≡ c.steps.points.items ++ c.at_price-2.result ∷ [] = c.in_ok-push-2.ensures.items in
    let e = ended c.args.curves.now c.steps.walk c.steps.points.items c.of.result c.at_price-2.result c.steps.sums
    c.steps.invariant.same c.in_default.ensures.none c.steps.invariant.sums c.steps.invariant.swept c.at_price-2.ensures
    (c.of.ensures ∙ m) in
    all_fit c.of.result (all_small c.args.curves.now c.of.result c.requires e.shapes e.sweep)

pub returns-clause-shapes : goal.returns-clause-shapes
returns-clause-shapes c =
    let m : c.push-2.new.self.items ≡ c.steps.points.items ++ c.at_price-2.result ∷ [] = c.in_ok-push-2.ensures.items in
    (ended c.args.curves.now c.steps.walk c.steps.points.items c.of.result c.at_price-2.result c.steps.sums
    c.steps.invariant.same c.in_default.ensures.none c.steps.invariant.sums c.steps.invariant.swept c.at_price-2.ensures
    (c.of.ensures ∙ m)).shapes
