use Rattle.std.proofs.Common.{◌≡◌, ◌+◌, [], ◌∷◌, ◌++◌, take, sym, subst}
use Rattle.std.specs.List.{AllZip, AllByRecursion}
use Rattle.std.proofs.lemmas.List.{take_all, take_more}
use Rattle.list_laws.proofs.Public.{zip_push}
use Rattle.hull.specs.Curves.{IsShape}
use Rattle.sum_walk.specs.declared.lanes.Lane.{Lane}
use Rattle.sum_walk.specs.Lanes.{IsOn}
use Rattle.sum_walk.proofs.Lists.{each_push}
use Rattle.sum_walk.proofs.lanes.put_lanes.Goals as goal

pub loop-j-preserved : goal.loop-j-preserved
loop-j-preserved g c =
    let curves = c.args.curves.now in
    let j = c.loop-j.j in
    let l = c.index-curves-j.result in
    let r = c.lane_at.result in
    let made : c.push.new.self.items ≡ c.loop-j.lanes.items ++ r ∷ [] = c.in_ok-push.ensures.items in
    let more : take (j + 1) curves ≡ take j curves ++ l ∷ [] = subst (λ z. take (j + 1) curves ≡ take j curves ++ z ∷ []) (sym c.index-curves-j.is) (take_more curves j l c.loop-j-test.true) in
    record {
      on = subst (AllZip IsOn (take (j + 1) curves)) (sym made)
          (subst (λ ls. AllZip IsOn ls (c.loop-j.lanes.items ++ r ∷ [])) (sym more) (zip_push IsOn (take j curves) c.loop-j.lanes.items l r c.loop-j.invariant.on c.lane_at.ensures.on));
      shapes = subst (AllByRecursion IsShape) (sym more) (each_push IsShape (take j curves) l c.loop-j.invariant.shapes c.invariant.ensures.shape);
      start = subst (AllByRecursion (λ (r : Lane). r.at ≡ 0)) (sym made) (each_push (λ (r : Lane). r.at ≡ 0) c.loop-j.lanes.items r c.loop-j.invariant.start c.lane_at.ensures.at);
    }

pub loop-j-init : goal.loop-j-init
loop-j-init g c = record {
  on = subst (AllZip IsOn []) (sym c.clear.ensures.items) tt;
  shapes = tt;
  start = subst (AllByRecursion (λ (r : Lane). r.at ≡ 0)) (sym c.clear.ensures.items) tt;
}

pub returns-clause-on : goal.returns-clause-on
returns-clause-on g c =
    subst (λ l. AllZip IsOn l c.loop-j.lanes.items) (take_all c.loop-j.j c.args.curves.now c.loop-j-test.false) c.loop-j.invariant.on

pub returns-clause-shapes : goal.returns-clause-shapes
returns-clause-shapes g c = subst (AllByRecursion IsShape) (take_all c.loop-j.j c.args.curves.now c.loop-j-test.false) c.loop-j.invariant.shapes

pub returns-clause-start : goal.returns-clause-start
returns-clause-start g c = c.loop-j.invariant.start
