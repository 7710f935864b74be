use Rattle.std.proofs.Common.{refl, sym, ap, ◌∙◌, arith}
use Rattle.std.proofs.lemmas.Slice.Zip.{AllZip-long}
use Rattle.hull.specs.declared.point.Point.{Point}
use Rattle.sum_walk.specs.declared.lanes.Lane.{Lane}
use Rattle.sum_walk.specs.Lanes.{IsOn, stands}
use Rattle.sum_walk.proofs.Totals.{no_part_more, one_part_more}
use Rattle.sum_walk.proofs.Parts.{total}
use Rattle.sum_walk.proofs.Curve.{vertex_range}
use Rattle.sum_walk.proofs.OnCurves.{zip_at}
use Rattle.sum_walk.proofs.sums.place_at.Goals as goal

abbrev nothing : Lane
nothing = record { at = 0; fall = 0; rise = 0 }

pub loop-j-init : goal.loop-j-init
loop-j-init g c =
    let first = c.args.first.now in
    let all = stands c.args.curves.now c.args.lanes.now in
    let range = c.requires.range in
    record {
      costs = sym (total (λ (v : Point). v.cost) (λ v w. refl) all first);
      los = sym (total (λ (v : Point). v.lo) (λ v w. refl) all first);
      cost = range.cost;
      lo = omega (arith, range.ends, range.hi);
    }

pub bounds-curves-j : goal.bounds-curves-j
bounds-curves-j g c = omega (arith, AllZip-long IsOn c.args.curves.now c.args.lanes.now c.requires.on, c.loop-j-test.true)

pub at-vertex-requires : goal.at-vertex-requires
at-vertex-requires g c = (zip_at c.args.curves.now c.args.lanes.now c.loop-j.j c.index-curves-j.result nothing c.requires.on c.loop-j-test.true c.index-curves-j.is).below

pub overflow_add-cost : goal.overflow_add-cost
overflow_add-cost g c =
    let on = zip_at c.args.curves.now c.args.lanes.now c.loop-j.j c.index-curves-j.result nothing c.requires.on c.loop-j-test.true c.index-curves-j.is in
    let range = vertex_range c.index-curves-j.result _ (g.T.Spot.point c.at-vertex.result.now) c.invariant.ensures.shape on.below c.at-vertex.ensures in
    let i = c.loop-j.invariant.cost in
    let few = c.requires.few in
    omega (arith, i, range.cost, c.loop-j-test.true, few, AllZip-long IsOn c.args.curves.now c.args.lanes.now c.requires.on)

pub overflow_add-lo : goal.overflow_add-lo
overflow_add-lo g c =
    let on = zip_at c.args.curves.now c.args.lanes.now c.loop-j.j c.index-curves-j.result nothing c.requires.on c.loop-j-test.true c.index-curves-j.is in
    let range = vertex_range c.index-curves-j.result _ (g.T.Spot.point c.at-vertex.result.now) c.invariant.ensures.shape on.below c.at-vertex.ensures in
    let i = c.loop-j.invariant.lo in
    let few = c.requires.few in
    omega (arith, i, range.ends, range.hi, c.loop-j-test.true, few, AllZip-long IsOn c.args.curves.now c.args.lanes.now c.requires.on)

pub loop-j-preserved : goal.loop-j-preserved
loop-j-preserved g c =
    let curves = c.args.curves.now in
    let lanes = c.args.lanes.now in
    let j = c.loop-j.j in
    let l = c.index-curves-j.result in
    let v : Point = g.T.Spot.point c.at-vertex.result.now in
    let on = zip_at curves lanes j l nothing c.requires.on c.loop-j-test.true c.index-curves-j.is in
    let range = vertex_range l _ v c.invariant.ensures.shape on.below c.at-vertex.ensures in
    let i = c.loop-j.invariant in
    let ic = i.cost in
    let il = i.lo in
    record {
      costs = one_part_more (λ (w : Point). w.cost) curves lanes j c.loop-j.cost _ i.costs l nothing c.cost-cost.result c.requires.on c.loop-j-test.true c.index-curves-j.is
          (c.cost-cost.ensures ∙ ap (λ (w : Point). w.cost) c.at-vertex.ensures);
      los = one_part_more (λ (w : Point). w.lo) curves lanes j c.loop-j.lo _ i.los l nothing c.lo-lo.result c.requires.on c.loop-j-test.true c.index-curves-j.is
          (c.lo-lo.ensures ∙ ap (λ (w : Point). w.lo) c.at-vertex.ensures);
      cost = omega (arith, ic, range.cost, c.cost-cost.ensures);
      lo = omega (arith, il, range.ends, range.hi, c.lo-lo.ensures);
    }

pub returns : goal.returns
returns g c =
    let curves = c.args.curves.now in
    let lanes = c.args.lanes.now in
    let j = c.loop-j.j in
    let i = c.loop-j.invariant in
    let long = AllZip-long IsOn curves lanes c.requires.on in
    record {
      cost = no_part_more (λ (w : Point). w.cost) curves lanes j c.loop-j.cost _ i.costs (omega (arith, long, c.loop-j-test.false));
      lo = no_part_more (λ (w : Point). w.lo) curves lanes j c.loop-j.lo _ i.los (omega (arith, long, c.loop-j-test.false));
    }
