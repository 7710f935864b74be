use Rattle.std.proofs.Common.{refl, sym, ap, ◌∙◌, arith}
use Rattle.std.proofs.lemmas.Slice.Zip.{AllZip-long}
use Rattle.hull.specs.declared.point.Point.{Point}
use Rattle.sum_walk.specs.declared.lanes.Lane.{Lane}
use Rattle.sum_walk.specs.Lanes.{IsOn, stands}
use Rattle.sum_walk.proofs.Totals.{no_part_more, one_part_more}
use Rattle.sum_walk.proofs.Parts.{total}
use Rattle.sum_walk.proofs.Curve.{vertex_range}
use Rattle.sum_walk.proofs.OnCurves.{zip_at}
use Rattle.sum_walk.proofs.sums.upper_end.Goals as goal

abbrev nothing : Lane
nothing = record { at = 0; fall = 0; rise = 0 }

pub loop-j-init : goal.loop-j-init
loop-j-init g c =
    let range = c.requires.range in
    record {
      his = sym (total (λ (v : Point). v.hi) (λ v w. refl) (stands c.args.curves.now c.args.lanes.now) c.args.first.now);
      hi = omega (arith, range.hi);
    }

pub bounds-curves-j : goal.bounds-curves-j
bounds-curves-j g c = omega (arith, AllZip-long IsOn c.args.curves.now c.args.lanes.now c.requires.on, c.loop-j-test.true)

pub at-vertex-requires : goal.at-vertex-requires
at-vertex-requires g c = (zip_at c.args.curves.now c.args.lanes.now c.loop-j.j c.index-curves-j.result nothing c.requires.on c.loop-j-test.true c.index-curves-j.is).below

pub overflow_add-hi : goal.overflow_add-hi
overflow_add-hi g c =
    let on = zip_at c.args.curves.now c.args.lanes.now c.loop-j.j c.index-curves-j.result nothing c.requires.on c.loop-j-test.true c.index-curves-j.is in
    let range = vertex_range c.index-curves-j.result _ (g.T.Spot.point c.at-vertex.result.now) c.invariant.ensures.shape on.below c.at-vertex.ensures in
    let i = c.loop-j.invariant.hi in
    let few = c.requires.few in
    omega (arith, i, range.hi, c.loop-j-test.true, few, AllZip-long IsOn c.args.curves.now c.args.lanes.now c.requires.on)

pub loop-j-preserved : goal.loop-j-preserved
loop-j-preserved g c =
    let curves = c.args.curves.now in
    let lanes = c.args.lanes.now in
    let j = c.loop-j.j in
    let l = c.index-curves-j.result in
    let v : Point = g.T.Spot.point c.at-vertex.result.now in
    let on = zip_at curves lanes j l nothing c.requires.on c.loop-j-test.true c.index-curves-j.is in
    let range = vertex_range l _ v c.invariant.ensures.shape on.below c.at-vertex.ensures in
    let i = c.loop-j.invariant in
    let ih = i.hi in
    record {
      his = one_part_more (λ (w : Point). w.hi) curves lanes j c.loop-j.hi _ i.his l nothing c.hi-hi.result c.requires.on c.loop-j-test.true c.index-curves-j.is
          (c.hi-hi.ensures ∙ ap (λ (w : Point). w.hi) c.at-vertex.ensures);
      hi = omega (arith, ih, range.hi, c.hi-hi.ensures);
    }

pub returns : goal.returns
returns g c =
    let curves = c.args.curves.now in
    let lanes = c.args.lanes.now in
    let long = AllZip-long IsOn curves lanes c.requires.on in
    no_part_more (λ (w : Point). w.hi) curves lanes c.loop-j.j c.loop-j.hi _ c.loop-j.invariant.his (omega (arith, long, c.loop-j-test.false))
