use Rattle.std.proofs.Common.{List, length, ap, ◌∙◌, arith}
use Rattle.std.proofs.lemmas.List.{length_push}
use Rattle.hull.specs.declared.point.Point.{Point}
use Rattle.held_plan.proofs.KeptFacts.{not_put, place_inside, put_last, put_none}
use Rattle.held_plan.proofs.parts.put_back.Goals as goal

pub loop-curve-preserved-then-is_same : goal.loop-curve-preserved-then-is_same
loop-curve-preserved-then-is_same c =
    let known = c.args.known in
    put_last c.args.window known.curves.items known.windows.items known.beyond.items c.args.kept.now.items c.loop-curve.kept.items c.loop-curve.left.items c.pop.new.self.items c.in-Some.curve
    c.loop-curve.invariant c.in-Some.ensures.items c.len-f.result c.index-then-is_same.result.now c.index.result.now (c.len-f.ensures ∙ c.pop.new.self.ok.0)
    c.requires.windows c.requires.beyond c.index.ensures (c.is_same.ensures c.if-is_same.true) c.index-then-is_same.ensures

pub loop-curve-preserved-then-is_same-2 : goal.loop-curve-preserved-then-is_same-2
loop-curve-preserved-then-is_same-2 c =
    let known = c.args.known in
    put_last c.args.window known.curves.items known.windows.items known.beyond.items c.args.kept.now.items c.loop-curve.kept.items c.loop-curve.left.items c.pop.new.self.items c.in-Some.curve
    c.loop-curve.invariant c.in-Some.ensures.items c.len-f.result c.index-then-is_same.result.now c.index.result.now (c.len-f.ensures ∙ c.pop.new.self.ok.0)
    c.requires.windows c.requires.beyond c.index.ensures (c.is_same.ensures c.if-is_same.true) c.index-then-is_same.ensures

pub loop-curve-preserved : goal.loop-curve-preserved
loop-curve-preserved c =
    let known = c.args.known in
    put_none c.args.window known.curves.items known.windows.items known.beyond.items c.args.kept.now.items c.loop-curve.kept.items c.loop-curve.left.items c.pop.new.self.items c.in-Some.curve
    c.loop-curve.invariant c.in-Some.ensures.items

pub loop-curve-init : goal.loop-curve-init
loop-curve-init c =
    let known = c.args.known in
    not_put c.args.window known.curves.items known.windows.items known.beyond.items c.args.kept.now.items c.requires.places

pub returns : goal.returns
returns c = c.loop-curve.invariant.are

-- ---- places

pub index-requires : goal.index-requires
index-requires c =
    let known = c.args.known in
    let inside = place_inside c.args.window known.curves.items known.windows.items known.beyond.items c.args.kept.now.items c.loop-curve.kept.items c.loop-curve.left.items c.pop.new.self.items c.in-Some.curve
    c.loop-curve.invariant c.in-Some.ensures.items c.len-f.result (c.len-f.ensures ∙ c.pop.new.self.ok.0) in
    let long = known.windows.ok.0 in
    let same = c.requires.windows in
    omega (arith, inside, long, same)

pub index-requires-then-is_same : goal.index-requires-then-is_same
index-requires-then-is_same c =
    let known = c.args.known in
    let inside = place_inside c.args.window known.curves.items known.windows.items known.beyond.items c.args.kept.now.items c.loop-curve.kept.items c.loop-curve.left.items c.pop.new.self.items c.in-Some.curve
    c.loop-curve.invariant c.in-Some.ensures.items c.len-f.result (c.len-f.ensures ∙ c.pop.new.self.ok.0) in
    let long = known.beyond.ok.0 in
    let same = c.requires.beyond in
    omega (arith, inside, long, same)

pub index_mut-requires : goal.index_mut-requires
index_mut-requires c =
    let known = c.args.known in
    let inside = place_inside c.args.window known.curves.items known.windows.items known.beyond.items c.args.kept.now.items c.loop-curve.kept.items c.loop-curve.left.items c.pop.new.self.items c.in-Some.curve
    c.loop-curve.invariant c.in-Some.ensures.items c.len-f.result (c.len-f.ensures ∙ c.pop.new.self.ok.0) in
    let long = c.loop-curve.kept.ok.0 in
    let same = c.loop-curve.invariant.places in
    omega (arith, inside, long, same)

pub loop-curve-smaller : goal.loop-curve-smaller
loop-curve-smaller c =
    let one = ap (λ (xs : List (List Point)). length xs) c.in-Some.ensures.items ∙ length_push c.pop.new.self.items c.in-Some.curve in
    let old = c.loop-curve.left.ok.0 in
    let new = c.pop.new.self.ok.0 in
    omega (arith, one, old, new)

pub loop-curve-smaller-then-is_same : goal.loop-curve-smaller-then-is_same
loop-curve-smaller-then-is_same c =
    let one = ap (λ (xs : List (List Point)). length xs) c.in-Some.ensures.items ∙ length_push c.pop.new.self.items c.in-Some.curve in
    let old = c.loop-curve.left.ok.0 in
    let new = c.pop.new.self.ok.0 in
    omega (arith, one, old, new)
