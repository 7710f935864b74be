use Rattle.std.proofs.Common.{◌<◌, length, sym, subst, arith}
use Rattle.family_points.specs.Choices.{IsChoice}
use Rattle.base_parts.proofs.choices.likely_place.Goals as goal

pub bounds-lows-index : goal.bounds-lows-index
bounds-lows-index c =
    let here = c.args.here.now in
    let is : IsChoice here.family.now here.site.0 c.index.result.now = subst (IsChoice here.family.now here.site.0) (sym c.index.ensures) (c.requires.here.base.order.choices 0 c.index.result.now c.requires.some) in
    omega (arith, is.place, c.requires.count)

pub bounds-lows-index-in-loop-n : goal.bounds-lows-index-in-loop-n
bounds-lows-index-in-loop-n c =
    let here = c.args.here.now in
    let inside : c.loop-n.n < length here.base.now.order.items = omega (arith, c.loop-n-test.true, c.len-n-end.ensures, here.base.now.order.ok.0) in
    let is : IsChoice here.family.now here.site.0 c.index-in-loop-n.result.now = subst (IsChoice here.family.now here.site.0) (sym c.index-in-loop-n.ensures) (c.requires.here.base.order.choices c.loop-n.n c.index-in-loop-n.result.now inside) in
    omega (arith, is.place, c.requires.count)
