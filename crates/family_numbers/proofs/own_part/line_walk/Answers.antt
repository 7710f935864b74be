use Rattle.std.proofs.Common.{◌∙◌, ap, subst, sym, lit<}
use Rattle.depot_pipeline.specs.declared.Moments.{Moments}
use Rattle.backorder_bounds.specs.Places.{Place}
use Rattle.family_items.specs.Inputs.{HasTable}
use Rattle.family_numbers.proofs.Own.{line_is, line_room}
use Rattle.family_numbers.proofs.Served.{base_line_table}
use Rattle.family_numbers.proofs.own_part.line_walk.Goals as goal

pub line_moments-moments-requires : goal.line_moments-moments-requires
line_moments-moments-requires g c =
    let room = line_room g.row.F c.args.numbers.now c.invariant.ensures.valid c.args.site.0 c.args.depot.now c.args.base.now c.requires.site c.requires.count c.requires.stocks
    c.args.own c.args.part.now c.args.shops.now c.requires.scale.1 c.requires.own c.requires.part c.requires.shops in
    (lit< tt, (lit< tt, (room.mean, room.variance)))

pub of-requires : goal.of-requires
of-requires g c =
    let made = c.line_moments-moments.ensures ∙ line_is g.row.F c.args.numbers.now c.args.site.0 c.args.own c.args.depot.now c.args.base.now c.args.part.now c.args.shops.now
    c.requires.part c.requires.shops in
    let x = c.args.numbers.now in
    let k = c.args.site.0 in
    let are = c.invariant.ensures.valid in
    let can : HasTable g.row.F c.line_moments-moments.result = subst (HasTable g.row.F) (sym made)
    (base_line_table g.row.F x are k c.args.own c.args.depot.now c.args.base.now c.requires.site) in
    (lit< tt, (lit< tt, can))

pub returns : goal.returns
returns g c =
    let made = c.line_moments-moments.ensures ∙ line_is g.row.F c.args.numbers.now c.args.site.0 c.args.own c.args.depot.now c.args.base.now c.args.part.now c.args.shops.now
    c.requires.part c.requires.shops in
    let place : Moments g.row.F → Place = λ m. record { mean = m.mean; variance = m.variance; stock = 0 } in
    c.of.ensures ∙ ap place made
