use Rattle.std.proofs.Common.{◌≤◌, ◌∙◌, arith, ap, lit<, subst, sym}
use Rattle.std.proofs.lemmas.Result.{on_ok_weaker}
use Rattle.moment_table.specs.Rows.{AreBackorders}
use Rattle.depot_pipeline.specs.declared.Moments.{Moments}
use Rattle.family_items.specs.Inputs.{HasTable}
use Rattle.family_numbers.specs.declared.own_part.OwnPart.{OwnPart}
use Rattle.family_numbers.specs.Numbers.{base_line_moments}
use Rattle.family_numbers.proofs.Own.{line_is, line_room}
use Rattle.family_numbers.proofs.Served.{all_backorders_small, base_line_table}
use Rattle.family_numbers.proofs.own_part.put_line_backorders.Goals as goal

pub line_moments-moments-requires : goal.line_moments-moments-requires
line_moments-moments-requires g c =
    let room = line_room g.row.F c.args.numbers.now c.invariant.ensures.valid c.args.site.0 c.args.depot.now c.args.base.now c.requires.site c.requires.count c.requires.stocks
    c.args.own c.args.part.now c.args.shops.now c.requires.scale.1 c.requires.own c.requires.part c.requires.shops in
    (lit< tt, (lit< tt, (room.mean, room.variance)))

pub put_backorders-requires : goal.put_backorders-requires
put_backorders-requires g c =
    let made = c.line_moments-moments.ensures ∙ line_is g.row.F c.args.numbers.now c.args.site.0 c.args.own c.args.depot.now c.args.base.now c.args.part.now c.args.shops.now
    c.requires.part c.requires.shops in
    let x = c.args.numbers.now in
    let k = c.args.site.0 in
    let are = c.invariant.ensures.valid in
    let can : HasTable g.row.F c.line_moments-moments.result = subst (HasTable g.row.F) (sym made)
    (base_line_table g.row.F x are k c.args.own c.args.depot.now c.args.base.now c.requires.site) in
    let limit : c.args.part.now.limit ≤ 63 =
    omega (arith, ap (λ (p : OwnPart g.row.F). p.limit) c.requires.part, (are.pairs 0 k are.some c.requires.site).limit_most) in
    (lit< tt, (lit< tt, (can, limit)))

pub returns-clause-ends : goal.returns-clause-ends
returns-clause-ends g c =
    let made = c.line_moments-moments.ensures ∙ line_is g.row.F c.args.numbers.now c.args.site.0 c.args.own c.args.depot.now c.args.base.now c.args.part.now c.args.shops.now
    c.requires.part c.requires.shops in
    let moments = base_line_moments g.row.F c.args.numbers.now c.args.site.0 c.args.own c.args.depot.now c.args.base.now in
    on_ok_weaker c.put_backorders.result
    (λ h. subst (λ n. AreBackorders g.row.F moments.mean moments.variance n c.put_backorders.new.found.items) (ap (λ (p : OwnPart g.row.F). p.limit) c.requires.part)
    (subst (λ (m : Moments g.row.F). AreBackorders g.row.F m.mean m.variance c.args.part.now.limit c.put_backorders.new.found.items) made h)) c.put_backorders.ensures.ends

pub returns-clause-most : goal.returns-clause-most
returns-clause-most g c =
    on_ok_weaker c.put_backorders.result
    (λ h. all_backorders_small g.row.F c.args.numbers.now c.invariant.ensures.valid c.args.site.0 c.args.own c.args.depot.now c.args.base.now c.put_backorders.new.found.items c.requires.site h)
    (returns-clause-ends g c)
