-- The row of the shop units' stocks lists the backorders, and the model's item has them.
use Rattle.std.proofs.Common.{sym, ◌∙◌, subst, arith}
use Rattle.fixed_interval.specs.Ends.{IsWithinLimit}
use Rattle.family_points.proofs.Public.{choice_at, read_place}
use Rattle.family_rows.proofs.base.backorders_of.Goals as goal

pub bounds-row-from : goal.bounds-row-from
bounds-row-from c = let long = c.requires.row.long in omega (arith, long, c.requires.choice.most, c.from.ensures)

pub returns-clause-small : goal.returns-clause-small
returns-clause-small c =
    let long = c.requires.row.long in
    subst (IsWithinLimit 48) (sym (c.open.ensures ∙ c.index-row-from.is)) (c.requires.row.small c.from.result c.index-row-from.result (omega (arith, long, c.requires.choice.most, c.from.ensures)))

pub returns-clause-ends : goal.returns-clause-ends
returns-clause-ends c =
    let x = c.args.here.now.family.now in
    let j = c.args.here.now.site.0 in
    let v = c.args.choice.now in
    let long = c.requires.row.long in
    c.open.ensures
    ∙ read_place c.args.row.now c.from.result v.line c.index-row-from.result c.index-row-from.is c.from.ensures (omega (arith, long, c.requires.choice.most))
    ∙ c.requires.row.ends v.line (choice_at x c.requires.here.valid j v c.requires.choice c.requires.here.site)
