use Rattle.std.proofs.Common.{lit<, subst, sym}
use Rattle.family_items.specs.Inputs.{HasTable}
use Rattle.family_tables.proofs.Keyed.{key_can}
use Rattle.family_tables.proofs.making.made.Goals as goal

pub table_to-requires : goal.table_to-requires
table_to-requires g c =
    let key = c.args.key in
    let can = key_can g.row.F c.args.numbers.now c.invariant.ensures.valid key.place key.site.0 key.stocks c.requires.key.place c.requires.key.site in
    (lit< tt, (lit< tt, (lit< tt, (subst (HasTable g.row.F) (sym c.in_ok-moments.ensures) can, c.pair-pair.ensures.valid.limit_most))))

pub pipeline_of-requires : goal.pipeline_of-requires
pipeline_of-requires g c = (lit< tt, (lit< tt, (lit< tt, (c.requires.kept, c.requires.key))))
