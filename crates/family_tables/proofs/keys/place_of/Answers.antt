use Rattle.std.proofs.Common.{◌∙◌, sym, ap, arith}
use Rattle.family_tables.specs.declared.keys.Kept.{Kept}
use Rattle.family_tables.specs.Kept.{is_key}
use Rattle.family_tables.proofs.Found.{position_found, position_missed}
use Rattle.family_tables.proofs.keys.place_of.Goals as goal

pub returns-then-is_key : goal.returns-then-is_key
returns-then-is_key g c =
    sym (position_found (λ (x : Kept g.row.F). is_key x.key c.args.place c.args.site.0 c.args.stocks.now) c.args.kept.now c.loop-n.n c.index-kept-n.result c.index-kept-n.is
    c.loop-n-test.true (ap (λ (x : Kept g.row.F). is_key x.key c.args.place c.args.site.0 c.args.stocks.now) c.index-kept-n.is ∙ sym c.is_key.ensures ∙ c.if-is_key.true) c.loop-n.invariant)

pub returns : goal.returns
returns g c =
    sym (position_missed (λ (x : Kept g.row.F). is_key x.key c.args.place c.args.site.0 c.args.stocks.now) c.args.kept.now
    (λ k d h. c.loop-n.invariant k d (omega (arith, h, c.loop-n-test.false))))
