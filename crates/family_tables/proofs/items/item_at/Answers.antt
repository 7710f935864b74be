use Rattle.std.proofs.Common.{subst, sym}
use Rattle.spares_input.specs.Stocks.{HasPair}
use Rattle.family_tables.proofs.items.item_at.Goals as goal

pub get-stock-requires : goal.get-stock-requires
get-stock-requires g c =
    subst (λ p. HasPair c.args.stocks.now p c.args.key.now.site.0) (sym c.part-part.ensures)
    (c.requires.stocks.pairs c.args.key.now.place c.args.key.now.site.0 c.requires.key.place c.requires.key.site)
