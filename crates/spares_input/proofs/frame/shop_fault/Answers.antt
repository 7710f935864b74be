use Rattle.std.proofs.Common.{sym, ap, ◌∙◌, refl}
use Rattle.std.specs.Option.{option_map}
use Rattle.spares_input.specs.declared.rows.PartId.{PartId}
use Rattle.spares_input.proofs.ShopCounts.{counts_more}
use Rattle.spares_input.proofs.frame.shop_fault.Goals as goal

pub returns-clause-counted : goal.returns-clause-counted
returns-clause-counted c h =
    let line = sym c.requires.line ∙ ap (option_map (λ (l : PartId). l.0)) c.in-Some.is in
    counts_more c.args.parts.now c.args.k c.args.counts.now c.requires.within c.requires.counts c.requires.distinct c.in-Some.place.0 _ line refl
