use Rattle.list_laws.proofs.Public.{mapped_more}
use Rattle.family_tables.specs.Kept.{shop_key}
use Rattle.family_tables.proofs.making.shop_keys.Goals as goal

pub loop-k-preserved : goal.loop-k-preserved
loop-k-preserved c =
    mapped_more (shop_key c.args.depot.now c.args.shop) c.loop-k.k c.loop-k.keys.items c.push.new.self.items c.in_ok-key.key c.in_ok-push.ensures.items c.loop-k.invariant
    c.in_ok-key.ensures
