use Rattle.std.proofs.Common.{List, map, lit<, ap, subst, sym, ◌∙◌}
use Rattle.std.proofs.lemmas.List.{take_all}
use Rattle.list_laws.proofs.Public.{pushed_next}
use Rattle.family_items.specs.declared.item.Item.{Item}
use Rattle.family_tables.specs.declared.keys.Key.{Key}
use Rattle.family_tables.specs.Kept.{IsKey, key_item}
use Rattle.family_tables.proofs.Found.{key_among}
use Rattle.family_tables.proofs.items.items_of.Goals as goal

pub item_at-requires : goal.item_at-requires
item_at-requires g c =
    let key = c.key-item.result in (
      lit< tt,
      (
        lit< tt,
        (
          lit< tt,
          (
            c.requires.kept,
            (
              subst (IsKey c.args.numbers.now) (sym c.key-item.is) (c.requires.keys c.loop-key.key-index key c.loop-key-test.true),
              (
                c.requires.has key.place key.site.0 key.stocks (key_among c.args.keys.now c.loop-key.key-index key c.loop-key-test.true c.key-item.is),
                c.requires.stocks,
              ),
            ),
          ),
        ),
      ),
    )

pub loop-key-preserved : goal.loop-key-preserved
loop-key-preserved g c =
    let own : Key → Item g.row.F = key_item g.row.F c.args.numbers.now c.args.stocks.now in
    pushed_next own c.args.keys.now c.loop-key.key-index c.key-item.result c.loop-key.items.items c.push.new.self.items c.item_at.result c.loop-key-test.true c.in_ok-push.ensures.items
    c.loop-key.invariant (c.item_at.ensures ∙ ap own c.key-item.is)

pub returns : goal.returns
returns g c =
    c.loop-key.invariant
    ∙ ap (λ (keys : List Key). map (key_item g.row.F c.args.numbers.now c.args.stocks.now) keys) (take_all c.loop-key.key-index c.args.keys.now c.loop-key-test.false)
