use Rattle.std.proofs.Common.{◌≡◌, ◌+◌, ◌*◌, ap, ◌∙◌, arith, length}
use Rattle.family_items.proofs.Public.{feeds_more, index_within, item_read}
use Rattle.family_eval.proofs.lines.depot_feeds.Goals as goal

pub bounds-items-i : goal.bounds-items-i
bounds-items-i g c =
    let e : c.loop-i.i * c.from-sites.result ≡ c.loop-i.i * length c.args.inputs.now.case.sites = ap (λ n. c.loop-i.i * n) (c.from-sites.ensures ∙ c.sites.ensures.count) in
    let w = index_within g.row.F c.args.inputs.now.case c.args.inputs.now.stocks.list c.args.shops.now c.args.items.now c.loop-i.i 0 c.requires.items c.loop-i-test.true
    (omega (arith, c.sites.ensures.valid.valid.frame.fewest_sites)) in
    omega (arith, e, w)

pub loop-i-preserved : goal.loop-i-preserved
loop-i-preserved g c =
    let e : c.loop-i.i * c.from-sites.result ≡ c.loop-i.i * length c.args.inputs.now.case.sites + 0 =
    (let same = ap (λ n. c.loop-i.i * n) (c.from-sites.ensures ∙ c.sites.ensures.count) in omega (arith, same)) in
    let x = item_read g.row.F c.args.inputs.now.case c.args.inputs.now.stocks.list c.args.shops.now c.args.items.now c.loop-i.i 0 _ _ c.index-items-i.result c.requires.items
    c.loop-i-test.true (omega (arith, c.sites.ensures.valid.valid.frame.fewest_sites)) e c.index-items-i.is in
    feeds_more g.row.F c.args.inputs.now.case c.args.inputs.now.stocks.list c.args.shops.now c.loop-i.feeds.items c.push.new.self.items c.loop-i.i _ c.share-share.result
    c.index-items-i.result c.feed_of.result c.loop-i-test.true x c.share-share.ensures.share c.feed_of.ensures c.in_ok-push.ensures.items c.loop-i.invariant
