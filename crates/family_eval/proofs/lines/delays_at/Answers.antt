use Rattle.std.proofs.Common.{◌≡◌, ◌+◌, ◌*◌, ap, ◌∙◌, arith, length}
use Rattle.family_items.proofs.Public.{delays_more, index_within, item_read}
use Rattle.family_eval.proofs.lines.delays_at.Goals as goal

pub bounds-items-i : goal.bounds-items-i
bounds-items-i g c =
    let e : c.loop-i.i * c.from-sites.result ≡ c.loop-i.i * length c.args.inputs.now.case.sites = ap (λ n. c.loop-i.i * n) (c.from-sites.ensures ∙ c.sites.ensures.count) in
    let w = index_within g.row.F c.args.inputs.now.case c.args.inputs.now.stocks.list c.args.shops.now c.args.items.now c.loop-i.i c.args.site.0 c.requires.items c.loop-i-test.true c.requires.site in
    omega (arith, e, w, c.from.ensures)

pub loop-i-preserved : goal.loop-i-preserved
loop-i-preserved g c =
    let e : c.loop-i.i * c.from-sites.result + c.from.result ≡ c.loop-i.i * length c.args.inputs.now.case.sites + c.args.site.0 =
    (let same = ap (λ n. c.loop-i.i * n) (c.from-sites.ensures ∙ c.sites.ensures.count) in omega (arith, same, c.from.ensures)) in
    let x = item_read g.row.F c.args.inputs.now.case c.args.inputs.now.stocks.list c.args.shops.now c.args.items.now c.loop-i.i c.args.site.0 _ (record { 0 = 0 }) c.index-items-i.result
    c.requires.items c.loop-i-test.true c.requires.site e c.index-items-i.is in
    delays_more g.row.F c.args.inputs.now.case c.args.inputs.now.stocks.list c.args.shops.now c.loop-i.delays.items c.push.new.self.items c.loop-i.i c.args.site.0 (record { 0 = 0 })
    c.index-items-i.result c.delay_of.result c.loop-i-test.true x c.delay_of.ensures c.in_ok-push.ensures.items c.loop-i.invariant
