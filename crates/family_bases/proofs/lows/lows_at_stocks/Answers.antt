use Rattle.std.proofs.Common.{◌≤◌, ◌∷◌, subst}
use Rattle.backorder_bounds.specs.Places.{Place, low_end}
use Rattle.family_points.specs.Separation.{base_point}
use Rattle.family_bases.specs.Lows.{line_place}
use Rattle.family_bases.proofs.LowPoints.{IsLowScore, lagrangian_under, score_under}
use Rattle.family_bases.proofs.lows.lows_at_stocks.Goals as goal

pub lagrangian-requires-clause-scored : goal.lagrangian-requires-clause-scored
lagrangian-requires-clause-scored g c =
    let here = c.args.here.now in
    let is : c.low.result ≤ low_end 48 (line_place c.args.here.now.family.now c.args.here.now.depot.now c.args.here.now.site.0 c.args.shops.now.stocks c.args.walk.now.stock) = subst (λ (p : Place). c.low.result ≤ low_end 48 p) c.requires.walk c.low.ensures in
    (score_under here.family.now c.requires.here.valid g.S.Score.ends g.met.S.Score.leaves_room here.depot.now c.requires.here.depot here.site.0 c.args.walk.now.stock
    c.args.shops.now.stocks c.requires.here.site c.requires.shops.within c.requires.least c.requires.most c.low.result c.low-scored.result is c.low-scored.ensures).most

pub lagrangian-requires-2-clause-scored : goal.lagrangian-requires-2-clause-scored
lagrangian-requires-2-clause-scored g c =
    let here = c.args.here.now in
    let is : c.low.result ≤ low_end 48 (line_place c.args.here.now.family.now c.args.here.now.depot.now c.args.here.now.site.0 c.args.shops.now.stocks c.args.walk.now.stock) = subst (λ (p : Place). c.low.result ≤ low_end 48 p) c.requires.walk c.low.ensures in
    (score_under here.family.now c.requires.here.valid g.S.Score.ends g.met.S.Score.leaves_room here.depot.now c.requires.here.depot here.site.0 c.args.walk.now.stock
    c.args.shops.now.stocks c.requires.here.site c.requires.shops.within c.requires.least c.requires.most c.low.result c.low-scored.result is c.low-scored.ensures).most

pub returns : goal.returns
returns g c =
    let here = c.args.here.now in
    let x = here.family.now in
    let s = c.args.walk.now.stock in
    let v = base_point g.S.Score.ends x here.depot.now here.site.0 (s ∷ c.args.shops.now.stocks) in
    let below : c.low.result ≤ low_end 48 (line_place c.args.here.now.family.now c.args.here.now.depot.now c.args.here.now.site.0 c.args.shops.now.stocks c.args.walk.now.stock) = subst (λ (p : Place). c.low.result ≤ low_end 48 p) c.requires.walk c.low.ensures in
    let is : IsLowScore c.low-scored.result v =
    score_under x c.requires.here.valid g.S.Score.ends g.met.S.Score.leaves_room here.depot.now c.requires.here.depot here.site.0 s c.args.shops.now.stocks
    c.requires.here.site c.requires.shops.within c.requires.least c.requires.most c.low.result c.low-scored.result below c.low-scored.ensures in
    record {
      at_low = lagrangian_under c.args.low.p c.args.low.q c.args.cost c.low-scored.result c.lagrangian.result v c.lagrangian.ensures c.requires.cost is.low;
      at_high = lagrangian_under c.args.high.p c.args.high.q c.args.cost c.low-scored.result c.lagrangian-2.result v c.lagrangian-2.ensures c.requires.cost is.low;
    }

pub low-scored-requires : goal.low-scored-requires
low-scored-requires g c = record { is = c.requires.here }
