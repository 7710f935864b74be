use Rattle.std.proofs.Common.{◌≡◌, ◌+◌, ◌<◌, ◌≤◌, [], get_or, length, subst, arith}
use Rattle.backorder_bounds.specs.Places.{low_end}
use Rattle.family_points.specs.Inputs.{line_low, shop_vectors}
use Rattle.family_points.proofs.Public.{choice_at}
use Rattle.family_bases.specs.Lows.{line_place}
use Rattle.family_bases.proofs.Public.{score_at}
use Rattle.family_curve.proofs.low_curve.low_spot.Goals as goal

pub low-requires : goal.low-requires
low-requires g c = record { is = c.requires.here }

pub returns : goal.returns
returns g c =
    let here = c.args.here.now in
    let x = here.family.now in
    let j = here.site.0 in
    let choice = c.args.choice.now in
    let shops = get_or (shop_vectors x j) choice.shops [] in
    let at : line_low x j + c.from.result ≡ choice.line = omega (arith, c.from.ensures, c.requires.least, c.requires.choice.least) in
    let inside : c.from.result < length c.args.row.now = omega (arith, at, c.requires.row.long, c.requires.choice.most) in
    let low : get_or c.args.row.now c.from.result 0 ≤ low_end 48 (line_place x here.depot.now j shops choice.line) =
    subst (λ s. get_or c.args.row.now c.from.result 0 ≤ low_end 48 (line_place x here.depot.now j shops s)) at (c.requires.row.low c.from.result inside) in
    record {
      cost = c.requires.choice.cost;
      lo = (score_at x c.requires.here.valid g.S.Score.ends g.met.S.Score.leaves_room here.depot.now c.requires.here.depot j choice.line shops c.requires.here.site
          (choice_at x c.requires.here.valid j choice c.requires.choice c.requires.here.site) (get_or c.args.row.now c.from.result 0) c.low.result low c.low.ensures).low;
    }
