use Rattle.std.proofs.Common.{◌≡◌, ◌-◌, ◌<◌, ◌∙◌, length, arith, refl, sym, ap, lit<}
use Rattle.fixed_interval.specs.Ends.{Ends, ends_exact}
use Rattle.moment_table.specs.declared.kinds.Row.{Row}
use Rattle.base_pipeline.specs.declared.Held.{Held}
use Rattle.depot_pipeline.proofs.Public.{summed_next, at_the_end}
use Rattle.base_pipeline.specs.Profile.{delay_at}
use Rattle.base_pipeline.proofs.Public.{started}
use Rattle.family_numbers.specs.Numbers.{base_delays}
use Rattle.family_numbers.proofs.Own.{delay_of_shop, room_for, shop_read, shop_small, shops_made}
use Rattle.family_numbers.proofs.shop_part.shop_part.Goals as goal

pub loop-i-init : goal.loop-i-init
loop-i-init g c =
    let delays = base_delays g.row.F c.args.numbers.now c.args.site.0 c.args.depot.now c.args.base.now in
    record {
      mean = started g.row.F (ends_exact g.row.F 0) c.exact-mean.result (λ n. (delay_at delays n).backorders) c.exact-mean.ensures.ends
          (omega (arith, ap (λ (e : Ends). e.hi) c.exact-mean.ensures.ends));
      variance = started g.row.F (ends_exact g.row.F 0) c.exact-variance.result (λ n. (delay_at delays n).spread) c.exact-variance.ensures.ends
          (omega (arith, ap (λ (e : Ends). e.hi) c.exact-variance.ensures.ends));
    }

pub table_of-table-requires : goal.table_of-table-requires
table_of-table-requires g c =
    let inside : c.loop-i.i < length c.args.numbers.now.parts - 1 = rw c.shops-i-end.ensures.shops at c.loop-i-test.true in
    (lit< tt, (lit< tt, (lit< tt, (c.requires.tables, (c.requires.base, (c.requires.site, inside))))))

pub add-mean-requires : goal.add-mean-requires
add-mean-requires g c =
    let x = c.args.numbers.now in
    let inside : c.loop-i.i < length x.parts - 1 = rw c.shops-i-end.ensures.shops at c.loop-i-test.true in
    let row = shop_read g.row.F x c.args.site.0 c.args.depot.now c.args.base.now c.loop-i.i c.table_of-table.result.now _ c.table_of-table.ensures refl in
    let small = shop_small g.row.F x c.invariant.ensures.valid c.args.site.0 c.args.depot.now c.args.base.now c.loop-i.i _
    c.requires.site inside c.requires.count c.requires.stocks row in (
      lit< tt,
      room_for g.row.F c.loop-i.i c.loop-i.mean.hi c.ebo.result.hi c.requires.scale.1 (omega (arith, inside, c.invariant.ensures.valid.few)) c.loop-i.invariant.mean.most
          (omega (arith, small.ebo, ap (λ (e : Ends). e.hi) c.ebo.ensures)),
    )

pub add-variance-requires : goal.add-variance-requires
add-variance-requires g c =
    let x = c.args.numbers.now in
    let inside : c.loop-i.i < length x.parts - 1 = rw c.shops-i-end.ensures.shops at c.loop-i-test.true in
    let row = shop_read g.row.F x c.args.site.0 c.args.depot.now c.args.base.now c.loop-i.i c.table_of-table.result.now _ c.table_of-table.ensures refl in
    let small = shop_small g.row.F x c.invariant.ensures.valid c.args.site.0 c.args.depot.now c.args.base.now c.loop-i.i _
    c.requires.site inside c.requires.count c.requires.stocks row in (
      lit< tt,
      room_for g.row.F c.loop-i.i c.loop-i.variance.hi c.vbo.result.hi c.requires.scale.1 (omega (arith, inside, c.invariant.ensures.valid.few)) c.loop-i.invariant.variance.most
          (omega (arith, small.vbo, ap (λ (e : Ends). e.hi) c.vbo.ensures)),
    )

pub loop-i-preserved : goal.loop-i-preserved
loop-i-preserved g c =
    let x = c.args.numbers.now in
    let k = c.args.site.0 in
    let d = c.args.depot.now in
    let b = c.args.base.now in
    let i = c.loop-i.i in
    let inside : i < length x.parts - 1 = rw c.shops-i-end.ensures.shops at c.loop-i-test.true in
    let row = shop_read g.row.F x k d b i c.table_of-table.result.now _ c.table_of-table.ensures refl in
    let small = shop_small g.row.F x c.invariant.ensures.valid k d b i _ c.requires.site inside c.requires.count c.requires.stocks row in
    let delay = sym (delay_of_shop g.row.F x k d b i inside) in
    record {
      mean = summed_next g.row.F 768 (ends_exact g.row.F 0) (λ n. (delay_at (base_delays g.row.F x k d b) n).backorders) c.loop-i.mean c.ebo.result c.add-mean.result i
          c.loop-i.invariant.mean (c.ebo.ensures ∙ ap (λ (r : Row g.row.F). r.ebo) row ∙ ap (λ (h : Held g.row.F). h.backorders) delay)
          (omega (arith, small.ebo, ap (λ (e : Ends). e.hi) c.ebo.ensures)) c.add-mean.ensures.ends;
      variance = summed_next g.row.F 768 (ends_exact g.row.F 0) (λ n. (delay_at (base_delays g.row.F x k d b) n).spread) c.loop-i.variance c.vbo.result c.add-variance.result i
          c.loop-i.invariant.variance (c.vbo.ensures ∙ ap (λ (r : Row g.row.F). r.vbo) row ∙ ap (λ (h : Held g.row.F). h.spread) delay)
          (omega (arith, small.vbo, ap (λ (e : Ends). e.hi) c.vbo.ensures)) c.add-variance.ensures.ends;
    }

pub returns : goal.returns
returns g c =
    let x = c.args.numbers.now in
    let k = c.args.site.0 in
    let d = c.args.depot.now in
    let b = c.args.base.now in
    let all : c.loop-i.i ≡ length x.parts - 1 = omega (arith, c.loop-i-test.false, c.loop-i.auto.i-end, c.shops-i-end.ensures.shops) in
    shops_made g.row.F x k d b c.loop-i.mean c.loop-i.variance
    (at_the_end g.row.F 768 (ends_exact g.row.F 0) (λ n. (delay_at (base_delays g.row.F x k d b) n).backorders) c.loop-i.mean c.loop-i.i (length x.parts - 1) c.loop-i.invariant.mean all)
    (at_the_end g.row.F 768 (ends_exact g.row.F 0) (λ n. (delay_at (base_delays g.row.F x k d b) n).spread) c.loop-i.variance c.loop-i.i (length x.parts - 1) c.loop-i.invariant.variance all)
