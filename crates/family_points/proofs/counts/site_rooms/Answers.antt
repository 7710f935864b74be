use Rattle.std.proofs.Common.{◌^◌, ◌≤◌, arith}
use Rattle.std.proofs.lemmas.Nat.{mul-le}
use Rattle.family_points.specs.Rooms.{widths_at}
use Rattle.family_points.proofs.Bounded.{few_members, ids_long}
use Rattle.family_points.proofs.Rooms.{rooms_long, roomed_fits, roomed_more, roomed_product, roomed_sum}
use Rattle.family_points.proofs.counts.site_rooms.Goals as goal

pub overflow_mul-shops : goal.overflow_mul-shops
overflow_mul-shops c =
    let k = c.args.case.now in
    let l = c.args.line.0 in
    let most : c.loop-i.i ≤ 9 =
    omega (arith, c.loop-i-test.true, ids_long k l c.family-i-end.result.now c.family-i-end.ensures, few_members k l c.invariant.ensures.valid c.requires.line) in
    let few = roomed_fits (widths_at k l c.args.rooms c.args.site.0) c.loop-i.i c.loop-i.sum c.loop-i.shops most c.loop-i.invariant in
    omega (arith, mul-le c.loop-i.shops c.room-room.result (64 ^ 9) 64 few c.room-room.ensures.most)

pub loop-i-preserved : goal.loop-i-preserved
loop-i-preserved c =
    let k = c.args.case.now in
    let l = c.args.line.0 in
    let long = rooms_long k l c.args.site.0 c.args.rooms c.invariant.ensures.valid c.requires.line c.requires.rooms c.requires.site in
    roomed_more (widths_at k l c.args.rooms c.args.site.0) c.loop-i.i c.loop-i.sum c.loop-i.shops c.room-room.result
    (omega (arith, c.loop-i-test.true, ids_long k l c.family-i-end.result.now c.family-i-end.ensures, long)) c.room-room.ensures.room c.room-room.ensures.most c.loop-i.invariant

pub returns-clause-sum : goal.returns-clause-sum
returns-clause-sum c =
    let k = c.args.case.now in
    let l = c.args.line.0 in
    let long = rooms_long k l c.args.site.0 c.args.rooms c.invariant.ensures.valid c.requires.line c.requires.rooms c.requires.site in
    roomed_sum (widths_at k l c.args.rooms c.args.site.0) c.loop-i.i c.loop-i.sum c.loop-i.shops
    (omega (arith, c.loop-i-test.false, ids_long k l c.family-i-end.result.now c.family-i-end.ensures, long)) c.loop-i.invariant

pub returns-clause-shops : goal.returns-clause-shops
returns-clause-shops c =
    let k = c.args.case.now in
    let l = c.args.line.0 in
    let long = rooms_long k l c.args.site.0 c.args.rooms c.invariant.ensures.valid c.requires.line c.requires.rooms c.requires.site in
    roomed_product (widths_at k l c.args.rooms c.args.site.0) c.loop-i.i c.loop-i.sum c.loop-i.shops
    (omega (arith, c.loop-i-test.false, ids_long k l c.family-i-end.result.now c.family-i-end.ensures, long)) c.loop-i.invariant

pub returns-clause-few : goal.returns-clause-few
returns-clause-few c =
    let k = c.args.case.now in
    let l = c.args.line.0 in
    let long = ids_long k l c.family-i-end.result.now c.family-i-end.ensures in
    let most : c.loop-i.i ≤ 9 = omega (arith, c.loop-i.auto.i-end (omega (arith, long)), long, few_members k l c.invariant.ensures.valid c.requires.line) in
    (c.room.ensures.most, (omega (arith, c.loop-i.invariant.sum_most, most), roomed_fits (widths_at k l c.args.rooms c.args.site.0) c.loop-i.i c.loop-i.sum c.loop-i.shops most c.loop-i.invariant))
