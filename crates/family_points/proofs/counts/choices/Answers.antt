use Rattle.std.proofs.Common.{arith}
use Rattle.family_points.proofs.Rooms.{choices_all, choices_more}
use Rattle.family_points.proofs.counts.choices.Goals as goal

pub loop-k-preserved : goal.loop-k-preserved
loop-k-preserved c =
    let rooms = c.site_rooms-rooms.result in
    choices_more c.args.case.now c.args.line.0 c.loop-k.k c.loop-k.choices rooms.line rooms.shops c.saturating_mul-choices.result c.site_count-k-end.ensures.valid c.requires
    (omega (arith, c.loop-k-test.true, c.site_count-k-end.ensures.count)) c.site_rooms-rooms.ensures.line c.site_rooms-rooms.ensures.shops c.saturating_mul-choices.ensures c.loop-k.invariant

pub returns : goal.returns
returns c =
    choices_all c.args.case.now c.args.line.0 c.loop-k.k c.loop-k.choices c.site_count-k-end.ensures.valid c.requires
    (omega (arith, c.loop-k-test.false, c.loop-k.auto.k-end, c.site_count-k-end.ensures.count)) c.loop-k.invariant
