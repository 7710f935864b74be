use Rattle.std.proofs.Common.{get_or, refl}
use Rattle.gap_rules.proofs.Public.{line_is}
use Rattle.certified_plan.proofs.Made.{covers_more}
use Rattle.certified_plan.proofs.certifying.covers_along.Goals as goal

pub cover_of-requires-clause-line : goal.cover_of-requires-clause-line
cover_of-requires-clause-line c = line_is c.args.case.now c.args.lines.now c.loop-f.f c.requires.lines c.loop-f-test.true

pub loop-f-preserved : goal.loop-f-preserved
loop-f-preserved c =
    covers_more c.args.case.now c.args.held.now.list c.args.price.p c.args.floors.now c.args.lines.now c.requires.lines
    c.loop-f.f (get_or c.args.floors.now c.loop-f.f 0) c.loop-f.covers.items _ _ c.loop-f.invariant c.in_ok-cover_of.ensures refl c.in_ok-push.ensures.items
