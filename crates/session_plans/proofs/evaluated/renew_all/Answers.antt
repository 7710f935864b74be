use Rattle.std.proofs.Common.{arith}
use Rattle.family_items.proofs.Public.{listed_is_line}
use Rattle.session_plans.specs.Sessions.{IsEvaluation}
use Rattle.session_plans.proofs.Settled.{all_evaluated}
use Rattle.session_plans.proofs.Places.{each_kept, kept_before, kept_next, kept_one, place_within}
use Rattle.session_plans.proofs.evaluated.renew_all.Goals as goal

pub bounds-families-place : goal.bounds-families-place
bounds-families-place c =
    place_within (IsEvaluation c.args.case.now c.args.stocks.now) c.args.case.now c.line_units-lines.result.now c.line_units-lines.ensures c.args.families.now c.loop-place.families c.loop-place.place c.loop-place-test.true c.loop-place.invariant

pub renew-requires-clause-line : goal.renew-requires-clause-line
renew-requires-clause-line c = listed_is_line c.args.case.now c.line_units-lines.result.now c.line_units-lines.ensures c.loop-place.place (record { 0 = 0 }) c.loop-place-test.true

pub renew-requires-clause-kept : goal.renew-requires-clause-kept
renew-requires-clause-kept c =
    kept_before (IsEvaluation c.args.case.now c.args.stocks.now) c.args.case.now c.line_units-lines.result.now c.line_units-lines.ensures c.args.families.now c.loop-place.families c.loop-place.place c.loop-place-test.true c.loop-place.invariant
    c.index-families-place.result

pub returns-in_err-renew-clause-kept : goal.returns-in_err-renew-clause-kept
returns-in_err-renew-clause-kept c =
    kept_one (IsEvaluation c.args.case.now c.args.stocks.now) c.args.case.now c.line_units-lines.result.now c.line_units-lines.ensures c.args.families.now c.loop-place.families c.loop-place.place c.loop-place-test.true c.loop-place.invariant
    c.index-families-place.result c.renew.new.kept c.renew.ensures.kept c.renew.ensures.later

pub loop-place-preserved : goal.loop-place-preserved
loop-place-preserved c =
    kept_next (IsEvaluation c.args.case.now c.args.stocks.now) c.args.case.now c.line_units-lines.result.now c.line_units-lines.ensures c.args.families.now c.loop-place.families c.loop-place.place c.loop-place-test.true c.loop-place.invariant
    c.index-families-place.result c.renew.new.kept c.renew.ensures.kept c.renew.ensures.later c.in_ok-renew.ensures.on

pub returns-clause-all : goal.returns-clause-all
returns-clause-all c =
    all_evaluated c.args.case.now c.args.stocks.now c.loop-place.families c.loop-place.invariant.are_kept
    (each_kept (IsEvaluation c.args.case.now c.args.stocks.now) c.args.case.now c.line_units-lines.result.now c.line_units-lines.ensures c.args.families.now c.loop-place.families c.loop-place.place (omega (arith, c.loop-place-test.false)) c.loop-place.invariant)
