use Rattle.std.proofs.Common.{[], arith}
use Rattle.held_work.specs.Curves.{IsFamilyCurve}
use Rattle.family_items.proofs.Public.{listed_is_line}
use Rattle.session_plans.proofs.Places.{all_marked, kept_before, kept_next, kept_one, later_one, place_within}
use Rattle.session_plans.proofs.kept.keep_all.Goals as goal
use Rattle.family_points.specs.Points.{plain_ends}

pub bounds-curves-place : goal.bounds-curves-place
bounds-curves-place c =
    place_within (IsFamilyCurve plain_ends c.args.case.now []) c.args.case.now c.line_units-lines.result.now c.line_units-lines.ensures c.args.curves.now c.loop-place.curves c.loop-place.place c.loop-place-test.true c.loop-place.invariant

pub keep-requires-clause-line : goal.keep-requires-clause-line
keep-requires-clause-line c = listed_is_line c.args.case.now c.line_units-lines.result.now c.line_units-lines.ensures c.loop-place.place (record { 0 = 0 }) c.loop-place-test.true

pub keep-requires-clause-kept : goal.keep-requires-clause-kept
keep-requires-clause-kept c =
    kept_before (IsFamilyCurve plain_ends c.args.case.now []) c.args.case.now c.line_units-lines.result.now c.line_units-lines.ensures c.args.curves.now c.loop-place.curves c.loop-place.place c.loop-place-test.true c.loop-place.invariant
    c.index-curves-place.result

pub returns-in_err-keep-clause-kept : goal.returns-in_err-keep-clause-kept
returns-in_err-keep-clause-kept c =
    kept_one (IsFamilyCurve plain_ends c.args.case.now []) c.args.case.now c.line_units-lines.result.now c.line_units-lines.ensures c.args.curves.now c.loop-place.curves c.loop-place.place c.loop-place-test.true c.loop-place.invariant
    c.index-curves-place.result c.keep.new.kept c.keep.ensures.kept c.keep.ensures.later

pub returns-in_err-keep-clause-later : goal.returns-in_err-keep-clause-later
returns-in_err-keep-clause-later c =
    later_one (IsFamilyCurve plain_ends c.args.case.now []) c.args.case.now c.line_units-lines.result.now c.line_units-lines.ensures c.args.curves.now c.loop-place.curves c.loop-place.place c.loop-place-test.true c.loop-place.invariant
    c.index-curves-place.result c.keep.new.kept c.keep.ensures.kept c.keep.ensures.later

pub loop-place-preserved : goal.loop-place-preserved
loop-place-preserved c =
    kept_next (IsFamilyCurve plain_ends c.args.case.now []) c.args.case.now c.line_units-lines.result.now c.line_units-lines.ensures c.args.curves.now c.loop-place.curves c.loop-place.place c.loop-place-test.true c.loop-place.invariant
    c.index-curves-place.result c.keep.new.kept c.keep.ensures.kept c.keep.ensures.later c.in_ok-keep.ensures.on

pub returns-clause-on : goal.returns-clause-on
returns-clause-on c = all_marked (IsFamilyCurve plain_ends c.args.case.now []) c.args.case.now c.line_units-lines.result.now c.line_units-lines.ensures c.args.curves.now c.loop-place.curves c.loop-place.place (omega (arith, c.loop-place-test.false)) c.loop-place.invariant
