use Rattle.family_points.proofs.Public.{begins_at_none, stocks_between}
use Rattle.family_bases.proofs.Public.{few_vertices}
use Rattle.family_curve.proofs.curve_from.Goals as goal

pub returns-clause-begins : goal.returns-clause-begins
returns-clause-begins g c = λ same.
    (let x = c.args.sources.now.family.now in
    begins_at_none x.case x.line g.S.Score.ends x.held x.low x.high c.in_ok-curve.curve c.invariant.ensures.valid.ordered.low_least same
    c.invariant-2.ensures.shape.some c.in_ok-curve.ensures)

pub returns-clause-stocks : goal.returns-clause-stocks
returns-clause-stocks g c =
    let x = c.args.sources.now.family.now in
    stocks_between x.case x.line g.S.Score.ends x.held x.low x.high c.in_ok-curve.curve c.invariant.ensures.valid.ordered.low_least c.in_ok-curve.ensures

pub family_curve-requires-clause-room : goal.family_curve-requires-clause-room
family_curve-requires-clause-room g c =
    let x = c.args.sources.now.family.now in
    let box = c.invariant.ensures.valid in
    few_vertices x.case x.line x.held x.low x.high box.valid box.is_line box.ordered c.requires.few
