use Rattle.std.proofs.Common.{Option, IfSome, sym, ◌∙◌, subst}
use Rattle.spares_input.specs.Cases.{CaseRows}
use Rattle.marginal_alloc.specs.Choice.{AreCurves}
use Rattle.choice_parts.proofs.Public.{curves_of}
use Rattle.fleet_plan.specs.Families.{case_points}
use Rattle.case_plan.specs.declared.chosen.ChosenStocks.{ChosenStocks}
use Rattle.case_plan.specs.Chosen.{IsChosen}
use Rattle.case_plan.specs.Report.{IsOutcome}
use Rattle.held_plan.proofs.HeldFacts.{families_long}
use Rattle.held_plan.proofs.plan.plan_by_parts.Goals as goal

pub choose_near-requires-clause-kept : goal.choose_near-requires-clause-kept
choose_near-requires-clause-kept g c =
    let x = c.args.families.now in
    c.in_ok-kept.ensures (case_points g.S.Score.ends x.case x.held.list) (families_long g.S.Score.ends x.case x.held.list ∙ sym c.count.ensures.count)

pub returns : goal.returns
returns g c =
    let ends = g.S.Score.ends in
    let x = c.args.families.now in
    let request = c.args.request in
    let cs = curves_of (case_points ends x.case x.held.list) in
    let same = sym c.case-case.ensures.case in
    let chosen : IsChosen x.case cs.0 request.budget c.in-Some.chosen =
    subst (λ (o : Option ChosenStocks). IfSome o (IsChosen x.case cs.0 request.budget)) c.in-Some.is (c.in_ok-chosen.ensures.chosen cs.0 cs.1) in
    subst (λ (z : CaseRows). IsOutcome ends z x.held.list request c.in_ok-outcome.outcome) c.case-case.ensures.case
    (c.in_ok-outcome.ensures.case cs.0 (subst (λ (z : CaseRows). IsChosen z cs.0 request.budget c.in-Some.chosen) same chosen) ends x.held.list
    (subst (λ (z : CaseRows). AreCurves (case_points ends z x.held.list) cs.0) same cs.1))
