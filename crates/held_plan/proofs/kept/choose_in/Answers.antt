use Rattle.std.proofs.Common.{◌≡◌, List, Option, Some, IfSome, sym, subst, ◌∙◌}
use Rattle.hull.specs.declared.point.Point.{Point}
use Rattle.spares_input.specs.Cases.{CaseRows}
use Rattle.part_filling.specs.Known.{AreKnown}
use Rattle.fleet_plan.specs.Families.{case_points}
use Rattle.case_plan.specs.declared.chosen.ChosenByParts.{ChosenByParts}
use Rattle.case_plan.specs.Chosen.{FitsCase, IsChosen}
use Rattle.case_plan.specs.Report.{HaveVectors}
use Rattle.case_plan.proofs.Public.{points_have_vectors}
use Rattle.held_plan.proofs.HeldFacts.{held_families}
use Rattle.held_plan.proofs.kept.choose_in.Goals as goal

pub choose_stocks_by_parts-requires-clause-families : goal.choose_stocks_by_parts-requires-clause-families
choose_stocks_by_parts-requires-clause-families g c = held_families g.S.Score.ends c.args.families.now c.case-case.ensures.valid g.met.S.Score.leaves_room

pub choose_stocks_by_parts-requires-clause-vectors : goal.choose_stocks_by_parts-requires-clause-vectors
choose_stocks_by_parts-requires-clause-vectors g c =
    subst (λ (z : CaseRows). HaveVectors z (case_points g.S.Score.ends c.args.families.now.case c.args.families.now.held.list)) (sym c.case-case.ensures.case)
    (points_have_vectors g.S.Score.ends c.args.families.now.case c.args.families.now.held.list)

-- what is known at the end
known_at : (points : List (List Point)) (o : Option ChosenByParts) (x : ChosenByParts) → o ≡ Some x
    → IfSome o (λ (y : ChosenByParts). AreKnown points y.known.curves.items y.known.windows.items y.known.beyond.items)
    → AreKnown points x.known.curves.items x.known.windows.items x.known.beyond.items
known_at points o x e h = subst (λ (z : Option ChosenByParts). IfSome z (λ (y : ChosenByParts). AreKnown points y.known.curves.items y.known.windows.items y.known.beyond.items)) e h

pub put_back-requires-clause-windows : goal.put_back-requires-clause-windows
put_back-requires-clause-windows g c =
    (known_at (case_points g.S.Score.ends c.args.families.now.case c.args.families.now.held.list) _ c.in-Some.found c.in-Some.is c.in_ok-found.ensures.known).windows_count

pub put_back-requires-clause-beyond : goal.put_back-requires-clause-beyond
put_back-requires-clause-beyond g c =
    (known_at (case_points g.S.Score.ends c.args.families.now.case c.args.families.now.held.list) _ c.in-Some.found c.in-Some.is c.in_ok-found.ensures.known).beyond_count

pub put_back-requires-clause-places : goal.put_back-requires-clause-places
put_back-requires-clause-places g c =
    c.parts_between.ensures.kept.count
    ∙ (known_at (case_points g.S.Score.ends c.args.families.now.case c.args.families.now.held.list) _ c.in-Some.found c.in-Some.is c.in_ok-found.ensures.known).count

pub returns-clause-kept : goal.returns-clause-kept
returns-clause-kept g c =
    let points = case_points g.S.Score.ends c.args.families.now.case c.args.families.now.held.list in
    c.put_back.ensures points (known_at points _ c.in-Some.found c.in-Some.is c.in_ok-found.ensures.known) c.parts_between.ensures.kept

pub returns-clause-fits : goal.returns-clause-fits
returns-clause-fits g c =
    subst (λ (z : CaseRows). FitsCase z c.in-Some.found.chosen) c.case-case.ensures.case
    (subst (λ (o : Option ChosenByParts). IfSome o (λ (x : ChosenByParts). FitsCase c.case-case.result.now x.chosen)) c.in-Some.is c.in_ok-found.ensures.fits)

pub returns-clause-chosen : goal.returns-clause-chosen
returns-clause-chosen g c = λ curves are.
    subst (λ (z : CaseRows). IsChosen z curves c.args.budget c.in-Some.found.chosen) c.case-case.ensures.case
    (subst (λ (o : Option ChosenByParts). IfSome o (λ (x : ChosenByParts). IsChosen c.case-case.result.now curves c.args.budget x.chosen)) c.in-Some.is
    (c.in_ok-found.ensures.chosen curves are))
