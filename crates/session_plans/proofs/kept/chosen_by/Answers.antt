use Rattle.std.proofs.Common.{List, IfOk, sym, subst, ◌∙◌}
use Rattle.hull.specs.declared.point.Point.{Point}
use Rattle.case_plan.specs.Chosen.{IsChosen}
use Rattle.case_plan.specs.Report.{AreFamilyCurves}
use Rattle.session_plans.proofs.Places.{as_many, values_are}
use Rattle.session_plans.proofs.Reported.{serve}
use Rattle.session_plans.proofs.kept.chosen_by.Goals as goal

pub choose_stocks-chosen-requires-clause-curves : goal.choose_stocks-chosen-requires-clause-curves
choose_stocks-chosen-requires-clause-curves c =
    subst (λ (z : List (List Point)). AreFamilyCurves c.args.case.now z) (sym c.as_slice.ensures.value)
    (serve c.args.case.now c.args.kept.now c.in-Ok.curves.items c.in-Ok.ensures.values c.requires.kept)

pub returns-in-Ok-clause-chosen : goal.returns-in-Ok-clause-chosen
returns-in-Ok-clause-chosen c =
    subst (λ (z : List (List Point)). IfOk c.choose_stocks-chosen.result (IsChosen c.args.case.now z c.args.budget))
    (c.as_slice.ensures.value ∙ sym (values_are c.args.kept.now c.in-Ok.curves.items c.in-Ok.ensures.values))
    c.choose_stocks-chosen.ensures.chosen

pub choose_stocks-chosen-requires-clause-budget : goal.choose_stocks-chosen-requires-clause-budget
choose_stocks-chosen-requires-clause-budget c = c.requires.budget

pub all_taken-requires : goal.all_taken-requires
all_taken-requires c = c.requires.all

pub put_back-requires : goal.put_back-requires
put_back-requires c = as_many c.in-Ok.curves.items c.args.kept.now c.all_taken.new.kept c.in-Ok.ensures.values c.all_taken.auto.kept

pub returns-in-Ok-clause-kept : goal.returns-in-Ok-clause-kept
returns-in-Ok-clause-kept c = c.put_back.ensures ∙ c.in-Ok.ensures.values

pub returns-in-Ok-clause-fits : goal.returns-in-Ok-clause-fits
returns-in-Ok-clause-fits c = c.choose_stocks-chosen.ensures.fits
