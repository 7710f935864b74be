use Rattle.std.proofs.Common.{sym, ◌∙◌}
use Rattle.family_items.specs.Profile.{families_of}
use Rattle.session_plans.proofs.Places.{all_some, as_many, values_are}
use Rattle.session_plans.proofs.evaluated.outcome_by.Goals as goal

pub all_taken-requires : goal.all_taken-requires
all_taken-requires c = all_some c.args.kept.now (families_of 48 c.args.case.now c.args.chosen.stocks) c.requires.all

pub outcome_at-outcome-requires-clause-families : goal.outcome_at-outcome-requires-clause-families
outcome_at-outcome-requires-clause-families c =
    c.as_slice.ensures.value ∙ sym (values_are c.args.kept.now c.in-Ok.families.items c.in-Ok.ensures.values)
    ∙ values_are c.args.kept.now (families_of 48 c.args.case.now c.args.chosen.stocks) (sym c.requires.all)

pub put_back-requires : goal.put_back-requires
put_back-requires c = as_many c.in-Ok.families.items c.args.kept.now c.all_taken.new.kept c.in-Ok.ensures.values c.all_taken.auto.kept

pub returns-in-Ok-clause-kept : goal.returns-in-Ok-clause-kept
returns-in-Ok-clause-kept c = c.put_back.ensures ∙ c.in-Ok.ensures.values

pub returns-in-Ok-clause-case : goal.returns-in-Ok-clause-case
returns-in-Ok-clause-case c = c.outcome_at-outcome.ensures.case

pub outcome_at-outcome-requires-clause-rates : goal.outcome_at-outcome-requires-clause-rates
outcome_at-outcome-requires-clause-rates c = c.requires.rates

pub outcome_at-outcome-requires-clause-fits : goal.outcome_at-outcome-requires-clause-fits
outcome_at-outcome-requires-clause-fits c = c.requires.fits
