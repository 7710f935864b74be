use Rattle.budget_sweep.proofs.Alike.{state_is_choice, choice_is_state}
use Rattle.budget_sweep.proofs.laws.states_are_choices.Goals as goal

pub returns : goal.returns
returns c = record { states = state_is_choice; choices = choice_is_state }
