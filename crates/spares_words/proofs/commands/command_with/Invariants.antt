use Rattle.std.proofs.Common.{◌≡◌, drop}
use Rattle.clap.specs.Words.{app_of}
use Rattle.spares_words.specs.Commands.{bare, with_parameters}
use Rattle.spares_words.proofs.commands.command_with.Given as goal

abbrev pub invariant-loop-parameter : goal.invariant-loop-parameter
invariant-loop-parameter l =
    with_parameters (app_of l.command) (drop l.parameter-index l.parameters) ≡ with_parameters (bare l.name) l.parameters
