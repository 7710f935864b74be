use Rattle.std.proofs.Common.{◌+◌, ◌∙◌, ap, sym, drop}
use Rattle.std.proofs.lemmas.List.{at_drop_all, at_drop_more}
use Rattle.clap.specs.Words.{App, app_of, with_rule}
use Rattle.spares_words.specs.Commands.{with_parameters}
use Rattle.spares_words.proofs.commands.command_with.Goals as goal

pub loop-parameter-preserved : goal.loop-parameter-preserved
loop-parameter-preserved c =
    let before = app_of c.loop-parameter.command in
    let rest = drop (c.loop-parameter.parameter-index + 1) c.args.parameters.now in
    ap (λ (app : App). with_parameters app rest) (c.in_ok-command.ensures.shape c.arg_of.ensures.local ∙ ap (with_rule before) c.arg_of.ensures.rule)
    ∙ sym (at_drop_more (with_parameters before) c.args.parameters.now c.loop-parameter.parameter-index _ c.loop-parameter-test.true)
    ∙ c.loop-parameter.invariant

pub returns : goal.returns
returns c =
    sym (at_drop_all (with_parameters (app_of c.loop-parameter.command)) c.args.parameters.now c.loop-parameter.parameter-index c.loop-parameter-test.false)
    ∙ c.loop-parameter.invariant
