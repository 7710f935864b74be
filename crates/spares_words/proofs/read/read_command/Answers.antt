use Rattle.std.proofs.lemmas.List.{map-id}
use Rattle.spares_words.proofs.Taken.{handed_up}
use Rattle.spares_words.proofs.read.read_command.Goals as goal

pub returns-clause-order : goal.returns-clause-order
returns-clause-order c =
    handed_up c.args.name _ c.in_ok-command_of.ensures _ c.args.words.now (map-id c.args.words.now) _ _
    (record { matches = c.try_get_matches_from-parsed.ensures.matches; kinds = c.try_get_matches_from-parsed.ensures.kinds })
    c.order_from.ensures.order
