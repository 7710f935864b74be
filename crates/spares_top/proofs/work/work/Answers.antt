use Rattle.spares_words.specs.Order.{order_of}
use Rattle.command_outcomes.proofs.Public.{refused_words}
use Rattle.spares_top.proofs.work.work.Goals as goal

pub returns-in-Err : goal.returns-in-Err
returns-in-Err g c = rw (c.of.ensures, c.refusal_of.ensures) (refused_words (order_of c.args.words.now) c.in-Err.stop _ c.in-Err.ensures.order)
