use Rattle.std.proofs.Common.{refl}
use Rattle.command_outcomes.proofs.Public.{done, refused}
use Rattle.spares_top.proofs.top.run.Goals as goal

pub returns-in-Ok : goal.returns-in-Ok
returns-in-Ok g c = done c.args.words.now _ _ _ _ c.in-Ok.done c.in-Ok.ensures refl refl

pub returns-in-Err : goal.returns-in-Err
returns-in-Err g c = refused c.args.words.now _ _ _ _ c.in-Err.failure c.in-Err.ensures c.put_line.ensures
