use Rattle.std.proofs.Common.{refl}
use Rattle.certified_plan.proofs.Public.{none_is_held}
use Rattle.spares_input.specs.Stocks.{nothing_held}
use Rattle.plan_commands.proofs.Planned.{plain_work}
use Rattle.plan_commands.proofs.planning.plain_ground.Goals as goal

pub returns-clause-ground : goal.returns-clause-ground
returns-clause-ground c =
    let given = c.in_ok-given.ensures.given in
    record {
      accepted = given.accepted;
      rates = given.rates;
      held = none_is_held c.in_ok-given.given.case;
      work = plain_work c.in_ok-given.given.case (nothing_held c.in_ok-given.given.case) given.accepted.valid refl given.work;
      terms = c.requires;
      format = tt;
    }
