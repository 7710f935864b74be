use Rattle.std.proofs.Common.{◌^◌}
use Rattle.std.proofs.lemmas.Nat.{pow_pos}
use Rattle.std.proofs.Math.Nat.{one-mul}
use Rattle.list_laws.proofs.Public.{ceil_by_sum}
use Rattle.fixed_interval.proofs.rounding.rounded_up.Goals as goal

pub returns : goal.returns
returns c = rw (c.scaled.ensures, one-mul) (ceil_by_sum c.args.x (2 ^ c.args.f) (pow_pos c.args.f))
