use Rattle.std.proofs.Common.{◌∙◌, lit<, rules}
use Rattle.std.proofs.Math.Nat.{max-le}
use Rattle.fixed_interval.specs.Ends.{InScale, ends_max}
use Rattle.moment_table.proofs.StoredRows.{limit_short}
use Rattle.moment_table.proofs.Steps.{spread_first}
use Rattle.moment_table.proofs.running.Running.first.Goals as goal

pub of-requires : goal.of-requires
of-requires g c =
    let s : InScale g.row.F = search rules in
    (lit< tt, (lit< tt, rw c.max_of.ensures.ends (limit_short g.row.F (ends_max c.args.variance c.args.mean) s.1 (max-le c.requires.variance_top c.requires.mean_top))))

pub returns-clause-running : goal.returns-clause-running
returns-clause-running g c list = record {
  falling = c.first.ensures.falling list;
  spread = c.of.ensures ∙ c.max_of.ensures.ends ∙ spread_first g.row.F c.args.mean c.args.variance list c.args.sum;
}
