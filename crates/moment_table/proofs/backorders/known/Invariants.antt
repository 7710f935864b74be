use Rattle.std.proofs.Common.{◌≡◌, drop, length, take}
use Rattle.series_bounds.specs.Profile.{listed}
use Rattle.moment_table.specs.Running.{IsFalling, AreSmall}
use Rattle.moment_table.specs.Profile.{ebo_ends}
use Rattle.moment_table.proofs.backorders.known.Given as goal

abbrev pub invariant-loop-s : goal.invariant-loop-s
invariant-loop-s g l =
    let list = l.fn.found.items in
    record {
      found : take l.s l.found.items ≡ listed (ebo_ends g.row.F l.fn.mean list l.fn.sum) l.s;
      rest : drop l.s l.found.items ≡ drop l.s list;
      long : length l.found.items ≡ length list;
      falling : IsFalling g.row.F l.fn.mean list l.fn.sum l.s l.falling;
      small : AreSmall g.row.F l.s l.falling;
    }
