use Rattle.std.proofs.Common.{◌+◌, arith, ap}
use Rattle.std.proofs.lemmas.Result.{on_ok_weaker}
use Rattle.moment_table.specs.declared.kinds.Row.{Row}
use Rattle.moment_table.specs.Stored.{AreStoredTo, AreRowsTo, bare_row, stored_row}
use Rattle.moment_table.specs.Profile.{known_row}
use Rattle.moment_table.proofs.BackorderLists.{are_backorders, enclose_backorders, of_rows}
use Rattle.moment_table.proofs.backorders.put_backorders.Goals as goal

pub returns-in-Some-clause-ends : goal.returns-in-Some-clause-ends
returns-in-Some-clause-ends g c =
    let list = c.weigh_to.new.list.items in
    let u = known_row g.row.F c.args.mean c.args.variance list c.in-Some.sum in
    let stored : AreStoredTo g.row.F c.args.mean c.args.variance c.from-last.result u = rw c.in-Some.is at c.in_ok-sum.ensures.stored in
    on_ok_weaker c.known.result
    (λ e. are_backorders g.row.F c.args.mean c.args.variance u c.known.new.found.items (c.from-last.result + 1) c.args.limit (omega (arith, c.from-last.ensures))
    (of_rows g.row.F c.args.mean c.args.variance list c.in-Some.sum c.known.new.found.items (c.from-last.result + 1) e)
    (λ s l. stored s (omega (arith, l, c.from-last.ensures)))) c.known.ensures

pub returns-in-Some-clause-encloses : goal.returns-in-Some-clause-encloses
returns-in-Some-clause-encloses g c =
    on_ok_weaker c.known.result
    (enclose_backorders g.row.F c.args.mean c.args.variance c.args.limit c.known.new.found.items c.requires.limit c.requires.table) (returns-in-Some-clause-ends g c)

pub returns-in-None-clause-ends : goal.returns-in-None-clause-ends
returns-in-None-clause-ends g c =
    let bare : AreRowsTo g.row.F c.args.mean c.args.variance 64 (bare_row g.row.F c.args.mean c.args.variance) = rw c.in-None.is at c.in_ok-sum.ensures.bare in
    on_ok_weaker c.bare.result
    (λ e. are_backorders g.row.F c.args.mean c.args.variance (bare_row g.row.F c.args.mean c.args.variance)
    c.bare.new.found.items (c.from-last.result + 1) c.args.limit (omega (arith, c.from-last.ensures)) e
    (λ s l. ap (λ (r : Row g.row.F). stored_row r) (bare s (omega (arith, l, c.requires.limit))))) c.bare.ensures

pub returns-in-None-clause-encloses : goal.returns-in-None-clause-encloses
returns-in-None-clause-encloses g c =
    on_ok_weaker c.bare.result
    (enclose_backorders g.row.F c.args.mean c.args.variance c.args.limit c.bare.new.found.items c.requires.limit c.requires.table) (returns-in-None-clause-ends g c)
