use Rattle.fixed_interval.proofs.Laws.{over_encloses}
use Rattle.fixed_interval.proofs.Iv.over.Goals as goal

pub returns-clause-encloses : goal.returns-clause-encloses
returns-clause-encloses g c u x =
    let p = rw (← c.self.view_is) at x in
    rw c.quotient_up-hi.ensures (over_encloses g.row.F _ c.args.k u c.requires p)
