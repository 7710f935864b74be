use Rattle.std.proofs.lemmas.Option.{IfSome_then}
use Rattle.std.proofs.lemmas.Result.{IfOk-weaker}
use Rattle.series_bounds.proofs.Beginnings.{beginning}
use Rattle.series_bounds.proofs.heads.first_weights.Goals as goal

pub returns-clause-known : goal.returns-clause-known
returns-clause-known g c =
    IfOk-weaker c.weigh.result _ _ (λ found h. IfSome_then found h
    (λ sum k. beginning g.row.F c.args.mean c.args.excess c.args.wanted c.weigh.new.list.items sum c.requires.wanted k)) c.weigh.ensures.known
