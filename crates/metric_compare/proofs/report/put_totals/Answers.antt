use Rattle.metric_compare.specs.Texts.{columns_text}
use Rattle.std.specs.Prelude.{codes}
use Rattle.std.proofs.Common.{◌++◌, ◌∷◌, []}
use Rattle.list_laws.proofs.Public.{joined_more}
use Rattle.metric_compare.proofs.report.put_totals.Goals as goal

pub returns : goal.returns
returns c =
    let report = c.args.report.now in
    let columns = columns_text report.total report.poisson_total in
    let ended = joined_more c.extend_from_slice.new.self.items columns (10 ∷ []) c.put_columns.new.text.items c.push.new.self.items c.in_ok-put_columns.ensures c.in_ok-push.ensures.items in
    joined_more c.args.text.now.items (codes "total,") (columns ++ (10 ∷ [])) c.extend_from_slice.new.self.items c.push.new.self.items c.in_ok-extend_from_slice.ensures.items ended
