use Rattle.metric_compare.specs.Texts.{columns_text, compare_pair_text}
use Rattle.std.specs.Prelude.{codes}
use Rattle.std.proofs.Common.{◌++◌, ◌∷◌, []}
use Rattle.list_laws.proofs.Public.{joined_more}
use Rattle.metric_compare.proofs.report.put_item.Goals as goal

pub returns : goal.returns
returns c =
    let item = c.args.item.now in
    let names = compare_pair_text item in
    let columns = columns_text item.backorders item.poisson in
    let after_names = joined_more c.put_pair.new.text.items (44 ∷ []) columns c.push.new.self.items c.put_columns.new.text.items c.in_ok-push.ensures.items c.in_ok-put_columns.ensures in
    let fields = joined_more c.extend_from_slice.new.self.items names (44 ∷ columns) c.put_pair.new.text.items c.put_columns.new.text.items c.in_ok-put_pair.ensures after_names in
    let ended = joined_more c.extend_from_slice.new.self.items (names ++ (44 ∷ columns)) (10 ∷ []) c.put_columns.new.text.items c.push-2.new.self.items fields c.in_ok-push-2.ensures.items in
    joined_more c.args.text.now.items (codes "item,") ((names ++ (44 ∷ columns)) ++ (10 ∷ [])) c.extend_from_slice.new.self.items c.push-2.new.self.items
    c.in_ok-extend_from_slice.ensures.items ended
