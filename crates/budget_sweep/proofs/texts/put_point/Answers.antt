use Rattle.budget_sweep.specs.Texts.{next_price_text, state_text}
use Rattle.std.specs.Prelude.{codes}
use Rattle.std.proofs.Common.{◌++◌, ◌∷◌, []}
use Rattle.list_laws.proofs.Public.{joined_more}
use Rattle.budget_sweep.proofs.texts.put_point.Goals as goal

pub returns : goal.returns
returns c =
    let point = c.args.point.now in
    let state = state_text point in
    let price = next_price_text point.price in
    let after_state = joined_more c.put_state.new.text.items (44 ∷ []) price c.push.new.self.items c.put_price.new.text.items c.in_ok-push.ensures.items c.in_ok-put_price.ensures in
    let fields = joined_more c.extend_from_slice.new.self.items state (44 ∷ price) c.put_state.new.text.items c.put_price.new.text.items c.in_ok-put_state.ensures after_state in
    let ended = joined_more c.extend_from_slice.new.self.items (state ++ (44 ∷ price)) (10 ∷ []) c.put_price.new.text.items c.push-2.new.self.items fields c.in_ok-push-2.ensures.items in
    joined_more c.args.text.now.items (codes "point,") ((state ++ (44 ∷ price)) ++ (10 ∷ [])) c.extend_from_slice.new.self.items c.push-2.new.self.items
    c.in_ok-extend_from_slice.ensures.items ended
