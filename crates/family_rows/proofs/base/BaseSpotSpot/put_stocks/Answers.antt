use Rattle.std.proofs.Common.{ℕ, List, [], ◌∷◌, ◌++◌, take, get_or, sym, ap, ◌∙◌, append_assoc}
use Rattle.std.proofs.lemmas.List.{append-nil, take_all, take_more}
use Rattle.family_rows.proofs.base.BaseSpotSpot.put_stocks.Goals as goal

pub loop-n-init : goal.loop-n-init
loop-n-init c = sym (append-nil c.push.new.self.items)

pub loop-n-preserved : goal.loop-n-preserved
loop-n-preserved c =
    let before : List ℕ = c.push.new.self.items in
    let shops : List ℕ = c.args.self.now.shops.now in
    let n = c.loop-n.n in
    c.in_ok-push-2.ensures.items ∙ ap (λ (t : List ℕ). t ++ get_or shops n 0 ∷ []) c.loop-n.invariant ∙ append_assoc before (take n shops) (get_or shops n 0 ∷ [])
    ∙ ap (λ (t : List ℕ). before ++ t) (sym (take_more shops n 0 c.loop-n-test.true))

pub returns : goal.returns
returns c =
    let shops : List ℕ = c.args.self.now.shops.now in
    c.loop-n.invariant ∙ ap (λ (t : List ℕ). c.push.new.self.items ++ t) (take_all c.loop-n.n shops c.loop-n-test.false) ∙ ap (λ (t : List ℕ). t ++ shops) c.in_ok-push.ensures.items
    ∙ append_assoc c.args.to.now.items (c.args.self.now.line ∷ []) shops
