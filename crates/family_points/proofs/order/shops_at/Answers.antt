use Rattle.std.proofs.Common.{◌≡◌, ℕ, ◌∷◌, List, sym, ap, ap₂, ◌∙◌, subst, arith}
use Rattle.fleet_model.specs.Fleet.{family}
use Rattle.family_points.specs.Points.{cost_above}
use Rattle.family_points.specs.Inputs.{AreShopsAt, IsAt, held_at, line_low}
use Rattle.family_points.proofs.Points.{joined_at}
use Rattle.family_points.proofs.order.shops_at.Goals as goal

-- the stocks of the site are the line unit's least stock and those of the vector
whole_is : (c : goal.After-as_slice-2) → c.as_slice-2.result.now ≡ line_low c.args.family.now c.args.site.0 ∷ c.in_ok-stocks.stocks.items
whole_is c = c.as_slice-2.ensures.value ∙ c.in_ok-whole.ensures ∙ ap₂ (λ (a : ℕ) (v : List ℕ). a ∷ v) c.line_low-low.ensures c.as_slice.ensures.value

pub cost-cost-requires-clause-stocks : goal.cost-cost-requires-clause-stocks
cost-cost-requires-clause-stocks c =
    let x = c.args.family.now in
    let j = c.args.site.0 in
    subst (IsAt x j) (sym (whole_is c))
    (joined_at x c.invariant.ensures.valid j (line_low x j) c.in_ok-stocks.stocks.items c.requires.site.1 c.in_ok-stocks.ensures.within (omega arith) c.invariant_at.ensures.order)

pub returns : goal.returns
returns c =
    let x = c.args.family.now in
    let j = c.args.site.0 in
    let whole = c.as_slice-2.ensures.value ∙ c.in_ok-whole.ensures ∙ ap₂ (λ (a : ℕ) (v : List ℕ). a ∷ v) c.line_low-low.ensures (c.as_slice.ensures.value ∙ sym c.of.ensures) in
    record {
      stocks = c.of.ensures ∙ c.in_ok-stocks.ensures.vector;
      costs = record {
        within = subst (AreShopsAt x j) (sym c.of.ensures) c.in_ok-stocks.ensures.within;
        cost = c.cost-cost.ensures.cost ∙ ap (cost_above x.case (family x.case x.line) (held_at x j)) whole;
      };
    }
