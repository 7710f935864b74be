-- The cost is that of the line unit's least stock and of what is above it.
use Rattle.std.proofs.Common.{◌≡◌, ℕ, suc, ◌+◌, ◌-◌, ◌*◌, ◌≤◌, List, [], ◌∷◌, ◌++◌, map, sym, ap, ap₂, ◌∙◌, subst, arith, append-nil}
use Rattle.std.specs.List.{All, range_with_len}
use Rattle.std.proofs.lemmas.List.{map-append}
use Rattle.std.proofs.lemmas.List.Elements.{All-push}
use Rattle.fleet_model.specs.Fleet.{family}
use Rattle.family_points.specs.Points.{cost_above}
use Rattle.family_points.specs.Inputs.{held_at, line_high, line_low}
use Rattle.family_points.specs.Choices.{IsChoice, choice_stocks}
use Rattle.family_points.proofs.Spotted.{line_cost_most, line_dearer}
use Rattle.family_points.proofs.Shops.{mapped_from}
use Rattle.family_points.proofs.order.put_choices.Goals as goal

pub loop-s-init : goal.loop-s-init
loop-s-init c =
    let x = c.args.family.now in
    let j = c.args.site.0 in
    let none : c.line_low-low.result - line_low x j ≡ 0 = omega (arith, c.line_low-low.ensures) in
    record {
      stocks = sym (append-nil (map (choice_stocks x j) c.args.choices.now.items))
          ∙ ap (λ n. map (choice_stocks x j) c.args.choices.now.items ++ map (λ s. s ∷ c.args.shops.now.stocks) (range_with_len (line_low x j) n)) (sym none);
      choices = c.requires.choices;
    }

pub overflow_add-cost : goal.overflow_add-cost
overflow_add-cost c =
    let x = c.args.family.now in
    let j = c.args.site.0 in
    let v = c.args.shops.now.stocks in
    let s = c.loop-s.s in
    let valid = c.invariant.ensures.valid in
    let low : line_low x j ≤ s = omega (arith, c.loop-s.auto.s, c.line_low-low.ensures) in
    let high : s ≤ line_high x j = omega (arith, c.loop-s-test.true, c.line_high-high.ensures.high) in
    let cost : c.args.shops.now.cost + c.from.result * c.line_cost-each.result ≡ cost_above x.case (family x.case x.line) (held_at x j) (s ∷ v) =
    ap₂ (λ a b. a + b) c.requires.shops.cost (ap₂ (λ n e. n * e) (c.from.ensures ∙ ap (λ l. s - l) c.line_low-low.ensures) c.line_cost-each.ensures)
    ∙ sym (line_dearer x valid j s v c.requires.site.1 c.requires.shops.within low high) in
    omega (arith, cost, line_cost_most x valid j s v c.requires.site.1 c.requires.shops.within low high)

pub loop-s-preserved : goal.loop-s-preserved
loop-s-preserved c =
    let x = c.args.family.now in
    let j = c.args.site.0 in
    let v = c.args.shops.now.stocks in
    let s = c.loop-s.s in
    let valid = c.invariant.ensures.valid in
    let low : line_low x j ≤ s = omega (arith, c.loop-s.auto.s, c.line_low-low.ensures) in
    let high : s ≤ line_high x j = omega (arith, c.loop-s-test.true, c.line_high-high.ensures.high) in
    let cost : c.args.shops.now.cost + c.from.result * c.line_cost-each.result ≡ cost_above x.case (family x.case x.line) (held_at x j) (s ∷ v) =
    ap₂ (λ a b. a + b) c.requires.shops.cost (ap₂ (λ n e. n * e) (c.from.ensures ∙ ap (λ l. s - l) c.line_low-low.ensures) c.line_cost-each.ensures)
    ∙ sym (line_dearer x valid j s v c.requires.site.1 c.requires.shops.within low high) in
    record {
      stocks = mapped_from (λ s. s ∷ v) (line_low x j) s (map (choice_stocks x j) c.args.choices.now.items) (map (choice_stocks x j) c.loop-s.choices.items)
          (map (choice_stocks x j) c.push.new.self.items) _ low
          (ap (map (choice_stocks x j)) c.in_ok-push.ensures.items ∙ map-append (choice_stocks x j) c.loop-s.choices.items (_ ∷ [])) c.loop-s.invariant.stocks
          (ap (λ (w : List ℕ). s ∷ w) (sym c.requires.here));
      choices = subst (All (IsChoice x j)) (sym c.in_ok-push.ensures.items)
          (All-push (IsChoice x j) c.loop-s.choices.items _ c.loop-s.invariant.choices (record {
            place = c.requires.place;
            least = low;
            most = high;
            cost = cost ∙ ap (λ (w : List ℕ). cost_above x.case (family x.case x.line) (held_at x j) (s ∷ w)) c.requires.here;
          }));
    }

pub returns-clause-stocks : goal.returns-clause-stocks
returns-clause-stocks c =
    let x = c.args.family.now in
    let j = c.args.site.0 in
    let order = c.line_high-high.ensures.order in
    let last : c.loop-s.s - line_low x j ≡ suc (line_high x j) - line_low x j =
    omega (arith, c.loop-s-test.false, c.loop-s.auto.s-end (omega (arith, c.line_low-low.ensures, order)), c.line_high-high.ensures.high) in
    c.loop-s.invariant.stocks
    ∙ ap (λ n. map (choice_stocks x j) c.args.choices.now.items ++ map (λ s. s ∷ c.args.shops.now.stocks) (range_with_len (line_low x j) n)) last
