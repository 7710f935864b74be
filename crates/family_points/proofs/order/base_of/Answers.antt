use Rattle.std.proofs.Common.{ℕ, List, map, subst}
use Rattle.std.specs.List.Sorted.{IsPermutation}
use Rattle.std.proofs.lemmas.List.Sorted.{All-permutation, IsPermutation-map}
use Rattle.family_points.specs.Choices.{IsChoice, choice_stocks}
use Rattle.family_points.proofs.order.base_of.Goals as goal

pub returns : goal.returns
returns c =
    let x = c.args.family.now in
    let j = c.args.site.0 in
    let made = c.in_ok-choices.choices.items in
    let order = c.in_order-order.result.items in
    record {
      stocks = c.in_ok-shops.ensures.stocks;
      are_vectors = c.in_ok-shops.ensures.costs;
      order = record {
        all = subst (λ (l : List (List ℕ)). IsPermutation l (map (choice_stocks x j) order)) c.in_ok-choices.ensures.stocks
            (IsPermutation-map (choice_stocks x j) made order c.in_order-order.ensures.permutation);
        choices = All-permutation (IsChoice x j) made order c.in_order-order.ensures.permutation c.in_ok-choices.ensures.choices;
        rises = c.in_order-order.ensures.sorted;
      };
    }
