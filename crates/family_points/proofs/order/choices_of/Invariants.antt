use Rattle.std.proofs.Common.{◌≡◌, ◌∷◌, flat_map, map, take}
use Rattle.std.specs.List.{All}
use Rattle.family_points.specs.Inputs.{line_stocks, shop_vectors}
use Rattle.family_points.specs.Choices.{IsChoice, choice_stocks}
use Rattle.family_points.proofs.order.choices_of.Given as goal

abbrev pub invariant-loop-n : goal.invariant-loop-n
invariant-loop-n l = record {
  stocks : map (choice_stocks l.family l.fn.site.0) l.choices.items
      ≡ flat_map (λ shops. map (λ s. s ∷ shops) (line_stocks l.family l.fn.site.0)) (take l.n (shop_vectors l.family l.fn.site.0));
  choices : All (IsChoice l.family l.fn.site.0) l.choices.items;
}
