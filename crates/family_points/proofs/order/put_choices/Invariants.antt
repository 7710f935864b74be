use Rattle.std.proofs.Common.{◌≡◌, ◌-◌, ◌++◌, ◌∷◌, map}
use Rattle.std.specs.List.{All, range_with_len}
use Rattle.family_points.specs.Inputs.{line_low}
use Rattle.family_points.specs.Choices.{IsChoice, choice_stocks}
use Rattle.family_points.proofs.order.put_choices.Given as goal

abbrev pub invariant-loop-s : goal.invariant-loop-s
invariant-loop-s l = record {
  stocks : map (choice_stocks l.family l.fn.site.0) l.choices.items
      ≡ map (choice_stocks l.family l.fn.site.0) l.initial.choices.items
      ++ map (λ s. s ∷ l.shops.stocks) (range_with_len (line_low l.family l.fn.site.0) (l.s - line_low l.family l.fn.site.0));
  choices : All (IsChoice l.family l.fn.site.0) l.choices.items;
}
