-- Each vertex of the new curve is one of the old ones or the new point.
use Rattle.std.proofs.Common.{inl, inr, [], ◌∷◌, length, ◌∙◌, ap}
use Rattle.hull.proofs.Public.{among_either}
use Rattle.bench_choice.proofs.families.Families.curve.Goals as goal

pub loop-place-preserved : goal.loop-place-preserved
loop-place-preserved c = λ v m. elim (among_either v c.loop-place.curve (c.in_ok-next.next ∷ []) (c.in-Ok.ensures.ok.among v m)) [
  | inl a ↦ c.loop-place.invariant v a
  | inr b ↦ elim b [
    | inl e ↦ ap (λ y. length y.stocks) e ∙ c.in_ok-next.ensures.1
    | inr n ↦ absurd n
  ]
]
