-- Each vertex of the new curve is one of the old ones or the new point.
use Rattle.std.proofs.Common.{inl, inr, [], ◌∷◌, length, ◌∙◌, ap}
use Rattle.hull.proofs.Public.{among_either}
use Rattle.test_curves.proofs.marginal_alloc_tests.curve_of.Goals as goal

pub loop-row-preserved : goal.loop-row-preserved
loop-row-preserved g c = λ v m. elim (among_either v c.loop-row.curve (c.point-in-loop-row.result ∷ []) (c.in_ok-add_point.ensures.ok.among v m)) [
  | inl a ↦ c.loop-row.invariant v a
  | inr b ↦ elim b [
    | inl e ↦ ap (λ y. length y.stocks) e ∙ c.point-in-loop-row.ensures.1
    | inr n ↦ absurd n
  ]
]
