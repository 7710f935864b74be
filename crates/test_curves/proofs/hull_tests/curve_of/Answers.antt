-- Each vertex of the new curve is one of the old ones or the new point.
use Rattle.std.proofs.Common.{◌≡◌, ◌^◌, ◌≤◌, inl, inr, [], ◌∷◌, length, sym, subst}
use Rattle.hull.proofs.Public.{among_either}
use Rattle.test_curves.proofs.hull_tests.curve_of.Goals as goal

pub loop-row-preserved : goal.loop-row-preserved
loop-row-preserved g c = λ v m. elim (among_either v c.loop-row.curve (c.in_ok-next.next ∷ []) (c.in_ok-add_point.ensures.ok.among v m)) [
  | inl a ↦ c.loop-row.invariant v a
  | inr b ↦ elim b [
    | inl e ↦ subst (λ y. (y.cost ≤ 1000) × ((y.lo ≤ y.hi) × ((y.hi ≤ 2 ^ 60) × (length y.stocks ≡ 2)))) (sym e) c.in_ok-next.ensures
    | inr n ↦ absurd n
  ]
]
