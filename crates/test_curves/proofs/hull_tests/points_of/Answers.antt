-- Each point is one of the earlier ones or the new one.
use Rattle.std.proofs.Common.{◌≡◌, ◌^◌, ◌≤◌, inl, inr, [], ◌∷◌, length, sym, subst}
use Rattle.hull.specs.Curves.{Among}
use Rattle.hull.proofs.Public.{among_either}
use Rattle.test_curves.proofs.hull_tests.points_of.Goals as goal

pub loop-row-preserved : goal.loop-row-preserved
loop-row-preserved g c = λ v m. elim (among_either v c.loop-row.points.items (c.in_ok-next.next ∷ []) (subst (Among v) c.in_ok-push.ensures.items m)) [
  | inl a ↦ c.loop-row.invariant v a
  | inr b ↦ elim b [
    | inl e ↦ subst (λ y. (y.cost ≤ 1000) × ((y.lo ≤ y.hi) × ((y.hi ≤ 2 ^ 60) × (length y.stocks ≡ 2)))) (sym e) c.in_ok-next.ensures
    | inr n ↦ absurd n
  ]
]
