-- A case has one sweep, and one report of a target.
use Rattle.std.proofs.Common.{◌≡◌, ℕ, ◌<◌, ◌≤◌, ◌⊎◌, inl, inr, List, [], Option, Some, None, refl, sym, ap, ◌∙◌, subst, arith}
use Rattle.std.proofs.lemmas.List.{ext_get_or}
use Rattle.hull.specs.declared.point.Point.{Point}
use Rattle.hull.proofs.Public.{one_curve}
use Rattle.spares_input.specs.Cases.{CaseRows}
use Rattle.exact_ratio.specs.declared.decimal.Decimal.{Decimal}
use Rattle.family_points.specs.Points.{ScoreEnds}
use Rattle.step_walk.specs.Prefix.{curve_at}
use Rattle.marginal_alloc.specs.Choice.{AreCurves}
use Rattle.fleet_plan.specs.Families.{case_points}
use Rattle.fleet_plan.proofs.Public.{stocks_tell_all}
use Rattle.budget_sweep.specs.declared.report.SweepPoint.{SweepPoint}
use Rattle.budget_sweep.specs.declared.report.SweepReport.{SweepReport}
use Rattle.budget_sweep.specs.declared.report.TargetReport.{TargetReport}
use Rattle.budget_sweep.specs.Sweep.{IsSweep, state_at}
use Rattle.budget_sweep.specs.Target.{units_below, units_above, IsReach, IsLeastCost, IsTold}
use Rattle.budget_sweep.specs.Cases.{IsCaseSweep, IsCaseTarget}
use Rattle.budget_sweep.proofs.Alike.{one_sweep}

one_curves : (ends : ScoreEnds) (c : CaseRows) (held : List ℕ) (one other : List (List Point))
    → AreCurves (case_points ends c held) one → AreCurves (case_points ends c held) other → one ≡ other
one_curves ends c held one other a b =
    let n = a.count in
    let m = b.count in
    ext_get_or [] one other (sym n ∙ m) (λ f l.
    one_curve (curve_at (case_points ends c held) f) (curve_at one f) (curve_at other f)
    (stocks_tell_all ends c held f (omega (arith, n, l)))
    (a.each f l) (b.each f (omega (arith, n, m, l))))

one_points : (ends : ScoreEnds) (c : CaseRows) (held : List ℕ) (curves others : List (List Point))
    (one other : List SweepPoint) → AreCurves (case_points ends c held) curves
    → AreCurves (case_points ends c held) others
    → IsSweep curves one → IsSweep others other → one ≡ other
one_points ends c held curves others one other a b s t =
    one_sweep curves one other s (subst (λ z. IsSweep z other) (sym (one_curves ends c held curves others a b)) t)

same_sweeps : (one other : SweepReport) → one.points ≡ other.points → one ≡ other
same_sweeps one other e = ap (λ ps. let r : SweepReport = record { points = ps } in r) e

-- a case has one sweep
pub one_case_sweep : (ends : ScoreEnds) (c : CaseRows) (held : List ℕ) (one other : SweepReport)
    → IsCaseSweep ends c held one → IsCaseSweep ends c held other → one ≡ other
one_case_sweep ends c held one other a b =
    same_sweeps one other
    (one_points ends c held a.curves b.curves one.points other.points a.is_sweep.areas b.is_sweep.areas a.is_sweep.sweep
    b.is_sweep.sweep)

-- ---- targets

in_order : (j k : ℕ) → (j < k) ⊎ ((j ≡ k) ⊎ (k < j))
in_order j k = grind arith

one_reach : (points : List SweepPoint) (most : ℕ) (one other : Option SweepPoint) → IsReach points most one
    → IsReach points most other → one ≡ other
one_reach points most None None a b = refl
one_reach points most None (Some q) a b = absurd (
    let l = a b.0 b.1 in
    let h : (state_at points b.0).hi ≤ most = subst (λ z. z.hi ≤ most) b.2 b.3 in
    omega (arith, l, h))
one_reach points most (Some p) None a b = absurd (
    let l = b a.0 a.1 in
    let h : (state_at points a.0).hi ≤ most = subst (λ z. z.hi ≤ most) a.2 a.3 in
    omega (arith, l, h))
one_reach points most (Some p) (Some q) a b = elim (in_order a.0 b.0) [
  | inl l ↦ absurd (
      let m = b.4 a.0 l in
      let h : (state_at points a.0).hi ≤ most = subst (λ z. z.hi ≤ most) a.2 a.3 in
      omega (arith, m, h))
  | inr r ↦ elim r [
    | inl e ↦ ap Some (a.2 ∙ ap (state_at points) e ∙ sym b.2)
    | inr l ↦ absurd (
        let m = a.4 b.0 l in
        let h : (state_at points b.0).hi ≤ most = subst (λ z. z.hi ≤ most) b.2 b.3 in
        omega (arith, m, h))
  ]
]

one_least : (points : List SweepPoint) (limit : ℕ) (one other : Option ℕ) → IsLeastCost points limit one
    → IsLeastCost points limit other → one ≡ other
one_least points limit None None a b = refl
one_least points limit None (Some m) a b = absurd (let l = b.0 in omega (arith, a, l))
one_least points limit (Some n) None a b = absurd (let l = a.0 in omega (arith, l, b))
one_least points limit (Some n) (Some m) a b = ap Some (a.1 ∙ sym b.1)

same_targets : (one other : TargetReport) → one.target ≡ other.target → one.reach ≡ other.reach
    → one.at_least ≡ other.at_least → one ≡ other
same_targets one other t r l =
    ap (λ z. let x : TargetReport = record { target = z; reach = one.reach; at_least = one.at_least } in x) t
    ∙ ap (λ z. let x : TargetReport = record { target = other.target; reach = z; at_least = one.at_least } in x) r
    ∙ ap (λ z. let x : TargetReport = record { target = other.target; reach = other.reach; at_least = z } in x) l

one_told : (points : List SweepPoint) (one other : TargetReport) → one.target ≡ other.target → IsTold points one
    → IsTold points other → one ≡ other
one_told points one other e a b =
    same_targets one other e
    (one_reach points (units_below one.target.units) one.reach other.reach a.reach
    (subst (λ z. IsReach points (units_below z.units) other.reach) (sym e) b.reach))
    (one_least points (units_above one.target.units) one.at_least other.at_least a.at_least
    (subst (λ z. IsLeastCost points (units_above z.units) other.at_least) (sym e) b.at_least))

-- a case has one report of a target
pub one_case_target : (ends : ScoreEnds) (c : CaseRows) (held : List ℕ) (target : Decimal) (one other : TargetReport)
    → IsCaseTarget ends c held target one → IsCaseTarget ends c held target other → one ≡ other
one_case_target ends c held target one other a b =
    let e = one_points ends c held a.curves b.curves a.is_target.points b.is_target.points a.areas b.areas
    a.is_target.sweep b.is_target.sweep in
    one_told a.is_target.points one other (a.is_target.target_is ∙ sym b.is_target.target_is) a.is_target.told
    (subst (λ z. IsTold z other) (sym e) b.is_target.told)
