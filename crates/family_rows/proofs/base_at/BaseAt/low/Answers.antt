use Rattle.std.proofs.Common.{◌≡◌, ℕ, ◌∙◌, sym, ap, subst, arith}
use Rattle.fixed_interval.specs.Ends.{Ends}
use Rattle.fleet_model.specs.Rows.{systems, per_system, weight}
use Rattle.hull.specs.Scores.{InLimits}
use Rattle.family_points.proofs.Public.{limits_hold}
use Rattle.family_rows.proofs.base_at.BaseAt.low.Goals as goal

pub returns : goal.returns
returns g c = λ e small l.
    let b = c.args.self.now in
    let x = b.family.now in
    let is = c.requires.is in
    let n = systems x.case b.site.0 in
    let z = per_system x.case x.line in
    let limits : InLimits b.systems b.per_system b.weight e =
    subst (λ k. InLimits k b.per_system b.weight e) (sym is.systems)
    (subst (λ k. InLimits n k b.weight e) (sym is.per_system)
    (subst (λ k. InLimits n z k e) (sym is.weight) (limits_hold x is.valid e b.site.0 is.site (omega (arith, small))))) in
    let ends : ℕ → ℕ → ℕ → Ends → Ends = g.S.Score.ends in
    let same : ends b.systems b.per_system b.weight e ≡ ends n z (weight x.case x.line) e =
    ap (λ k. ends k b.per_system b.weight e) is.systems ∙ ap (λ k. ends n k b.weight e) is.per_system ∙ ap (λ k. ends n z k e) is.weight in
    let low = c.low.ensures e limits l in
    let lo = ap (λ (k : Ends). k.lo) same in
    omega (arith, low, lo)
