use Rattle.std.proofs.Common.{sym, ap, ◌∙◌, subst, arith}
use Rattle.fleet_model.specs.Rows.{systems, per_system}
use Rattle.hull.specs.Scores.{InLimits}
use Rattle.family_points.proofs.Public.{limits_hold}
use Rattle.family_rows.proofs.base_at.BaseAt.score.Goals as goal

pub of-requires : goal.of-requires
of-requires g c =
    let b = c.args.self.now in
    let x = b.family.now in
    let e = c.args.backorders in
    let is = c.requires.is in
    subst (λ n. InLimits n b.per_system b.weight e) (sym is.systems)
    (subst (λ n. InLimits (systems x.case b.site.0) n b.weight e) (sym is.per_system)
    (subst (λ n. InLimits (systems x.case b.site.0) (per_system x.case x.line) n e) (sym is.weight) (limits_hold x is.valid e b.site.0 is.site (omega (arith, c.requires.small)))))

pub returns : goal.returns
returns g c =
    let b = c.args.self.now in
    let x = b.family.now in
    let e = c.args.backorders in
    let is = c.requires.is in
    c.of.ensures.ends ∙ ap (λ n. g.S.Score.ends n b.per_system b.weight e) is.systems ∙ ap (λ n. g.S.Score.ends (systems x.case b.site.0) n b.weight e) is.per_system
    ∙ ap (λ n. g.S.Score.ends (systems x.case b.site.0) (per_system x.case x.line) n e) is.weight
