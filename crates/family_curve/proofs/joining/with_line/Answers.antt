use Rattle.std.proofs.Common.{◌≡◌, ◌<◌, List, ℕ, [], ◌∷◌, drop, length, set, refl, sym, ap, ◌∙◌, subst, arith}
use Rattle.hull.specs.declared.point.Point.{Point}
use Rattle.family_points.specs.Separation.{depot_point}
use Rattle.family_points.specs.Inputs.{IsAt}
use Rattle.family_points.proofs.Public.{joined_at}
use Rattle.family_curve.proofs.joining.with_line.Goals as goal

-- a list with another first entry
with_first : (v : List ℕ) (s : ℕ) → 0 < length v → set v 0 s ≡ s ∷ drop 1 v
with_first [] s h = absurd (omega (arith, h))
with_first (x ∷ v) s h = refl

pub depot_point-requires : goal.depot_point-requires
depot_point-requires c =
    let x = c.args.family.now in
    let valid = c.invariant.ensures.valid in
    let some = valid.valid.frame.fewest_sites in
    let first = ap (λ (v : List ℕ). set v 0 c.args.line) c.into_vec-stocks.ensures ∙ with_first c.args.point.stocks c.args.line c.requires.some in
    subst (IsAt x 0) (sym first) (joined_at x valid 0 c.args.line (drop 1 c.args.point.stocks) (omega (arith, some)) c.requires.shops c.requires.least c.requires.most)

pub returns-clause-point : goal.returns-clause-point
returns-clause-point c =
    let x = c.args.family.now in
    let valid = c.invariant.ensures.valid in
    let some = valid.valid.frame.fewest_sites in
    let first = ap (λ (v : List ℕ). set v 0 c.args.line) c.into_vec-stocks.ensures ∙ with_first c.args.point.stocks c.args.line c.requires.some in
    let stocks = ap (λ (p : Point). p.stocks) c.depot_point.ensures.point in
    record {
      at = subst (IsAt x 0) (sym (stocks ∙ first)) (joined_at x valid 0 c.args.line (drop 1 c.args.point.stocks) (omega (arith, some)) c.requires.shops c.requires.least c.requires.most);
      is = c.depot_point.ensures.point ∙ ap (depot_point x) (sym stocks);
      range = c.depot_point.ensures.range;
    }

pub returns-clause-stocks : goal.returns-clause-stocks
returns-clause-stocks c =
    ap (λ (p : Point). p.stocks) c.depot_point.ensures.point
    ∙ (ap (λ (v : List ℕ). set v 0 c.args.line) c.into_vec-stocks.ensures ∙ with_first c.args.point.stocks c.args.line c.requires.some)
