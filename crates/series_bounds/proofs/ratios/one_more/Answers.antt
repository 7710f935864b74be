use Rattle.std.proofs.Common.{ℕ, ◌≡◌, ◌*◌, ◌%◌, ◌^◌, ◌≤◌, arith, ap, ◌∙◌}
use Rattle.std.proofs.Math.Nat.{mod-eq_of_lt}
use Rattle.fixed_interval.proofs.Public.{unit_most}
use Rattle.series_bounds.proofs.ratios.one_more.Goals as goal

one_is : (f : ℕ) → f ≤ 52 → 1 * 2 ^ f % 2 ^ 64 ≡ 2 ^ f
one_is f s =
    let u = unit_most f s in
    let e : 1 * 2 ^ f ≡ 2 ^ f = omega arith in
    ap (λ z. z % 2 ^ 64) e ∙ mod-eq_of_lt (omega (arith, u))

pub returns-clause-short : goal.returns-clause-short
returns-clause-short g c = omega (arith, one_is g.row.F c.requires.scale.1, unit_most g.row.F c.requires.scale.1, c.requires.short)
