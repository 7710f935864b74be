use Rattle.std.proofs.Common.{◌<◌, List, ℕ, length, sym, subst}
use Rattle.family_points.proofs.Points.{high_some}
use Rattle.family_points.proofs.family.Family.line_high.Goals as goal

pub bounds-high-0 : goal.bounds-high-0
bounds-high-0 c = subst (λ (v : List ℕ). 0 < length v) (sym c.high.ensures.high) (high_some c.args.self.now c.invariant.ensures.valid c.args.site.0 c.requires)
