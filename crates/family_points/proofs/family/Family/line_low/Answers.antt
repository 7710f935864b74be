use Rattle.std.proofs.Common.{◌<◌, List, ℕ, length, sym, subst}
use Rattle.family_points.proofs.Points.{low_some}
use Rattle.family_points.proofs.family.Family.line_low.Goals as goal

pub bounds-low-0 : goal.bounds-low-0
bounds-low-0 c = subst (λ (v : List ℕ). 0 < length v) (sym c.low.ensures) (low_some c.args.self.now c.invariant.ensures.valid c.args.site.0 c.requires)
