-- What is left of a curve has the shape of one.
use Rattle.std.proofs.Common.{◌≡◌, ◌-◌, List, drop, length, take, sym, ap, ◌∙◌, subst, arith}
use Rattle.hull.specs.declared.point.Point.{Point}
use Rattle.hull.specs.Curves.{IsShape}
use Rattle.hull.proofs.Kept.{kept_shape, left_of_points}
use Rattle.hull.proofs.curve.Curve.keep.Goals as goal

pub invariant_of-self : goal.invariant_of-self
invariant_of-self c =
    let order = c.requires.order in
    let within = c.requires.within in
    let all : length c.self.inside.vertices.items ≡ length c.args.self.now = ap length c.self.view_is in
    let left : c.drop-drain.new.self.0.items ≡ take (c.args.to - c.args.from) (drop c.args.from c.self.inside.vertices.items) =
    left_of_points c.self.inside.vertices.items c.truncate.new.self.items c.drop-drain.new.self.0.items c.args.from c.args.to (omega (arith, order)) c.truncate.ensures.items (c.drop-drain.ensures.items ∙ c.drain.ensures.kept) in
    subst IsShape (sym left) (kept_shape c.args.from (c.args.to - c.args.from) c.self.inside.vertices.items (omega (arith, order)) (omega (arith, order, within, all)) c.self.invariant)

pub returns : goal.returns
returns c =
    let order = c.requires.order in
    left_of_points c.self.inside.vertices.items c.truncate.new.self.items c.drop-drain.new.self.0.items c.args.from c.args.to (omega (arith, order)) c.truncate.ensures.items (c.drop-drain.ensures.items ∙ c.drain.ensures.kept)
    ∙ ap (λ (l : List Point). take (c.args.to - c.args.from) (drop c.args.from l)) c.self.view_is
