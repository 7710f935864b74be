use Rattle.std.proofs.Common.{◌≡◌, ◌+◌, ◌^◌, ◌≤◌, inl, inr, List, [], ◌∷◌, ◌++◌, length, slice_index, sym, ap, ◌∙◌, subst, arith, length-append, rules}
use Rattle.list_laws.proofs.Public.{below_or}
use Rattle.hull.specs.declared.point.Point.{Point}
use Rattle.step_walk.specs.Prefix.{IsRangedChain, curve_at}
use Rattle.step_walk.proofs.Greedy.{curve_is}
use Rattle.step_walk.proofs.Taking.{zeros_more}
use Rattle.step_walk.proofs.walk.first_picks.Goals as goal

pub loop-f-preserved : goal.loop-f-preserved
loop-f-preserved c =
    let e : c.push.new.self.items ≡ c.loop-f.picks.items ++ 0 ∷ [] = search rules in
    record {
      count = ap length e ∙ length-append c.loop-f.picks.items (0 ∷ []) ∙ ap (λ n. n + 1) c.loop-f.invariant.count;
      zero = λ g. subst (λ l. slice_index l g ≡ 0) (sym e) (zeros_more c.loop-f.picks.items c.loop-f.invariant.zero g);
      short = λ g l. elim (below_or g c.loop-f.f l) [
        | inl k ↦ c.loop-f.invariant.short g k
        | inr k ↦ subst (λ z. length (curve_at c.args.curves.now z) ≤ 2 ^ 31) (sym k)
            (subst (λ (z : List Point). length z ≤ 2 ^ 31) (curve_is c.args.curves.now c.loop-f.f 0 0 0 c.index-curves-f.result c.index-curves-f.is (omega arith)) c.len-some.ensures.shape.few)
      ];
      shapes = λ g l. elim (below_or g c.loop-f.f l) [
        | inl k ↦ c.loop-f.invariant.shapes g k
        | inr k ↦ subst (λ z. IsRangedChain (curve_at c.args.curves.now z)) (sym k)
            (subst IsRangedChain (curve_is c.args.curves.now c.loop-f.f 0 0 0 c.index-curves-f.result c.index-curves-f.is (omega arith)) (let s = c.len-some.ensures.shape in record { some = s.some; chain = s.chain; ranges = s.ranges }))
      ];
    }
