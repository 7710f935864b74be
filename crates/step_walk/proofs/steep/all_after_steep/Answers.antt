use Rattle.std.proofs.Common.{◌≡◌, ◌+◌, inl, inr, [], ◌∷◌, ◌++◌, length, slice_index, sym, ap, ◌∙◌, subst, arith, length-append, rules}
use Rattle.std.proofs.lemmas.List.{get_or_append_left}
use Rattle.std.proofs.Math.Seq.{get_or-append_seam}
use Rattle.list_laws.proofs.Public.{below_or}
use Rattle.step_walk.specs.Prefix.{curve_at}
use Rattle.step_walk.specs.Steep.{IsAfterSteep}
use Rattle.step_walk.proofs.Greedy.{curve_is}
use Rattle.step_walk.proofs.steep.all_after_steep.Goals as goal

pub loop-f-preserved : goal.loop-f-preserved
loop-f-preserved c =
    let curves = c.args.curves.now in
    let old = c.loop-f.picks.items in
    let f = c.loop-f.f in
    let i = c.loop-f.invariant in
    let pick = c.after_steep.result in
    let e : c.push.new.self.items ≡ old ++ pick ∷ [] = search rules in
    let count = i.count in
    let is = curve_is curves f 0 0 0 c.index-curves-f.result c.index-curves-f.is (omega arith) in
    let last : slice_index (old ++ pick ∷ []) f ≡ pick = subst (λ n. slice_index (old ++ pick ∷ []) n ≡ pick) count (get_or-append_seam old pick [] 0) in
    let own : IsAfterSteep c.args.price (curve_at curves f) (slice_index c.push.new.self.items f) =
    subst (λ l. IsAfterSteep c.args.price (curve_at curves f) (slice_index l f)) (sym e)
    (subst (λ k. IsAfterSteep c.args.price (curve_at curves f) k) (sym last)
    (subst (λ r. IsAfterSteep c.args.price r pick) is c.after_steep.ensures)) in
    record {
      count = ap length e ∙ length-append old (pick ∷ []) ∙ ap (λ n. n + 1) count;
      each = λ g l. elim (below_or g f l) [
        | inl k ↦ subst (λ xs. IsAfterSteep c.args.price (curve_at curves g) (slice_index xs g)) (sym e)
            (subst (λ x. IsAfterSteep c.args.price (curve_at curves g) x) (sym (get_or_append_left old (pick ∷ []) 0 g (omega (arith, k, count)))) (i.each g k))
        | inr k ↦ subst (λ z. IsAfterSteep c.args.price (curve_at curves z) (slice_index c.push.new.self.items z)) (sym k) own
      ];
    }
