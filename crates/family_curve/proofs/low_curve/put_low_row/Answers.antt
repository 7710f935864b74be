use Rattle.std.proofs.Common.{◌≡◌, ℕ, ◌+◌, ◌≤◌, List, [], ◌∷◌, ◌++◌, length, sym, ap, ◌∙◌, subst, arith}
use Rattle.std.proofs.lemmas.List.{length-append}
use Rattle.backorder_bounds.specs.Places.{Place, low_end, next_place}
use Rattle.family_points.specs.Inputs.{line_low}
use Rattle.family_bases.specs.Lows.{line_place}
use Rattle.family_curve.proofs.LowCurves.{entry_more}
use Rattle.family_curve.proofs.low_curve.put_low_row.Goals as goal

pub line_low-first-requires : goal.line_low-first-requires
line_low-first-requires c = c.requires.here.site.1

pub line_high-last-requires : goal.line_high-last-requires
line_high-last-requires c = c.requires.here.site.1

pub loop-s-init : goal.loop-s-init
loop-s-init c =
    let here = c.args.here.now in
    let x = here.family.now in
    let d = here.depot.now in
    let j = here.site.0 in
    let stocks = c.args.shops.now in
    let items : c.push.new.self.items ≡ c.low.result ∷ [] = c.in_ok-push.ensures.items ∙ ap (λ (l : List ℕ). l ++ c.low.result ∷ []) c.clear.ensures.items in
    let none : line_low x j ≡ line_low x j + 0 = omega arith in
    let first : c.low.result ≤ low_end 48 (line_place x d j stocks (line_low x j + 0)) =
    subst (λ (p : Place). c.low.result ≤ low_end 48 p) ((c.reach_least.ensures c.args.shops.now c.walk_at-walk.ensures) ∙ ap (λ s. line_place x d j stocks s) none) c.low.ensures in
    record {
      walk = (c.reach_least.ensures c.args.shops.now c.walk_at-walk.ensures) ∙ ap (λ s. line_place x d j stocks s) (sym c.line_low-first.ensures);
      long = omega (arith, ap length items, c.line_low-first.ensures);
      low = entry_more (λ i e. e ≤ low_end 48 (line_place x d j stocks (line_low x j + i))) [] c.push.new.self.items c.low.result items (λ i h. absurd (omega (arith, h))) first;
    }

pub advance-requires : goal.advance-requires
advance-requires c =
    let e : c.loop-s.walk.stock ≡ c.loop-s._s = ap (λ (p : Place). p.stock) c.loop-s.invariant.walk in
    omega (arith, e, c.loop-s-test.true, c.line_high-last.ensures.most)

pub loop-s-preserved : goal.loop-s-preserved
loop-s-preserved c =
    let here = c.args.here.now in
    let x = here.family.now in
    let d = here.depot.now in
    let j = here.site.0 in
    let stocks = c.args.shops.now in
    let row : List ℕ = c.loop-s.row.items in
    let e = c.low-in-loop-s.result in
    let moved : c.advance.new.self ≡ line_place x d j stocks (c.loop-s._s + 1) = c.advance.ensures ∙ ap next_place c.loop-s.invariant.walk in
    let items : c.push-in-loop-s.new.self.items ≡ row ++ e ∷ [] = c.in_ok-push-2.ensures.items in
    let at : c.loop-s._s + 1 ≡ line_low x j + length row = omega (arith, c.loop-s.invariant.long) in
    let last : e ≤ low_end 48 (line_place x d j stocks (line_low x j + length row)) =
    subst (λ (p : Place). e ≤ low_end 48 p) (moved ∙ ap (λ s. line_place x d j stocks s) at) c.low-in-loop-s.ensures in
    record {
      walk = moved;
      long = omega (arith, ap length items, length-append row (e ∷ []), c.loop-s.invariant.long);
      low = entry_more (λ i n. n ≤ low_end 48 (line_place x d j stocks (line_low x j + i))) row c.push-in-loop-s.new.self.items e items c.loop-s.invariant.low last;
    }

pub returns : goal.returns
returns c = record {
  long = omega (arith, c.loop-s.invariant.long, c.loop-s-test.false, c.line_high-last.ensures.high, c.line_low-first.ensures);
  low = c.loop-s.invariant.low;
}
