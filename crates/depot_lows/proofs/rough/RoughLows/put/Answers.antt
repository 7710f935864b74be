use Rattle.std.proofs.Common.{◌≡◌, ◌+◌, ◌∷◌, [], ◌++◌, ◌∙◌, List, drop, length, sum_by, ap, arith, length-append}
use Rattle.std.proofs.lemmas.List.Sums.{sum_by_push}
use Rattle.family_bases.specs.declared.lows.Lows.{Lows}
use Rattle.depot_lows.specs.Rough.{AreUnderBase}
use Rattle.depot_lows.proofs.RoughFacts.{one_listed}
use Rattle.depot_lows.proofs.rough.RoughLows.put.Goals as goal

pub loop-j-preserved : goal.loop-j-preserved
loop-j-preserved g c =
    let x = c.args.sources.now.family.now in
    let j = c.loop-j.j in
    let rows : List Lows = c.loop-j.self.bases.items in
    let made : List Lows = c.push.new.self.items in
    let lows : Lows = c.rough_at_base-lows.result in
    let is : made ≡ rows ++ lows ∷ [] = c.in_ok-push.ensures.items in
    let inv = c.loop-j.invariant in
    let most = c.rough_at_base-lows.ensures.most in
    let long : length made ≡ length rows + 1 = ap length is ∙ length-append rows (lows ∷ []) in
    let sum_low = ap (sum_by (λ (r : Lows). r.at_low)) is ∙ sum_by_push (λ (r : Lows). r.at_low) rows lows in
    let sum_high = ap (sum_by (λ (r : Lows). r.at_high)) is ∙ sum_by_push (λ (r : Lows). r.at_high) rows lows in
    record {
      count = omega (arith, long, inv.count, c.loop-j.auto.j);
      under = λ i on below. one_listed (λ k l. AreUnderBase g.S.Score.ends x (drop 1 c.args.depot.now) k c.args.low c.args.high l) rows made lows j (omega (arith, c.loop-j.auto.j)) inv.count is
          i on.0 below (λ earlier. inv.under i on earlier) c.rough_at_base-lows.ensures.under;
      sum_low = omega (arith, inv.sum_low, sum_low);
      sum_high = omega (arith, inv.sum_high, sum_high);
      most_low = omega (arith, inv.most_low, most.0, c.loop-j.auto.j);
      most_high = omega (arith, inv.most_high, most.1, c.loop-j.auto.j);
    }
