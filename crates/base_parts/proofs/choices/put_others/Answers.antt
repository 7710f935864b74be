use Rattle.std.proofs.Common.{◌≡◌, List, inl, inr, length, map, subst, ap, arith, ◌∙◌}
use Rattle.std.proofs.lemmas.Bool.{cases_lt}
use Rattle.std.proofs.lemmas.List.{length-map}
use Rattle.fixed_interval.specs.Ends.{Ends}
use Rattle.family_points.specs.declared.order.ShopVector.{ShopVector}
use Rattle.base_parts.specs.Choices.{IsSettled}
use Rattle.base_parts.proofs.Kept.{settled_grows}
use Rattle.base_parts.proofs.choices.put_others.Goals as goal

pub loop-n-preserved : goal.loop-n-preserved
loop-n-preserved c =
    let n = c.loop-n.n in
    let old : List (List Ends) = map (λ r. r.items) c.loop-n.rows.items in
    let new : List (List Ends) = map (λ r. r.items) c.put_other.new.rows.items in
    let other = c.in_ok-put_other.ensures in
    record {
      long = other.long ∙ c.loop-n.invariant.long;
      rows = other.rows;
      grown = λ k some. other.grown k (c.loop-n.invariant.grown k some);
      settled = λ k l. elim (cases_lt k n) [
        | inl b ↦ settled_grows c.args.low c.args.high c.args.chain.now old new c.args.lows.now c.loop-n.others.passed c.put_other.new.others.passed k (other.grown k) other.passed
            (c.loop-n.invariant.settled k b)
        | inr b ↦ subst (IsSettled c.args.low c.args.high c.args.chain.now new c.args.lows.now c.put_other.new.others.passed) (let e : n ≡ k = omega (arith, l, b) in e) other.settled
      ];
      same = λ no. other.same no ∙ c.loop-n.invariant.same (other.no_more no);
    }

pub returns-clause-settled : goal.returns-clause-settled
returns-clause-settled c = λ k l. (
    let items = c.args.here.now.base.now.shops.items in
    let stocks = length-map items (λ (v : ShopVector). v.stocks) in
    c.loop-n.invariant.settled k (omega (arith, l, c.loop-n-test.false, c.len-n-end.ensures, c.args.here.now.base.now.shops.ok.0, stocks, ap length c.requires.here.base.stocks)))
