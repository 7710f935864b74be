use Rattle.std.proofs.Common.{◌≡◌, ◌∙◌, length, sym, ap, ap₂, ◌++◌, ◌∷◌, [], arith}
use Rattle.series_bounds.specs.Profile.{weight_ends, listed}
use Rattle.series_bounds.proofs.Enclosure.{length_listed}
use Rattle.series_bounds.proofs.Walks.{listed_next}
use Rattle.series_bounds.proofs.walk.fill.Goals as goal

pub loop-x-init : goal.loop-x-init
loop-x-init g c = record {
  entries = c.requires.begun.entries ∙ ap (listed (weight_ends g.row.F c.args.mean c.args.excess)) (omega (arith, c.len-x.ensures));
  most = omega (arith, c.requires.begun.most, c.requires.next, c.len-x.ensures);
  from = λ l. omega (arith, c.requires.begun.all (omega (arith, l, c.len-x.ensures)), c.len-x.ensures);
}

pub loop-x-preserved : goal.loop-x-preserved
loop-x-preserved g c =
    let n = c.loop-x.invariant.from (omega (arith, c.loop-x-test.true, c.min-x-end.ensures)) in
    record {
      entries = rw c.in_ok-push.ensures.items
          (ap₂ (λ y z. y ++ z ∷ []) c.loop-x.invariant.entries (sym (c.requires.same c.loop-x._x n (omega (arith, c.loop-x-test.true, c.min-x-end.ensures))))
          ∙ sym (listed_next (weight_ends g.row.F c.args.mean c.args.excess) c.loop-x._x));
      most = omega (arith, c.loop-x-test.true, c.min-x-end.ensures);
      from = λ l. omega (arith, n);
    }

pub returns : goal.returns
returns g c =
    let n : length c.loop-x.list.items ≡ c.loop-x._x = ap length c.loop-x.invariant.entries ∙ length_listed (weight_ends g.row.F c.args.mean c.args.excess) c.loop-x._x in
    record {
      entries = c.loop-x.invariant.entries ∙ ap (listed (weight_ends g.row.F c.args.mean c.args.excess)) (sym n);
      most = omega (arith, n, c.loop-x.invariant.most);
      all = λ l. omega (arith, l, n, c.loop-x-test.false, c.min-x-end.ensures, c.loop-x.invariant.most);
    }
