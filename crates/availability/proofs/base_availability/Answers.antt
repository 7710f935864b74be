use Rattle.std.proofs.Common.{◌≡◌, ◌∙◌, ◌^◌, ◌≤◌, length, take, arith, sym, ap, ap₂, subst}
use Rattle.std.proofs.Math.Seq.{take-length}
use Rattle.std.proofs.lemmas.List.Elements.{All-get_or}
use Rattle.std.proofs.lemmas.List.Sums.{fold_more}
use Rattle.fixed_interval.specs.Ends.{Ends, In, ends_exact, ends_mul}
use Rattle.availability.specs.Profile.{base_ends}
use Rattle.exact_model.specs.Sums.{product_below}
use Rattle.availability.proofs.Laws.{base_in, product_most}
use Rattle.availability.proofs.base_availability.Goals as goal

pub loop-factor-preserved : goal.loop-factor-preserved
loop-factor-preserved g c = record {
  product =
      c.mul-product.ensures.ends ∙ ap₂ (ends_mul g.row.F) c.loop-factor.invariant.product c.factor-item.is
      ∙ sym (fold_more (ends_mul g.row.F) (ends_exact g.row.F 1) c.args.factors.now c.loop-factor.factor-index c.factor-item.result c.loop-factor-test.true);
  most =
      product_most g.row.F c.loop-factor.product c.factor-item.result c.mul-product.result c.loop-factor.invariant.most
      (subst (λ (x : Ends). x.hi ≤ 2 ^ g.row.F) (sym c.factor-item.is)
      (All-get_or (λ (x : Ends). x.hi ≤ 2 ^ g.row.F) c.args.factors.now c.loop-factor.factor-index c.factor-item.result c.loop-factor-test.true c.requires.shares))
      c.mul-product.ensures.ends;
}

pub returns-clause-encloses : goal.returns-clause-encloses
returns-clause-encloses g c q a =
    let all : c.loop-factor.factor-index ≡ length c.args.factors.now = omega (arith, c.loop-factor-test.false, c.loop-factor.auto.factor-index-end) in
    let e =
    subst (λ k. c.loop-factor.product ≡ base_ends g.row.F (take k c.args.factors.now)) all c.loop-factor.invariant.product
    ∙ ap (base_ends g.row.F) (take-length c.args.factors.now) in
    subst (λ (z : Ends). In g.row.F z (product_below q (length c.args.factors.now))) (sym e) (base_in g.row.F c.args.factors.now q a)
