use Rattle.std.proofs.Common.{◌≡◌, ◌+◌, ap, ◌∙◌, arith}
use Rattle.backorder_bounds.specs.Places.{Place, next_place}
use Rattle.family_points.specs.Inputs.{line_low}
use Rattle.family_bases.specs.Lows.{line_place}
use Rattle.family_bases.proofs.lows.reach_least.Goals as goal

pub advance-requires : goal.advance-requires
advance-requires c =
    omega (arith, c.loop-k.invariant.stock, c.loop-k-test.true, c.line_low-k-end.ensures, c.invariant_at.ensures.order, c.invariant_at.ensures.most)

pub loop-k-init : goal.loop-k-init
loop-k-init c = record { stock = c.requires.start; walk = λ shops is. is }

pub loop-k-preserved : goal.loop-k-preserved
loop-k-preserved c = record {
  stock = ap (λ (p : Place). p.stock) c.advance.ensures ∙ ap (λ k. k + 1) c.loop-k.invariant.stock;
  walk = λ shops is. c.advance.ensures ∙ ap next_place (c.loop-k.invariant.walk shops is);
}

pub returns : goal.returns
returns c =
    let here = c.args.here.now in
    let last : c.loop-k._k ≡ line_low here.family.now here.site.0 = omega (arith, c.loop-k-test.false, c.loop-k.auto._k-end, c.line_low-k-end.ensures) in
    λ shops is. c.loop-k.invariant.walk shops is ∙ ap (λ s. line_place here.family.now here.depot.now here.site.0 shops s) last
