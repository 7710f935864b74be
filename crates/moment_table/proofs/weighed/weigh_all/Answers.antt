use Rattle.std.proofs.Common.{◌≡◌, ◌<◌, ◌≤◌, ◌*◌, ◌∙◌, arith, ap, lit<, inl, inr, refl}
use Rattle.series_bounds.specs.Profile.{weights_of}
use Rattle.series_bounds.specs.declared.kinds.Weights.TheVariants.{Known, Wide}
use Rattle.series_bounds.specs.Answer.{Sized}
use Rattle.moment_table.specs.Profile.{known_row, excess_ends}
use Rattle.moment_table.proofs.Enclosure.{bare_empty, bare_wide, row_of_known}
use Rattle.moment_table.proofs.Firsts.{all_first}
use Rattle.moment_table.proofs.weighed.weigh_all.Goals as goal

pub returns-then-hi-eq0-clause-bare : goal.returns-then-hi-eq0-clause-bare
returns-then-hi-eq0-clause-bare g c s l = bare_empty g.row.F c.args.mean c.args.variance (omega (arith, c.if-hi-eq0.true, c.hi.ensures.end)) s (omega (arith, l))

pub excess_of-excess-requires : goal.excess_of-excess-requires
excess_of-excess-requires g c =
    let r : (0 < c.args.mean.lo) × ((c.args.mean.hi ≤ 2048 * c.args.mean.lo) × (c.args.variance.hi ≤ 2048 * c.args.mean.lo)) =
    elim c.requires.ratio [ inl e ↦ absurd (c.if-hi-eq0.false (omega (arith, e.0, c.hi.ensures.end))) | inr e ↦ e ] in
    (lit< tt, (r.0, (c.requires.variance_top, r.1.1)))

pub weights-requires : goal.weights-requires
weights-requires g c =
    let r : (0 < c.args.mean.lo) × ((c.args.mean.hi ≤ 2048 * c.args.mean.lo) × (c.args.variance.hi ≤ 2048 * c.args.mean.lo)) =
    elim c.requires.ratio [ inl e ↦ absurd (c.if-hi-eq0.false (omega (arith, e.0, c.hi.ensures.end))) | inr e ↦ e ] in
    (lit< tt, (lit< tt, (r.0, (c.requires.mean_top, c.excess_of-excess.ensures.most))))

pub returns-in-Known-clause-known : goal.returns-in-Known-clause-known
returns-in-Known-clause-known g c =
    let q : 0 < c.args.mean.hi = omega (arith, c.if-hi-eq0.false, c.hi.ensures.end) in
    let list = c.into_vec-list.result.items in
    let i : list ≡ c.in-Known.list = c.into_vec-list.ensures in
    let e : Known c.in-Known.pivot c.in-Known.list c.in-Known.sum ≡ weights_of g.row.F c.args.mean (excess_ends g.row.F c.args.mean c.args.variance) =
    rw c.in-Known.is at c.in_ok-list.ensures.ends ∙ ap (weights_of g.row.F c.args.mean) c.excess_of-excess.ensures.ends in
    let known : Known c.in-Known.pivot list c.in-Known.sum ≡ weights_of g.row.F c.args.mean (excess_ends g.row.F c.args.mean c.args.variance) =
    ap (λ z. Known c.in-Known.pivot z c.in-Known.sum) i ∙ e in
    let sized : Sized g.row.F c.in-Known.list c.in-Known.sum = rw c.in-Known.is at c.in_ok-list.ensures.sized in
    record {
      rows = λ s l. row_of_known g.row.F c.args.mean c.args.variance c.in-Known.pivot list c.in-Known.sum
          (known_row g.row.F c.args.mean c.args.variance list c.in-Known.sum s) s (omega (arith, l)) q known refl;
      first = rw i (all_first g.row.F c.in-Known.list c.in-Known.sum sized);
      least = sized.sum_least;
    }

pub returns-in-Wide-clause-bare : goal.returns-in-Wide-clause-bare
returns-in-Wide-clause-bare g c =
    let q : 0 < c.args.mean.hi = omega (arith, c.if-hi-eq0.false, c.hi.ensures.end) in
    let e : Wide ≡ weights_of g.row.F c.args.mean (excess_ends g.row.F c.args.mean c.args.variance) =
    rw c.in-Wide.is at c.in_ok-list.ensures.ends ∙ ap (weights_of g.row.F c.args.mean) c.excess_of-excess.ensures.ends in
    λ s l. bare_wide g.row.F c.args.mean c.args.variance q e s (omega (arith, l))
