use Rattle.std.proofs.Common.{◌≡◌, true, subst, ◌<◌, ◌≤◌, ◌*◌, arith, lit<, inl, inr}
use Rattle.series_bounds.specs.Profile.{is_wide}
use Rattle.series_bounds.specs.Answer.{IsBeginning}
use Rattle.series_bounds.proofs.Public.{wide_answer}
use Rattle.fixed_interval.specs.Ends.{Ends}
use Rattle.moment_table.specs.Profile.{excess_ends}
use Rattle.moment_table.proofs.Enclosure.{bare_empty, bare_wide}
use Rattle.moment_table.proofs.Firsts.{none_then, some_then, first_stored, first_rows, first_weights}
use Rattle.moment_table.proofs.weighed.weigh_to.Goals as goal

pub returns-then-hi-eq0-clause-bare : goal.returns-then-hi-eq0-clause-bare
returns-then-hi-eq0-clause-bare g c s l = bare_empty g.row.F c.args.mean c.args.variance (omega (arith, c.if-hi-eq0.true, c.hi.ensures.end)) s (omega (arith, l))

pub excess_of-excess-requires : goal.excess_of-excess-requires
excess_of-excess-requires g c =
    let r : (0 < c.args.mean.lo) × ((c.args.mean.hi ≤ 2048 * c.args.mean.lo) × (c.args.variance.hi ≤ 2048 * c.args.mean.lo)) =
    elim c.requires.table.ratio [ inl e ↦ absurd (c.if-hi-eq0.false (omega (arith, e.0, c.hi.ensures.end))) | inr e ↦ e ] in
    (lit< tt, (r.0, (c.requires.table.variance_top, r.1.1)))

pub first_weights-requires : goal.first_weights-requires
first_weights-requires g c =
    let r : (0 < c.args.mean.lo) × ((c.args.mean.hi ≤ 2048 * c.args.mean.lo) × (c.args.variance.hi ≤ 2048 * c.args.mean.lo)) =
    elim c.requires.table.ratio [ inl e ↦ absurd (c.if-hi-eq0.false (omega (arith, e.0, c.hi.ensures.end))) | inr e ↦ e ] in
    (lit< tt, (lit< tt, (r.0, (c.requires.table.mean_top, (c.excess_of-excess.ensures.most, c.requires.wanted)))))

pub returns-clause-bare : goal.returns-clause-bare
returns-clause-bare g c =
    none_then c.first_weights.result
    (λ w s l. bare_wide g.row.F c.args.mean c.args.variance (omega (arith, c.if-hi-eq0.false, c.hi.ensures.end))
    (wide_answer g.row.F c.args.mean (excess_ends g.row.F c.args.mean c.args.variance) (subst (λ z. is_wide g.row.F c.args.mean z ≡ true) c.excess_of-excess.ensures.ends w)) s (omega (arith, l)))
    c.first_weights.ensures.wide

pub returns-clause-rows : goal.returns-clause-rows
returns-clause-rows g c =
    some_then c.first_weights.result
    (λ sum h. first_rows g.row.F c.args.mean c.args.variance c.args.wanted c.first_weights.new.list.items sum
    (subst (λ (z : Ends). IsBeginning g.row.F c.args.mean z c.args.wanted c.first_weights.new.list.items sum) c.excess_of-excess.ensures.ends h)
    (omega (arith, c.if-hi-eq0.false, c.hi.ensures.end)) c.requires.wanted)
    c.first_weights.ensures.known

pub returns-clause-stored : goal.returns-clause-stored
returns-clause-stored g c =
    some_then c.first_weights.result
    (λ sum h. first_stored g.row.F c.args.mean c.args.variance c.args.wanted c.first_weights.new.list.items sum
    (subst (λ (z : Ends). IsBeginning g.row.F c.args.mean z c.args.wanted c.first_weights.new.list.items sum) c.excess_of-excess.ensures.ends h)
    (omega (arith, c.if-hi-eq0.false, c.hi.ensures.end)) c.requires.wanted)
    c.first_weights.ensures.known

pub returns-clause-first : goal.returns-clause-first
returns-clause-first g c =
    some_then c.first_weights.result
    (λ sum h. first_weights g.row.F c.args.mean c.excess_of-excess.result c.args.wanted c.first_weights.new.list.items sum h)
    c.first_weights.ensures.known
