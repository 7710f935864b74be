use Rattle.std.proofs.Common.{◌<◌, ◌∷◌, length, sym, subst, arith}
use Rattle.std.proofs.lemmas.Result.{IfOk-weaker}
use Rattle.family_points.specs.Inputs.{AreShopsAt, IsAt, line_low}
use Rattle.family_points.proofs.Public.{box_begins, joined_at}
use Rattle.family_bases.proofs.stocks.stocks_at.Goals as goal

pub line_low-line-requires : goal.line_low-line-requires
line_low-line-requires c = let some = c.invariant.ensures.valid.valid.frame.fewest_sites in omega (arith, some)

pub returns-clause-within : goal.returns-clause-within
returns-clause-within c =
    let x = c.args.family.now in
    let valid = c.invariant.ensures.valid in
    let some = valid.valid.frame.fewest_sites in
    let inside : 0 < length x.case.sites = omega (arith, some) in
    let order = (box_begins x valid 0 inside).0 in
    IfOk-weaker c.joined.result _ _ (λ v is. subst (IsAt x 0) (sym is) (subst (λ s. IsAt x 0 (s ∷ c.as_slice.result.now)) (sym c.line_low-line.ensures)
    (joined_at x valid 0 (line_low x 0) c.as_slice.result.now inside (subst (AreShopsAt x 0) (sym c.as_slice.ensures.value) c.in_ok-vector.ensures.within) (omega arith) order))) c.joined.ensures
