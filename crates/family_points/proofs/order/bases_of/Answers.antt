use Rattle.std.proofs.Common.{◌≡◌, suc, ◌+◌, ◌-◌, [], ◌∷◌, ◌++◌, length, sym, ap, ◌∙◌, subst, arith}
use Rattle.std.specs.List.{AllZip, range_with_len}
use Rattle.list_laws.proofs.Public.{range_more, zip_push}
use Rattle.family_points.specs.Choices.{IsBaseOf}
use Rattle.family_points.proofs.order.bases_of.Goals as goal

pub loop-j-preserved : goal.loop-j-preserved
loop-j-preserved c =
    let x = c.args.family.now in
    let j = c.loop-j.j in
    let next : suc (j - 1) ≡ j + 1 - 1 = omega (arith, c.loop-j.auto.j) in
    let more : range_with_len 1 (j + 1 - 1) ≡ range_with_len 1 (j - 1) ++ j ∷ [] = ap (range_with_len 1) (sym next) ∙ range_more 1 (j - 1) j (omega (arith, c.loop-j.auto.j)) in
    subst (λ r. AllZip (IsBaseOf x) r c.push.new.self.items) (sym more)
    (subst (AllZip (IsBaseOf x) (range_with_len 1 (j - 1) ++ j ∷ [])) (sym c.in_ok-push.ensures.items)
    (zip_push (IsBaseOf x) (range_with_len 1 (j - 1)) c.loop-j.bases.items j c.in_ok-base.base c.loop-j.invariant c.in_ok-base.ensures))

pub returns : goal.returns
returns c =
    let x = c.args.family.now in
    let last : c.loop-j.j - 1 ≡ length x.case.sites - 1 =
    omega (arith, c.loop-j-test.false, c.loop-j.auto.j-end (omega (arith, c.sites-j-end.ensures.fewest)), c.sites-j-end.ensures.sites) in
    subst (λ n. AllZip (IsBaseOf x) (range_with_len 1 n) c.loop-j.bases.items) last c.loop-j.invariant
