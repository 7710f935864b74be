use Rattle.std.proofs.Common.{◌≡◌, ℕ, ◌+◌, ◌*◌, ◌^◌, ◌<◌, ◌≤◌, List, length, get_or, map, take, lit<, ap, ap₂, sym, ◌∙◌, subst, arith}
use Rattle.std.specs.List.{fold}
use Rattle.std.proofs.lemmas.Nat.{mul-le}
use Rattle.std.proofs.lemmas.List.{map_more, take_all}
use Rattle.std.proofs.lemmas.List.Sums.{fold_push}
use Rattle.fixed_interval.specs.Ends.{Ends, ends_add, ends_exact}
use Rattle.fixed_interval.proofs.Public.{unit_most}
use Rattle.family_items.specs.declared.item.FamilyResult.{FamilyResult}
use Rattle.case_figures.proofs.gathering.total_of.Goals as goal

room : (n f a b : ℕ) → f ≤ 52 → n ≤ 2000 → a ≤ n * (384000 * 2 ^ f) → b ≤ 384000 * 2 ^ f → a + b < 2 ^ 127
room n f a b s h k l =
    let two = unit_most f s in
    let all = mul-le n (384000 * 2 ^ f) 2000 (384000 * 2 ^ f) h (omega arith) in
    omega (arith, two, all, k, l)

summed : (f : ℕ) (xs : List (FamilyResult f)) (n : ℕ) (r : FamilyResult f) (old new : Ends) → n < length xs → r ≡ get_or xs n r → new ≡ ends_add old r.total
    → old ≡ fold ends_add (ends_exact f 0) (map (λ (r : FamilyResult f). r.total) (take n xs))
    → new ≡ fold ends_add (ends_exact f 0) (map (λ (r : FamilyResult f). r.total) (take (n + 1) xs))
summed f xs n r old new l is e h =
    e ∙ ap₂ ends_add h (ap (λ (r : FamilyResult f). r.total) is)
    ∙ sym (fold_push ends_add (ends_exact f 0) (map (λ (r : FamilyResult f). r.total) (take n xs)) (get_or xs n r).total)
    ∙ ap (fold ends_add (ends_exact f 0)) (sym (map_more (λ (r : FamilyResult f). r.total) xs n r l))

grown : (n unit a b new : ℕ) → new ≡ a + b → a ≤ n * unit → b ≤ unit → new ≤ (n + 1) * unit
grown n unit a b new e h l = omega (arith, e, h, l)

pub add-total-requires : goal.add-total-requires
add-total-requires g c =
    let n = c.loop-family.family-index in
    let r = c.family-item.result in
    let small : r.total.hi ≤ 384000 * 2 ^ g.row.F =
    subst (λ (r : FamilyResult g.row.F). r.total.hi ≤ 384000 * 2 ^ g.row.F) (sym c.family-item.is) (c.requires.totals n r c.loop-family-test.true) in
    (lit< tt, room n g.row.F c.loop-family.total.hi r.total.hi c.requires.scale.1 (omega (arith, c.loop-family-test.true, c.requires.few)) c.loop-family.invariant.most small)

pub loop-family-preserved : goal.loop-family-preserved
loop-family-preserved g c =
    let f = g.row.F in
    let n = c.loop-family.family-index in
    let r = c.family-item.result in
    let old = c.loop-family.total in
    let small : r.total.hi ≤ 384000 * 2 ^ f =
    subst (λ (r : FamilyResult f). r.total.hi ≤ 384000 * 2 ^ f) (sym c.family-item.is) (c.requires.totals n r c.loop-family-test.true) in
    record {
      total = summed f c.args.families.now n r old c.add-total.result c.loop-family-test.true c.family-item.is c.add-total.ensures.ends c.loop-family.invariant.total;
      most = grown n (384000 * 2 ^ f) old.hi r.total.hi c.add-total.result.hi (ap (λ (e : Ends). e.hi) c.add-total.ensures.ends) c.loop-family.invariant.most small;
    }

pub returns : goal.returns
returns g c =
    c.loop-family.invariant.total
    ∙ ap (λ (rs : List (FamilyResult g.row.F)). fold ends_add (ends_exact g.row.F 0) (map (λ (r : FamilyResult g.row.F). r.total) rs))
    (take_all c.loop-family.family-index c.args.families.now c.loop-family-test.false)
