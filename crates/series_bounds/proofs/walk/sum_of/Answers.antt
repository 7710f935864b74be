use Rattle.std.proofs.Common.{◌≡◌, ℕ, ◌+◌, ◌*◌, ◌^◌, ◌<◌, ◌≤◌, List, [], ◌∷◌, ◌++◌, length, get_or, take, sym, ap, ◌∙◌, subst, arith, lit<, le_trans, mul-le-mul_left}
use Rattle.std.proofs.lemmas.List.{take_all, take_more}
use Rattle.std.proofs.lemmas.Grind.{fold-append}
use Rattle.std.proofs.lemmas.Nat.{mul-le}
use Rattle.fixed_interval.specs.Ends.{Ends, ends_add}
use Rattle.fixed_interval.proofs.Public.{unit_most}
use Rattle.series_bounds.specs.Profile.{ends_sum}
use Rattle.series_bounds.proofs.walk.sum_of.Goals as goal

sum_next : (xs : List Ends) (i : ℕ) (x : Ends) → i < length xs → x ≡ get_or xs i x → ends_sum (take (i + 1) xs) ≡ ends_add (ends_sum (take i xs)) x
sum_next xs i x within is =
    ap ends_sum (take_more xs i x within ∙ ap (λ (y : Ends). take i xs ++ y ∷ []) (sym is))
    ∙ fold-append ends_add (record { lo = 0; hi = 0 }) (take i xs) (x ∷ [])

most_next : (sum v most i : ℕ) → sum ≤ i * most → v ≤ most → sum + v ≤ (i + 1) * most
most_next sum v most i h k = omega (arith, h, k)

room : (f i sum v : ℕ) → f ≤ 52 → i < 1025 → sum ≤ i * (8 * 2 ^ f) → v ≤ 8 * 2 ^ f → sum + v < 2 ^ 127
room f i sum v scale few h k =
    let unit : 8 * 2 ^ f ≤ 8 * 2 ^ 52 = mul-le-mul_left 8 (unit_most f scale) in
    let most : i * (8 * 2 ^ f) ≤ 1025 * (8 * 2 ^ 52) = mul-le i (8 * 2 ^ f) 1025 (8 * 2 ^ 52) (omega (arith, few)) unit in
    small sum v (le_trans h most) (le_trans k unit)
  where
    small : (sum v : ℕ) → sum ≤ 1025 * (8 * 2 ^ 52) → v ≤ 8 * 2 ^ 52 → sum + v < 2 ^ 127
    small sum v h k = omega (arith, h, k)

ended : (i n : ℕ) → n ≤ i → i ≤ n → i ≡ n
ended i n past within = omega (arith, past, within)

below : (i n most : ℕ) → i < n → n ≤ most → i < most
below i n most h k = omega (arith, h, k)

pub add-sum-requires : goal.add-sum-requires
add-sum-requires g c =
    let top = subst (λ (v : Ends). v.hi ≤ 8 * 2 ^ g.row.F) (sym (c.open.ensures ∙ c.v-item.is)) (c.requires.tops c.loop-v.v-index c.v-item.result c.loop-v-test.true) in
    (lit< tt, room g.row.F c.loop-v.v-index c.loop-v.sum.hi c.open.result.hi c.requires.scale.1 (below c.loop-v.v-index _ _ c.loop-v-test.true c.requires.long) c.loop-v.invariant.most top)

pub loop-v-preserved : goal.loop-v-preserved
loop-v-preserved g c =
    let top = subst (λ (v : Ends). v.hi ≤ 8 * 2 ^ g.row.F) (sym (c.open.ensures ∙ c.v-item.is)) (c.requires.tops c.loop-v.v-index c.v-item.result c.loop-v-test.true) in
    record {
      sum = c.add-sum.ensures.ends ∙ ap (ends_add c.loop-v.sum) c.open.ensures ∙ ap (λ (s : Ends). ends_add s c.v-item.result) c.loop-v.invariant.sum
          ∙ sym (sum_next c.args.list.now c.loop-v.v-index c.v-item.result c.loop-v-test.true c.v-item.is);
      most = subst (λ (s : Ends). s.hi ≤ (c.loop-v.v-index + 1) * (8 * 2 ^ g.row.F)) (sym c.add-sum.ensures.ends)
          (most_next c.loop-v.sum.hi c.open.result.hi (8 * 2 ^ g.row.F) c.loop-v.v-index c.loop-v.invariant.most top);
    }

pub returns-clause-ends : goal.returns-clause-ends
returns-clause-ends g c = c.loop-v.invariant.sum ∙ ap ends_sum (take_all c.loop-v.v-index c.args.list.now c.loop-v-test.false)

pub returns-clause-most : goal.returns-clause-most
returns-clause-most g c =
    subst (λ n. c.loop-v.sum.hi ≤ n * (8 * 2 ^ g.row.F)) (ended c.loop-v.v-index (length c.args.list.now) c.loop-v-test.false c.loop-v.auto.v-index-end) c.loop-v.invariant.most
