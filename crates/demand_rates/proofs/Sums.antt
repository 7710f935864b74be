-- Sums over a range and over a list, as loops add them up.
use Rattle.std.proofs.Common.{◌≡◌, ℕ, zero, suc, ◌+◌, ◌-◌, ◌*◌, ◌≤◌, sum_by, ap, ◌∙◌, arith, mul-le-mul_right}
use Rattle.std.specs.List.{range_with_len}
use Rattle.std.proofs.lemmas.List.Sums.{sum_by-cons}
use Rattle.list_laws.proofs.Public.{sum_more}

-- a loop's sum over the bases below k, with one more
pub grown : (g : ℕ → ℕ) (k sum term : ℕ) → 1 ≤ k → sum ≡ sum_by g (range_with_len 1 (k - 1)) → term ≡ g k → sum + term ≡ sum_by g (range_with_len 1 (k + 1 - 1))
grown g zero sum term l h t = elim l [ ]
grown g (suc n) sum term l h t =
    let before : suc n - 1 ≡ n = omega arith in
    let after : suc n + 1 - 1 ≡ suc n = omega arith in
    let place : 1 + n ≡ suc n = omega arith in
    rw after
    (omega (arith, h ∙ ap (λ m. sum_by g (range_with_len 1 m)) before, t, sum_more g 1 n, ap g place))

pub sum_most : (g : ℕ → ℕ) (b a n : ℕ) → ((k : ℕ) → g k ≤ b) → sum_by g (range_with_len a n) ≤ n * b
sum_most g b a zero h = omega arith
sum_most g b a (suc n) h = omega (arith, sum_by-cons g a (range_with_len (a + 1) n), h a, sum_most g b (a + 1) n h)

-- fifteen bases at most
pub sum_few : (g : ℕ → ℕ) (b n : ℕ) → n ≤ 15 → ((k : ℕ) → g k ≤ b) → sum_by g (range_with_len 1 n) ≤ 15 * b
sum_few g b n h each = omega (arith, sum_most g b 1 n each, mul-le-mul_right b h)
