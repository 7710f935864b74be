use Rattle.std.proofs.Common.{◌≡◌, ℕ, ◌+◌, ◌/◌, ◌%◌, List, [], ◌∷◌, ap, arith}
use Rattle.fixed_interval.specs.Text.{last_digits}
use Rattle.plan_report.proofs.text.decimals.Goals as goal

-- the digits of the last six places
abbrev digits : ℕ → ℕ → ℕ → ℕ → ℕ → ℕ → List ℕ
digits a b c d e f = (48 + a) ∷ (48 + b) ∷ (48 + c) ∷ (48 + d) ∷ (48 + e) ∷ (48 + f) ∷ []

six : (n : ℕ) (a b c d e f : ℕ) → a ≡ n / 100000 % 10 → b ≡ n / 10000 % 10 → c ≡ n / 1000 % 10 → d ≡ n / 100 % 10 → e ≡ n / 10 % 10 → f ≡ n / 1 % 10
    → digits a b c d e f ≡ last_digits 6 n
unfolding last_digits
six n a b c d e f h i j k l m = λ t. digits (h t) (i t) (j t) (k t) (l t) (m t)

pub returns : goal.returns
returns c =
    let n = c.args.number in
    let m = n % 1000000 in
    ap (λ (xs : List ℕ). 46 ∷ xs)
    (six n (m / 100000) (m / 10000 % 10) (m / 1000 % 10) (m / 100 % 10) (m / 10 % 10) (m % 10)
    (omega arith) (omega arith) (omega arith) (omega arith) (omega arith) (omega arith))
