-- What the entries of a table of inverses are good for.
use Rattle.std.proofs.Common.{ℕ, zero, suc, ◌≡◌, ◌+◌, ◌*◌, ◌/◌, ◌%◌, ◌^◌, ◌<◌, ◌≤◌, List, [], ◌∷◌, length, get_or, Bool, true, false, ◌&&◌, nat_eq, IsTrue, arith, refl, subst}
use Rattle.std.proofs.Math.Nat.{div-eq_of_lt-le, lt_of_mul-lt-mul_right, mod-lt, mul-le-mul_left, mul-le-mul_right}
use Rattle.std.proofs.lemmas.Nat.{div-add-mod', mul-lt}
use Rattle.std.proofs.lemmas.Bool.{false≢true}
use Rattle.std.proofs.lemmas.Bool.Decides.{nat_tests}
use Rattle.quotients.specs.Inverses.{is_inverse, are_inverses_from, are_inverses}

-- m is 2^63 / x rounded up
pub record IsInverse (x m : ℕ) : Type 0 where
  pub least : 2 ^ 63 ≤ m * x
  pub most : m * x < 2 ^ 63 + x

inverse_is : (x m : ℕ) → is_inverse x m ≡ true → IsInverse x m
inverse_is x m h = record { least = grind (arith, h); most = grind (arith, h) }

both_are : (a b : Bool) → (a && b) ≡ true → (a ≡ true) × (b ≡ true)
both_are true b h = (refl, h)
both_are false b h = absurd (false≢true h)

from_is : (x k : ℕ) (ms : List ℕ) → are_inverses_from x ms ≡ true → k < length ms → IsInverse (x + k) (get_or ms k 0)
from_is x k [] h l = absurd (omega (arith, l))
from_is x zero (m ∷ ms) h l = subst (λ z. IsInverse z m) (omega arith) (inverse_is x m (both_are (is_inverse x m) (are_inverses_from (suc x) ms) h).0)
from_is x (suc k) (m ∷ ms) h l =
    subst (λ z. IsInverse z (get_or ms k 0)) (omega arith) (from_is (suc x) k ms (both_are (is_inverse x m) (are_inverses_from (suc x) ms) h).1 (omega (arith, l)))

-- an entry of a table of inverses
pub entry_is : (table : List ℕ) (x : ℕ) → IsTrue (are_inverses table) → 0 < x → x < 256 → IsInverse x (get_or table x 0)
entry_is [] x h p l = absurd (false≢true h)
entry_is (m ∷ ms) zero h p l = absurd (omega (arith, p))
entry_is (m ∷ ms) (suc x) h p l =
    let b = both_are (nat_eq (length ms) 256) (are_inverses_from 1 ms) h in
    let n : length ms ≡ 256 = grind (arith, nat_tests, b) in
    subst (λ z. IsInverse z (get_or ms x 0)) (omega arith) (from_is 1 x ms b.1 (omega (arith, n, l)))

-- the quotient by the inverse's product
pub by_inverse : (n x m q : ℕ) → 0 < x → n < 2 ^ 55 → x < 256 → 2 ^ 63 ≤ m * x → m * x < 2 ^ 63 + x → q * x ≤ n → n < (q + 1) * x → n * m / 2 ^ 63 ≡ q
by_inverse n x m q p few small low high le lt =
    let a : q * 2 ^ 63 ≤ q * (m * x) = mul-le-mul_left q low in
    let b : q * x * m ≤ n * m = mul-le-mul_right m le in
    let lower : q * 2 ^ 63 ≤ n * m = omega (arith, a, b) in
    let c : n * (m * x) ≤ n * (2 ^ 63 + x) = mul-le-mul_left n (omega (arith, high)) in
    let d : n * x < 2 ^ 55 * 256 = mul-lt n x (2 ^ 55) 256 few small in
    let e : (n + 1) * 2 ^ 63 ≤ (q + 1) * x * 2 ^ 63 = mul-le-mul_right (2 ^ 63) (omega (arith, lt)) in
    let upper : n * m * x < (q + 1) * 2 ^ 63 * x = omega (arith, c, d, e) in
    div-eq_of_lt-le (2 ^ 63) lower (lt_of_mul-lt-mul_right x upper)

-- where the number has few bits, its product with the inverse holds the quotient
pub quotient_is : (n x m : ℕ) → 0 < x → n < 2 ^ 55 → x < 256 → 2 ^ 63 ≤ m * x → m * x < 2 ^ 63 + x → n * m / 2 ^ 63 ≡ n / x
quotient_is n x m p few small low high =
    let parts = div-add-mod' n x in
    let less : n % x < x = mod-lt n p in
    by_inverse n x m (n / x) p few small low high (omega (arith, parts)) (omega (arith, parts, less))
