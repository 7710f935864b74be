-- Quotients by a product, one factor after the other.
use Rattle.std.proofs.Common.{◌≡◌, ℕ, ◌*◌, ◌/◌, ◌^◌, ◌<◌, sym, ap, ◌∙◌, arith}
use Rattle.std.proofs.Math.Nat.{div-div-eq-div-mul, div-mul-le_self, lt_of_mul-lt-mul_right}
use Rattle.std.proofs.lemmas.Nat.{div-mul-add}
use Rattle.quotients.specs.Parts.{AreParts}
use Rattle.quotients.specs.declared.parts.Parts.{Parts}

whole_is : (n d : ℕ) (p : Parts) → AreParts n d p → p.whole ≡ n / d
whole_is n d p h = sym (div-mul-add p.whole d p.rest h.rest) ∙ ap (λ z. z / d) h.sum

-- the whole part of n / d, over x and rounded down, is n / (d x) rounded down
pub floor_twice : (n d x : ℕ) (p : Parts) → AreParts n d p → p.whole / x ≡ n / (d * x)
floor_twice n d x p h = ap (λ z. z / x) (whole_is n d p h) ∙ div-div-eq-div-mul n d x

-- a number below 2^63 divisors has a quotient below 2^63
pub quotient_room : (n d q : ℕ) → 0 < d → n < 2 ^ 63 * d → q ≡ n / d → q < 2 ^ 63
quotient_room n d q p h e = lt_of_mul-lt-mul_right d (rw e (omega (arith, h, div-mul-le_self n d)))
