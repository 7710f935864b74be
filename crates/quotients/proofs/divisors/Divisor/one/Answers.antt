use Rattle.std.proofs.Common.{ℕ, ◌≡◌, ◌∙◌, ◌+◌, ◌*◌, ◌/◌, ◌%◌, ◌^◌, ◌≤◌, ap, sym, refl, arith, pow_pos, pow-add}
use Rattle.std.proofs.Math.Nat.{mod-eq_of_lt, pow-le-pow_right, div-eq_of_lt-le}
use Rattle.quotients.specs.Divisors.{IsDivisor}
use Rattle.quotients.proofs.divisors.Divisor.one.Goals as goal

one_is : (f d : ℕ) → f ≤ 52 → d ≡ 1 * 2 ^ f % 2 ^ 64 → IsDivisor f d (2 ^ 62)
one_is f d s e =
    let a : 2 ^ f ≤ 2 ^ 52 = pow-le-pow_right {n = 2} (omega arith) {i = f} {j = 52} s in
    let b : 1 * 2 ^ f ≡ 2 ^ f = omega arith in
    let i : d ≡ 2 ^ f = e ∙ ap (λ z. z % 2 ^ 64) b ∙ mod-eq_of_lt (omega (arith, a)) in
    let p : 2 ^ (f + 62) ≡ 2 ^ f * 2 ^ 62 = pow-add 2 f 62 in
    let q : 2 ^ (f + 62) / d ≡ 2 ^ 62 = div-eq_of_lt-le d (omega (arith, i, p)) (omega (arith, i, p, pow_pos f)) in
    record { scale = s; least = omega (arith, i); most = omega (arith, i, a); inverse_is = sym q }

pub invariant_of-result : goal.invariant_of-result
invariant_of-result g c = one_is g.row.F _ c.requires refl
