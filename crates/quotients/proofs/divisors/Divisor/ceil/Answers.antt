use Rattle.std.proofs.Common.{◌≡◌, ◌≤◌, ◌<◌, arith}
use Rattle.quotients.proofs.Rough.{rough_up}
use Rattle.quotients.proofs.divisors.Divisor.ceil.Goals as goal
use Rattle.quotients.proofs.divisors.Divisor.ceil.Goals.{then-rough-eq0, else-rough-eq0, then-rough-self, else-rough-self}

pub returns : goal.returns
returns g c =
    let left = c.rough-rough.result.left in
    let a : left ≡ 0 → c.if-rough-eq0.more ≡ 0 = elim c.if-rough-eq0.branch [ then-rough-eq0 w ↦ (λ z. w.more-is) | else-rough-eq0 w ↦ (λ z. absurd (omega (arith, w.if-rough-eq0.false, z))) ] in
    let b : 0 < left → c.if-rough-eq0.more ≡ 1 = elim c.if-rough-eq0.branch [ then-rough-eq0 w ↦ (λ z. absurd (omega (arith, w.if-rough-eq0.true, z))) | else-rough-eq0 w ↦ (λ z. w.more-is) ] in
    let d : left ≤ c.args.self → c.if-rough-self.second ≡ 0 = elim c.if-rough-self.branch [ then-rough-self w ↦ (λ z. w.second-is) | else-rough-self w ↦ (λ z. absurd (omega (arith, w.if-rough-self.false, z))) ] in
    let e : c.args.self < left → c.if-rough-self.second ≡ 1 = elim c.if-rough-self.branch [ then-rough-self w ↦ (λ z. absurd (omega (arith, w.if-rough-self.true, z))) | else-rough-self w ↦ (λ z. w.second-is) ] in
    rough_up _ c.args.self c.rough-rough.result.whole left _ _ c.rough-rough.ensures.sum c.rough-rough.ensures.left a b d e
