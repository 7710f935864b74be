use Rattle.std.proofs.Common.{◌≡◌, ℕ, ◌+◌, ◌-◌, ◌%◌, ◌/◌, drop, sym, ◌∙◌, ap, subst, arith}
use Rattle.std.proofs.Math.ListN.{set}
use Rattle.std.proofs.lemmas.List.{drop_all, length-set}
use Rattle.fixed_interval.specs.Text.{last_digits}
use Rattle.fixed_interval.proofs.Public.{last_digits_none}
use Rattle.line_text.proofs.FixedLaws.{digit_before, tenth}
use Rattle.line_text.proofs.decimals.end_with_digits.Goals as goal

pub loop-k-init : goal.loop-k-init
loop-k-init c = record {
  long = c.told-bytes;
  left = omega arith;
  written = drop_all 40 c.args.bytes.now (omega (arith, c.told-bytes)) ∙ sym (last_digits_none c.args.number);
}

pub loop-k-preserved : goal.loop-k-preserved
loop-k-preserved c =
    let k = c.loop-k.k in
    let old = c.loop-k.bytes in
    let given = c.loop-k.invariant in
    let at : 40 - k ≡ 39 - k + 1 = omega arith in
    let next : 39 - k ≡ 40 - (k + 1) = omega arith in
    let digit = 48 + c.loop-k.left % 10 in
    let before = digit_before old (39 - k) k c.args.number c.loop-k.left (omega (arith, given.long)) given.left (rw at at given.written) in
    record {
      long = length-set old (39 - k) digit ∙ given.long;
      left = ap (λ (n : ℕ). n / 10) given.left ∙ tenth c.args.number k;
      written = subst (λ (i : ℕ). drop i (set old (39 - k) digit) ≡ last_digits (k + 1) c.args.number) next before;
    }
