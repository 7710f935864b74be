use Rattle.line_text.proofs.Parts.{would_be, put_part}
use Rattle.std.proofs.Common.{◌+◌, ◌-◌, ◌/◌, ◌%◌, ◌++◌, ◌∷◌, [], List, ℕ, sym, ap, ◌∙◌, append_assoc, length, length-append, arith}
use Rattle.std.proofs.lemmas.List.{append-nil}
use Rattle.fixed_interval.specs.Text.{last_digits}
use Rattle.line_text.proofs.FixedLaws.{unit_falls, ten_positive, front_more, last_at}
use Rattle.line_text.proofs.decimals.put_last_digits.Goals as goal

pub nonzero_div-number : goal.nonzero_div-number
nonzero_div-number c = omega (arith, unit_falls c.loop-k.unit c.args.places c.loop-k._k c.loop-k-test.true c.loop-k.invariant.0, ten_positive (c.args.places - (c.loop-k._k + 1)))

pub loop-k-preserved : goal.loop-k-preserved
loop-k-preserved c =
    let u = unit_falls c.loop-k.unit c.args.places c.loop-k._k c.loop-k-test.true c.loop-k.invariant.0 in
    let rest = last_digits (c.args.places - (c.loop-k._k + 1)) c.args.number in
    let d = 48 + c.args.number / (c.loop-k.unit / 10) % 10 in (
      u,
      ap (λ (z : List ℕ). z ++ rest) c.in_ok-push.ensures.items
          ∙ append_assoc c.loop-k.out.items (d ∷ []) rest
          ∙ ap (λ (z : List ℕ). c.loop-k.out.items ++ z) (sym (front_more c.args.places c.loop-k._k c.args.number (c.loop-k.unit / 10) c.loop-k-test.true u))
          ∙ c.loop-k.invariant.1,
      omega (arith, c.loop-k.invariant.2, ap length c.in_ok-push.ensures.items, length-append c.loop-k.out.items (d ∷ [])),
    )

pub returns : goal.returns
returns c =
    sym (append-nil c.loop-k.out.items)
    ∙ ap (λ (z : List ℕ). c.loop-k.out.items ++ z) (sym (last_at c.args.places c.loop-k._k c.args.number c.loop-k-test.false))
    ∙ c.loop-k.invariant.1

pub returns-in_err-push : goal.returns-in_err-push
returns-in_err-push c =
    let old = c.args.out.now.items in
    let whole = last_digits c.args.places c.args.number in
    let rest = last_digits (c.args.places - c.loop-k._k) c.args.number in
    put_part c.from_residual.result old c.push.new.self.items whole c.from_residual.ensures.0
    (would_be old c.push.new.self.items rest whole
    (omega (arith, c.loop-k.invariant.2, ap length (c.in_err-push.ensures.items)))
    (ap (λ (z : List ℕ). z ++ rest) c.in_err-push.ensures.items ∙ c.loop-k.invariant.1))
