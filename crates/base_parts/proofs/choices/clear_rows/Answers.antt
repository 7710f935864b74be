use Rattle.std.proofs.Common.{◌≡◌, ◌<◌, ◌++◌, [], ◌∷◌, length, set, ap, ◌∙◌, arith}
use Rattle.std.proofs.Math.ListN.{length-set}
use Rattle.std.proofs.lemmas.List.{length-append}
use Rattle.base_parts.proofs.Kept.{empty_push, empty_put}
use Rattle.base_parts.proofs.choices.clear_rows.Goals as goal
use Rattle.base_parts.proofs.choices.clear_rows.Goals.{then-n-len, else-n-len+in_ok-push}

pub loop-n-preserved : goal.loop-n-preserved
loop-n-preserved c =
    let n = c.loop-n.n in
    let rows = c.loop-n.rows.items in
    elim c.if-n-len.branch [
      | then-n-len w ↦ (
          let inside : n < length rows = omega (arith, w.if-n-len.true, c.len.ensures, c.loop-n.rows.ok.0) in
          let is : c.if-n-len.rows.items ≡ set rows n w.clear.new.self = ap (λ r. r.items) w.rows-is in
          record {
            long = omega (arith, inside, ap length is, length-set rows n w.clear.new.self);
            empty = empty_put (λ r. r.items) rows c.if-n-len.rows.items n w.clear.new.self is inside w.clear.ensures.items c.loop-n.invariant.empty;
          })
      | else-n-len+in_ok-push w ↦ (
          let count : length rows ≡ n = omega (arith, w.if-n-len.false, c.len.ensures, c.loop-n.rows.ok.0, c.loop-n.invariant.long) in
          let is : c.if-n-len.rows.items ≡ rows ++ w.new.result ∷ [] = ap (λ r. r.items) w.rows-is ∙ w.in_ok-push.ensures.items in
          record {
            long = omega (arith, count, ap length is, length-append rows (w.new.result ∷ []));
            empty = empty_push (λ r. r.items) rows c.if-n-len.rows.items n w.new.result is count w.new.ensures.items c.loop-n.invariant.empty;
          })
    ]
